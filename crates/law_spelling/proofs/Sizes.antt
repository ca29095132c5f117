-- How many bound procedures a record has at most, and what is laid out has sizes that have a spelling.
use Rattle.std.proofs.Common.{◌≡◌, ℕ, zero, suc, ◌+◌, ◌*◌, ◌<◌, ◌≤◌, Bool, true, false, cond, List, [], ◌∷◌, length, map, Option, Some, None, refl, sym, ap, subst, ◌∙◌, arith}
use Rattle.std.specs.Prelude.{bytes_eq}
use Rattle.std.specs.List.{AllByRecursion, IsDistinct}
use Rattle.std.proofs.lemmas.Slice.Eq.{bytes_eq-Decides}
use Rattle.ob_tree.specs.declared.names.QName.{QName}
use Rattle.ob_types.specs.declared.types.TypeRef.{TypeRef}
use Rattle.ob_types.specs.declared.types.TypeRef.TheVariants as ref
use Rattle.ob_types.specs.declared.desc.Desc.{Desc}
use Rattle.ob_types.specs.declared.desc.Desc.TheVariants as desc
use Rattle.ob_types.specs.declared.desc.RecordDesc.{RecordDesc}
use Rattle.ob_types.specs.declared.typed.TypedType.{TypedType}
use Rattle.ob_types.specs.TypedSyntax.{Module}
use Rattle.ob_layout.specs.Words.{most_words}
use Rattle.ob_layout.specs.LaidOut.{type_named, is_own, base_of, declared_procedures, counted, words_in, procedures_in, placed, numbered, laid_type, laid_out}
use Rattle.ob_layout.specs.Room.{bound_procedures}
use Rattle.law_spelling.specs.Trees.{IsSmall, IsLaid}
use Rattle.law_spelling.proofs.Laid.{kept_few, placed_few, few_small, numbers_below, numbers_rise}
use Rattle.law_lists.proofs.Lists.{all_from, bytes_itself}

-- ---- types by their names

pub named_has : (P : Desc → Type 0) (ts : List TypedType) → AllByRecursion (λ t. P t.desc) ts → (x : List ℕ) (d : Desc) → type_named ts x ≡ Some d → P d
named_has P [] h x d e = absurd cc
named_has P (t ∷ ts) h x d e = go (bytes_eq x t.name) e (named_has P ts h.1 x d)
  where
    go : (b : Bool) → cond b (Some t.desc) (type_named ts x) ≡ Some d → (type_named ts x ≡ Some d → P d) → P d
    go true e rest = let same : t.desc ≡ d = cc in subst P same h.0
    go false e rest = rest e

other_way : (x y : List ℕ) → bytes_eq x y ≡ false → bytes_eq y x ≡ false
other_way x y e = go (bytes_eq y x) refl
  where
    go : (b : Bool) → bytes_eq y x ≡ b → b ≡ false
    go false i = refl
    go true i =
        let same : y ≡ x = (bytes_eq-Decides y x).0 i in
        let back : bytes_eq x y ≡ true = (bytes_eq-Decides x y).1 (sym same) in
        absurd cc

behind_name : (t : TypedType) (ts all : List TypedType) → AllByRecursion (λ y. bytes_eq t.name y ≡ false) (map (λ u. u.name) ts) → AllByRecursion (λ u. type_named all u.name ≡ Some u.desc) ts → AllByRecursion (λ u. type_named (t ∷ all) u.name ≡ Some u.desc) ts
behind_name t [] all h k = tt
behind_name t (u ∷ ts) all h k = (ap (λ b. cond b (Some t.desc) (type_named all u.name)) (other_way t.name u.name h.0) ∙ k.0, behind_name t ts all h.1 k.1)

-- each is found by its name, where they differ
pub found_by_name : (ts : List TypedType) → IsDistinct bytes_eq (map (λ t. t.name) ts) → AllByRecursion (λ t. type_named ts t.name ≡ Some t.desc) ts
unfolding IsDistinct
found_by_name [] h = tt
found_by_name (t ∷ ts) h = (ap (λ b. cond b (Some t.desc) (type_named ts t.name)) (bytes_itself t.name), behind_name t ts ts h.0 (found_by_name ts h.1))

-- ---- counting bound procedures

abbrev pub methods_of : Desc → ℕ
methods_of (desc.Record r) = length r.methods
methods_of d = 0

-- a record that interfaces describe has few
abbrev pub HaveFew : (QName → Option Desc) → Type 0
HaveFew map = (q : QName) (r : RecordDesc) → map q ≡ Some (desc.Record r) → r.procedures ≤ most_words

module _ (map : QName → Option Desc) (m : Module) (others : HaveFew map) (own : AllByRecursion (λ t. methods_of t.desc ≤ most_words) m.types) where
  abbrev bound : ℕ → ℕ
  bound n = n * most_words + most_words

  count_base : (n : ℕ) (o : Option TypeRef) → ((t : TypeRef) → counted map m n t ≤ bound n) → base_of (counted map m n) o ≤ bound n
  count_base n None h = omega arith
  count_base n (Some t) h = h t

  count_own : (n : ℕ) (d : Desc) → ((t : TypeRef) → counted map m n t ≤ bound n) → methods_of d ≤ most_words → declared_procedures (counted map m n) true (Some d) ≤ bound (suc n)
  count_own n (desc.Const v) h k = omega arith
  count_own n (desc.Var a t) h k = omega arith
  count_own n (desc.Proc s) h k = omega arith
  count_own n (desc.Alias a t) h k = let l = h t in omega (arith, l)
  count_own n (desc.Array a l t) h k = omega arith
  count_own n (desc.OpenArray a t) h k = omega arith
  count_own n (desc.Pointer a t) h k = omega arith
  count_own n (desc.ProcType a s) h k = omega arith
  count_own n (desc.Record r) h k = let l = count_base n r.base h in omega (arith, l, k)

  count_other : (n : ℕ) (q : QName) (d : Desc) → map q ≡ Some d → ((t : TypeRef) → counted map m n t ≤ bound n) → declared_procedures (counted map m n) false (Some d) ≤ bound (suc n)
  count_other n q (desc.Const v) e h = omega arith
  count_other n q (desc.Var a t) e h = omega arith
  count_other n q (desc.Proc s) e h = omega arith
  count_other n q (desc.Alias a t) e h = let l = h t in omega (arith, l)
  count_other n q (desc.Array a l t) e h = omega arith
  count_other n q (desc.OpenArray a t) e h = omega arith
  count_other n q (desc.Pointer a t) e h = omega arith
  count_other n q (desc.ProcType a s) e h = omega arith
  count_other n q (desc.Record r) e h = let l = others q r e in omega (arith, l)

  count_named : (n : ℕ) (q : QName) (b : Bool) → ((t : TypeRef) → counted map m n t ≤ bound n) → declared_procedures (counted map m n) b (cond b (type_named m.types q.object) (map q)) ≤ bound (suc n)
  count_named n q true h = go (type_named m.types q.object) refl
    where
      go : (o : Option Desc) → type_named m.types q.object ≡ o → declared_procedures (counted map m n) true o ≤ bound (suc n)
      go None e = omega arith
      go (Some d) e = count_own n d h (named_has (λ d. methods_of d ≤ most_words) m.types own q.object d e)
  count_named n q false h = go (map q) refl
    where
      go : (o : Option Desc) → map q ≡ o → declared_procedures (counted map m n) false o ≤ bound (suc n)
      go None e = omega arith
      go (Some d) e = count_other n q d e h

  pub count_few : (n : ℕ) (t : TypeRef) → counted map m n t ≤ bound n
  count_few zero t = omega arith
  count_few (suc n) (ref.Basic b) = omega arith
  count_few (suc n) (ref.Named q) = count_named n q (is_own m q) (λ t. count_few n t)

  base_few : (o : Option TypeRef) → base_of (procedures_in map m) o ≤ 202 * most_words
  base_few None = omega arith
  base_few (Some t) = let l = count_few 201 t in omega (arith, l)

-- ---- what is laid out

module _ (map_of : QName → Option Desc) (m : Module) where
  own_name : (x : List ℕ) → is_own m (record { «module» = m.name; object = x }) ≡ true
  own_name x = bytes_itself m.name

  -- a record has at least the bound procedures that it introduces
  has_own : (t : TypedType) (r : RecordDesc) → t.desc ≡ desc.Record r → type_named m.types t.name ≡ Some t.desc → length r.methods ≤ procedures_in map_of m (ref.Named (record { «module» = m.name; object = t.name }))
  has_own t r is e =
      let q : QName = record { «module» = m.name; object = t.name } in
      let p : procedures_in map_of m (ref.Named q) ≡ base_of (counted map_of m 200) r.base + length r.methods =
      ap (λ b. declared_procedures (counted map_of m 200) b (cond b (type_named m.types t.name) (map_of q))) (own_name t.name)
      ∙ ap (declared_procedures (counted map_of m 200) true) (e ∙ ap (λ (d : Desc). Some d) is) in
      omega (arith, p)

  few_methods : (ts : List TypedType) → AllByRecursion (λ t. type_named m.types t.name ≡ Some t.desc) ts → AllByRecursion (λ t. bound_procedures t.desc ≤ most_words) (map (laid_type map_of m) ts) → AllByRecursion (λ t. methods_of t.desc ≤ most_words) ts
  few_methods [] h k = tt
  few_methods (t ∷ ts) h k = (one t t.desc refl h.0 k.0, few_methods ts h.1 k.1)
    where
      one : (t : TypedType) (d : Desc) → t.desc ≡ d → type_named m.types t.name ≡ Some t.desc → bound_procedures (laid_type map_of m t).desc ≤ most_words → methods_of t.desc ≤ most_words
      one t (desc.Const v) is e l = subst (λ d. methods_of d ≤ most_words) (sym is) (omega arith)
      one t (desc.Var a u) is e l = subst (λ d. methods_of d ≤ most_words) (sym is) (omega arith)
      one t (desc.Proc s) is e l = subst (λ d. methods_of d ≤ most_words) (sym is) (omega arith)
      one t (desc.Alias a u) is e l = subst (λ d. methods_of d ≤ most_words) (sym is) (omega arith)
      one t (desc.Array a n u) is e l = subst (λ d. methods_of d ≤ most_words) (sym is) (omega arith)
      one t (desc.OpenArray a u) is e l = subst (λ d. methods_of d ≤ most_words) (sym is) (omega arith)
      one t (desc.Pointer a u) is e l = subst (λ d. methods_of d ≤ most_words) (sym is) (omega arith)
      one t (desc.ProcType a s) is e l = subst (λ d. methods_of d ≤ most_words) (sym is) (omega arith)
      one t (desc.Record r) is e l =
          let k = has_own t r is e in
          let n : procedures_in map_of m (ref.Named (record { «module» = m.name; object = t.name })) ≤ most_words = subst (λ d. bound_procedures (laid_type map_of m (record t { desc = d })).desc ≤ most_words) is l in
          subst (λ d. methods_of d ≤ most_words) (sym is) (omega (arith, k, n))

  laid_one : (t : TypedType) → ((o : Option TypeRef) → base_of (procedures_in map_of m) o ≤ 202 * most_words) → methods_of t.desc ≤ most_words → bound_procedures (laid_type map_of m t).desc ≤ most_words → IsLaid (laid_type map_of m t).desc
  laid_one t base few l = go t.desc refl
    where
      q : QName
      q = record { «module» = m.name; object = t.name }

      go : (d : Desc) → t.desc ≡ d → IsLaid (laid_type map_of m (record t { desc = d })).desc
      go (desc.Const v) is = tt
      go (desc.Var a u) is = tt
      go (desc.Proc s) is = tt
      go (desc.Alias a u) is = tt
      go (desc.Array a n u) is = tt
      go (desc.OpenArray a u) is = tt
      go (desc.Pointer a u) is = tt
      go (desc.ProcType a s) is = tt
      go (desc.Record r) is =
          let n : procedures_in map_of m (ref.Named q) ≤ most_words = subst (λ d. bound_procedures (laid_type map_of m (record t { desc = d })).desc ≤ most_words) is l in
          let k : length r.methods ≤ most_words = subst (λ d. methods_of d ≤ most_words) is few in
          let b = base r.base in
          let from = base_of (procedures_in map_of m) r.base in
          let fs = placed (words_in map_of m) (base_of (words_in map_of m) r.base) r.fields in
          record {
            words = few_small _ (kept_few (words_in map_of m (ref.Named q)));
            procedures = few_small _ (omega (arith, n));
            places = all_from (λ f. f.place ≤ suc most_words) (λ f. IsSmall f.place) (λ f h. few_small f.place h) fs (placed_few (words_in map_of m) (base_of (words_in map_of m) r.base) r.fields);
            numbers = all_from (λ p. p.number < from + length r.methods) (λ p. IsSmall p.number) (λ p h. omega (arith, h, k, b)) (numbered from r.methods) (numbers_below from r.methods);
            methods = numbers_rise from r.methods;
          }

  all_laid : (ts : List TypedType) → ((o : Option TypeRef) → base_of (procedures_in map_of m) o ≤ 202 * most_words) → AllByRecursion (λ t. methods_of t.desc ≤ most_words) ts → AllByRecursion (λ t. bound_procedures t.desc ≤ most_words) (map (laid_type map_of m) ts) → AllByRecursion (λ t. IsLaid t.desc) (map (laid_type map_of m) ts)
  all_laid [] base h k = tt
  all_laid (t ∷ ts) base h k = (laid_one t base h.0 k.0, all_laid ts base h.1 k.1)

  -- THE TYPES that are laid out, where no limit is exceeded
  pub types_laid : HaveFew map_of → IsDistinct bytes_eq (map (λ t. t.name) m.types) → AllByRecursion (λ t. bound_procedures t.desc ≤ most_words) (laid_out map_of m).types → AllByRecursion (λ t. IsLaid t.desc) (laid_out map_of m).types
  types_laid others differ l =
      let few = few_methods m.types (found_by_name m.types differ) l in
      all_laid m.types (base_few map_of m others few) few l
