-- A module is laid out the same by maps that say the same of what it uses, but for the members of records.
use Rattle.std.proofs.Common.{◌≡◌, refl, sym, ap, ◌∙◌, subst, ℕ, zero, suc, ◌+◌, ◌*◌, Bool, true, false, List, [], ◌∷◌, map as each, length, Option, Some, None, cond}
use Rattle.std.specs.Prelude.{◌||◌, bytes_eq}
use Rattle.std.specs.List.{AllByRecursion}
use Rattle.ob_tree.specs.declared.names.QName.{QName}
use Rattle.ob_types.specs.declared.types.TypeRef.{TypeRef}
use Rattle.ob_types.specs.declared.types.TypeRef.TheVariants as ref
use Rattle.ob_types.specs.declared.desc.Desc.{Desc}
use Rattle.ob_types.specs.declared.desc.Desc.TheVariants as desc
use Rattle.ob_types.specs.declared.desc.Field.{Field}
use Rattle.ob_types.specs.declared.typed.TypedType.{TypedType}
use Rattle.ob_types.specs.Maps.{listed, stands_on}
use Rattle.ob_types.specs.TypedSyntax.{Module}
use Rattle.ob_layout.specs.Lists.{sum_of}
use Rattle.ob_layout.specs.LaidOut.{type_named, is_own, base_of, declared_words, summed, declared_procedures, counted, words_in, procedures_in, kept, placed, numbered, laid_desc, laid_type}
use Rattle.law_simulation_relation.proofs.Names.{bytes_same}
use Rattle.law_typing_env.specs.Ordered.{bare}
use Rattle.law_typing_env.specs.Shallow.{passes_to}
use Rattle.law_typing_env.specs.Near.{IsNear}
use Rattle.law_lists.proofs.Lists.{all_back, all_front}

-- ---- parts that say the same

all_from : (P Q : TypeRef → Type 0) → ((t : TypeRef) → P t → Q t) → (ts : List TypeRef) → AllByRecursion P ts → AllByRecursion Q ts
all_from P Q f [] h = tt
all_from P Q f (t ∷ ts) h = (f t h.0, all_from P Q f ts h.1)

module _ (f g : TypeRef → ℕ) where
  abbrev Same : TypeRef → Type 0
  Same t = f t ≡ g t

  base_same : (o : Option TypeRef) → AllByRecursion Same (listed o) → base_of f o ≡ base_of g o
  base_same None h = refl
  base_same (Some t) h = h.0

  sum_same : (fs : List Field) → AllByRecursion Same (each (λ x. x.of) fs) → sum_of (λ x. f x.of) fs ≡ sum_of (λ x. g x.of) fs
  sum_same [] h = refl
  sum_same (x ∷ fs) h = ap (λ n. n + sum_of (λ x. f x.of) fs) h.0 ∙ ap (λ n. g x.of + n) (sum_same fs h.1)

  placed_same : (a b : ℕ) → a ≡ b → (fs : List Field) → AllByRecursion Same (each (λ x. x.of) fs) → placed f a fs ≡ placed g b fs
  placed_same a b e [] h = refl
  placed_same a b e (x ∷ fs) h =
      ap (λ k. record x { place = kept k } ∷ placed f (a + f x.of) fs) e
      ∙ ap (λ l. record x { place = kept b } ∷ l) (placed_same (a + f x.of) (b + g x.of) (ap (λ k. k + f x.of) e ∙ ap (λ k. b + k) h.0) fs h.1)

  own_words : (d : Desc) → AllByRecursion Same (stands_on d) → declared_words f true (Some d) ≡ declared_words g true (Some d)
  own_words (desc.Record r) h = ap (λ n. n + sum_of (λ x. f x.of) r.fields) (base_same r.base (all_front Same (listed r.base) (each (λ x. x.of) r.fields) h)) ∙ ap (λ n. base_of g r.base + n) (sum_same r.fields (all_back Same (listed r.base) (each (λ x. x.of) r.fields) h))
  own_words (desc.Alias m t) h = h.0
  own_words (desc.Array m n t) h = ap (λ k. n * k) h.0
  own_words (desc.OpenArray m t) h = refl
  own_words (desc.Const v) h = refl
  own_words (desc.Var m t) h = refl
  own_words (desc.Proc s) h = refl
  own_words (desc.Pointer m t) h = refl
  own_words (desc.ProcType m s) h = refl

  other_words : (d : Desc) → AllByRecursion Same (passes_to d) → declared_words f false (Some d) ≡ declared_words g false (Some d)
  other_words (desc.Record r) h = refl
  other_words (desc.Alias m t) h = h.0
  other_words (desc.Array m n t) h = ap (λ k. n * k) h.0
  other_words (desc.OpenArray m t) h = refl
  other_words (desc.Const v) h = refl
  other_words (desc.Var m t) h = refl
  other_words (desc.Proc s) h = refl
  other_words (desc.Pointer m t) h = refl
  other_words (desc.ProcType m s) h = refl

  own_count : (d : Desc) → AllByRecursion Same (stands_on d) → declared_procedures f true (Some d) ≡ declared_procedures g true (Some d)
  own_count (desc.Record r) h = ap (λ n. n + length r.methods) (base_same r.base (all_front Same (listed r.base) (each (λ x. x.of) r.fields) h))
  own_count (desc.Alias m t) h = h.0
  own_count (desc.Array m n t) h = refl
  own_count (desc.OpenArray m t) h = refl
  own_count (desc.Const v) h = refl
  own_count (desc.Var m t) h = refl
  own_count (desc.Proc s) h = refl
  own_count (desc.Pointer m t) h = refl
  own_count (desc.ProcType m s) h = refl

  other_count : (d : Desc) → AllByRecursion Same (passes_to d) → declared_procedures f false (Some d) ≡ declared_procedures g false (Some d)
  other_count (desc.Record r) h = refl
  other_count (desc.Alias m t) h = h.0
  other_count (desc.Array m n t) h = refl
  other_count (desc.OpenArray m t) h = refl
  other_count (desc.Const v) h = refl
  other_count (desc.Var m t) h = refl
  other_count (desc.Proc s) h = refl
  other_count (desc.Pointer m t) h = refl
  other_count (desc.ProcType m s) h = refl

-- members of records of other modules do not count
words_bare : (f : TypeRef → ℕ) (d : Desc) → declared_words f false (Some d) ≡ declared_words f false (Some (bare d))
words_bare f (desc.Record r) = refl
words_bare f (desc.Alias m t) = refl
words_bare f (desc.Array m n t) = refl
words_bare f (desc.OpenArray m t) = refl
words_bare f (desc.Const v) = refl
words_bare f (desc.Var m t) = refl
words_bare f (desc.Proc s) = refl
words_bare f (desc.Pointer m t) = refl
words_bare f (desc.ProcType m s) = refl

count_bare : (f : TypeRef → ℕ) (d : Desc) → declared_procedures f false (Some d) ≡ declared_procedures f false (Some (bare d))
count_bare f (desc.Record r) = refl
count_bare f (desc.Alias m t) = refl
count_bare f (desc.Array m n t) = refl
count_bare f (desc.OpenArray m t) = refl
count_bare f (desc.Const v) = refl
count_bare f (desc.Var m t) = refl
count_bare f (desc.Proc s) = refl
count_bare f (desc.Pointer m t) = refl
count_bare f (desc.ProcType m s) = refl

laid_same : (w v p k : TypeRef → ℕ) (q : QName) (d : Desc) → AllByRecursion (λ t. w t ≡ v t) (stands_on d) → AllByRecursion (λ t. p t ≡ k t) (stands_on d) → w (ref.Named q) ≡ v (ref.Named q) → p (ref.Named q) ≡ k (ref.Named q) → laid_desc w p q d ≡ laid_desc v k q d
laid_same w v p k q (desc.Record r) a b c e =
    let base = base_same w v r.base (all_front (λ t. w t ≡ v t) (listed r.base) (each (λ x. x.of) r.fields) a) in
    let fields = placed_same w v (base_of w r.base) (base_of v r.base) base r.fields (all_back (λ t. w t ≡ v t) (listed r.base) (each (λ x. x.of) r.fields) a) in
    let count = base_same p k r.base (all_front (λ t. p t ≡ k t) (listed r.base) (each (λ x. x.of) r.fields) b) in
    ap (λ fs. desc.Record (record r { fields = fs; methods = numbered (base_of p r.base) r.methods; words = kept (w (ref.Named q)); procedures = p (ref.Named q) })) fields
    ∙ ap (λ n. desc.Record (record r { fields = placed v (base_of v r.base) r.fields; methods = numbered n r.methods; words = kept (w (ref.Named q)); procedures = p (ref.Named q) })) count
    ∙ ap (λ n. desc.Record (record r { fields = placed v (base_of v r.base) r.fields; methods = numbered (base_of k r.base) r.methods; words = kept n; procedures = p (ref.Named q) })) c
    ∙ ap (λ n. desc.Record (record r { fields = placed v (base_of v r.base) r.fields; methods = numbered (base_of k r.base) r.methods; words = kept (v (ref.Named q)); procedures = n })) e
laid_same w v p k q (desc.Const x) a b c e = refl
laid_same w v p k q (desc.Var m t) a b c e = refl
laid_same w v p k q (desc.Proc s) a b c e = refl
laid_same w v p k q (desc.Alias m t) a b c e = refl
laid_same w v p k q (desc.Array m n t) a b c e = refl
laid_same w v p k q (desc.OpenArray m t) a b c e = refl
laid_same w v p k q (desc.Pointer m t) a b c e = refl
laid_same w v p k q (desc.ProcType m s) a b c e = refl

-- ---- a checked module that is laid out by two maps

-- what both say of a type of another module
pub record Both (map other : QName → Option Desc) (Part : TypeRef → Type 0) (q : QName) : Type 0 where
  pub d : Desc
  pub e : Desc
  pub of : map q ≡ Some d
  pub other_of : other q ≡ Some e
  pub alike : bare e ≡ bare d
  pub parts : AllByRecursion Part (passes_to d)

module _ (m checked : Module) (name : m.name ≡ checked.name) (map other : QName → Option Desc) (near : QName → Bool) (own : AllByRecursion (λ t. AllByRecursion (IsNear m near) (stands_on t.desc)) checked.types) (outside : (q : QName) → is_own checked q ≡ false → near q ≡ true → Both map other (IsNear m near) q) where
  abbrev L : TypeRef → Type 0
  L t = IsNear m near t

  own_is : (q : QName) → is_own m q ≡ is_own checked q
  own_is q = ap (λ (x : List ℕ). bytes_eq q.«module» x) name

  is_near : (q : QName) → L (ref.Named q) → is_own checked q ≡ false → near q ≡ true
  is_near q n e = ap (λ b. b || near q) (sym (own_is q ∙ e)) ∙ n

  own_parts : (q : QName) (d : Desc) → type_named checked.types q.object ≡ Some d → AllByRecursion L (stands_on d)
  own_parts q d e = found checked.types own e
    where
      found : (ts : List TypedType) → AllByRecursion (λ t. AllByRecursion L (stands_on t.desc)) ts → type_named ts q.object ≡ Some d → AllByRecursion L (stands_on d)
      found [] h e = absurd cc
      found (t ∷ ts) h e = by (bytes_eq q.object t.name) e (found ts h.1)
        where
          by : (b : Bool) → cond b (Some t.desc) (type_named ts q.object) ≡ Some d → (type_named ts q.object ≡ Some d → AllByRecursion L (stands_on d)) → AllByRecursion L (stands_on d)
          by true e r = let k : t.desc ≡ d = cc in subst (λ x. AllByRecursion L (stands_on x)) k h.0
          by false e r = r e

  -- words
  words_same : (n : ℕ) (t : TypeRef) → L t → summed map checked n t ≡ summed other checked n t
  words_same zero t l = refl
  words_same (suc n) (ref.Basic b) l = refl
  words_same (suc n) (ref.Named q) l = by (is_own checked q) refl (λ t k. words_same n t k)
    where
      inside : (o : Option Desc) → type_named checked.types q.object ≡ o → ((t : TypeRef) → L t → summed map checked n t ≡ summed other checked n t) → declared_words (summed map checked n) true o ≡ declared_words (summed other checked n) true o
      inside None e r = refl
      inside (Some d) e r = own_words (summed map checked n) (summed other checked n) d (all_from L (λ t. summed map checked n t ≡ summed other checked n t) r (stands_on d) (own_parts q d e))

      by : (b : Bool) → is_own checked q ≡ b → ((t : TypeRef) → L t → summed map checked n t ≡ summed other checked n t) → declared_words (summed map checked n) b (cond b (type_named checked.types q.object) (map q)) ≡ declared_words (summed other checked n) b (cond b (type_named checked.types q.object) (other q))
      by true e r = inside (type_named checked.types q.object) refl r
      by false e r =
          let k = outside q e (is_near q l e) in
          let f = summed map checked n in
          let g = summed other checked n in
          ap (declared_words f false) k.of
          ∙ other_words f g k.d (all_from L (λ t. f t ≡ g t) r (passes_to k.d) k.parts)
          ∙ words_bare g k.d ∙ ap (λ x. declared_words g false (Some x)) (sym k.alike) ∙ sym (words_bare g k.e)
          ∙ ap (declared_words g false) (sym k.other_of)

  -- bound procedures
  counts_same : (n : ℕ) (t : TypeRef) → L t → counted map checked n t ≡ counted other checked n t
  counts_same zero t l = refl
  counts_same (suc n) (ref.Basic b) l = refl
  counts_same (suc n) (ref.Named q) l = by (is_own checked q) refl (λ t k. counts_same n t k)
    where
      inside : (o : Option Desc) → type_named checked.types q.object ≡ o → ((t : TypeRef) → L t → counted map checked n t ≡ counted other checked n t) → declared_procedures (counted map checked n) true o ≡ declared_procedures (counted other checked n) true o
      inside None e r = refl
      inside (Some d) e r = own_count (counted map checked n) (counted other checked n) d (all_from L (λ t. counted map checked n t ≡ counted other checked n t) r (stands_on d) (own_parts q d e))

      by : (b : Bool) → is_own checked q ≡ b → ((t : TypeRef) → L t → counted map checked n t ≡ counted other checked n t) → declared_procedures (counted map checked n) b (cond b (type_named checked.types q.object) (map q)) ≡ declared_procedures (counted other checked n) b (cond b (type_named checked.types q.object) (other q))
      by true e r = inside (type_named checked.types q.object) refl r
      by false e r =
          let k = outside q e (is_near q l e) in
          let f = counted map checked n in
          let g = counted other checked n in
          ap (declared_procedures f false) k.of
          ∙ other_count f g k.d (all_from L (λ t. f t ≡ g t) r (passes_to k.d) k.parts)
          ∙ count_bare g k.d ∙ ap (λ x. declared_procedures g false (Some x)) (sym k.alike) ∙ sym (count_bare g k.e)
          ∙ ap (declared_procedures g false) (sym k.other_of)

  -- the types that it declares count
  own_near : (x : List ℕ) → L (ref.Named (record { «module» = checked.name; object = x }))
  own_near x = ap (λ b. b || near (record { «module» = checked.name; object = x })) (own_is (record { «module» = checked.name; object = x }) ∙ bytes_same checked.name)

  types_same : (ts : List TypedType) → AllByRecursion (λ t. AllByRecursion L (stands_on t.desc)) ts → each (laid_type map checked) ts ≡ each (laid_type other checked) ts
  types_same [] h = refl
  types_same (t ∷ ts) h =
      let q : QName = record { «module» = checked.name; object = t.name } in
      let d = laid_same (words_in map checked) (words_in other checked) (procedures_in map checked) (procedures_in other checked) q t.desc
      (all_from L (λ t. words_in map checked t ≡ words_in other checked t) (λ t l. words_same 201 t l) (stands_on t.desc) h.0)
      (all_from L (λ t. procedures_in map checked t ≡ procedures_in other checked t) (λ t l. counts_same 201 t l) (stands_on t.desc) h.0)
      (words_same 201 (ref.Named q) (own_near t.name)) (counts_same 201 (ref.Named q) (own_near t.name)) in
      ap (λ x. record t { desc = x } ∷ each (laid_type map checked) ts) d ∙ ap (λ l. laid_type other checked t ∷ l) (types_same ts h.1)

  pub laid_types : each (laid_type map checked) checked.types ≡ each (laid_type other checked) checked.types
  laid_types = types_same checked.types own
