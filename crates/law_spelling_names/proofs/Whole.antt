-- The types of a sound module are seen in its map, and those that are shown do not name them.
use Rattle.std.proofs.Common.{◌≡◌, ◌≢◌, ℕ, zero, suc, Bool, true, false, cond, List, [], ◌∷◌, map, Option, Some, None, refl, sym, ap, subst, ◌∙◌}
use Rattle.std.specs.Prelude.{bytes_eq, MatchOption, IsTrue}
use Rattle.std.specs.List.{AllByRecursion, find}
use Rattle.std.proofs.lemmas.Bool.{false≢true, and_parts}
use Rattle.std.proofs.lemmas.Slice.Eq.{bytes_eq-Decides}
use Rattle.ob_tree.specs.declared.names.QName.{QName}
use Rattle.ob_tree.specs.declared.ident.Mark.{Mark}
use Rattle.ob_types.specs.declared.types.TypeRef.{TypeRef}
use Rattle.ob_types.specs.declared.types.TypeRef.TheVariants as ref
use Rattle.ob_types.specs.declared.desc.Desc.{Desc}
use Rattle.ob_types.specs.declared.desc.Desc.TheVariants as desc
use Rattle.ob_types.specs.declared.typed.TypedType.{TypedType}
use Rattle.ob_types.specs.declared.typed.TypedModule.{TypedModule}
use Rattle.ob_types.specs.Maps.{is_type, named_by, IsHeld}
use Rattle.ob_types.specs.Relations.{IsGrounded}
use Rattle.ob_rules.specs.Shapes.{Map, same_name}
use Rattle.ob_rules.specs.Names.{Around, own_desc, out_string, type_desc, map_of}
use Rattle.ob_rules.specs.Depth.{chain_of, is_within}
use Rattle.ob_rules.specs.Declarations.{Part, declaration, around_module, module_part, all_described, typed_module}
use Rattle.law_names_distinct.specs.Distinct.{AreDistinct}
use Rattle.law_links_types.specs.Told.{core}
use Rattle.law_links_types.proofs.Modules.{IsOf, all_are_of, described_name, with_its, distinct_back, its_core, unbroken_is, bound_are}
use Rattle.law_spelling_names.specs.Seen.{named_in, Follows, IsSeen, ShortRef, ShortDesc, AreOthers}
use Rattle.law_spelling_names.specs.Laws.{SoundNamesAreShort}
use Rattle.law_spelling_names.proofs.Names.{names_are_short}

-- ---- what is shown

module _ (shown : QName → Option Desc) (unit : List ℕ) (apart : (q : QName) → bytes_eq q.«module» unit ≡ true → shown q ≡ None) where
  held_short : (b : ℕ) (t : TypeRef) → IsHeld shown t → ShortRef unit b t
  held_short b (ref.Basic c) h = tt
  held_short b (ref.Named q) h = λ e. absurd (subst (λ o. MatchOption o ⊥ (λ d. IsTrue (is_type d))) (apart q e) h)

  -- it does not name types of the module
  pub others_are : IsGrounded shown → AreOthers shown unit
  others_are g q d e = go d (g.held q d e)
    where
      go : (d : Desc) → AllByRecursion (λ t. IsHeld shown t) (named_by d) → ShortDesc unit 0 d
      go (desc.Const v) h = tt
      go (desc.Var m t) h = tt
      go (desc.Proc s) h = tt
      go (desc.Alias m t) h = held_short 64 t h.0
      go (desc.Array m n t) h = tt
      go (desc.OpenArray m t) h = tt
      go (desc.Pointer m t) h = held_short 65 t h.0
      go (desc.ProcType m s) h = tt
      go (desc.Record r) h = tt

-- ---- types are found by their names

abbrev IsThere : List TypedType → TypedType → Type 0
IsThere ts t = find (λ y. bytes_eq y.name t.name) ts ≡ Some t

not_equal : (x y : List ℕ) → y ≢ x → bytes_eq x y ≡ false
not_equal x y n = go (bytes_eq x y) refl
  where
    go : (b : Bool) → bytes_eq x y ≡ b → b ≡ false
    go true e = absurd (n (sym ((bytes_eq-Decides x y).0 e)))
    go false e = refl

behind : (x : TypedType) (ts us : List TypedType) → AllByRecursion (λ y. y.name ≢ x.name) us → AllByRecursion (IsThere ts) us → AllByRecursion (IsThere (x ∷ ts)) us
behind x ts [] n h = tt
behind x ts (y ∷ us) n h = (ap (λ b. cond b (Some x) (find (λ z. bytes_eq z.name y.name) ts)) (not_equal x.name y.name n.0) ∙ h.0, behind x ts us n.1 h.1)

all_there : (ts : List TypedType) → AreDistinct (λ t. t.name) ts → AllByRecursion (IsThere ts) ts
all_there [] d = tt
all_there (x ∷ ts) d = (ap (λ b. cond b (Some x) (find (λ z. bytes_eq z.name x.name) ts)) ((bytes_eq-Decides x.name x.name).1 refl), behind x ts ts d.0 (all_there ts d.1))

-- ---- chains

array_core : (m : Mark) (n : ℕ) (t : TypeRef) (d : Desc) → core d ≡ desc.Array m n t → d ≡ desc.Array m n t
array_core m n t (desc.Const v) e = e
array_core m n t (desc.Var a u) e = e
array_core m n t (desc.Proc s) e = e
array_core m n t (desc.Alias a u) e = e
array_core m n t (desc.Array a k u) e = e
array_core m n t (desc.OpenArray a u) e = e
array_core m n t (desc.Pointer a u) e = e
array_core m n t (desc.ProcType a s) e = e
array_core m n t (desc.Record r) e = absurd cc

follows_so : (types : Map) (q : QName) (f : Desc) → types q ≡ Some f → (d : Desc) → core f ≡ core d → (n : ℕ) → is_within types n (ref.Named q) ≡ true → Follows types n d
follows_so types q f i (desc.Const v) s n w = tt
follows_so types q f i (desc.Var m t) s n w = tt
follows_so types q f i (desc.Proc x) s n w = tt
follows_so types q f i (desc.Alias m t) s n w = tt
follows_so types q f i (desc.Array m k t) s zero w = absurd (false≢true w)
follows_so types q f i (desc.Array m k t) s (suc j) w =
    let e : types q ≡ Some (desc.Array m k t) = i ∙ ap (λ d. Some d) (array_core m k t f s) in
    let c : chain_of (λ t. is_within types j t) (Some (desc.Array m k t)) ≡ true = subst (λ o. chain_of (λ t. is_within types j t) o ≡ true) e w in
    (j, refl, (and_parts (is_within types j t) true c).0)
follows_so types q f i (desc.OpenArray m t) s n w = tt
follows_so types q f i (desc.Pointer m t) s n w = tt
follows_so types q f i (desc.ProcType m x) s n w = tt
follows_so types q f i (desc.Record r) s n w = tt

-- ---- a module

module _ (shown : QName → Option Desc) (unit : List ℕ) (u : Around) (unit_is : u.unit ≡ unit) (bound ts : List TypedType) (own_is : u.own ≡ all_described bound ts) (distinct : AreDistinct (λ t. t.name) ts) (of : AllByRecursion (λ (b : TypedType). IsOf ts b.name (core b.desc)) bound) where
  found : (x : List ℕ) (t : TypedType) → find (λ y. bytes_eq y.name x) (all_described bound ts) ≡ Some t → map_of u (record { «module» = unit; object = x }) ≡ Some t.desc
  found x t e =
      let q : QName = record { «module» = unit; object = x } in
      ap (λ b. type_desc b (same_name q out_string) u q) (ap (bytes_eq unit) unit_is ∙ (bytes_eq-Decides unit unit).1 refl)
      ∙ ap (λ o. own_desc o) (ap (find (λ y. bytes_eq y.name x)) own_is ∙ e)

  seen_are : (us : List TypedType) → AllByRecursion (λ (t : TypedType). IsOf ts t.name (core t.desc)) us → AllByRecursion (IsThere (all_described bound ts)) (all_described bound us) → AllByRecursion (λ t. is_within (map_of u) 200 (named_in unit t.name) ≡ true) (all_described bound us) → AllByRecursion (λ t. IsSeen (map_of u) unit t) us
  seen_are [] o i w = tt
  seen_are (t ∷ us) o i w =
      let y = with_its bound t in
      let n : y.name ≡ t.name = described_name (find (λ b. bytes_eq b.name t.name) bound) t in
      let there : find (λ z. bytes_eq z.name t.name) (all_described bound ts) ≡ Some y = subst (λ (x : List ℕ). find (λ z. bytes_eq z.name x) (all_described bound ts) ≡ Some y) n i.0 in (
        record {
          within = subst (λ (x : List ℕ). is_within (map_of u) 200 (named_in unit x) ≡ true) n w.0;
          follows = λ k z. follows_so (map_of u) (record { «module» = unit; object = t.name }) y.desc (found t.name y there) t.desc (its_core bound ts distinct of t o.0) k z;
        },
        seen_are us o.1 i.1 w.1,
      )

pub sound_names_are_short : SoundNamesAreShort
sound_names_are_short shown tree m e words within s =
    let parts : Part = module_part shown tree in
    let whole : TypedModule = typed_module shown tree.name tree.imports (map declaration tree.decls) parts in
    let k = unbroken_is parts.notes.broken whole m e in
    let ts = parts.contents.types in
    let bound = parts.contents.bound in
    let own : m.types ≡ all_described bound ts = ap (λ (x : TypedModule). x.types) (sym k.1) in
    let differ : AreDistinct (λ t. t.name) (all_described bound ts) = subst (λ ys. AreDistinct (λ t. t.name) ys) own s.differ in
    let distinct = distinct_back bound ts differ in
    let u : Around = record (around_module shown tree.name.name (map declaration tree.decls)) { own = m.types } in
    let seen = seen_are shown tree.name.name u refl bound ts own distinct (bound_are shown tree k.0 distinct) ts (all_are_of ts) (all_there (all_described bound ts) differ)
    (subst (λ ys. AllByRecursion (λ t. is_within (map_of u) 200 (named_in tree.name.name t.name) ≡ true) ys) own s.chains) in
    names_are_short (map_of u) shown tree m e words within (others_are shown tree.name.name s.apart s.grounded) seen
