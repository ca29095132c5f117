-- The chains of aliases of all types end, in the view of a module whose own chains end, against interfaces that fit together.
use Rattle.std.proofs.Common.{◌≡◌, ℕ, zero, suc, Bool, true, false, cond, List, [], ◌∷◌, Option, Some, None, refl, sym, ap, subst, ◌∙◌}
use Rattle.std.specs.Prelude.{bytes_eq}
use Rattle.std.specs.List.{AllByRecursion}
use Rattle.std.proofs.lemmas.Bool.{false≢true, and_parts}
use Rattle.std.proofs.lemmas.Slice.Eq.{bytes_eq-Decides}
use Rattle.ob_tree.specs.declared.names.QName.{QName}
use Rattle.ob_types.specs.declared.types.TypeRef.{TypeRef}
use Rattle.ob_types.specs.declared.types.TypeRef.TheVariants as ref
use Rattle.ob_types.specs.declared.desc.Desc.{Desc}
use Rattle.ob_types.specs.declared.desc.Desc.TheVariants as desc
use Rattle.ob_types.specs.declared.typed.TypedType.{TypedType}
use Rattle.ob_types.specs.Maps.{is_type}
use Rattle.ob_types.specs.Tests.{target_of}
use Rattle.ob_types.specs.AssigningTests.{described as is_described}
use Rattle.ob_types.specs.TypedSyntax.{Module}
use Rattle.ob_layout.specs.LaidOut.{is_own, type_named, viewed}
use Rattle.ob_env.specs.Faces.{Face, described}
use Rattle.ob_env.specs.Fit.{chain_described, is_within, is_held, names_types, stands, first_unfit, steps_of}
use Rattle.law_spelling.specs.Laws.{Text}
use Rattle.law_spelling.proofs.Fit.{described_fit}
use Rattle.law_spelling.proofs.Words.{more_within}
use Rattle.law_spelling_stmts.proofs.Views.{ends_at, ends}

-- what is so of all types of a list is so of the one of a name
pub type_has : (Q : TypedType → Type 0) (ts : List TypedType) → AllByRecursion Q ts → (x : List ℕ) (d : Desc) → type_named ts x ≡ Some d → (t : TypedType) × ((t.name ≡ x) × ((t.desc ≡ d) × Q t))
type_has Q [] h x d e = absurd cc
type_has Q (t ∷ ts) h x d e = by (bytes_eq x t.name) refl e (type_has Q ts h.1 x d)
  where
    by : (b : Bool) → bytes_eq x t.name ≡ b → cond b (Some t.desc) (type_named ts x) ≡ Some d → (type_named ts x ≡ Some d → (s : TypedType) × ((s.name ≡ x) × ((s.desc ≡ d) × Q s))) → (s : TypedType) × ((s.name ≡ x) × ((s.desc ≡ d) × Q s))
    by true i e rest = let same : t.desc ≡ d = cc in (t, (sym ((bytes_eq-Decides x t.name).0 i), (same, h.0)))
    by false i e rest = rest e

module _ (map : QName → Option Desc) where
  chain_ends : (n : ℕ) (o : Option Desc) → chain_described (is_within map n) o ≡ true → ((u : TypeRef) → is_within map n u ≡ true → ends map n u ≡ true) → ends_at (ends map n) (target_of o) ≡ true
  chain_ends n (Some (desc.Alias m u)) h more = more u (and_parts (is_within map n u) true h).0
  chain_ends n None h more = refl
  chain_ends n (Some (desc.Const v)) h more = refl
  chain_ends n (Some (desc.Var m t)) h more = refl
  chain_ends n (Some (desc.Proc s)) h more = refl
  chain_ends n (Some (desc.Array m k t)) h more = refl
  chain_ends n (Some (desc.OpenArray m t)) h more = refl
  chain_ends n (Some (desc.Pointer m t)) h more = refl
  chain_ends n (Some (desc.ProcType m s)) h more = refl
  chain_ends n (Some (desc.Record r)) h more = refl

  within_ends : (n : ℕ) (t : TypeRef) → is_within map n t ≡ true → ends map n t ≡ true
  within_ends n (ref.Basic b) h = refl
  within_ends zero (ref.Named q) h = absurd (false≢true h)
  within_ends (suc n) (ref.Named q) h = chain_ends n (map q) h (λ u i. within_ends n u i)

  -- an object that keeps the second condition
  kept_ends : (steps : ℕ) (q : QName) (d : Desc) → map q ≡ Some d → stands map steps q d ≡ true → ends map 201 (ref.Named q) ≡ true
  kept_ends steps q d i h = by d i h
    where
      none : (d : Desc) → map q ≡ Some d → target_of (Some d) ≡ None → ends map 201 (ref.Named q) ≡ true
      none d i e = ap (λ o. ends_at (ends map 200) (target_of o)) i ∙ ap (ends_at (ends map 200)) e

      by : (d : Desc) → map q ≡ Some d → stands map steps q d ≡ true → ends map 201 (ref.Named q) ≡ true
      by (desc.Alias m u) i h = within_ends 201 (ref.Named q) h
      by (desc.Const v) i h = none (desc.Const v) i refl
      by (desc.Var m t) i h = none (desc.Var m t) i refl
      by (desc.Proc s) i h = none (desc.Proc s) i refl
      by (desc.Array m k t) i h = none (desc.Array m k t) i refl
      by (desc.OpenArray m t) i h = none (desc.OpenArray m t) i refl
      by (desc.Pointer m t) i h = none (desc.Pointer m t) i refl
      by (desc.ProcType m s) i h = none (desc.ProcType m s) i refl
      by (desc.Record r) i h = none (desc.Record r) i refl

module _ (faces : List (Face Text)) (fit : first_unfit faces ≡ None) (m : Module) (apart : (q : QName) (d : Desc) → described faces q ≡ Some d → is_own m q ≡ false) (grounded : AllByRecursion (λ t. is_within (viewed (described faces) m) 200 (ref.Named (record { «module» = m.name; object = t.name })) ≡ true) m.types) where
  abbrev V : QName → Option Desc
  V = viewed (described faces) m

  other_is : (q : QName) → is_own m q ≡ false → V q ≡ described faces q
  other_is q e = ap (λ b. cond b (type_named m.types q.object) (described faces q)) e

  own_is : (q : QName) → is_own m q ≡ true → V q ≡ type_named m.types q.object
  own_is q e = ap (λ b. cond b (type_named m.types q.object) (described faces q)) e

  -- what an alias of another module stands for is none of the module's own
  held_other : (r : QName) (o : Option Desc) → described faces r ≡ o → is_described is_type o ≡ true → is_own m r ≡ false
  held_other r None i h = absurd (false≢true h)
  held_other r (Some d) i h = apart r d i

  alias_other : (q r : QName) (d : Desc) → described faces q ≡ Some d → target_of (Some d) ≡ Some (ref.Named r) → is_own m r ≡ false
  alias_other q r (desc.Alias a u) i e =
      let same : u ≡ ref.Named r = cc in
      let k = and_parts (names_types (described faces) (steps_of faces) (desc.Alias a u)) _ (described_fit faces fit q (desc.Alias a u) i) in
      let held = and_parts (is_held (described faces) (steps_of faces) u) true k.0 in
      held_other r (described faces r) refl (subst (λ t. is_held (described faces) (steps_of faces) t ≡ true) same held.0)
  alias_other q r (desc.Const v) i e = absurd cc
  alias_other q r (desc.Var a t) i e = absurd cc
  alias_other q r (desc.Proc s) i e = absurd cc
  alias_other q r (desc.Array a k t) i e = absurd cc
  alias_other q r (desc.OpenArray a t) i e = absurd cc
  alias_other q r (desc.Pointer a t) i e = absurd cc
  alias_other q r (desc.ProcType a s) i e = absurd cc
  alias_other q r (desc.Record d) i e = absurd cc

  next_other : (q r : QName) (o : Option Desc) → described faces q ≡ o → target_of o ≡ Some (ref.Named r) → is_own m r ≡ false
  next_other q r None i e = absurd cc
  next_other q r (Some d) i e = alias_other q r d i e

  -- a chain of other modules' types
  other_ends : (n : ℕ) (q : QName) → is_own m q ≡ false → ends (described faces) n (ref.Named q) ≡ true → ends V n (ref.Named q) ≡ true
  other_ends zero q e h = h
  other_ends (suc n) q e h = ap (λ o. ends_at (ends V n) (target_of o)) (other_is q e) ∙ by (target_of (described faces q)) refl h (λ r i j. other_ends n r i j)
    where
      by : (o : Option TypeRef) → target_of (described faces q) ≡ o → ends_at (ends (described faces) n) o ≡ true → ((r : QName) → is_own m r ≡ false → ends (described faces) n (ref.Named r) ≡ true → ends V n (ref.Named r) ≡ true) → ends_at (ends V n) o ≡ true
      by None i h more = refl
      by (Some (ref.Basic b)) i h more = refl
      by (Some (ref.Named r)) i h more = more r (next_other q r (described faces q) refl i) h

  other_type : (q : QName) → is_own m q ≡ false → (o : Option Desc) → described faces q ≡ o → ends V 201 (ref.Named q) ≡ true
  other_type q e None i = ap (λ o. ends_at (ends V 200) (target_of o)) (other_is q e ∙ i)
  other_type q e (Some d) i =
      let k = and_parts (names_types (described faces) (steps_of faces) d) _ (described_fit faces fit q d i) in
      let s = and_parts (stands (described faces) (steps_of faces) q d) _ k.1 in
      other_ends 201 q e (kept_ends (described faces) (steps_of faces) q d i s.0)

  own_type : (q : QName) → is_own m q ≡ true → (o : Option Desc) → type_named m.types q.object ≡ o → ends V 201 (ref.Named q) ≡ true
  own_type q e None i = ap (λ o. ends_at (ends V 200) (target_of o)) (own_is q e ∙ i)
  own_type q e (Some d) i =
      let t = type_has (λ (t : TypedType). is_within V 200 (ref.Named (record { «module» = m.name; object = t.name })) ≡ true) m.types grounded q.object d i in
      let same : (let p : QName = record { «module» = m.name; object = t.0.name } in p) ≡ q = ap (λ y. let p : QName = record { «module» = m.name; object = y } in p) t.1.0 ∙ ap (λ y. let p : QName = record { «module» = y; object = q.object } in p) (sym ((bytes_eq-Decides q.«module» m.name).0 e)) in
      within_ends V 201 (ref.Named q) (more_within V 200 (ref.Named q) (subst (λ (p : QName). is_within V 200 (ref.Named p) ≡ true) same t.1.1.1))

  pub all_end : (t : TypeRef) → ends V 201 t ≡ true
  all_end (ref.Basic b) = refl
  all_end (ref.Named q) = by (is_own m q) refl
    where
      by : (b : Bool) → is_own m q ≡ b → ends V 201 (ref.Named q) ≡ true
      by true e = own_type q e (type_named m.types q.object) refl
      by false e = other_type q e (described faces q) refl
