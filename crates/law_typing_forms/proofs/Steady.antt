-- What chains of aliases, elements and bases come to; and that a grounded map is a steady one.
use Rattle.std.proofs.Common.{◌≡◌, ℕ, zero, suc, ◌≤◌, ◌++◌, List, [], ◌∷◌, Option, Some, None, refl, sym, ap, subst, arith}
use Rattle.std.specs.Prelude.{true, false, map as each, MatchOption, IsTrue}
use Rattle.std.specs.Option.{option_map}
use Rattle.std.specs.List.{AllByRecursion}
use Rattle.ob_tree.specs.declared.names.QName.{QName}
use Rattle.ob_types.specs.declared.types.TypeRef.{TypeRef}
use Rattle.ob_types.specs.declared.types.TypeRef.TheVariants as ref
use Rattle.ob_types.specs.declared.desc.Desc.{Desc}
use Rattle.ob_types.specs.declared.desc.Desc.TheVariants as desc
use Rattle.ob_types.specs.declared.desc.RecordDesc.{RecordDesc}
use Rattle.ob_types.specs.Maps.{is_type, listed, stands_on, IsHeld, IsWithin}
use Rattle.ob_types.specs.Relations.{is_alias, IsOwn, StandsFor, itself, equated, IsGrounded}
use Rattle.ob_types.specs.Tests.{target_of, follow, target}
use Rattle.ob_types.proofs.Targets.{more}
use Rattle.law_typing_forms.specs.Steady.{bare, without_members, IsSteady}

-- WITHOUT MEMBERS A TYPE STANDS ON LESS

listed_alone : (P : TypeRef → Type 0) (o : Option TypeRef) (ts : List TypeRef) → AllByRecursion P (listed o ++ ts) → AllByRecursion P (listed o ++ [])
listed_alone P None ts h = tt
listed_alone P (Some t) ts h = (h.0, tt)

all_bare : (P : TypeRef → Type 0) (d : Desc) → AllByRecursion P (stands_on d) → AllByRecursion P (stands_on (bare d))
all_bare P (desc.Const v) h = h
all_bare P (desc.Var m t) h = h
all_bare P (desc.Proc s) h = h
all_bare P (desc.Alias m t) h = h
all_bare P (desc.Array m n t) h = h
all_bare P (desc.OpenArray m t) h = h
all_bare P (desc.Pointer m t) h = h
all_bare P (desc.ProcType m s) h = h
all_bare P (desc.Record r) h = listed_alone P r.base (each (λ f. f.of) r.fields) h

type_bare : (d : Desc) → is_type d ≡ true → is_type (bare d) ≡ true
type_bare (desc.Const v) h = h
type_bare (desc.Var m t) h = h
type_bare (desc.Proc s) h = h
type_bare (desc.Alias m t) h = h
type_bare (desc.Array m n t) h = h
type_bare (desc.OpenArray m t) h = h
type_bare (desc.Pointer m t) h = h
type_bare (desc.ProcType m s) h = h
type_bare (desc.Record r) h = refl

all_from : (P Q : TypeRef → Type 0) → ((t : TypeRef) → P t → Q t) → (ts : List TypeRef) → AllByRecursion P ts → AllByRecursion Q ts
all_from P Q f [] h = tt
all_from P Q f (t ∷ ts) h = (f t h.0, all_from P Q f ts h.1)

module _ (map : QName → Option Desc) where
  abbrev B : QName → Option Desc
  B = without_members map

  -- a chain of aliases, elements and bases is a chain
  pub bare_within : (n : ℕ) (t : TypeRef) → IsWithin map n t → IsWithin B n t
  unfolding IsWithin
  bare_within n (ref.Basic b) h = tt
  bare_within zero (ref.Named q) h = absurd h
  bare_within (suc n) (ref.Named q) h = by (map q) h (λ t p. bare_within n t p)
    where
      by : (o : Option Desc) → MatchOption o ⊥ (λ d. IsTrue (is_type d) × AllByRecursion (λ t. IsWithin map n t) (stands_on d)) → ((t : TypeRef) → IsWithin map n t → IsWithin B n t) → MatchOption (option_map bare o) ⊥ (λ d. IsTrue (is_type d) × AllByRecursion (λ t. IsWithin B n t) (stands_on d))
      by None h r = absurd h
      by (Some d) h r = (type_bare d h.0, all_bare (λ t. IsWithin B n t) d (all_from (λ t. IsWithin map n t) (λ t. IsWithin B n t) r (stands_on d) h.1))

  pub grounded_steady : IsGrounded map → IsSteady map
  grounded_steady g = record { held = g.held; ends = λ t h. (201, g.chains t h); lines = λ t h. bare_within 201 t (g.chains t h); keeps = g.keeps }

  -- WHAT A TYPE STANDS FOR

  -- the target, over chains of aliases, elements and bases
  pub record IsEnd (n : ℕ) (t u : TypeRef) : Type 0 where
    pub stands : StandsFor map t u
    pub held : IsHeld map u
    pub within : IsWithin B n u

  own_at : (q : QName) (d : Desc) → map q ≡ Some d → is_alias d ≡ false → IsOwn map (ref.Named q)
  own_at q d e is = subst (λ (o : Option Desc). MatchOption o (Unit {0}) (λ d. is_alias d ≡ false)) (sym e) is

  held_at : (q : QName) (d : Desc) → map q ≡ Some d → is_type d ≡ true → IsHeld map (ref.Named q)
  held_at q d e is = subst (λ (o : Option Desc). MatchOption o ⊥ (λ d. IsTrue (is_type d))) (sym e) is

  end_here : (n : ℕ) (q : QName) (d : Desc) → map q ≡ Some d → is_alias d ≡ false → is_type d ≡ true → IsWithin B n (ref.Named q) → IsEnd n (ref.Named q) (ref.Named q)
  end_here n q d e own is whole = record { stands = itself (own_at q d e own); held = held_at q d e is; within = whole }

  -- one step, at what the map has of the name
  step : (n k : ℕ) (q : QName) (o : Option Desc) → map q ≡ o → ((t : TypeRef) → IsWithin B n t → IsEnd n t (target map k t)) → MatchOption (option_map bare o) ⊥ (λ d. IsTrue (is_type d) × AllByRecursion (λ t. IsWithin B n t) (stands_on d)) → IsWithin B (suc n) (ref.Named q)
      → IsEnd (suc n) (ref.Named q) (follow (target_of o) (ref.Named q) (λ u. target map k u))
  step n k q None e below h whole = absurd h
  step n k q (Some (desc.Alias m t)) e below h whole =
      let u = below t h.1.0 in
      record { stands = equated e u.stands; held = u.held; within = more B n (target map k t) u.within }
  step n k q (Some (desc.Const v)) e below h whole = absurd (let bad : false ≡ true = h.0 in cc)
  step n k q (Some (desc.Var m t)) e below h whole = absurd (let bad : false ≡ true = h.0 in cc)
  step n k q (Some (desc.Proc s)) e below h whole = absurd (let bad : false ≡ true = h.0 in cc)
  step n k q (Some (desc.Array m c t)) e below h whole = end_here (suc n) q (desc.Array m c t) e refl refl whole
  step n k q (Some (desc.OpenArray m t)) e below h whole = end_here (suc n) q (desc.OpenArray m t) e refl refl whole
  step n k q (Some (desc.Pointer m t)) e below h whole = end_here (suc n) q (desc.Pointer m t) e refl refl whole
  step n k q (Some (desc.ProcType m s)) e below h whole = end_here (suc n) q (desc.ProcType m s) e refl refl whole
  step n k q (Some (desc.Record r)) e below h whole = end_here (suc n) q (desc.Record r) e refl refl whole

  pub is_end : (n k : ℕ) (t : TypeRef) → n ≤ k → IsWithin B n t → IsEnd n t (target map k t)
  unfolding IsWithin target
  is_end n zero (ref.Basic b) le h = record { stands = itself tt; held = tt; within = tt }
  is_end n (suc k) (ref.Basic b) le h = record { stands = itself tt; held = tt; within = tt }
  is_end zero k (ref.Named q) le h = absurd h
  is_end (suc n) zero (ref.Named q) le h = absurd (omega arith)
  is_end (suc n) (suc k) (ref.Named q) le h = step n k q (map q) refl (λ t p. is_end n k t (omega arith) p) h h

  -- the target of a held type
  pub at_steady : IsSteady map → (t : TypeRef) → IsHeld map t → IsEnd 201 t (target map 201 t)
  at_steady steady t h = is_end 201 201 t (omega arith) (steady.lines t h)
