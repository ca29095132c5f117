-- What types are stays where one more module is behind.
use Rattle.std.proofs.Common.{◌≡◌, ℕ, zero, suc, ◌≤◌, List, [], ◌∷◌, ◌++◌, map as each, Option, Some, None, refl, sym, ap, ◌∙◌, arith}
use Rattle.std.specs.Prelude.{Bool, true, false, bytes_eq, if◌then◌else◌, MatchOption, IsTrue}
use Rattle.std.specs.List.{AllByRecursion}
use Rattle.ob_tree.specs.declared.names.QName.{QName}
use Rattle.ob_types.specs.declared.types.Basic.{Basic}
use Rattle.ob_types.specs.declared.types.TypeRef.{TypeRef}
use Rattle.ob_types.specs.declared.types.TypeRef.TheVariants as ref
use Rattle.ob_types.specs.declared.desc.Desc.{Desc}
use Rattle.ob_types.specs.declared.typed.TypedVariable.{TypedVariable}
use Rattle.ob_types.specs.Maps.{is_type, stands_on, IsHeld, IsWithin}
use Rattle.ob_types.specs.TypedSyntax.{Module}
use Rattle.ob_meaning.specs.Values.{Program, BasicForm, type_named, described, form_within, form_in, record_in, description, number_of_types, Own}
use Rattle.ob_meaning.specs.Calls.{held_variable}
use Rattle.law_simulation_relation.specs.Layout.{module_held}
use Rattle.law_typing_forms.proofs.Chains.{chains}
use Rattle.law_typing_forms.specs.Said.{IsSound}
use Rattle.law_typing_forms.proofs.Shapes.{basic_is}
use Rattle.law_typing_forms.proofs.Within.{all_from, agree, parts_within, nowhere, none_within}

-- a map that has what another has, and perhaps more
abbrev pub HasMore : (QName → Option Desc) → (QName → Option Desc) → Type 0
HasMore types more = (q : QName) (d : Desc) → types q ≡ Some d → more q ≡ Some d

basic_within : (types : QName → Option Desc) (n : ℕ) (b : Basic) → form_within types n (ref.Basic b) ≡ BasicForm b
basic_within types zero b = refl
basic_within types (suc n) b = refl

pub form_stays : (types more : QName → Option Desc) → HasMore types more → (n k : ℕ) (t : TypeRef) → n ≤ k → IsWithin types n t → form_within more k t ≡ form_within types n t
form_stays types more has n k (ref.Basic b) le h = basic_within more k b ∙ sym (basic_within types n b)
form_stays types more has zero k (ref.Named q) le h = absurd (nowhere types q h)
form_stays types more has (suc n) zero (ref.Named q) le h = absurd (omega (arith, le))
form_stays types more has (suc n) (suc k) (ref.Named q) le h = by (types q) refl (λ t h. form_stays types more has n k t (omega (arith, le)) h)
  where
    by : (o : Option Desc) → types q ≡ o → ((t : TypeRef) → IsWithin types n t → form_within more k t ≡ form_within types n t) → described (form_within more k) q (more q) ≡ described (form_within types n) q o
    by None e r = absurd (none_within types n q e h)
    by (Some d) e r = ap (λ o. described (form_within more k) q o) (has q d e) ∙ agree (form_within more k) (form_within types n) q d (all_from (λ t. IsWithin types n t) (λ t. form_within more k t ≡ form_within types n t) r (stands_on d) (parts_within types n q d e h))

module _ (m : Module) where
  pub more_described : (program : Program) → HasMore (description program) (description (program ++ m ∷ []))
  more_described [] q d e = absurd cc
  more_described (k ∷ ks) q d e = by (bytes_eq q.«module» k.name) e (λ e. more_described ks q d e)
    where
      by : (b : Bool) → (if b then type_named k.types q.object else description ks q) ≡ Some d → (description ks q ≡ Some d → description (ks ++ m ∷ []) q ≡ Some d) → (if b then type_named k.types q.object else description (ks ++ m ∷ []) q) ≡ Some d
      by true e r = e
      by false e r = r e

  pub more_types : (program : Program) → number_of_types program ≤ number_of_types (program ++ m ∷ [])
  more_types [] = omega arith
  more_types (k ∷ ks) = let h = more_types ks in omega (arith, h)

  module _ (program : Program) (sound : IsSound program) where
    -- TYPES THAT A PROGRAM DESCRIBES
    pub record_stays : (q : QName) (d : Desc) → description program q ≡ Some d → record_in (program ++ m ∷ []) q ≡ record_in program q
    record_stays q d e = form_stays (description program) (description (program ++ m ∷ [])) (more_described program) (number_of_types program) (number_of_types (program ++ m ∷ [])) (ref.Named q) (more_types program) (chains program sound q d e)

    pub held_stays : (t : TypeRef) → IsHeld (description program) t → form_in (program ++ m ∷ []) t ≡ form_in program t
    held_stays (ref.Basic b) h = basic_is (program ++ m ∷ []) b ∙ sym (basic_is program b)
    held_stays (ref.Named q) h = by (description program q) refl h
      where
        by : (o : Option Desc) → description program q ≡ o → MatchOption o ⊥ (λ d. IsTrue (is_type d)) → record_in (program ++ m ∷ []) q ≡ record_in program q
        by None e h = absurd h
        by (Some d) e h = record_stays q d e

    -- VARIABLES OF MODULES
    variables_stay : (vs : List TypedVariable) → AllByRecursion (λ v. IsHeld (description program) v.of) vs → each (held_variable (program ++ m ∷ [])) vs ≡ each (held_variable program) vs
    variables_stay [] h = refl
    variables_stay (v ∷ vs) h = ap (λ t. Own v.name t ∷ each (held_variable (program ++ m ∷ [])) vs) (held_stays v.of h.0) ∙ ap (λ hs. Own v.name (form_in program v.of) ∷ hs) (variables_stay vs h.1)

    pub module_stays : (k : Module) → AllByRecursion (λ v. IsHeld (description program) v.of) k.variables → module_held (program ++ m ∷ []) k ≡ module_held program k
    module_stays k h = variables_stay k.variables h
