-- Chains of aliases and arrays are as short in a program as in what its modules see.
use Rattle.std.proofs.Common.{◌≡◌, ⊎_elim, ℕ, zero, suc, List, [], ◌∷◌, ◌++◌, Option, Some, None, refl, sym, ap, subst, ◌∙◌, append_assoc}
use Rattle.std.specs.Prelude.{true, MatchOption, IsTrue}
use Rattle.std.specs.List.{AllByRecursion}
use Rattle.ob_tree.specs.declared.names.QName.{QName}
use Rattle.ob_types.specs.declared.types.TypeRef.{TypeRef}
use Rattle.ob_types.specs.declared.types.TypeRef.TheVariants as ref
use Rattle.ob_types.specs.declared.desc.Desc.{Desc}
use Rattle.ob_types.specs.declared.desc.Desc.TheVariants as desc
use Rattle.ob_types.specs.Maps.{is_type, stands_on, IsWithin}
use Rattle.ob_types.specs.TypedSyntax.{Module}
use Rattle.ob_meaning.specs.Values.{Program, description}
use Rattle.law_typing_forms.specs.Said.{IsSound}
use Rattle.law_typing_forms.specs.Formed.{Formed}
use Rattle.law_typing_forms.proofs.Saying.{formed}
use Rattle.law_typing_forms.proofs.Within.{all_from}
use Rattle.law_typing_env.specs.Ordered.{bare, StandsOver, StandInOrder}
use Rattle.law_typing_env.specs.Shallow.{passes_to, IsShallow, AreShallow}
use Rattle.law_typing_env.proofs.Ordered.{sees, has_more, view, either_there, own_viewed, own_type, type_bare}
use Rattle.law_typing_env.proofs.Views.{own_said}

passes : (P : TypeRef → Type 0) (d : Desc) → AllByRecursion P (stands_on d) → AllByRecursion P (passes_to d)
passes P (desc.Const v) h = tt
passes P (desc.Var m t) h = tt
passes P (desc.Proc s) h = tt
passes P (desc.Alias m t) h = h
passes P (desc.Array m n t) h = h
passes P (desc.OpenArray m t) h = tt
passes P (desc.Pointer m t) h = tt
passes P (desc.ProcType m s) h = tt
passes P (desc.Record r) h = tt

passes_bare : (d : Desc) → passes_to (bare d) ≡ passes_to d
passes_bare (desc.Const v) = refl
passes_bare (desc.Var m t) = refl
passes_bare (desc.Proc s) = refl
passes_bare (desc.Alias m t) = refl
passes_bare (desc.Array m n t) = refl
passes_bare (desc.OpenArray m t) = refl
passes_bare (desc.Pointer m t) = refl
passes_bare (desc.ProcType m s) = refl
passes_bare (desc.Record r) = refl

within_shallow : (types : QName → Option Desc) (n : ℕ) (t : TypeRef) → IsWithin types n t → IsShallow types n t
unfolding IsWithin IsShallow
within_shallow types n (ref.Basic b) h = tt
within_shallow types zero (ref.Named q) h = absurd h
within_shallow types (suc n) (ref.Named q) h = by (types q) h (λ t w. within_shallow types n t w)
  where
    by : (o : Option Desc) → MatchOption o ⊥ (λ d. IsTrue (is_type d) × AllByRecursion (λ t. IsWithin types n t) (stands_on d)) → ((t : TypeRef) → IsWithin types n t → IsShallow types n t) → MatchOption o ⊥ (λ d. IsTrue (is_type d) × AllByRecursion (λ t. IsShallow types n t) (passes_to d))
    by None h r = h
    by (Some d) h r = (h.0, all_from (λ t. IsWithin types n t) (λ t. IsShallow types n t) r (passes_to d) (passes (λ t. IsWithin types n t) d h.1))

-- in a map that says as much of aliases and arrays
shallow_larger : (small large : QName → Option Desc) → ((q : QName) (d : Desc) → small q ≡ Some d → is_type d ≡ true → (e : Desc) × ((large q ≡ Some e) × ((is_type e ≡ true) × (passes_to e ≡ passes_to d)))) → (n : ℕ) (t : TypeRef) → IsShallow small n t → IsShallow large n t
unfolding IsShallow
shallow_larger small large says n (ref.Basic b) h = tt
shallow_larger small large says zero (ref.Named q) h = absurd h
shallow_larger small large says (suc n) (ref.Named q) h = by (small q) refl h (λ t w. shallow_larger small large says n t w)
  where
    by : (o : Option Desc) → small q ≡ o → MatchOption o ⊥ (λ d. IsTrue (is_type d) × AllByRecursion (λ t. IsShallow small n t) (passes_to d)) → ((t : TypeRef) → IsShallow small n t → IsShallow large n t) → MatchOption (large q) ⊥ (λ d. IsTrue (is_type d) × AllByRecursion (λ t. IsShallow large n t) (passes_to d))
    by None e h r = absurd h
    by (Some d) e h r =
        let s = says q d e h.0 in
        let parts = all_from (λ t. IsShallow small n t) (λ t. IsShallow large n t) r (passes_to d) h.1 in
        subst (λ o. MatchOption o ⊥ (λ d. IsTrue (is_type d) × AllByRecursion (λ t. IsShallow large n t) (passes_to d))) (sym s.1.0) (s.1.1.0, subst (λ ts. AllByRecursion (λ t. IsShallow large n t) ts) (sym s.1.1.1) parts)

module _ (before : Program) (m : Module) (over : StandsOver before m) where
  shallow_more : AreShallow (description before) → AreShallow (description (before ++ m ∷ []))
  shallow_more known q d e =
      ⊎_elim
      (λ k. shallow_larger (description before) (description (before ++ m ∷ [])) (λ p c f t. (c, (has_more before m over p c f, (t, refl)))) 201 (ref.Named q) (known q d k))
      (λ k.
      let v = own_viewed before m over q d k.0 k.1 in
      let w : IsWithin (view before m over) 201 (ref.Named q) = over.grounded.chains (ref.Named q) (subst (λ o. MatchOption o ⊥ (λ d. IsTrue (is_type d))) (sym v) (own_type before m over q d k.1)) in
      shallow_larger (view before m over) (description (before ++ m ∷ [])) says 201 (ref.Named q) (within_shallow (view before m over) 201 (ref.Named q) w))
      (either_there before m over before q d e)
    where
      says : (q : QName) (d : Desc) → view before m over q ≡ Some d → is_type d ≡ true → (e : Desc) × ((description (before ++ m ∷ []) q ≡ Some e) × ((is_type e ≡ true) × (passes_to e ≡ passes_to d)))
      says q d e t =
          let s = sees before m over q d e t in
          (s.e, (s.there, (⊎_elim (λ k. ap is_type k ∙ t) (λ k. sym (type_bare s.e) ∙ ap is_type k.1 ∙ type_bare d ∙ t) s.same, ⊎_elim (λ k. ap passes_to k) (λ k. sym (passes_bare s.e) ∙ ap passes_to k.1 ∙ passes_bare d) s.same)))

append_none : (ms : List Module) → ms ++ [] ≡ ms
append_none [] = refl
append_none (m ∷ ms) = ap (λ k. m ∷ k) (append_none ms)

shallow_in_order : (before : Program) (ms : List Module) → AreShallow (description before) → StandInOrder before ms → AreShallow (description (before ++ ms))
shallow_in_order before [] k h = subst (λ ms. AreShallow (description ms)) (sym (append_none before)) k
shallow_in_order before (m ∷ ms) k h = subst (λ ms. AreShallow (description ms)) (append_assoc before (m ∷ []) ms) (shallow_in_order (before ++ m ∷ []) ms (shallow_more before m h.0 k) h.1)

-- ALL TYPES OF MODULES IN ORDER
pub program_shallow : (program : Program) → StandInOrder [] program → AreShallow (description program)
program_shallow program h = shallow_in_order [] program (λ q d e. absurd cc) h

-- THE DECLARATIONS OF A PROGRAM are formed
pub own_formed : (program : Program) → IsSound program → Formed (description program) program
own_formed program sound = formed program sound (description program) (own_said program sound)
