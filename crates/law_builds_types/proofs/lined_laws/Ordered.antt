-- Lines of types are short where modules stand in order.
use Rattle.std.proofs.Common.{◌≡◌, ⊎_elim, List, [], ◌∷◌, ◌++◌, Some, refl, sym, ap, subst, ◌∙◌, append_assoc}
use Rattle.std.specs.Prelude.{true, MatchOption, IsTrue}
use Rattle.ob_tree.specs.declared.names.QName.{QName}
use Rattle.ob_types.specs.declared.types.TypeRef.TheVariants as ref
use Rattle.ob_types.specs.declared.desc.Desc.{Desc}
use Rattle.ob_types.specs.declared.desc.Desc.TheVariants as desc
use Rattle.ob_types.specs.Maps.{is_type, IsWithin}
use Rattle.ob_types.specs.TypedSyntax.{Module}
use Rattle.ob_meaning.specs.Values.{Program, description}
use Rattle.law_typing_forms.specs.Steady.{bare, without_members}
use Rattle.law_typing_env.specs.Ordered.{StandsOver, StandInOrder}
use Rattle.law_typing_env.specs.Ordered as ordered
use Rattle.law_typing_env.proofs.Ordered.{within_more, view, has_more, either_there, own_viewed, sees}
use Rattle.law_builds_types.specs.lined_laws.Lined.{AreLined, OrderedAreLined}
use Rattle.law_builds_types.proofs.lined_laws.Bare.{more_bare, lines_larger}

same_bare : (d : Desc) → bare d ≡ ordered.bare d
same_bare (desc.Const v) = refl
same_bare (desc.Var m t) = refl
same_bare (desc.Proc s) = refl
same_bare (desc.Alias m t) = refl
same_bare (desc.Array m n t) = refl
same_bare (desc.OpenArray m t) = refl
same_bare (desc.Pointer m t) = refl
same_bare (desc.ProcType m s) = refl
same_bare (desc.Record r) = refl

module _ (before : Program) (m : Module) (over : StandsOver before m) where
  abbrev all : Program
  all = before ++ m ∷ []

  says : (q : QName) (d : Desc) → view before m over q ≡ Some d → is_type d ≡ true → (e : Desc) × ((description all q ≡ Some e) × (bare e ≡ bare d))
  says q d e t = let s = sees before m over q d e t in (s.e, (s.there, ⊎_elim (λ k. ap bare k) (λ k. same_bare s.e ∙ k.1 ∙ sym (same_bare d)) s.same))

  -- one module more
  lined_more : AreLined before → AreLined all
  lined_more known q d e t =
      ⊎_elim
      (λ k. within_more (without_members (description before)) (without_members (description all)) (more_bare (description before) (description all) (has_more before m over)) 201 (ref.Named q) (known q d k t))
      (λ k.
      let v = own_viewed before m over q d k.0 k.1 in
      let w : IsWithin (view before m over) 201 (ref.Named q) = over.grounded.chains (ref.Named q) (subst (λ o. MatchOption o ⊥ (λ d. IsTrue (is_type d))) (sym v) t) in
      lines_larger (view before m over) (description all) says 201 (ref.Named q) w)
      (either_there before m over before q d e)

append_none : (ms : List Module) → ms ++ [] ≡ ms
append_none [] = refl
append_none (m ∷ ms) = ap (λ k. m ∷ k) (append_none ms)

lined_in_order : (before : Program) (ms : List Module) → AreLined before → StandInOrder before ms → AreLined (before ++ ms)
lined_in_order before [] k h = subst AreLined (sym (append_none before)) k
lined_in_order before (m ∷ ms) k h = subst AreLined (append_assoc before (m ∷ []) ms) (lined_in_order (before ++ m ∷ []) ms (lined_more before m h.0 k) h.1)

pub ordered_are_lined : OrderedAreLined
ordered_are_lined program h = lined_in_order [] program (λ q d e t. absurd cc) h
