-- Chains in maps that say the same of the types of a set, of which each names others of it.
use Rattle.std.proofs.Common.{◌≡◌, refl, sym, ap, subst, ◌∙◌, ℕ, zero, suc, true, List, [], ◌∷◌, Option, Some, None}
use Rattle.std.specs.Prelude.{MatchOption, IsTrue}
use Rattle.std.specs.Option.{option_map}
use Rattle.std.specs.List.{AllByRecursion}
use Rattle.ob_tree.specs.declared.names.QName.{QName}
use Rattle.ob_types.specs.declared.types.TypeRef.{TypeRef}
use Rattle.ob_types.specs.declared.types.TypeRef.TheVariants as ref
use Rattle.ob_types.specs.declared.desc.Desc.{Desc}
use Rattle.ob_types.specs.declared.desc.Desc.TheVariants as desc
use Rattle.ob_types.specs.Maps.{is_type, stands_on, IsWithin}
use Rattle.ob_rules.specs.Shapes.{Map}
use Rattle.law_typing_forms.specs.Steady.{bare, without_members}
use Rattle.law_acyclic.proofs.Sorts.{strip, stripped, type_stripped, stands_stripped}
use Rattle.law_acyclic.proofs.Maps.{stands_bare}

bare_stripped : (o : Option Desc) → stripped (option_map bare o) ≡ option_map bare (stripped o)
bare_stripped None = refl
bare_stripped (Some (desc.Record r)) = refl
bare_stripped (Some (desc.Const v)) = refl
bare_stripped (Some (desc.Var m t)) = refl
bare_stripped (Some (desc.Proc s)) = refl
bare_stripped (Some (desc.Alias m t)) = refl
bare_stripped (Some (desc.Array m n t)) = refl
bare_stripped (Some (desc.OpenArray m t)) = refl
bare_stripped (Some (desc.Pointer m t)) = refl
bare_stripped (Some (desc.ProcType m s)) = refl

module _ (P : TypeRef → Type 0) (one two : Map) (names : (q : QName) (d : Desc) → P (ref.Named q) → two q ≡ Some d → AllByRecursion P (stands_on d)) (same : (q : QName) → P (ref.Named q) → stripped (two q) ≡ stripped (one q)) where
  pub within_same : (n : ℕ) (t : TypeRef) → P t → IsWithin one n t → IsWithin two n t
  unfolding IsWithin
  within_same n (ref.Basic b) s h = tt
  within_same zero (ref.Named q) s h = absurd h
  within_same (suc n) (ref.Named q) s h = by (one q) (two q) refl refl (same q s) h (λ t i j. within_same n t i j)
    where
      all : (ts : List TypeRef) → AllByRecursion P ts → AllByRecursion (λ t. IsWithin one n t) ts → ((t : TypeRef) → P t → IsWithin one n t → IsWithin two n t) → AllByRecursion (λ t. IsWithin two n t) ts
      all [] o h f = tt
      all (t ∷ ts) o h f = (f t o.0 h.0, all ts o.1 h.1 f)

      by : (x y : Option Desc) → one q ≡ x → two q ≡ y → stripped (two q) ≡ stripped (one q) → MatchOption x ⊥ (λ d. IsTrue (is_type d) × AllByRecursion (λ t. IsWithin one n t) (stands_on d)) → ((t : TypeRef) → P t → IsWithin one n t → IsWithin two n t) → MatchOption (two q) ⊥ (λ d. IsTrue (is_type d) × AllByRecursion (λ t. IsWithin two n t) (stands_on d))
      by None y f g e h r = absurd h
      by (Some d) None f g e h r = let bad : None ≡ Some (strip d) = sym (ap stripped g) ∙ e ∙ ap stripped f in absurd cc
      by (Some d) (Some c) f g e h r =
          let k : Some (strip c) ≡ Some (strip d) = sym (ap stripped g) ∙ e ∙ ap stripped f in
          let i : strip c ≡ strip d = cc in
          let st : stands_on d ≡ stands_on c = sym (stands_stripped d) ∙ ap stands_on (sym i) ∙ stands_stripped c in
          let ty : is_type c ≡ true = sym (type_stripped c) ∙ ap is_type i ∙ type_stripped d ∙ h.0 in
          subst (λ o. MatchOption o ⊥ (λ d. IsTrue (is_type d) × AllByRecursion (λ t. IsWithin two n t) (stands_on d))) (sym g)
          (ty, all (stands_on c) (names q c s g) (subst (λ ts. AllByRecursion (λ t. IsWithin one n t) ts) st h.1) r)

  -- so it is without members
  pub bare_names : (q : QName) (d : Desc) → P (ref.Named q) → without_members two q ≡ Some d → AllByRecursion P (stands_on d)
  bare_names q d s e = by (two q) refl e
    where
      by : (o : Option Desc) → two q ≡ o → option_map bare o ≡ Some d → AllByRecursion P (stands_on d)
      by None f g = absurd cc
      by (Some c) f g = let i : bare c ≡ d = cc in subst (λ d. AllByRecursion P (stands_on d)) i (stands_bare P c (names q c s f))

  pub bare_same : (q : QName) → P (ref.Named q) → stripped (without_members two q) ≡ stripped (without_members one q)
  bare_same q s = bare_stripped (two q) ∙ ap (option_map bare) (same q s) ∙ sym (bare_stripped (one q))

module _ (P : TypeRef → Type 0) (one two : Map) (names : (q : QName) (d : Desc) → P (ref.Named q) → two q ≡ Some d → AllByRecursion P (stands_on d)) (same : (q : QName) → P (ref.Named q) → stripped (two q) ≡ stripped (one q)) where
  pub lines_same : (n : ℕ) (t : TypeRef) → P t → IsWithin (without_members one) n t → IsWithin (without_members two) n t
  lines_same n t s h = within_same P (without_members one) (without_members two) (bare_names P one two names same) (bare_same P one two names same) n t s h
