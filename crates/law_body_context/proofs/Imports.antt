-- A module whose listed imports are others imports others alone.
use Rattle.std.proofs.Common.{◌≡◌, ◌⊎◌, inl, inr, refl, sym, ap, ◌∙◌, subst, ℕ, Bool, true, false, List, [], ◌∷◌}
use Rattle.std.specs.Prelude.{bytes_eq, ◌||◌}
use Rattle.std.specs.List.{AllByRecursion}
use Rattle.ob_tree.specs.declared.ident.Import.{Import}
use Rattle.law_simulation_relation.proofs.Names.{bytes_true}
use Rattle.ob_rules.specs.Names.{is_among, is_out}
use Rattle.ob_rules.specs.Declarations.{target_of, import_if, imported}
use Rattle.law_body_context.specs.Laws.{AreOthers}
use Rattle.law_lists.proofs.Lists.{either_true}

module _ (unit : List ℕ) (out : is_out unit ≡ false) where
  abbrev IsOther : List ℕ → Type 0
  IsOther x = bytes_eq x unit ≡ false

  not_same : (x : List ℕ) → (x ≡ unit → ⊥) → IsOther x
  not_same x n = by (bytes_eq x unit) refl
    where
      by : (b : Bool) → bytes_eq x unit ≡ b → b ≡ false
      by true e = absurd (n (bytes_true x unit e))
      by false e = refl

  out_other : (x : List ℕ) → is_out x ≡ true → IsOther x
  out_other x e = not_same x (λ f. let bad : true ≡ false = sym e ∙ ap is_out f ∙ out in absurd cc)

  among_other : (x : List ℕ) (ys : List (List ℕ)) → AllByRecursion IsOther ys → is_among x ys ≡ true → IsOther x
  among_other x [] h e = absurd cc
  among_other x (y ∷ ys) h e = by (bytes_eq y x) refl e (λ e. among_other x ys h.1 e)
    where
      by : (b : Bool) → bytes_eq y x ≡ b → (b || is_among x ys) ≡ true → (is_among x ys ≡ true → IsOther x) → IsOther x
      by true f g r = subst IsOther (bytes_true y x f) h.0
      by false f g r = r g

  one_import : (x : List ℕ) (before rest : List (List ℕ)) → AllByRecursion IsOther before → (b : Bool) → (is_out x || is_among x before) ≡ b → AllByRecursion IsOther (import_if b x rest) → IsOther x × AllByRecursion IsOther rest
  one_import x before rest h false e g = (g.0, g.1)
  one_import x before rest h true e g = (by (either_true (is_out x) (is_among x before) e), g)
    where
      by : (is_out x ≡ true) ⊎ (is_among x before ≡ true) → IsOther x
      by (inl f) = out_other x f
      by (inr f) = among_other x before h f

  pub imports_others : (is : List Import) (before : List (List ℕ)) → AllByRecursion IsOther before → AllByRecursion IsOther (imported before is) → AreOthers unit is
  imports_others [] before h g = tt
  imports_others (i ∷ is) before h g =
      let x = (target_of i).name in
      let r = one_import x before (imported (x ∷ before) is) h (is_out x || is_among x before) refl g in
      (r.0, imports_others is (x ∷ before) (r.0, h) r.1)
