-- Types are found by their names, where these differ.
use Rattle.std.proofs.Common.{◌≡◌, ℕ, List, [], ◌∷◌, Bool, true, false, cond, Some, refl, sym, ap, ◌∙◌}
use Rattle.std.specs.Prelude.{◌≢◌, bytes_eq}
use Rattle.std.specs.List.{AllByRecursion}
use Rattle.std.specs.Cmp.Lexicographic.{bytes_decides}
use Rattle.ob_types.specs.declared.typed.TypedType.{TypedType}
use Rattle.ob_layout.specs.LaidOut.{type_named}
use Rattle.law_names_distinct.specs.Distinct.{AreDistinct}

not_same : (a b : List ℕ) → b ≢ a → bytes_eq a b ≡ false
not_same a b differ = go (bytes_eq a b) refl
  where
    go : (c : Bool) → bytes_eq a b ≡ c → bytes_eq a b ≡ false
    go true e = absurd (differ (sym ((bytes_decides a b).0 e)))
    go false e = e

skipped : (t : TypedType) (us rest : List TypedType) → AllByRecursion (λ u. u.name ≢ t.name) us → AllByRecursion (λ u. type_named rest u.name ≡ Some u.desc) us → AllByRecursion (λ u. type_named (t ∷ rest) u.name ≡ Some u.desc) us
skipped t [] rest differ all = tt
skipped t (u ∷ us) rest differ all = (ap (λ b. cond b (Some t.desc) (type_named rest u.name)) (not_same u.name t.name (λ e. differ.0 (sym e))) ∙ all.0, skipped t us rest differ.1 all.1)

pub found_all : (ts : List TypedType) → AreDistinct (λ t. t.name) ts → AllByRecursion (λ t. type_named ts t.name ≡ Some t.desc) ts
found_all [] differ = tt
found_all (t ∷ ts) differ = (ap (λ b. cond b (Some t.desc) (type_named ts t.name)) ((bytes_decides t.name t.name).1 refl), skipped t ts ts differ.0 (found_all ts differ.1))
