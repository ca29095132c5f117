-- A program of one module without bound procedures has none to find.
use Rattle.std.proofs.Common.{◌≡◌, List, [], ◌∷◌, Some, None, refl, subst}
use Rattle.std.specs.Prelude.{Bool, true, false, bytes_eq, if◌then◌else◌}
use Rattle.ob_tree.specs.declared.names.QName.{QName}
use Rattle.ob_types.specs.declared.typed.Family.{Family}
use Rattle.ob_types.specs.TypedSyntax.{Module}
use Rattle.ob_meaning.specs.Meaning.{declared_among, first_of_both, nearest}

pub unbound : (m : Module) → ((t : QName) (f : Family) → declared_among m.procedures t f ≡ None) → (ts : List QName) (f : Family) (q : QName) → nearest (m ∷ []) ts f ≡ Some q → ⊥
unbound m none [] f q e = absurd (cc)
unbound m none (t ∷ ts) f q e = unbound m none ts f q (subst (λ o. first_of_both o (nearest (m ∷ []) ts f) ≡ Some q) (by (bytes_eq t.module m.name)) e)
  where
    by : (b : Bool) → (if b then declared_among m.procedures t f else None) ≡ None
    by true = none t f
    by false = refl
