-- All of the bytes.
use Rattle.std.proofs.Common.{◌≡◌, ℕ, List, Some, Result, Ok, Err, ap, subst, ◌∙◌}
use Rattle.std.specs.Prelude.{IfOk}
use Rattle.ob_format.specs.declared.fault.Fault.{Fault}
use Rattle.ob_format.specs.Format.{Format, IsBytes, IsExact, Gives, whole}
use Rattle.ob_format.specs.Exact.{whole_found, whole_again}

pub is_found : {A : Type 0} (f : Format A) → IsExact f → (bytes : List ℕ) (r : Result A Fault) → IsBytes bytes → Gives (λ y. y) r (whole f bytes) → IfOk r (λ x. f.fits x × (bytes ≡ f.spell x))
is_found f exact bytes (Ok x) fits given = whole_found f exact bytes x fits given
is_found f exact bytes (Err e) fits given = tt

pub is_read : {A : Type 0} (f : Format A) → IsExact f → (bytes : List ℕ) (r : Result A Fault) → Gives (λ y. y) r (whole f bytes) → (x : A) → f.fits x → bytes ≡ f.spell x → Gives (λ y. y) r (Some x)
is_read f exact bytes r given x fits e = subst (λ t. Gives (λ y. y) r t) (ap (whole f) e ∙ whole_again f exact x fits) given
