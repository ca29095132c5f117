-- The spelling of a use is exact, and the order of uses is one.
use Rattle.std.specs.Prelude.{◌≡◌, ℕ, zero, suc, Some, refl}
use Rattle.std.proofs.Common.{arith}
use Rattle.std.specs.Cmp.{IsTotalOrder}
use Rattle.std.proofs.lemmas.Cmp.{nat_list_cmp_total, nat_cmp_total, on_total, then_total}
use Rattle.ob_format.specs.Format.{IsExact}
use Rattle.ob_format.specs.Exact.{byte_exact, fixed_exact, parsed_exact, made_exact, pair_exact}
use Rattle.ob_format.specs.NameLaws.{qname_exact}
use Rattle.ob_types.specs.declared.face.Aspect.{Aspect}
use Rattle.ob_types.specs.declared.face.Aspect.TheVariants.{Shape, Layout}
use Rattle.ob_types.specs.Spelled.{aspect_number, aspect_at, aspect, print_form, use_form, by_object}
use Rattle.ob_format.specs.Format.{byte}

aspect_found : (n : ℕ) (a : Aspect) → aspect_at n ≡ Some a → aspect_number a ≡ n
aspect_found zero Shape e = refl
aspect_found zero Layout e = absurd cc
aspect_found (suc zero) Shape e = absurd cc
aspect_found (suc zero) Layout e = refl
aspect_found (suc (suc n)) a e = absurd cc

aspect_again : (a : Aspect) → aspect_at (aspect_number a) ≡ Some a
aspect_again Shape = refl
aspect_again Layout = refl

aspect_small : (a : Aspect) → byte.fits (aspect_number a)
unfolding byte
aspect_small Shape = omega arith
aspect_small Layout = omega arith

pub aspect_exact : IsExact aspect
unfolding aspect
aspect_exact = parsed_exact (record { found = λ n a small bytes e. (aspect_found n a e, tt); again = λ a _. (aspect_small a, aspect_again a) }) byte_exact

pub print_form_exact : IsExact print_form
unfolding print_form
print_form_exact = made_exact (λ b. record { 0 = b }) (λ p. p.0) (fixed_exact 8) (λ _. refl) (λ _. refl)

pub use_exact : IsExact use_form
unfolding use_form
use_exact = made_exact (λ p. record { object = p.0; aspect = p.1.0; print = p.1.1 }) (λ u. (u.object, (u.aspect, u.print))) (pair_exact qname_exact (pair_exact aspect_exact print_form_exact)) (λ _. refl) (λ _. refl)

pub objects_total : IsTotalOrder by_object
objects_total = then_total (on_total (λ u. u.object.module) nat_list_cmp_total) (then_total (on_total (λ u. u.object.object) nat_list_cmp_total) (on_total (λ u. aspect_number u.aspect) nat_cmp_total))
