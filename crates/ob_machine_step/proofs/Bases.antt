-- A type that is not there is no base.
use Rattle.std.proofs.Common.{◌≡◌, ℕ, zero, suc, ◌<◌, false, List, Option, Some, None, refl, ap, ◌∙◌, arith}
use Rattle.std.specs.Prelude.{nat_eq, ◌||◌}
use Rattle.std.proofs.lemmas.Bool.Decides.{nat_tests}
use Rattle.ob_tdesc.specs.declared.descriptor.Descriptor.{Descriptor}
use Rattle.ob_tdesc.specs.Bases.{base_of, with_bases, line_from, is_among, is_or_has_base}
use Rattle.ob_machine_step.specs.Bases.{AreBelow}

not_eq : (t a : ℕ) → a < t → nat_eq t a ≡ false
not_eq t a lt = grind (arith, nat_tests)

above : (types : List Descriptor) (n a t : ℕ) → AreBelow types → a < t → is_among t (line_from types n a) ≡ false
above types zero a t below lt = refl
above types (suc n) a t below lt = go (base_of types a) (λ b e. above types n b t below (let h = below a b e in omega arith))
  where
    go : (o : Option ℕ) → ((b : ℕ) → o ≡ Some b → is_among t (line_from types n b) ≡ false) → is_among t (with_bases a o (λ b. line_from types n b)) ≡ false
    go None rest = ap (λ x. x || false) (not_eq t a lt)
    go (Some b) rest = ap (λ x. x || is_among t (line_from types n b)) (not_eq t a lt) ∙ rest b refl

pub no_base : (types : List Descriptor) (a t : ℕ) → AreBelow types → a < t → is_or_has_base types a t ≡ false
no_base types a t below lt = above types (suc a) a t below lt
