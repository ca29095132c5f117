-- The spelling of a use in a file, and the order of uses.
use Rattle.std.specs.Prelude.{ℕ, zero, suc, Option, Some, None}
use Rattle.std.specs.Ordering.{nat_cmp, ordering_then}
use Rattle.std.specs.Cmp.Lexicographic.{slice_cmp}
use Rattle.std.specs.declared.cmp.Ordering.{Ordering}
use Rattle.ob_tree.specs.declared.print.Print.{Print}
use Rattle.ob_format.specs.Format.{Format, byte, fixed, parsed, made, ◌⊗◌}
use Rattle.ob_format.specs.Names.{qname}
use Rattle.ob_types.specs.declared.face.Aspect.{Aspect}
use Rattle.ob_types.specs.declared.face.Aspect.TheVariants.{Shape, Layout}
use Rattle.ob_types.specs.declared.face.Use.{Use}

abbrev pub aspect_number : Aspect → ℕ
aspect_number Shape = 0
aspect_number Layout = 1

abbrev pub aspect_at : ℕ → Option Aspect
aspect_at zero = Some Shape
aspect_at (suc zero) = Some Layout
aspect_at (suc (suc n)) = None

-- a byte, 0 for the shape and 1 for the layout
unfoldable pub aspect : Format Aspect
aspect = parsed byte aspect_at aspect_number (λ _. Unit {0})

-- eight bytes
unfoldable pub print_form : Format Print
print_form = made (fixed 8) (λ b. record { 0 = b }) (λ p. p.0)

-- the module, the object, the aspect and the print
unfoldable pub use_form : Format Use
use_form = made (qname ⊗ aspect ⊗ print_form) (λ p. record { object = p.0; aspect = p.1.0; print = p.1.1 }) (λ u. (u.object, (u.aspect, u.print)))

-- by module, object and aspect
abbrev pub by_object : Use → Use → Ordering
by_object a b = ordering_then (slice_cmp nat_cmp a.object.module b.object.module) (ordering_then (slice_cmp nat_cmp a.object.object b.object.object) (nat_cmp (aspect_number a.aspect) (aspect_number b.aspect)))
