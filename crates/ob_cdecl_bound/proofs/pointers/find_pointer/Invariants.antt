use Rattle.std.proofs.Common.{◌≡◌, drop}
use Rattle.std.specs.Prelude.{bytes_eq}
use Rattle.std.specs.List.{find}
use Rattle.ob_rules.specs.Declarations.{pointer_name}
use Rattle.ob_cdecl_bound.specs.Told.{left_pointers}
use Rattle.ob_cdecl_bound.proofs.pointers.find_pointer.Given as goal

abbrev pub invariant-all : goal.invariant-all
invariant-all l = find (λ k. bytes_eq (pointer_name k) l.name) (left_pointers l.all) ≡ find (λ k. bytes_eq (pointer_name k) l.name) (left_pointers (drop l.left-index l.all))
