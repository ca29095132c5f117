use Rattle.std.proofs.Common.{◌≡◌, ◌+◌, length}
use Rattle.ob_machine_image.specs.Names.{names_in}
use Rattle.ob_machine_image.proofs.types.count_names.Given as goal

abbrev pub invariant-loop-rest : goal.invariant-loop-rest
invariant-loop-rest l = (l.count + names_in l.modules l.rest ≡ names_in l.modules l.names) × (l.count + length l.rest ≡ length l.names)

abbrev pub decreases-loop-rest : goal.decreases-loop-rest
decreases-loop-rest l = length l.rest
