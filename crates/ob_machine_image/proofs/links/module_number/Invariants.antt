use Rattle.std.proofs.Common.{◌≡◌, ◌+◌, length}
use Rattle.ob_obj.specs.Images.{module_from}
use Rattle.ob_machine_image.proofs.links.module_number.Given as goal

abbrev pub invariant-loop-rest : goal.invariant-loop-rest
invariant-loop-rest l = (module_from l.number l.rest l.name ≡ module_from 0 l.modules l.name) × (l.number + length l.rest ≡ length l.modules)

abbrev pub decreases-loop-rest : goal.decreases-loop-rest
decreases-loop-rest l = length l.rest
