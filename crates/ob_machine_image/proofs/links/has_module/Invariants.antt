use Rattle.std.proofs.Common.{◌≡◌, length}
use Rattle.ob_machine_image.specs.Cut.{has}
use Rattle.ob_machine_image.proofs.links.has_module.Given as goal

abbrev pub invariant-loop-rest : goal.invariant-loop-rest
invariant-loop-rest l = has l.rest l.name ≡ has l.modules l.name

abbrev pub decreases-loop-rest : goal.decreases-loop-rest
decreases-loop-rest l = length l.rest
