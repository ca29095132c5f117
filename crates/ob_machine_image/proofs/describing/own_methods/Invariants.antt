use Rattle.std.proofs.Common.{◌≡◌, ◌++◌, length}
use Rattle.ob_machine_image.specs.Declaring.{own_methods}
use Rattle.ob_machine_image.proofs.describing.own_methods.Given as goal

abbrev pub invariant-loop-rest : goal.invariant-loop-rest
invariant-loop-rest l = l.methods ++ own_methods l.number l.rest ≡ own_methods l.number l.definitions

abbrev pub decreases-loop-rest : goal.decreases-loop-rest
decreases-loop-rest l = length l.rest
