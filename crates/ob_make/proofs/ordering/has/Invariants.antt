use Rattle.std.proofs.Common.{◌≡◌, length}
use Rattle.ob_link.specs.Walk.{has}
use Rattle.ob_make.proofs.ordering.has.Given as goal

abbrev pub invariant-loop-rest : goal.invariant-loop-rest
invariant-loop-rest l = has l.name l.rest ≡ has l.name l.names

abbrev pub decreases-loop-rest : goal.decreases-loop-rest
decreases-loop-rest l = length l.rest
