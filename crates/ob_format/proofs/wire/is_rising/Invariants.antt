use Rattle.std.proofs.Common.{◌≡◌, length}
use Rattle.ob_format.specs.Order.{rises}
use Rattle.ob_format.proofs.wire.is_rising.Given as goal

abbrev pub invariant-loop-rest : goal.invariant-loop-rest
invariant-loop-rest g l = rises g.T.Ranked.rank l.rest ≡ rises g.T.Ranked.rank l.items

abbrev pub decreases-loop-rest : goal.decreases-loop-rest
decreases-loop-rest g l = length l.rest
