use Rattle.std.proofs.Common.{◌≡◌, length}
use Rattle.ob_format.specs.Order.{differ}
use Rattle.ob_format.proofs.wire.is_distinct.Given as goal

abbrev pub invariant-loop-rest : goal.invariant-loop-rest
invariant-loop-rest g l = differ g.T.Ranked.rank l.rest ≡ differ g.T.Ranked.rank l.items

abbrev pub decreases-loop-rest : goal.decreases-loop-rest
decreases-loop-rest g l = length l.rest
