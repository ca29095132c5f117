use Rattle.std.proofs.Common.{◌-◌, ◌+◌}
use Rattle.ob_tdesc.proofs.Going.{Going}
use Rattle.ob_tdesc.proofs.descriptors.Descriptors.test.Given as goal

abbrev pub invariant-loop-high : goal.invariant-loop-high
invariant-loop-high g l = Going l.self.list l.a l.b l.at l.high l.low (l.steps + l.high) (l.initial.steps + l.initial.high)

abbrev pub decreases-loop-high : goal.decreases-loop-high
decreases-loop-high g l = l.high - l.low
