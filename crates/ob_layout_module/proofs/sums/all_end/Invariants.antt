use Rattle.std.proofs.Common.{◌≡◌, length}
use Rattle.ob_layout_module.specs.Sums.{all_end}
use Rattle.ob_layout_module.proofs.sums.all_end.Given as goal

abbrev pub invariant-loop-rest : goal.invariant-loop-rest
invariant-loop-rest l = all_end l.rest ≡ all_end l.row

abbrev pub decreases-loop-rest : goal.decreases-loop-rest
decreases-loop-rest l = length l.rest
