use Rattle.std.proofs.Common.{◌≡◌, length}
use Rattle.ob_env_ranks.specs.Marks.{is_below, row_keeps}
use Rattle.ob_env_ranks.proofs.ranked.objects_keep.Given as goal

abbrev pub invariant-loop-rest : goal.invariant-loop-rest
invariant-loop-rest l = row_keeps (is_below l.env l.heights) l.rest l.left ≡ row_keeps (is_below l.env l.heights) l.objects l.row

abbrev pub decreases-loop-rest : goal.decreases-loop-rest
decreases-loop-rest l = length l.rest
