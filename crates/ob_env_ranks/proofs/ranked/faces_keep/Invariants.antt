use Rattle.std.proofs.Common.{◌≡◌, length}
use Rattle.ob_env_ranks.specs.Marks.{is_below, rows_keep}
use Rattle.ob_env_ranks.proofs.ranked.faces_keep.Given as goal

abbrev pub invariant-loop-rest : goal.invariant-loop-rest
invariant-loop-rest l = rows_keep (is_below l.env l.heights) l.rest l.left ≡ rows_keep (is_below l.env l.heights) l.faces l.rows

abbrev pub decreases-loop-rest : goal.decreases-loop-rest
decreases-loop-rest l = length l.rest
