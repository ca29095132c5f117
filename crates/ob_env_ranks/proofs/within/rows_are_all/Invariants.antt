use Rattle.std.proofs.Common.{◌≡◌, length}
use Rattle.ob_env_ranks.specs.Marks.{are_all}
use Rattle.ob_env_ranks.proofs.within.rows_are_all.Given as goal

abbrev pub invariant-loop-rest : goal.invariant-loop-rest
invariant-loop-rest l = are_all l.rest ≡ are_all l.rows

abbrev pub decreases-loop-rest : goal.decreases-loop-rest
decreases-loop-rest l = length l.rest
