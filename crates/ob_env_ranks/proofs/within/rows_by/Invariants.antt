use Rattle.std.proofs.Common.{◌≡◌, ◌++◌, length}
use Rattle.ob_env_ranks.specs.Marks.{marks_by}
use Rattle.ob_env_ranks.proofs.within.rows_by.Given as goal

abbrev pub invariant-loop-rest : goal.invariant-loop-rest
invariant-loop-rest g l = l.rows ++ marks_by (g.P.Test.passes l.p) l.rest ≡ marks_by (g.P.Test.passes l.p) l.faces

abbrev pub decreases-loop-rest : goal.decreases-loop-rest
decreases-loop-rest g l = length l.rest
