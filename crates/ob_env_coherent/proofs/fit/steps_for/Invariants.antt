use Rattle.std.proofs.Common.{◌≡◌, ◌+◌, length}
use Rattle.ob_env.specs.Fit.{count_of, steps_of}
use Rattle.ob_env.specs.Faces.{faces_of}
use Rattle.ob_env_coherent.proofs.fit.steps_for.Given as goal

abbrev pub invariant-loop-rest : goal.invariant-loop-rest
invariant-loop-rest l = l.total + count_of (faces_of l.rest) ≡ steps_of (faces_of l.faces)

abbrev pub decreases-loop-rest : goal.decreases-loop-rest
decreases-loop-rest l = length l.rest
