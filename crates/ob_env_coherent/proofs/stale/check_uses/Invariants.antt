use Rattle.std.proofs.Common.{◌≡◌, length}
use Rattle.ob_env.specs.Stale.{first_among}
use Rattle.ob_env.specs.Building.{uses_answer}
use Rattle.ob_env_coherent.proofs.stale.check_uses.Given as goal

abbrev pub invariant-loop-rest : goal.invariant-loop-rest
invariant-loop-rest l = first_among (uses_answer l.env) l.rest ≡ first_among (uses_answer l.env) l.faces

abbrev pub decreases-loop-rest : goal.decreases-loop-rest
decreases-loop-rest l = length l.rest
