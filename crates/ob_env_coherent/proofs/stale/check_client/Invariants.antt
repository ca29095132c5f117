use Rattle.std.proofs.Common.{◌≡◌, length}
use Rattle.ob_env.specs.Stale.{first_among}
use Rattle.ob_env.specs.Building.{use_answer}
use Rattle.ob_env_coherent.proofs.stale.check_client.Given as goal

abbrev pub invariant-loop-rest : goal.invariant-loop-rest
invariant-loop-rest l = first_among (use_answer l.env l.client) l.rest ≡ first_among (use_answer l.env l.client) l.uses

abbrev pub decreases-loop-rest : goal.decreases-loop-rest
decreases-loop-rest l = length l.rest
