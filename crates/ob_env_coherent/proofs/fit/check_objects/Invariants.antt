use Rattle.std.proofs.Common.{◌≡◌, length}
use Rattle.ob_env.specs.Stale.{first_among}
use Rattle.ob_env.specs.Building.{object_answer}
use Rattle.ob_env_coherent.proofs.fit.check_objects.Given as goal

abbrev pub invariant-loop-rest : goal.invariant-loop-rest
invariant-loop-rest l = first_among (object_answer l.env l.steps l.module) l.rest ≡ first_among (object_answer l.env l.steps l.module) l.objects

abbrev pub decreases-loop-rest : goal.decreases-loop-rest
decreases-loop-rest l = length l.rest
