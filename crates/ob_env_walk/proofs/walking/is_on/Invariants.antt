use Rattle.std.proofs.Common.{◌≡◌, length}
use Rattle.ob_env_walk.specs.Walk.{is_among}
use Rattle.ob_env_walk.proofs.walking.is_on.Given as goal

abbrev pub invariant-loop-rest : goal.invariant-loop-rest
invariant-loop-rest l = is_among l.m l.rest ≡ is_among l.m l.path

abbrev pub decreases-loop-rest : goal.decreases-loop-rest
decreases-loop-rest l = length l.rest
