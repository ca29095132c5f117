use Rattle.std.proofs.Common.{◌≡◌, ◌-◌}
use Rattle.ob_types.specs.Tests.{target}
use Rattle.ob_env.specs.Mapped.{map_of}
use Rattle.ob_env_coherent.proofs.targets.target_for.Given as goal

abbrev pub invariant-loop : goal.invariant-loop
invariant-loop l = target (map_of l.env) (l.steps - l.counter) l.current ≡ target (map_of l.env) l.steps l.t
