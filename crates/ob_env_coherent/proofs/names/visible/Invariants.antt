use Rattle.std.proofs.Common.{◌≡◌, ◌++◌, ◌-◌}
use Rattle.ob_env.specs.Mapped.{map_of}
use Rattle.ob_env.specs.Fit.{visible_names}
use Rattle.ob_env_coherent.proofs.names.visible.Given as goal

abbrev pub invariant-loop : goal.invariant-loop
invariant-loop l = l.names.items ++ visible_names (map_of l.env) l.steps (201 - l.counter) l.current ≡ visible_names (map_of l.env) l.steps 201 l.r
