use Rattle.std.proofs.Common.{◌≡◌, ◌-◌}
use Rattle.ob_types.specs.Tests.{target}
use Rattle.ob_types.proofs.relations.target_within.Given as goal

abbrev pub invariant-loop : goal.invariant-loop
invariant-loop g l = target (g.T.Types.types l.types) (201 - l.counter) l.current ≡ target (g.T.Types.types l.types) 201 l.t
