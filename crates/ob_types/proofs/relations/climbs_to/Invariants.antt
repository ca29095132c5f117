use Rattle.std.proofs.Common.{◌≡◌, ◌-◌}
use Rattle.ob_types.specs.Tests.{climbs}
use Rattle.ob_types.proofs.relations.climbs_to.Given as goal

abbrev pub invariant-loop : goal.invariant-loop
invariant-loop g l = climbs (g.T.Types.types l.types) (201 - l.counter) l.current l.b ≡ climbs (g.T.Types.types l.types) 201 l.fn.a l.b
