use Rattle.std.proofs.Common.{◌≡◌, ◌≤◌, length, take}
use Rattle.std.specs.Prelude.{reverse}
use Rattle.ob_rules.specs.Names.{bound_for}
use Rattle.ob_cdecl_scopes.proofs.scope.find_bound.Given as goal

abbrev pub invariant-procedures : goal.invariant-procedures
invariant-procedures l = (l.i ≤ length l.bound) × (bound_for (reverse l.bound) l.owner l.name ≡ bound_for (reverse (take l.i l.bound)) l.owner l.name)

abbrev pub decreases-procedures : goal.decreases-procedures
decreases-procedures l = l.i
