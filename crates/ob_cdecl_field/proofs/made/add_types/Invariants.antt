use Rattle.std.proofs.Common.{◌≡◌, ◌≤◌, length, drop}
use Rattle.ob_cdecl_scopes.specs.Scopes.{around_of}
use Rattle.ob_rules.specs.Types.{with_types}
use Rattle.ob_cdecl_field.proofs.made.add_types.Given as goal

abbrev pub invariant-types : goal.invariant-types
invariant-types g l = (l.i ≤ length l.types) × (around_of g.E.Types.types l.scope ≡ with_types (around_of g.E.Types.types l.fn.scope) (drop l.i l.types))

abbrev pub decreases-types : goal.decreases-types
decreases-types g l = l.i
