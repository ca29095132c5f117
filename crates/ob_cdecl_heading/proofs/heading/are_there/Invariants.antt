-- None of the types so far is there.
use Rattle.std.proofs.Common.{◌≡◌, drop}
use Rattle.ob_cdecl_scopes.specs.Scopes.{around_of}
use Rattle.ob_rules.specs.Headings as spec
use Rattle.ob_cdecl_heading.proofs.heading.are_there.Given as goal

abbrev pub invariant-types : goal.invariant-types
invariant-types g l = spec.are_there (around_of g.E.Types.types l.scope) l.types ≡ spec.are_there (around_of g.E.Types.types l.scope) (drop l.t-index l.types)
