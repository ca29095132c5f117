use Rattle.std.proofs.Common.{◌≡◌, ◌++◌, drop}
use Rattle.ob_cdecl_scopes.specs.Scopes.{around_of}
use Rattle.ob_rules.specs.Declarations.{all_described}
use Rattle.ob_cdecl.proofs.described.all_described.Given as goal

abbrev pub invariant-types : goal.invariant-types
invariant-types g l = l.all ++ all_described (around_of g.E.Types.types l.scope).own (drop l.t-index l.types) ≡ all_described (around_of g.E.Types.types l.scope).own l.types
