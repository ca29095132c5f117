use Rattle.std.proofs.Common.{◌≡◌, ◌++◌, [], drop}
use Rattle.ob_rules.specs.Declarations.{imported}
use Rattle.ob_cdecl.proofs.imports.imported.Given as goal

abbrev pub invariant-imports : goal.invariant-imports
invariant-imports l = l.found ++ imported l.before (drop l.item-index l.imports) ≡ imported [] l.imports
