use Rattle.std.proofs.Common.{◌≡◌, ◌++◌, map, drop}
use Rattle.ob_compile_model.specs.Compiling.{imported}
use Rattle.ob_make.proofs.files.all_imported.Given as goal

abbrev pub invariant-imports : goal.invariant-imports
invariant-imports l = l.all ++ map imported (drop l.import-index l.imports) ≡ map imported l.imports
