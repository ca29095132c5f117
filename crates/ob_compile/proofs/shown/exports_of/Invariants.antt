use Rattle.std.proofs.Common.{◌≡◌, ◌++◌, drop}
use Rattle.std.specs.List.{flat_map}
use Rattle.ob_compile_model.specs.Compiling.{object_exports}
use Rattle.ob_compile.proofs.shown.exports_of.Given as goal

abbrev pub invariant-objects : goal.invariant-objects
invariant-objects l = l.exports ++ flat_map object_exports (drop l.object-index l.objects) ≡ flat_map object_exports l.objects
