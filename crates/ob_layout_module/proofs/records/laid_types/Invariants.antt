use Rattle.std.proofs.Common.{◌≡◌, ◌++◌, drop, map}
use Rattle.ob_types.specs.TypedView.{module_view}
use Rattle.ob_env.specs.Faces.{faces_of, described}
use Rattle.ob_layout.specs.LaidOut.{laid_type}
use Rattle.ob_layout_module.proofs.records.laid_types.Given as goal

abbrev pub invariant-types : goal.invariant-types
invariant-types l =
    l.all ++ map (laid_type (described (faces_of l.view.env.now)) (module_view l.view.«module».now)) (drop l.of-index l.types)
    ≡ map (laid_type (described (faces_of l.view.env.now)) (module_view l.view.«module».now)) l.types
