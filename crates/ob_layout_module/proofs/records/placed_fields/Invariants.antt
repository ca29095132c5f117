use Rattle.std.proofs.Common.{◌≡◌, ◌++◌, drop}
use Rattle.ob_types.specs.TypedView.{module_view}
use Rattle.ob_env.specs.Faces.{faces_of, described}
use Rattle.ob_layout.specs.LaidOut.{words_in}
use Rattle.ob_layout_module.specs.Placed.{placed_behind}
use Rattle.ob_layout_module.proofs.records.placed_fields.Given as goal

abbrev pub invariant-fields : goal.invariant-fields
invariant-fields l =
    l.all ++ placed_behind (words_in (described (faces_of l.view.env.now)) (module_view l.view.«module».now)) l.at (drop l.field-index l.fields)
    ≡ placed_behind (words_in (described (faces_of l.view.env.now)) (module_view l.view.«module».now)) l.from l.fields
