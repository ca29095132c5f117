use Rattle.std.proofs.Common.{◌≡◌, ◌<◌, ◌≤◌, ◌-◌, length}
use Rattle.ob_types.specs.TypedView.{module_view}
use Rattle.ob_env.specs.Faces.{faces_of, described}
use Rattle.ob_layout_module.specs.Sums.{rows_below}
use Rattle.ob_layout_module.proofs.sums.all_rows.Given as goal

abbrev pub invariant-rows : goal.invariant-rows
invariant-rows l =
    (l.rows.items ≡ rows_below (described (faces_of l.view.env.now)) (module_view l.view.«module».now) (length l.rows.items))
    × (0 < length l.rows.items)
    × (length l.rows.items ≤ 202)

abbrev pub decreases-rows : goal.decreases-rows
decreases-rows l = 202 - length l.rows.items
