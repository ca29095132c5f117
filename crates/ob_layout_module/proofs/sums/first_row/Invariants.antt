use Rattle.std.proofs.Common.{◌≡◌, ◌++◌, suc, drop, map}
use Rattle.ob_types.specs.TypedView.{module_view}
use Rattle.ob_env.specs.Faces.{faces_of, described}
use Rattle.ob_layout_module.specs.Sums.{own_ref, sum_in}
use Rattle.ob_layout_module.proofs.sums.first_row.Given as goal

abbrev pub invariant-types : goal.invariant-types
invariant-types l =
    l.row ++ map (λ t. sum_in (described (faces_of l.view.env.now)) (module_view l.view.«module».now) 0 (own_ref (module_view l.view.«module».now).name t.name)) (drop l.t-index l.types)
    ≡ map (λ t. sum_in (described (faces_of l.view.env.now)) (module_view l.view.«module».now) 0 (own_ref (module_view l.view.«module».now).name t.name)) l.types
