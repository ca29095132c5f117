use Rattle.std.proofs.Common.{◌≡◌, ◌+◌, ◌≤◌, drop}
use Rattle.std.specs.Prelude.{◌&&◌}
use Rattle.ob_types.specs.TypedView.{module_view}
use Rattle.ob_env.specs.Faces.{faces_of, described}
use Rattle.ob_layout.specs.Lists.{sum_of}
use Rattle.ob_layout.specs.LaidOut.{summed, kept}
use Rattle.ob_layout_module.specs.Sums.{ends_in, fields_end}
use Rattle.ob_layout_module.proofs.sums.words_of_fields.Given as goal

abbrev pub invariant-fields : goal.invariant-fields
invariant-fields l =
    (l.total.words ≤ 1048577)
    × (kept (l.total.words + sum_of (λ f. summed (described (faces_of l.view.env.now)) (module_view l.view.«module».now) l.steps f.of) (drop l.field-index l.fields)) ≡ kept (sum_of (λ f. summed (described (faces_of l.view.env.now)) (module_view l.view.«module».now) l.steps f.of) l.fields))
    × ((l.total.ends && fields_end (ends_in (described (faces_of l.view.env.now)) (module_view l.view.«module».now) l.steps) (drop l.field-index l.fields)) ≡ fields_end (ends_in (described (faces_of l.view.env.now)) (module_view l.view.«module».now) l.steps) l.fields)
