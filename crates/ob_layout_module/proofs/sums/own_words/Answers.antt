use Rattle.std.proofs.Common.{◌≡◌, Some, None, ap, ◌∙◌, arith}
use Rattle.std.specs.Prelude.{slice_get}
use Rattle.ob_types.specs.TypedView.{module_view}
use Rattle.ob_layout.specs.Index.{position_from}
use Rattle.ob_env.specs.Faces.{faces_of, described}
use Rattle.ob_env.specs.Viewed.{type_names}
use Rattle.ob_layout_module.specs.Sums.{own_ref, row_at, row_in}
use Rattle.ob_layout_module.proofs.Options.{same_some, never}
use Rattle.ob_layout_module.proofs.Rows.{absent_sum, sum_placed}
use Rattle.ob_layout_module.proofs.sums.own_words.Goals as goal

pub returns-in-None : goal.returns-in-None
returns-in-None c =
    let e : position_from 0 c.args.name.now (type_names c.args.view.now.«module».now.types) ≡ None = cc in
    absent_sum (described (faces_of c.args.view.now.env.now)) (module_view c.args.view.now.«module».now) c.args.steps c.args.name.now e

pub unreachable-requires-in-None-item_at : goal.unreachable-requires-in-None-item_at
unreachable-requires-in-None-item_at c =
    let map = described (faces_of c.args.view.now.env.now) in
    let m = module_view c.args.view.now.«module».now in
    let f = c.requires c.args.steps (omega arith) in
    let e : position_from 0 c.args.name.now (type_names c.args.view.now.«module».now.types) ≡ Some c.in-Some.at = cc in
    let w = sum_placed map m c.args.steps c.args.name.now c.in-Some.at e in
    let r : c.as_slice.result.now ≡ row_at map m c.args.steps = c.as_slice.ensures ∙ same_some _ _ (c.in-Some-row_of.ensures ∙ f) in
    never _ _ c.in-None-item_at.ensures (ap (λ l. slice_get l c.in-Some.at) r ∙ w)

pub returns-in-Some-item_at : goal.returns-in-Some-item_at
returns-in-Some-item_at c =
    let map = described (faces_of c.args.view.now.env.now) in
    let m = module_view c.args.view.now.«module».now in
    let f = c.requires c.args.steps (omega arith) in
    let e : position_from 0 c.args.name.now (type_names c.args.view.now.«module».now.types) ≡ Some c.in-Some.at = cc in
    let w = sum_placed map m c.args.steps c.args.name.now c.in-Some.at e in
    let r : c.as_slice.result.now ≡ row_at map m c.args.steps = c.as_slice.ensures ∙ same_some _ _ (c.in-Some-row_of.ensures ∙ f) in
    same_some _ _ (c.in-Some-item_at.ensures ∙ ap (λ l. slice_get l c.in-Some.at) r ∙ w)
