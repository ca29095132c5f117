use Rattle.std.proofs.Common.{◌≡◌, ◌<◌, ◌-◌, suc, length, List, sym, subst, ap, ◌∙◌, rules, arith}
use Rattle.ob_types.specs.TypedView.{module_view}
use Rattle.ob_env.specs.Faces.{faces_of, described}
use Rattle.ob_layout_module.specs.Sums.{row_at, Hold}
use Rattle.ob_layout_module.specs.declared.sums.Sum.{Sum}
use Rattle.ob_layout_module.proofs.Rows.{hold_below, hold_more}
use Rattle.ob_layout_module.proofs.sums.all_rows.Goals as goal

pub next_row-requires-clause-rows : goal.next_row-requires-clause-rows
next_row-requires-clause-rows c =
    let map = described (faces_of c.args.view.now.env.now) in
    let m = module_view c.args.view.now.«module».now in
    let steps = c.len-steps.result - 1 in
    let below : steps < length c.rows.rows.items = omega arith in
    subst (λ (rows : List (List Sum)). Hold map m rows steps) (sym c.deref.ensures.value) (hold_below map m c.rows.rows.items steps c.rows.invariant.0 below)

pub returns-then-ended : goal.returns-then-ended
returns-then-ended c =
    let map = described (faces_of c.args.view.now.env.now) in
    let m = module_view c.args.view.now.«module».now in
    let s : suc (c.len-steps.result - 1) ≡ suc (length c.rows.rows.items - 1) = omega arith in
    subst (λ (rows : List (List Sum)). Hold map m rows 201) (sym c.in_ok-push-2.ensures.items)
    (hold_more map m c.rows.rows.items c.in_ok-row.row 201 c.rows.invariant.0 c.rows.invariant.1 (c.in_ok-row.ensures ∙ ap (row_at map m) s) (search rules))

pub returns : goal.returns
returns c =
    let below : 201 < length c.rows.rows.items = omega arith in
    hold_below (described (faces_of c.args.view.now.env.now)) (module_view c.args.view.now.«module».now) c.rows.rows.items 201 c.rows.invariant.0 below
