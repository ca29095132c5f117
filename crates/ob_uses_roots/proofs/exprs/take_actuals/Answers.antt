use Rattle.std.proofs.Common.{◌+◌, ap, arith}
use Rattle.ob_types.specs.TypedView.{actuals_view}
use Rattle.ob_layout.specs.Sizes.{size_of_actuals}
use Rattle.ob_layout.proofs.UsedTexts.{first_actual}
use Rattle.ob_uses_roots.specs.Counts.{counts_of_actuals}
use Rattle.ob_uses_roots.proofs.Parts.{parts_put, sizes_put}
use Rattle.ob_uses_roots.proofs.exprs.take_actuals.Goals as goal

pub returns-in_ok-put-in-len1-up-clause-counts : goal.returns-in_ok-put-in-len1-up-clause-counts
returns-in_ok-put-in-len1-up-clause-counts c =
    let whole = ap counts_of_actuals (first_actual c.args.actuals.now c.first-item.result c.in-len1-up.len_at_least c.first-item.is) in
    parts_put c.put-in-len1-up.result c.args.parts.now.items c.put.new.parts.items c.put-in-len1-up.new.parts.items _ _ (counts_of_actuals (actuals_view c.args.actuals.now)) c.in_ok-put-in-len1-up.ensures c.put-in-len1-up.ensures whole

pub returns-in_ok-put-in-len1-up-clause-size : goal.returns-in_ok-put-in-len1-up-clause-size
returns-in_ok-put-in-len1-up-clause-size c =
    let whole = ap size_of_actuals (first_actual c.args.actuals.now c.first-item.result c.in-len1-up.len_at_least c.first-item.is) in
    let all = size_of_actuals (actuals_view c.args.actuals.now) in
    sizes_put c.put-in-len1-up.result c.args.parts.now.items c.put.new.parts.items c.put-in-len1-up.new.parts.items _ _ (all + all) c.in_ok-put-in-len1-up.ensures c.put-in-len1-up.ensures (omega (arith, whole))
