use Rattle.std.proofs.Common.{◌≡◌, ◌++◌, ap}
use Rattle.std.proofs.lemmas.Result.{on_ok_weaker}
use Rattle.ob_types.specs.TypedView.{expr_view, actuals_view}
use Rattle.ob_layout.specs.Parts.{texts_of_parts}
use Rattle.ob_layout.specs.Sizes.{size_of_actuals}
use Rattle.ob_layout.specs.Texts.{passed_texts, texts_of_expr, texts_of_actuals}
use Rattle.ob_layout.specs.Used.{used, counted}
use Rattle.ob_layout.proofs.UsedTexts.{first_actual, texts_behind, size_behind}
use Rattle.ob_layout.proofs.texts.take_actuals.Goals as goal

pub returns-in_ok-put-in-len1-up-clause-texts : goal.returns-in_ok-put-in-len1-up-clause-texts
returns-in_ok-put-in-len1-up-clause-texts g c =
    let words = counted (g.T.Types.types c.args.types.now) in let x = c.first-item.result in let xs = c.args.actuals.now in
    let whole = ap (texts_of_actuals words) (first_actual xs x c.in-len1-up.len_at_least c.first-item.is) in
    let own = passed_texts x.passing (expr_view x.value) (words x.formal) (texts_of_expr words (expr_view x.value)) in
    let left = used c.take_actual.new.out ++ texts_of_parts words c.take_actual.new.parts.items in
    on_ok_weaker {P = left ≡ used c.args.out.now ++ (own ++ texts_of_parts words c.put.new.parts.items)} c.take_actual.result (λ h. texts_behind words (used c.args.out.now) left own (texts_of_actuals words (actuals_view xs)) c.args.parts.now.items c.put.new.parts.items _ h c.in_ok-put-in-len1-up.ensures whole) c.take_actual.ensures.texts

pub returns-in_ok-put-in-len1-up-clause-size : goal.returns-in_ok-put-in-len1-up-clause-size
returns-in_ok-put-in-len1-up-clause-size g c =
    on_ok_weaker c.take_actual.result (λ h. size_behind _ _ _ _ _ _ h c.in_ok-put-in-len1-up.ensures (ap size_of_actuals (first_actual c.args.actuals.now c.first-item.result c.in-len1-up.len_at_least c.first-item.is))) c.take_actual.ensures.size
