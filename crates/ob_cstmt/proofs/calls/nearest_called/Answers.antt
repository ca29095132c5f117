use Rattle.std.proofs.Common.{◌≡◌, refl, sym, ap, ◌∙◌, [], ◌∷◌, List, true, false, None, Some}
use Rattle.std.proofs.lemmas.Result.{IfOk-weaker, on_ok_weaker}
use Rattle.ob_types.specs.declared.typed.TypedExpr.TheVariants as e
use Rattle.ob_rules.specs.declared.meant.Where.TheVariants.{AsStatement}
use Rattle.ob_rules.specs.declared.broken.Rule.TheVariants as rule
use Rattle.ob_types.specs.declared.typed.Actual.{Actual}
use Rattle.ob_rules.specs.Books.{book_after}
use Rattle.ob_rules.specs.Calls as calls
use Rattle.ob_rules.specs.Designators as designators
use Rattle.ob_rules.specs.Judged.{if_sound, also, notes_if, ◌▷◌}
use Rattle.ob_rules.specs.Statements as spec
use Rattle.ob_rules.proofs.BookLaws.{after_none}
use Rattle.ob_cstmt.proofs.CallLaws.{done_made, done_noted, also_noted}
use Rattle.ob_cstmt.proofs.calls.nearest_called.Goals as goal

pub returns-clause-made : goal.returns-clause-made
returns-clause-made g c =
    let s = c.args.chosen.method.signature in
    let f = λ (ys : List Actual). calls.called_with AsStatement c.args.start s 0 (λ xs. e.Call (calls.bound_callee c.args.chosen c.args.chosen.base) (calls.receiver_actual c.args.chosen.method.receiver c.args.chosen ∷ xs) c.args.start s.result) ys in
    let j = f [] in
    let made : c.in_ok-call.call ≡ j.node = c.in_ok-call.ensures.made ∙ ap (λ o. (if_sound o f).node) c.no_actuals-none.ensures in
    c.call_if.ensures
    ∙ ap (λ o. (if_sound o (λ x. spec.call_value x)).node)
    (c.unless_broken-sound.ensures rule.NotChangeable c.args.start j.notes ∙ ap (λ o. (also c.is_receiver_read_only-broken.result rule.NotChangeable c.args.start (record { node = o; notes = j.notes })).node) made ∙ ap (λ b. (also b rule.NotChangeable c.args.start j).node) c.is_receiver_read_only-broken.ensures)
    ∙ sym (done_made (calls.call_bound_sound true (g.S.Surroundings.around c.args.here.now) AsStatement c.args.start c.args.chosen []))

pub returns-clause-noted : goal.returns-clause-noted
returns-clause-noted g c =
    let s = c.args.chosen.method.signature in
    let f = λ (ys : List Actual). calls.called_with AsStatement c.args.start s 0 (λ xs. e.Call (calls.bound_callee c.args.chosen c.args.chosen.base) (calls.receiver_actual c.args.chosen.method.receiver c.args.chosen ∷ xs) c.args.start s.result) ys in
    let j = f [] in
    let b = c.is_receiver_read_only-broken.result in
    c.in_ok-call.ensures.noted
    ∙ ap (λ o. book_after c.breaks_if.new.self (if_sound o f).notes) c.no_actuals-none.ensures
    ∙ ap (λ k. book_after k j.notes) c.breaks_if.ensures
    ∙ also_noted b rule.NotChangeable c.args.start j c.args.book.now
    ∙ ap (λ x. book_after c.args.book.now (also x rule.NotChangeable c.args.start j).notes) c.is_receiver_read_only-broken.ensures
    ∙ sym (done_noted (calls.call_bound_sound true (g.S.Surroundings.around c.args.here.now) AsStatement c.args.start c.args.chosen []) c.args.book.now)
