use Rattle.std.proofs.Common.{◌≡◌, refl, sym, ap, ◌∙◌, [], ◌∷◌, true, false, None, Some}
use Rattle.ob_types.specs.declared.typed.TypedExpr.TheVariants as e
use Rattle.ob_types.specs.declared.typed.Callee.TheVariants as callee
use Rattle.ob_rules.specs.declared.meant.Meant.TheVariants as means
use Rattle.ob_rules.specs.declared.meant.Where.TheVariants.{AsStatement}
use Rattle.ob_rules.specs.Books.{book_after}
use Rattle.ob_rules.specs.Calls as calls
use Rattle.ob_rules.specs.Judged.{if_sound}
use Rattle.ob_rules.specs.Statements as spec
use Rattle.ob_cstmt.proofs.CallLaws.{done_made, done_noted, value_noted}
use Rattle.ob_cstmt.proofs.calls.variable_called.Goals as goal

pub returns-clause-made : goal.returns-clause-made
returns-clause-made g c =
    c.call_if.ensures ∙ ap (λ o. (if_sound o (λ x. spec.call_value x)).node) (c.in_ok-call.ensures.made ∙ ap (λ o. (if_sound o (λ ys. calls.called_with AsStatement c.args.start c.args.signature.now 0 (λ xs. e.CallVariable c.args.place.designator.inner xs c.args.start c.args.signature.now.result) ys)).node) c.no_actuals-none.ensures)

pub returns-clause-noted : goal.returns-clause-noted
returns-clause-noted g c =
    c.in_ok-call.ensures.noted ∙ ap (λ o. book_after c.args.book.now (if_sound o (λ ys. calls.called_with AsStatement c.args.start c.args.signature.now 0 (λ xs. e.CallVariable c.args.place.designator.inner xs c.args.start c.args.signature.now.result) ys)).notes) c.no_actuals-none.ensures ∙ sym (value_noted (calls.called_with AsStatement c.args.start c.args.signature.now 0 (λ xs. e.CallVariable c.args.place.designator.inner xs c.args.start c.args.signature.now.result) []) c.args.book.now)
