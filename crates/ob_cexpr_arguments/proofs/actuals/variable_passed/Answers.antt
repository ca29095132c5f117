use Rattle.std.proofs.Common.{sym, ap, ◌∙◌}
use Rattle.std.proofs.lemmas.Result.{on_ok_weaker}
use Rattle.ob_rules.specs.Books.{book_after}
use Rattle.ob_rules.specs.Calls as calls
use Rattle.ob_cexpr_arguments.specs.Arguments.{meant_left, left_of}
use Rattle.ob_cexpr_arguments.specs.declared.arguments.Argument.{Argument}
use Rattle.ob_cexpr_arguments.proofs.actuals.variable_passed.Goals as goal

pub returns-in-Designator-clause-noted : goal.returns-in-Designator-clause-noted
returns-in-Designator-clause-noted g c =
    let u = g.S.Surroundings.around c.args.here.now in
    on_ok_weaker c.meant_actual.result (λ h. h ∙ ap (λ (a : Argument). book_after c.args.book.now (calls.var_actual u c.args.formal.now (left_of c.args.start a) (meant_left a)).notes) (sym c.in-Designator.is)) c.meant_actual.ensures.noted
