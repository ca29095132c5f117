use Rattle.std.proofs.Common.{sym, ap, ◌∙◌}
use Rattle.ob_rules.specs.Books.{book_after}
use Rattle.ob_cexpr_call.specs.Rows.{row_seen}
use Rattle.ob_cexpr_arguments.specs.declared.callables.Callable.{Callable}
use Rattle.ob_cexpr_arguments.specs.Rounds.{finished}
use Rattle.ob_cexpr_arguments.proofs.JudgedLaws.{silent_noted}
use Rattle.ob_cexpr_arguments.proofs.callables.finish.Goals as goal

pub returns-in-Unsound-clause-noted : goal.returns-in-Unsound-clause-noted
returns-in-Unsound-clause-noted c =
    silent_noted (row_seen c.args.actuals) c.args.book.now ∙ ap (λ (x : Callable). book_after c.args.book.now (finished c.args.place c.args.at c.args.count x (row_seen c.args.actuals)).notes) (sym c.in-Unsound.is)
