use Rattle.std.proofs.Common.{◌≡◌, refl, sym, ap, ◌∙◌, None}
use Rattle.ob_rules.specs.declared.broken.Rule.TheVariants as rule
use Rattle.ob_rules.specs.Books.{book_after}
use Rattle.ob_rules.specs.Judged.{notes_if, broken_at, ◌▷◌}
use Rattle.ob_rules.specs.Predeclared.{is_function}
use Rattle.ob_rules.specs.Statements as spec
use Rattle.ob_rules.proofs.BookLaws.{after_none, after_joined}
use Rattle.ob_cstmt.proofs.CallLaws.{predeclared_is, silent_noted}
use Rattle.ob_cstmt.proofs.calls.predeclared_called.Goals as goal

pub returns-clause-made : goal.returns-clause-made
returns-clause-made g c =
    ap (λ j. (j ▷ spec.done).node) (sym (predeclared_is (g.S.Surroundings.around c.args.here.now) c.args.start c.args.procedure))

pub returns-clause-noted : goal.returns-clause-noted
returns-clause-noted g c =
    c.breaks.ensures
    ∙ ap (λ k. book_after k (broken_at rule.UnfitPredeclaredParameters c.args.start)) (c.breaks_if.ensures ∙ ap (λ b. book_after c.args.book.now (notes_if b rule.MisplacedCall c.args.start)) c.is_function.ensures)
    ∙ after_joined c.args.book.now (notes_if (is_function c.args.procedure) rule.MisplacedCall c.args.start) (broken_at rule.UnfitPredeclaredParameters c.args.start)
    ∙ silent_noted c.args.book.now _
    ∙ ap (λ j. book_after c.args.book.now (j ▷ spec.done).notes) (sym (predeclared_is (g.S.Surroundings.around c.args.here.now) c.args.start c.args.procedure))
