use Rattle.std.specs.Prelude.{nat_le}
use Rattle.std.proofs.Common.{◌≡◌, ap, ◌∙◌, sym, subst}
use Rattle.ob_types.specs.TypedView.{stmts_view}
use Rattle.ob_scheme.specs.Context.{Context}
use Rattle.ob_scheme.specs.Needs.{need_stmts}
use Rattle.ob_gproc_operands.proofs.Few.{few_more, few_not}
use Rattle.ob_gproc_operands.proofs.limits.are_few.Goals as goal

pub procedures-preserved : goal.procedures-preserved
procedures-preserved c = λ types m.
    few_more types m c.args.procedures.now c.procedures.procedure-index c.procedure-item.result _ c.is_few.result c.procedures-test.true
    (λ x. c.is_few.ensures x ∙ ap (λ l. nat_le (need_stmts x (stmts_view l)) 256) c.as_slice.ensures ∙ ap (λ p. nat_le (need_stmts x (stmts_view p.body)) 256) c.procedure-item.is)
    c.if-not-is_few.false (c.procedures.invariant types m)

pub returns-then-not-is_few : goal.returns-then-not-is_few
returns-then-not-is_few c = λ types m.
    few_not types m c.args.procedures.now c.procedures.procedure-index c.procedure-item.result _ c.is_few.result c.procedures-test.true
    (λ x. c.is_few.ensures x ∙ ap (λ l. nat_le (need_stmts x (stmts_view l)) 256) c.as_slice.ensures ∙ ap (λ p. nat_le (need_stmts x (stmts_view p.body)) 256) c.procedure-item.is)
    c.if-not-is_few.true (c.procedures.invariant types m)
