use Rattle.std.proofs.Common.{◌≡◌, suc, subst}
use Rattle.ob_types.specs.TypedView.{expr_view, stmt_view, stmts_view}
use Rattle.ob_scheme.specs.declared.want.Want.TheVariants as want
use Rattle.ob_scheme.specs.Expressions.{end_expr}
use Rattle.ob_scheme.specs.Statements.{end_labels, end_stmt, end_stmts}
use Rattle.ob_gstmt_labels.proofs.Turns.{stmts_turn, stmts_over, branches_turn, branches_over, cases_turn, cases_over}
use Rattle.ob_gstmt_labels.proofs.stmts.+end_stmt.Goals as goal

pub end_stmts-statements-preserved : goal.end_stmts-statements-preserved
end_stmts-statements-preserved g t c =
    let x = g.S.Scope.context c.args.scope.now in
    stmts_turn x c.args.body.now c.statements.s-index c.s-item.result c.statements.end c.in_ok-end.end _ c.statements-test.true
    (subst (λ y. c.in_ok-end.end ≡ end_stmt x (stmt_view y) c.statements.end) c.s-item.is c.in_ok-end.ensures)
    c.statements.invariant

pub end_stmts-returns : goal.end_stmts-returns
end_stmts-returns g t c =
    stmts_over (g.S.Scope.context c.args.scope.now) c.args.body.now c.statements.s-index c.statements.end _ c.statements-test.false c.statements.invariant

pub end_branches-branches-preserved : goal.end_branches-branches-preserved
end_branches-branches-preserved g t c =
    let x = g.S.Scope.context c.args.scope.now in
    branches_turn x c.args.branches.now c.branches.branch-index c.branch-item.result c.branches.end c.in_ok-end.end _ c.branches-test.true
    (subst (λ y. c.in_ok-end.end ≡ suc (end_stmts x (stmts_view y.body) (suc (end_expr x want.Value (expr_view y.test) c.branches.end)))) c.branch-item.is c.in_ok-end.ensures)
    c.branches.invariant

pub end_branches-returns : goal.end_branches-returns
end_branches-returns g t c =
    branches_over (g.S.Scope.context c.args.scope.now) c.args.branches.now c.branches.branch-index c.branches.end _ c.branches-test.false c.branches.invariant

pub end_cases-cases-preserved : goal.end_cases-cases-preserved
end_cases-cases-preserved g t c =
    let x = g.S.Scope.context c.args.scope.now in
    cases_turn x c.args.cases.now c.cases.labelled-index c.labelled-item.result c.cases.end c.in_ok-end.end _ c.cases-test.true
    (subst (λ y. c.in_ok-end.end ≡ suc (end_stmts x (stmts_view y.body) (suc (end_labels x y.labels c.cases.end)))) c.labelled-item.is c.in_ok-end.ensures)
    c.cases.invariant

pub end_cases-returns : goal.end_cases-returns
end_cases-returns g t c =
    cases_over (g.S.Scope.context c.args.scope.now) c.args.cases.now c.cases.labelled-index c.cases.end _ c.cases-test.false c.cases.invariant
