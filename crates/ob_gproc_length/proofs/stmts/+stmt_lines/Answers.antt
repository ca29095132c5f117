use Rattle.std.proofs.Common.{◌≡◌, ◌+◌, ◌*◌, length, subst, arith}
use Rattle.ob_types.specs.TypedView.{expr_view, stmt_view, stmts_view}
use Rattle.ob_scheme.specs.declared.want.Want.TheVariants as want
use Rattle.ob_gproc_length.specs.Lengths.{capped, expr_lines, stmt_lines, stmts_lines}
use Rattle.ob_gproc_length.proofs.Turns.{stmts_turn, stmts_over, branches_turn, branches_over, cases_turn, cases_over}
use Rattle.ob_gproc_length.proofs.stmts.+stmt_lines.Goals as goal

pub lines_of_stmts-statements-preserved : goal.lines_of_stmts-statements-preserved
lines_of_stmts-statements-preserved g t c =
    let types = g.T.Types.types c.args.types.now in (
      stmts_turn types c.args.body.now c.statements.s-index c.s-item.result c.statements.lines c.lines_of_stmt.result c.more-lines.result _ c.statements-test.true
          (subst (λ y. c.lines_of_stmt.result ≡ capped (stmt_lines types (stmt_view y))) c.s-item.is c.lines_of_stmt.ensures)
          c.more-lines.ensures c.statements.invariant.0,
      omega arith,
    )

pub lines_of_stmts-returns : goal.lines_of_stmts-returns
lines_of_stmts-returns g t c =
    stmts_over (g.T.Types.types c.args.types.now) c.args.body.now c.statements.s-index c.statements.lines _ c.statements-test.false c.statements.invariant.1 c.statements.invariant.0

pub lines_of_branches-branches-preserved : goal.lines_of_branches-branches-preserved
lines_of_branches-branches-preserved g t c =
    let types = g.T.Types.types c.args.types.now in (
      branches_turn types c.args.branches.now c.branches.branch-index c.branch-item.result c.branches.lines c.lines_of_branch.result c.more-lines.result _ c.branches-test.true
          (subst (λ y. c.lines_of_branch.result ≡ capped (expr_lines types want.Value (expr_view y.test) + (stmts_lines types (stmts_view y.body) + 2))) c.branch-item.is c.lines_of_branch.ensures)
          c.more-lines.ensures c.branches.invariant.0,
      omega arith,
    )

pub lines_of_branches-returns : goal.lines_of_branches-returns
lines_of_branches-returns g t c =
    branches_over (g.T.Types.types c.args.types.now) c.args.branches.now c.branches.branch-index c.branches.lines _ c.branches-test.false c.branches.invariant.1 c.branches.invariant.0

pub lines_of_cases-cases-preserved : goal.lines_of_cases-cases-preserved
lines_of_cases-cases-preserved g t c =
    let types = g.T.Types.types c.args.types.now in (
      cases_turn types c.args.cases.now c.cases.labelled-index c.labelled-item.result c.cases.lines c.lines_of_case.result c.more-lines.result _ c.cases-test.true
          (subst (λ y. c.lines_of_case.result ≡ capped (11 * length y.labels + (stmts_lines types (stmts_view y.body) + 2))) c.labelled-item.is c.lines_of_case.ensures)
          c.more-lines.ensures c.cases.invariant.0,
      omega arith,
    )

pub lines_of_cases-returns : goal.lines_of_cases-returns
lines_of_cases-returns g t c =
    cases_over (g.T.Types.types c.args.types.now) c.args.cases.now c.cases.labelled-index c.cases.lines _ c.cases-test.false c.cases.invariant.1 c.cases.invariant.0
