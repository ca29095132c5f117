use Rattle.std.proofs.Common.{List, ◌++◌, refl, ap, ◌∙◌}
use Rattle.ob_uses_roots.proofs.Parting.{turn, over}
use Rattle.ob_types.specs.declared.typed.TypedStmt.{TypedStmt}
use Rattle.ob_types.specs.declared.typed.TypedBranch.{TypedBranch}
use Rattle.ob_types.specs.declared.typed.TypedCase.{TypedCase}
use Rattle.ob_types.specs.TypedView.{expr_view, stmt_view, stmts_view, branches_view, cases_view}
use Rattle.ob_uses_roots.proofs.Views.{view_branches, view_cases}
use Rattle.ob_uses_roots.specs.Counts.{counts_of_expr, counts_of, counts_of_all, counts_of_branches, counts_of_cases}
use Rattle.ob_uses_roots.specs.Noted.{noted}
use Rattle.ob_uses_roots.proofs.stmts.+count_stmt.Goals as goal

pub count_stmts-statements-preserved : goal.count_stmts-statements-preserved
count_stmts-statements-preserved t c = turn (λ (s : TypedStmt). counts_of (stmt_view s)) (λ (ss : List TypedStmt). counts_of_all (stmts_view ss)) (λ _ _. refl) c.args.body.now c.statements.s-index c.s-item.result c.statements.found c.count_stmt.new.found _ c.statements-test.true c.s-item.is c.in_ok-count_stmt.ensures c.statements.invariant

pub count_stmts-returns : goal.count_stmts-returns
count_stmts-returns t c = over (λ (ss : List TypedStmt). counts_of_all (stmts_view ss)) refl c.args.body.now c.statements.s-index c.statements.found _ c.statements-test.false c.statements.invariant

pub count_branches-branches-preserved : goal.count_branches-branches-preserved
count_branches-branches-preserved t c = turn (λ (b : TypedBranch). counts_of_expr (expr_view b.test) ++ counts_of_all (stmts_view b.body)) (λ (bs : List TypedBranch). counts_of_branches (branches_view bs)) (λ x xs. ap counts_of_branches (view_branches x xs)) c.args.branches.now c.branches.branch-index c.branch-item.result c.branches.found c.count_branch.new.found _ c.branches-test.true c.branch-item.is c.in_ok-count_branch.ensures c.branches.invariant

pub count_branches-returns : goal.count_branches-returns
count_branches-returns t c = over (λ (bs : List TypedBranch). counts_of_branches (branches_view bs)) refl c.args.branches.now c.branches.branch-index c.branches.found _ c.branches-test.false c.branches.invariant

pub count_cases-cases-preserved : goal.count_cases-cases-preserved
count_cases-cases-preserved t c = turn (λ (x : TypedCase). counts_of_all (stmts_view x.body)) (λ (xs : List TypedCase). counts_of_cases (cases_view xs)) (λ x xs. ap counts_of_cases (view_cases x xs)) c.args.cases.now c.cases.case-index c.case-item.result c.cases.found c.count_stmts.new.found _ c.cases-test.true c.case-item.is (c.in_ok-count_stmts.ensures ∙ ap (λ b. noted c.cases.found (counts_of_all (stmts_view b))) c.as_slice.ensures) c.cases.invariant

pub count_cases-returns : goal.count_cases-returns
count_cases-returns t c = over (λ (xs : List TypedCase). counts_of_cases (cases_view xs)) refl c.args.cases.now c.cases.case-index c.cases.found _ c.cases-test.false c.cases.invariant
