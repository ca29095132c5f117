-- The view of the alternatives that have a list or an ELSE in them.
use Rattle.std.proofs.Common.{◌≡◌, List, ◌∷◌, ap}
use Rattle.ob_types.specs.declared.typed.TypedStmt.TheFolds.{fold_out-TypedBranch, fold_out-TypedCase}
use Rattle.ob_types.specs.declared.typed.TypedBranch.{TypedBranch}
use Rattle.ob_types.specs.declared.typed.TypedCase.{TypedCase}
use Rattle.ob_types.specs.TypedSyntax.{Stmt, Branch, OneCase}
use Rattle.ob_types.specs.TypedView.{expr_view, OneBranch, LabelledBody, stmt_layer, branch_layer, case_layer, stmts_view, branch_view, branches_view, case_view, cases_view}

view_branch : (x : TypedBranch) → branch_view x ≡ record { test = expr_view x.test; body = stmts_view x.body }
view_branch x = fold_out-TypedBranch Stmt OneBranch LabelledBody stmt_layer branch_layer case_layer x

pub view_branches : (x : TypedBranch) (xs : List TypedBranch) → branches_view (x ∷ xs) ≡ Branch (expr_view x.test) (stmts_view x.body) (branches_view xs)
view_branches x xs = ap (λ o. Branch o.test o.body (branches_view xs)) (view_branch x)

view_one_case : (x : TypedCase) → case_view x ≡ record { labels = x.labels; body = stmts_view x.body }
view_one_case x = fold_out-TypedCase Stmt OneBranch LabelledBody stmt_layer branch_layer case_layer x

pub view_cases : (x : TypedCase) (xs : List TypedCase) → cases_view (x ∷ xs) ≡ OneCase x.labels (stmts_view x.body) (cases_view xs)
view_cases x xs = ap (λ o. OneCase o.labels o.body (cases_view xs)) (view_one_case x)
