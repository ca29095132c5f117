-- The views of branches and cases, and of statements with an ELSE that may not be there.
use Rattle.std.proofs.Common.{◌≡◌, List, ◌∷◌, ap, Option, Some, None}
use Rattle.ob_tree.specs.declared.pos.Pos.{Pos}
use Rattle.ob_types.specs.declared.typed.TypedExpr.{TypedExpr}
use Rattle.ob_types.specs.declared.typed.TypedStmt.{TypedStmt}
use Rattle.ob_types.specs.declared.typed.TypedStmt.TheVariants as s
use Rattle.ob_types.specs.declared.typed.TypedStmt.TheFolds.{fold_out-TypedBranch, fold_out-TypedCase}
use Rattle.ob_types.specs.declared.typed.TypedBranch.{TypedBranch}
use Rattle.ob_types.specs.declared.typed.TypedCase.{TypedCase}
use Rattle.ob_types.specs.TypedSyntax.{Stmt, Case, With, Branch, OneCase}
use Rattle.ob_types.specs.TypedView.{OneBranch, LabelledBody, stmt_layer, branch_layer, case_layer, stmt_view, branch_view, case_view, expr_view, stmts_view, branches_view, cases_view, otherwise_view}
use Rattle.ob_types.proofs.TypedViews.{view_case_none, view_case_some, view_with_none, view_with_some}

pub view_branch : (x : TypedBranch) → branch_view x ≡ record { test = expr_view x.test; body = stmts_view x.body }
view_branch x = fold_out-TypedBranch Stmt OneBranch LabelledBody stmt_layer branch_layer case_layer x

pub view_branches : (x : TypedBranch) (xs : List TypedBranch) → branches_view (x ∷ xs) ≡ Branch (expr_view x.test) (stmts_view x.body) (branches_view xs)
view_branches x xs = ap (λ o. Branch o.test o.body (branches_view xs)) (view_branch x)

pub view_labelled : (x : TypedCase) → case_view x ≡ record { labels = x.labels; body = stmts_view x.body }
view_labelled x = fold_out-TypedCase Stmt OneBranch LabelledBody stmt_layer branch_layer case_layer x

pub view_cases : (x : TypedCase) (xs : List TypedCase) → cases_view (x ∷ xs) ≡ OneCase x.labels (stmts_view x.body) (cases_view xs)
view_cases x xs = ap (λ o. OneCase o.labels o.body (cases_view xs)) (view_labelled x)

pub view_case : (x : TypedExpr) (cs : List TypedCase) (o : Option (List TypedStmt)) (at : Pos) → stmt_view (s.Case x cs o at) ≡ Case (expr_view x) (cases_view cs) (otherwise_view o) at
view_case x cs None at = view_case_none x cs at
view_case x cs (Some body) at = view_case_some x cs body at

pub view_with : (bs : List TypedBranch) (o : Option (List TypedStmt)) (at : Pos) → stmt_view (s.With bs o at) ≡ With (branches_view bs) (otherwise_view o) at
view_with bs None at = view_with_none bs at
view_with bs (Some body) at = view_with_some bs body at
