-- One part more of a list, for the ends of its code.
use Rattle.std.proofs.Common.{◌≡◌, ℕ, suc, ◌+◌, ◌<◌, ◌≤◌, List, length, get_or, drop, sym, ap, ◌∙◌}
use Rattle.std.proofs.lemmas.List.{drop_more, drop_all}
use Rattle.ob_types.specs.declared.typed.Actual.{Actual}
use Rattle.ob_types.specs.declared.typed.TypedStmt.{TypedStmt}
use Rattle.ob_types.specs.declared.typed.TypedBranch.{TypedBranch}
use Rattle.ob_types.specs.declared.typed.TypedCase.{TypedCase}
use Rattle.ob_types.specs.TypedView.{expr_view, actuals_view, stmt_view, stmts_view, branches_view, cases_view}
use Rattle.ob_scheme.specs.declared.want.Want.TheVariants as want
use Rattle.ob_scheme.specs.Context.{Context, words}
use Rattle.ob_scheme.specs.Expressions.{wanted, end_expr, end_actuals}
use Rattle.ob_scheme.specs.Statements.{end_labels, end_stmt, end_stmts, end_branches, end_cases}
use Rattle.ob_scheme.proofs.Actuals.{view_actuals}
use Rattle.ob_scheme.proofs.Views.{view_branches, view_cases}

pub actuals_turn : (c : Context) (es : List Actual) (i : ℕ) (d : Actual) (p q whole : ℕ) → i < length es → q ≡ end_expr c (wanted (words c) (get_or es i d).passing (get_or es i d).formal) (expr_view (get_or es i d).value) p → end_actuals c (actuals_view (drop i es)) p ≡ whole → end_actuals c (actuals_view (drop (i + 1) es)) q ≡ whole
actuals_turn c es i d p q whole lt h inv =
    ap (end_actuals c (actuals_view (drop (i + 1) es))) h
    ∙ sym (ap (λ l. end_actuals c (actuals_view l) p) (drop_more es i d lt) ∙ ap (λ a. end_actuals c a p) (view_actuals (get_or es i d) (drop (i + 1) es))) ∙ inv

pub actuals_over : (c : Context) (es : List Actual) (i p whole : ℕ) → length es ≤ i → end_actuals c (actuals_view (drop i es)) p ≡ whole → p ≡ whole
actuals_over c es i p whole past inv = ap (λ l. end_actuals c (actuals_view l) p) (sym (drop_all i es past)) ∙ inv

pub stmts_turn : (c : Context) (es : List TypedStmt) (i : ℕ) (d : TypedStmt) (p q whole : ℕ) → i < length es → q ≡ end_stmt c (stmt_view (get_or es i d)) p → end_stmts c (stmts_view (drop i es)) p ≡ whole → end_stmts c (stmts_view (drop (i + 1) es)) q ≡ whole
stmts_turn c es i d p q whole lt h inv =
    ap (end_stmts c (stmts_view (drop (i + 1) es))) h ∙ sym (ap (λ l. end_stmts c (stmts_view l) p) (drop_more es i d lt)) ∙ inv

pub stmts_over : (c : Context) (es : List TypedStmt) (i p whole : ℕ) → length es ≤ i → end_stmts c (stmts_view (drop i es)) p ≡ whole → p ≡ whole
stmts_over c es i p whole past inv = ap (λ l. end_stmts c (stmts_view l) p) (sym (drop_all i es past)) ∙ inv

pub branches_turn : (c : Context) (es : List TypedBranch) (i : ℕ) (d : TypedBranch) (p q whole : ℕ) → i < length es → q ≡ suc (end_stmts c (stmts_view (get_or es i d).body) (suc (end_expr c want.Value (expr_view (get_or es i d).test) p))) → end_branches c (branches_view (drop i es)) p ≡ whole → end_branches c (branches_view (drop (i + 1) es)) q ≡ whole
branches_turn c es i d p q whole lt h inv =
    ap (end_branches c (branches_view (drop (i + 1) es))) h
    ∙ sym (ap (λ l. end_branches c (branches_view l) p) (drop_more es i d lt) ∙ ap (λ a. end_branches c a p) (view_branches (get_or es i d) (drop (i + 1) es))) ∙ inv

pub branches_over : (c : Context) (es : List TypedBranch) (i p whole : ℕ) → length es ≤ i → end_branches c (branches_view (drop i es)) p ≡ whole → p ≡ whole
branches_over c es i p whole past inv = ap (λ l. end_branches c (branches_view l) p) (sym (drop_all i es past)) ∙ inv

pub cases_turn : (c : Context) (es : List TypedCase) (i : ℕ) (d : TypedCase) (p q whole : ℕ) → i < length es → q ≡ suc (end_stmts c (stmts_view (get_or es i d).body) (suc (end_labels c (get_or es i d).labels p))) → end_cases c (cases_view (drop i es)) p ≡ whole → end_cases c (cases_view (drop (i + 1) es)) q ≡ whole
cases_turn c es i d p q whole lt h inv =
    ap (end_cases c (cases_view (drop (i + 1) es))) h
    ∙ sym (ap (λ l. end_cases c (cases_view l) p) (drop_more es i d lt) ∙ ap (λ a. end_cases c a p) (view_cases (get_or es i d) (drop (i + 1) es))) ∙ inv

pub cases_over : (c : Context) (es : List TypedCase) (i p whole : ℕ) → length es ≤ i → end_cases c (cases_view (drop i es)) p ≡ whole → p ≡ whole
cases_over c es i p whole past inv = ap (λ l. end_cases c (cases_view l) p) (sym (drop_all i es past)) ∙ inv
