-- Lists of parts, one after the other.
use Rattle.std.specs.Prelude.{max, min}
use Rattle.std.proofs.Common.{◌≡◌, ◌<◌, ◌≤◌, ℕ, ◌+◌, List, [], ◌∷◌, length, drop, get_or, refl, sym, ap, ◌∙◌, arith}
use Rattle.std.proofs.lemmas.List.{drop_more, drop_all}
use Rattle.ob_types.specs.declared.typed.Actual.{Actual}
use Rattle.ob_types.specs.declared.typed.TypedStmt.{TypedStmt}
use Rattle.ob_types.specs.declared.typed.TypedStmt.TheFolds.{fold_out-TypedBranch, fold_out-TypedCase}
use Rattle.ob_types.specs.declared.typed.TypedBranch.{TypedBranch}
use Rattle.ob_types.specs.declared.typed.TypedCase.{TypedCase}
use Rattle.ob_types.specs.declared.typed.Label.{Label}
use Rattle.ob_types.specs.TypedSyntax.{Stmt, Branch, OneCase}
use Rattle.ob_types.specs.TypedView.{OneBranch, LabelledBody, stmt_layer, branch_layer, case_layer, expr_view, stmt_view, stmts_view, branch_view, branches_view, case_view, cases_view, actuals_view}
use Rattle.ob_scheme.specs.Needs.{operands_of, label_operands, need_expr, need_actuals, need_stmt, need_stmts, need_branches, need_cases}
use Rattle.ob_scheme.proofs.Actuals.{view_actuals}
use Rattle.ob_scheme.specs.declared.want.Want.TheVariants as want
use Rattle.ob_scheme.specs.Context.{words}
use Rattle.ob_scheme.specs.Expressions.{wanted}
use Rattle.ob_gproc_operands.specs.Capped.{capped}
use Rattle.ob_gproc_operands.specs.Nowhere.{nowhere, passed}
use Rattle.ob_gproc_operands.proofs.Anywhere.{wanted_need, wanted_operands}

-- ---- numbers

-- a larger number more
more : (need a b : ℕ) → max need (capped (max a b)) ≡ max (max need (capped a)) (capped b)
more need a b = omega arith

over : (need : ℕ) → max need (capped 0) ≡ need
over need = omega arith

-- what stands above others
split : (n k a b : ℕ) → max n (capped (k + max a b)) ≡ max (max n (capped (k + a))) (capped (k + b))
split n k a b = omega arith

inner : (k a : ℕ) → capped (k + capped a) ≡ capped (k + a)
inner k a = omega arith

outer : (k o b : ℕ) → capped (capped (k + o) + b) ≡ capped (k + (o + b))
outer k o b = omega arith

-- ---- actual parameters

pub actuals_turn : (es : List Actual) (i : ℕ) (d : Actual) (need standing x o need' standing' whole : ℕ) → i < length es
    → x ≡ capped (need_expr nowhere (passed (get_or es i d).passing) (expr_view (get_or es i d).value)) → o ≡ operands_of (passed (get_or es i d).passing)
    → need' ≡ max need (capped (standing + x)) → standing' ≡ capped (standing + o)
    → max need (capped (standing + need_actuals nowhere (actuals_view (drop i es)))) ≡ whole → max need' (capped (standing' + need_actuals nowhere (actuals_view (drop (i + 1) es)))) ≡ whole
actuals_turn es i d need standing x o need' standing' whole lt h j k l inv =
    let y = get_or es i d in
    let rest = need_actuals nowhere (actuals_view (drop (i + 1) es)) in
    let a = need_expr nowhere (passed y.passing) (expr_view y.value) in
    let p = operands_of (passed y.passing) in
    let is : need_actuals nowhere (actuals_view (drop i es)) ≡ max a (p + rest) =
    ap (λ z. need_actuals nowhere (actuals_view z)) (drop_more es i d lt) ∙ ap (need_actuals nowhere) (view_actuals y (drop (i + 1) es))
    ∙ ap (λ z. max z (operands_of (wanted (words nowhere) y.passing y.formal) + rest)) (wanted_need nowhere y.passing y.formal (expr_view y.value))
    ∙ ap (λ z. max a (z + rest)) (wanted_operands nowhere y.passing y.formal) in
    ap (λ z. max z (capped (standing' + rest))) (k ∙ ap (λ z. max need (capped (standing + z))) h ∙ ap (max need) (inner standing a))
    ∙ ap (λ z. max (max need (capped (standing + a))) (capped (z + rest))) (l ∙ ap (λ z. capped (standing + z)) j)
    ∙ ap (max (max need (capped (standing + a)))) (outer standing p rest)
    ∙ sym (split need standing a (p + rest)) ∙ ap (λ z. max need (capped (standing + z))) (sym is) ∙ inv

pub actuals_over : (es : List Actual) (i need standing n r whole : ℕ) → length es ≤ i → n ≡ capped (standing + 0) → r ≡ max need n
    → max need (capped (standing + need_actuals nowhere (actuals_view (drop i es)))) ≡ whole → r ≡ whole
actuals_over es i need standing n r whole past h k inv = k ∙ ap (max need) h ∙ ap (λ l. max need (capped (standing + need_actuals nowhere (actuals_view l)))) (sym (drop_all i es past)) ∙ inv

-- ---- statements

pub stmts_turn : (es : List TypedStmt) (i : ℕ) (d : TypedStmt) (need x need' whole : ℕ) → i < length es
    → x ≡ capped (need_stmt nowhere (stmt_view (get_or es i d))) → need' ≡ max need x
    → max need (capped (need_stmts nowhere (stmts_view (drop i es)))) ≡ whole → max need' (capped (need_stmts nowhere (stmts_view (drop (i + 1) es)))) ≡ whole
stmts_turn es i d need x need' whole lt h k inv =
    let a = need_stmt nowhere (stmt_view (get_or es i d)) in
    let rest = need_stmts nowhere (stmts_view (drop (i + 1) es)) in
    ap (λ z. max z (capped rest)) (k ∙ ap (max need) h) ∙ sym (more need a rest)
    ∙ ap (λ l. max need (capped (need_stmts nowhere (stmts_view l)))) (sym (drop_more es i d lt)) ∙ inv

pub stmts_over : (es : List TypedStmt) (i need whole : ℕ) → length es ≤ i → max need (capped (need_stmts nowhere (stmts_view (drop i es)))) ≡ whole → need ≡ whole
stmts_over es i need whole past inv = sym (over need) ∙ ap (λ l. max need (capped (need_stmts nowhere (stmts_view l)))) (sym (drop_all i es past)) ∙ inv

-- ---- branches and cases

pub view_branches : (x : TypedBranch) (xs : List TypedBranch) → branches_view (x ∷ xs) ≡ Branch (expr_view x.test) (stmts_view x.body) (branches_view xs)
view_branches x xs = ap (λ o. Branch o.test o.body (branches_view xs)) (fold_out-TypedBranch Stmt OneBranch LabelledBody stmt_layer branch_layer case_layer x)

pub view_cases : (x : TypedCase) (xs : List TypedCase) → cases_view (x ∷ xs) ≡ OneCase x.labels (stmts_view x.body) (cases_view xs)
view_cases x xs = ap (λ o. OneCase o.labels o.body (cases_view xs)) (fold_out-TypedCase Stmt OneBranch LabelledBody stmt_layer branch_layer case_layer x)

pub branches_turn : (es : List TypedBranch) (i : ℕ) (d : TypedBranch) (need x y need' whole : ℕ) → i < length es
    → x ≡ capped (need_expr nowhere want.Value (expr_view (get_or es i d).test)) → y ≡ capped (need_stmts nowhere (stmts_view (get_or es i d).body)) → need' ≡ max (max need x) y
    → max need (capped (need_branches nowhere (branches_view (drop i es)))) ≡ whole → max need' (capped (need_branches nowhere (branches_view (drop (i + 1) es)))) ≡ whole
branches_turn es i d need x y need' whole lt h j k inv =
    let b = get_or es i d in
    let t = need_expr nowhere want.Value (expr_view b.test) in
    let a = need_stmts nowhere (stmts_view b.body) in
    let rest = need_branches nowhere (branches_view (drop (i + 1) es)) in
    ap (λ z. max z (capped rest)) (k ∙ ap (λ z. max (max need z) y) h ∙ ap (max (max need (capped t))) j)
    ∙ sym (more (max need (capped t)) a rest) ∙ sym (more need t (max a rest))
    ∙ ap (λ l. max need (capped (need_branches nowhere l))) (sym (ap branches_view (drop_more es i d lt) ∙ view_branches b (drop (i + 1) es))) ∙ inv

pub branches_over : (es : List TypedBranch) (i need whole : ℕ) → length es ≤ i → max need (capped (need_branches nowhere (branches_view (drop i es)))) ≡ whole → need ≡ whole
branches_over es i need whole past inv = sym (over need) ∙ ap (λ l. max need (capped (need_branches nowhere (branches_view l)))) (sym (drop_all i es past)) ∙ inv

few_labels : (labels : List Label) → label_operands labels ≡ capped (label_operands labels)
few_labels [] = refl
few_labels (l ∷ ls) = refl

pub cases_turn : (es : List TypedCase) (i : ℕ) (d : TypedCase) (need x y need' whole : ℕ) → i < length es
    → x ≡ label_operands (get_or es i d).labels → y ≡ capped (need_stmts nowhere (stmts_view (get_or es i d).body)) → need' ≡ max (max need x) y
    → max need (capped (need_cases nowhere (cases_view (drop i es)))) ≡ whole → max need' (capped (need_cases nowhere (cases_view (drop (i + 1) es)))) ≡ whole
cases_turn es i d need x y need' whole lt h j k inv =
    let b = get_or es i d in
    let t = label_operands b.labels in
    let a = need_stmts nowhere (stmts_view b.body) in
    let rest = need_cases nowhere (cases_view (drop (i + 1) es)) in
    ap (λ z. max z (capped rest)) (k ∙ ap (λ z. max (max need z) y) (h ∙ few_labels b.labels) ∙ ap (max (max need (capped t))) j)
    ∙ sym (more (max need (capped t)) a rest) ∙ sym (more need t (max a rest))
    ∙ ap (λ l. max need (capped (need_cases nowhere l))) (sym (ap cases_view (drop_more es i d lt) ∙ view_cases b (drop (i + 1) es))) ∙ inv

pub cases_over : (es : List TypedCase) (i need whole : ℕ) → length es ≤ i → max need (capped (need_cases nowhere (cases_view (drop i es)))) ≡ whole → need ≡ whole
cases_over es i need whole past inv = sym (over need) ∙ ap (λ l. max need (capped (need_cases nowhere (cases_view l)))) (sym (drop_all i es past)) ∙ inv
