-- The view of an actual parameter.
use Rattle.std.proofs.Common.{◌≡◌, sym, ap, ◌∙◌, List, [], ◌∷◌, ℕ, drop, ◌<◌, ◌≤◌, ◌+◌, get_or, length}
use Rattle.std.proofs.lemmas.List.{drop_more, drop_all}
use Rattle.ob_types.specs.declared.typed.Designator.TheFolds.{fold_out-Actual}
use Rattle.ob_types.specs.declared.typed.Actual.{Actual}
use Rattle.ob_types.specs.TypedSyntax.{Desig, Expr, AnActual}
use Rattle.ob_layout.specs.Room.{slots}
use Rattle.ob_scheme.specs.Context.{Context, words}
use Rattle.ob_scheme.specs.Expressions.{wanted, words_of_actuals, end_expr, expr_code, actuals_code}
use Rattle.ob_scheme.specs.Coded.{Coded, appended, place_in}
use Rattle.ob_scheme.proofs.Ends.{expr_ends}
use Rattle.ob_scheme.proofs.Appends.{put_two, next_place, appended_none}
use Rattle.ob_types.specs.TypedView.{OneActual, designator_layer, expr_layer, actual_layer, actual_view, expr_view, actuals_view}

pub view_actual : (x : Actual) → actual_view x ≡ record { passing = x.passing; formal = x.formal; e = expr_view x.value }
view_actual x = fold_out-Actual Desig Expr OneActual designator_layer expr_layer actual_layer x

pub view_actuals : (x : Actual) (xs : List Actual) → actuals_view (x ∷ xs) ≡ AnActual x.passing x.formal (expr_view x.value) (actuals_view xs)
view_actuals x xs = ap (λ o. AnActual o.passing o.formal o.e (actuals_view xs)) (view_actual x)

-- an actual parameter more, in a loop
pub actuals_turn : (c : Context) (es : List Actual) (i : ℕ) (d : Actual) (c0 c1 whole : Coded) → i < length es
    → c1 ≡ appended c0 (expr_code c (wanted (words c) (get_or es i d).passing (get_or es i d).formal) (expr_view (get_or es i d).value) (place_in c0))
    → appended c0 (actuals_code c (actuals_view (drop i es)) (place_in c0)) ≡ whole → appended c1 (actuals_code c (actuals_view (drop (i + 1) es)) (place_in c1)) ≡ whole
actuals_turn c es i d c0 c1 whole lt h inv =
    let x = get_or es i d in
    let w = wanted (words c) x.passing x.formal in
    let e = expr_view x.value in
    let pc = place_in c0 in
    let rest = actuals_view (drop (i + 1) es) in
    let is : whole ≡ appended c0 (actuals_code c (AnActual x.passing x.formal e rest) pc) =
    sym inv ∙ ap (λ l. appended c0 (actuals_code c (actuals_view l) pc)) (drop_more es i d lt) ∙ ap (λ a. appended c0 (actuals_code c a pc)) (view_actuals x (drop (i + 1) es)) in
    let p1 = end_expr c w e pc in
    let l1 = next_place c0 c1 (expr_code c w e pc) p1 h (expr_ends c w e pc) in
    put_two c0 c1 (appended c1 (actuals_code c rest (place_in c1))) (expr_code c w e pc) (actuals_code c rest p1) h (ap (λ p. appended c1 (actuals_code c rest p)) l1) ∙ sym is

pub words_turn : (es : List Actual) (i : ℕ) (d : Actual) → i < length es → words_of_actuals (actuals_view (drop i es)) ≡ slots (get_or es i d).passing + words_of_actuals (actuals_view (drop (i + 1) es))
words_turn es i d lt = ap (λ l. words_of_actuals (actuals_view l)) (drop_more es i d lt) ∙ ap words_of_actuals (view_actuals (get_or es i d) (drop (i + 1) es))

pub actuals_over : (c : Context) (es : List Actual) (i : ℕ) (c0 whole : Coded) → length es ≤ i → appended c0 (actuals_code c (actuals_view (drop i es)) (place_in c0)) ≡ whole → c0 ≡ whole
actuals_over c es i c0 whole past inv =
    let all : drop i es ≡ [] = drop_all i es past in
    appended_none c0 ∙ ap (λ l. appended c0 (actuals_code c (actuals_view l) (place_in c0))) (sym all) ∙ inv
