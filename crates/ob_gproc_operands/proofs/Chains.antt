-- Along a chain of selectors or operators: what is needed so far, and the rest.
use Rattle.std.specs.Prelude.{max, Option}
use Rattle.std.proofs.Common.{◌≡◌, ℕ, ◌+◌, refl, sym, ap, ◌∙◌, arith}
use Rattle.ob_tree.specs.declared.pos.Pos.{Pos}
use Rattle.ob_types.specs.declared.types.TypeRef.{TypeRef}
use Rattle.ob_types.specs.declared.typed.Variable.{Variable}
use Rattle.ob_types.specs.declared.typed.Binary.{Binary}
use Rattle.ob_types.specs.declared.typed.Connective.{Connective}
use Rattle.ob_types.specs.declared.typed.Designator.{Designator}
use Rattle.ob_types.specs.declared.typed.Designator.TheVariants as d
use Rattle.ob_types.specs.declared.typed.TypedExpr.{TypedExpr}
use Rattle.ob_types.specs.declared.typed.TypedExpr.TheVariants as e
use Rattle.ob_types.specs.TypedView.{designator_view, expr_view}
use Rattle.ob_types.proofs.TypedViews.{view_variable, view_index, view_dyadic, view_logical}
use Rattle.ob_scheme.specs.declared.want.Want.{Want}
use Rattle.ob_scheme.specs.declared.want.Want.TheVariants as want
use Rattle.ob_scheme.specs.Expressions.{index_want}
use Rattle.ob_scheme.specs.Needs.{operands_of, need_desig, need_expr}
use Rattle.ob_gproc_operands.specs.Capped.{capped}
use Rattle.ob_gproc_operands.specs.Nowhere.{nowhere}
use Rattle.ob_gproc_operands.proofs.Shapes.{few_wanted, above_capped}

apart : (a b need : ℕ) → max (max need (capped b)) (capped a) ≡ max need (capped (max a b))
apart a b need = omega arith

grouped : (a b d : ℕ) → max (max a b) d ≡ max a (max b d)
grouped a b d = omega arith

-- a selector, and what it stands on
pub selector : (w : Want) (a need o need' whole : ℕ) → need' ≡ max need o → o ≡ operands_of w → max need (capped (max a (operands_of w))) ≡ whole → max need' (capped a) ≡ whole
selector w a need o need' whole k h inv = ap (λ z. max z (capped a)) (k ∙ ap (max need) (h ∙ few_wanted w)) ∙ apart a (operands_of w) need ∙ inv

-- an index, which stands above its array
pub index_turn : (w v : Want) (rest x y : Designator) (l : Option ℕ) (i j : TypedExpr) (at : Pos) (t : TypeRef) (need o p n s need' last whole : ℕ)
    → rest ≡ d.Index x l i at t → y ≡ x → j ≡ i → v ≡ index_want l
    → last ≡ max need' s → s ≡ capped (p + n) → p ≡ operands_of v → n ≡ capped (need_expr nowhere want.Value (expr_view j)) → need' ≡ max need o → o ≡ operands_of w
    → max need (capped (need_desig nowhere w (designator_view rest))) ≡ whole → max last (capped (need_desig nowhere v (designator_view y))) ≡ whole
index_turn w v rest x y l i j at t need o p n s need' last whole is first second how e f g h k m inv =
    let a = need_desig nowhere (index_want l) (designator_view x) in
    let b = need_expr nowhere want.Value (expr_view i) in
    let q = operands_of (index_want l) + b in
    let above : s ≡ capped q = f ∙ ap (λ z. capped (z + n)) (g ∙ ap operands_of how) ∙ above_capped (operands_of (index_want l)) b n (h ∙ ap (λ z. capped (need_expr nowhere want.Value (expr_view z))) second) in
    ap (λ z. max last (capped (need_desig nowhere v (designator_view z)))) first
    ∙ ap (λ z. max last (capped (need_desig nowhere z (designator_view x)))) how
    ∙ ap (λ z. max z (capped a)) (e ∙ ap (max need') above) ∙ apart a q need'
    ∙ selector w (max a q) need o need' whole k m
    (ap (λ z. max need (capped z)) (grouped a q (operands_of w)) ∙ ap (λ z. max need (capped (need_desig nowhere w z))) (sym (ap designator_view is ∙ view_index x l i at t)) ∙ inv)

-- the variable at which a chain ends
pub variable_over : (v w : Want) (whole rest : Designator) (x : Variable) (t : TypeRef) (need o r : ℕ)
    → rest ≡ d.Variable x t → max need (capped (need_desig nowhere w (designator_view rest))) ≡ capped (need_desig nowhere v (designator_view whole))
    → r ≡ max need o → o ≡ operands_of w → r ≡ capped (need_desig nowhere v (designator_view whole))
variable_over v w whole rest x t need o r is inv h i =
    h ∙ ap (max need) (i ∙ few_wanted w) ∙ ap (λ z. max need (capped (need_desig nowhere w z))) (sym (ap designator_view is ∙ view_variable x t)) ∙ inv

-- an operator, whose right operand stands above the left one
pub binary_turn : (w : Want) (rest x y i j : TypedExpr) (op : Binary) (at : Pos) (need n s need' whole : ℕ)
    → rest ≡ e.Binary op x i at → y ≡ x → j ≡ i
    → need' ≡ max need s → s ≡ capped (1 + n) → n ≡ capped (need_expr nowhere want.Value (expr_view j))
    → max need (capped (need_expr nowhere w (expr_view rest))) ≡ whole → max need' (capped (need_expr nowhere want.Value (expr_view y))) ≡ whole
binary_turn w rest x y i j op at need n s need' whole is first second f g h inv =
    let a = need_expr nowhere want.Value (expr_view x) in
    let b = need_expr nowhere want.Value (expr_view i) in
    let above : s ≡ capped (1 + b) = g ∙ above_capped 1 b n (h ∙ ap (λ z. capped (need_expr nowhere want.Value (expr_view z))) second) in
    ap (λ z. max need' (capped (need_expr nowhere want.Value (expr_view z)))) first
    ∙ ap (λ z. max z (capped a)) (f ∙ ap (max need) above) ∙ apart a (1 + b) need
    ∙ ap (λ z. max need (capped (need_expr nowhere w z))) (sym (ap expr_view is ∙ view_dyadic op x i at)) ∙ inv

-- a connective
pub logical_turn : (w : Want) (rest x y i j : TypedExpr) (op : Connective) (need n need' whole : ℕ)
    → rest ≡ e.Logical op x i → y ≡ x → j ≡ i
    → need' ≡ max need n → n ≡ capped (need_expr nowhere want.Value (expr_view j))
    → max need (capped (need_expr nowhere w (expr_view rest))) ≡ whole → max need' (capped (need_expr nowhere want.Value (expr_view y))) ≡ whole
logical_turn w rest x y i j op need n need' whole is first second f h inv =
    let a = need_expr nowhere want.Value (expr_view x) in
    let b = need_expr nowhere want.Value (expr_view i) in
    ap (λ z. max need' (capped (need_expr nowhere want.Value (expr_view z)))) first
    ∙ ap (λ z. max z (capped a)) (f ∙ ap (max need) (h ∙ ap (λ z. capped (need_expr nowhere want.Value (expr_view z))) second)) ∙ apart a b need
    ∙ ap (λ z. max need (capped (need_expr nowhere w z))) (sym (ap expr_view is ∙ view_logical op x i)) ∙ inv

-- the expression at which a chain ends
pub chain_over : (v w : Want) (whole rest : TypedExpr) (need n r : ℕ)
    → max need (capped (need_expr nowhere w (expr_view rest))) ≡ capped (need_expr nowhere v (expr_view whole))
    → r ≡ max need n → n ≡ capped (need_expr nowhere w (expr_view rest)) → r ≡ capped (need_expr nowhere v (expr_view whole))
chain_over v w whole rest need n r inv h i = h ∙ ap (max need) i ∙ inv
