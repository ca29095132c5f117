-- The shapes of what is put one after the other, for trees.
use Rattle.std.specs.Prelude.{pos}
use Rattle.ob_instr.specs.declared.opcode.Opcode.TheVariants as op
use Rattle.ob_scheme.specs.Numbers.{instr}
use Rattle.std.proofs.Common.{◌<◌, ◌≤◌, drop, get_or, ◌≡◌, ℕ, suc, ◌+◌, List, [], ◌∷◌, ◌++◌, length, arith, sym, ap, ◌∙◌}
use Rattle.ob_tree.specs.declared.pos.Pos.{Pos}
use Rattle.ob_types.specs.TypedSyntax.{Desig, Expr, Actuals, Stmt, While, Stmts, Then}
use Rattle.ob_types.specs.declared.typed.TypedStmt.{TypedStmt}
use Rattle.ob_types.specs.TypedView.{stmt_view, stmts_view}
use Rattle.std.proofs.lemmas.List.{drop_more, drop_all}
use Rattle.ob_scheme.specs.Statements.{end_stmt, end_stmts, next_stmt, next_stmts, stmt_code, stmts_code}
use Rattle.ob_scheme.specs.declared.want.Want.{Want}
use Rattle.ob_scheme.specs.declared.want.Want.TheVariants as want
use Rattle.ob_scheme.specs.Lines.{Line, jump_if_false, jump_back}
use Rattle.ob_scheme.specs.Context.{Context}
use Rattle.ob_scheme.specs.Expressions.{end_desig, end_expr, desig_code, expr_code, actuals_code}
use Rattle.ob_scheme.specs.Coded.{Coded, appended, place_in, with_instr}
use Rattle.ob_scheme.proofs.Ends.{desig_ends, expr_ends, stmt_ends, stmts_end}
use Rattle.ob_scheme.proofs.Appends.{put_two, put_three, next_place, put_aimed, appended_none}

-- an expression, and behind it another
pub two_exprs : (c : Context) (w v : Want) (a b : Expr) (c0 c1 c2 : Coded) → c1 ≡ appended c0 (expr_code c w a (place_in c0)) → c2 ≡ appended c1 (expr_code c v b (place_in c1)) → c2 ≡ appended c0 (expr_code c w a (place_in c0) ++ expr_code c v b (end_expr c w a (place_in c0)))
two_exprs c w v a b c0 c1 c2 h k =
    put_two c0 c1 c2 (expr_code c w a (place_in c0)) (expr_code c v b (end_expr c w a (place_in c0))) h
    (k ∙ ap (λ n. appended c1 (expr_code c v b n)) (next_place c0 c1 (expr_code c w a (place_in c0)) (end_expr c w a (place_in c0)) h (expr_ends c w a (place_in c0))))

-- two expressions and lines
pub two_exprs_and : (c : Context) (w v : Want) (a b : Expr) (c0 c1 c2 c3 : Coded) (r : List Line) → c1 ≡ appended c0 (expr_code c w a (place_in c0)) → c2 ≡ appended c1 (expr_code c v b (place_in c1)) → c3 ≡ appended c2 r → c3 ≡ appended c0 (expr_code c w a (place_in c0) ++ (expr_code c v b (end_expr c w a (place_in c0)) ++ r))
two_exprs_and c w v a b c0 c1 c2 c3 r h k m =
    put_three c0 c1 c2 c3 (expr_code c w a (place_in c0)) (expr_code c v b (end_expr c w a (place_in c0))) r h
    (k ∙ ap (λ n. appended c1 (expr_code c v b n)) (next_place c0 c1 (expr_code c w a (place_in c0)) (end_expr c w a (place_in c0)) h (expr_ends c w a (place_in c0)))) m

-- a designator, an expression, and lines
pub place_and_expr : (c : Context) (w v : Want) (d : Desig) (e : Expr) (c0 c1 c2 c3 : Coded) (r : List Line) → c1 ≡ appended c0 (desig_code c w d (place_in c0)) → c2 ≡ appended c1 (expr_code c v e (place_in c1)) → c3 ≡ appended c2 r → c3 ≡ appended c0 (desig_code c w d (place_in c0) ++ (expr_code c v e (end_desig c w d (place_in c0)) ++ r))
place_and_expr c w v d e c0 c1 c2 c3 r h k m =
    put_three c0 c1 c2 c3 (desig_code c w d (place_in c0)) (expr_code c v e (end_desig c w d (place_in c0))) r h
    (k ∙ ap (λ n. appended c1 (expr_code c v e n)) (next_place c0 c1 (desig_code c w d (place_in c0)) (end_desig c w d (place_in c0)) h (desig_ends c w d (place_in c0)))) m

-- a procedure variable, actual parameters, and lines
pub place_and_actuals : (c : Context) (w : Want) (d : Desig) (es : Actuals) (c0 c1 c2 c3 : Coded) (r : List Line) → c1 ≡ appended c0 (desig_code c w d (place_in c0)) → c2 ≡ appended c1 (actuals_code c es (place_in c1)) → c3 ≡ appended c2 r → c3 ≡ appended c0 (desig_code c w d (place_in c0) ++ (actuals_code c es (end_desig c w d (place_in c0)) ++ r))
place_and_actuals c w d es c0 c1 c2 c3 r h k m =
    put_three c0 c1 c2 c3 (desig_code c w d (place_in c0)) (actuals_code c es (end_desig c w d (place_in c0))) r h
    (k ∙ ap (λ n. appended c1 (actuals_code c es n)) (next_place c0 c1 (desig_code c w d (place_in c0)) (end_desig c w d (place_in c0)) h (desig_ends c w d (place_in c0)))) m

-- ---- statements

-- a loop: its test, a jump behind it that is aimed at last, its body, and back
pub while_put : (c : Context) (e : Expr) (body : Stmts) (at : Pos) (t x : ℕ) (c0 c1 c2 c3 c4 c5 : Coded) (k n : ℕ) → k ≡ place_in c0 → c1 ≡ appended c0 (expr_code c want.Value e (place_in c0)) → n ≡ place_in c1 → c2 ≡ appended c1 (jump_if_false 0 ∷ []) → c3 ≡ appended c2 (stmts_code c body (place_in c2) t x) → c4 ≡ appended c3 (jump_back k at ∷ []) → c5 ≡ with_instr c4 n (instr op.JumpF (pos (place_in c4)) (pos 0)) → c5 ≡ appended c0 (stmt_code c (While e body at) (place_in c0) t x)
while_put c e body at t x c0 c1 c2 c3 c4 c5 k n s h1 m h2 h3 h4 h5 =
    let pc = place_in c0 in
    let a = expr_code c want.Value e pc in
    let p1 = end_expr c want.Value e pc in
    let l1 = next_place c0 c1 a p1 h1 (expr_ends c want.Value e pc) in
    let l2 : place_in c2 ≡ suc p1 = next_place c1 c2 (jump_if_false 0 ∷ []) (suc p1) h2 (let v = l1 in omega (arith, v)) in
    let b = stmts_code c body (suc p1) t x in
    let p2 = end_stmts c body (suc p1) in
    let k3 : c3 ≡ appended c2 b = h3 ∙ ap (λ q. appended c2 (stmts_code c body q t x)) l2 in
    let l3 : place_in c3 ≡ p2 = next_place c2 c3 b p2 k3 (let v = l2 in let u = stmts_end c body (suc p1) t x in omega (arith, v, u)) in
    let k4 : c4 ≡ appended c3 (jump_back pc at ∷ []) = h4 ∙ ap (λ q. appended c3 (jump_back q at ∷ [])) s in
    let l4 : place_in c4 ≡ suc p2 = next_place c3 c4 (jump_back pc at ∷ []) (suc p2) k4 (let v = l3 in omega (arith, v)) in
    let k5 : c5 ≡ with_instr c4 n (instr op.JumpF (pos (suc p2)) (pos 0)) = h5 ∙ ap (λ q. with_instr c4 n (instr op.JumpF (pos q) (pos 0))) l4 in
    put_aimed c0 c1 c2 c4 c5 a (b ++ jump_back pc at ∷ []) op.JumpF 0 (suc p2) n h1 m h2 (put_two c2 c3 c4 b (jump_back pc at ∷ []) k3 k4) k5

-- a statement more
pub stmts_put : (c : Context) (s : Stmt) (rest : Stmts) (t x : ℕ) (c0 c1 : Coded) → c1 ≡ appended c0 (stmt_code c s (place_in c0) t x) → appended c1 (stmts_code c rest (place_in c1) (next_stmt c s t) x) ≡ appended c0 (stmts_code c (Then s rest) (place_in c0) t x)
stmts_put c s rest t x c0 c1 h =
    let pc = place_in c0 in
    let l1 = next_place c0 c1 (stmt_code c s pc t x) (end_stmt c s pc) h (stmt_ends c s pc t x) in
    put_two c0 c1 (appended c1 (stmts_code c rest (place_in c1) (next_stmt c s t) x)) (stmt_code c s pc t x) (stmts_code c rest (end_stmt c s pc) (next_stmt c s t) x) h (ap (λ q. appended c1 (stmts_code c rest q (next_stmt c s t) x)) l1)

-- in a loop
pub stmts_turn : (c : Context) (es : List TypedStmt) (i : ℕ) (d : TypedStmt) (t u x : ℕ) (c0 c1 whole : Coded) → i < length es → c1 ≡ appended c0 (stmt_code c (stmt_view (get_or es i d)) (place_in c0) t x) → u ≡ next_stmt c (stmt_view (get_or es i d)) t → appended c0 (stmts_code c (stmts_view (drop i es)) (place_in c0) t x) ≡ whole → appended c1 (stmts_code c (stmts_view (drop (i + 1) es)) (place_in c1) u x) ≡ whole
stmts_turn c es i d t u x c0 c1 whole lt h e inv =
    ap (λ v. appended c1 (stmts_code c (stmts_view (drop (i + 1) es)) (place_in c1) v x)) e
    ∙ stmts_put c (stmt_view (get_or es i d)) (stmts_view (drop (i + 1) es)) t x c0 c1 h
    ∙ sym (ap (λ l. appended c0 (stmts_code c (stmts_view l) (place_in c0) t x)) (drop_more es i d lt)) ∙ inv

pub hidden_turn : (c : Context) (es : List TypedStmt) (i : ℕ) (d : TypedStmt) (t u whole : ℕ) → i < length es → u ≡ next_stmt c (stmt_view (get_or es i d)) t → next_stmts c (stmts_view (drop i es)) t ≡ whole → next_stmts c (stmts_view (drop (i + 1) es)) u ≡ whole
hidden_turn c es i d t u whole lt e inv = ap (next_stmts c (stmts_view (drop (i + 1) es))) e ∙ sym (ap (λ l. next_stmts c (stmts_view l) t) (drop_more es i d lt)) ∙ inv

pub stmts_over : (c : Context) (es : List TypedStmt) (i t x : ℕ) (c0 whole : Coded) → length es ≤ i → appended c0 (stmts_code c (stmts_view (drop i es)) (place_in c0) t x) ≡ whole → c0 ≡ whole
stmts_over c es i t x c0 whole past inv = appended_none c0 ∙ ap (λ l. appended c0 (stmts_code c (stmts_view l) (place_in c0) t x)) (sym (drop_all i es past)) ∙ inv

pub hidden_over : (c : Context) (es : List TypedStmt) (i t whole : ℕ) → length es ≤ i → next_stmts c (stmts_view (drop i es)) t ≡ whole → t ≡ whole
hidden_over c es i t whole past inv = ap (λ l. next_stmts c (stmts_view l) t) (sym (drop_all i es past)) ∙ inv
