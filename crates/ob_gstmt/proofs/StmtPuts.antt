-- The shapes of what is put one after the other, for statements with parts that are statements.
use Rattle.std.specs.Prelude.{ℤ, pos}
use Rattle.std.proofs.Common.{◌≡◌, ℕ, suc, ◌+◌, ◌<◌, ◌≤◌, List, [], ◌∷◌, ◌++◌, length, get_or, drop, append_assoc, length-append, arith, sym, ap, ◌∙◌}
use Rattle.std.proofs.lemmas.List.{drop_more, drop_all}
use Rattle.ob_trap.specs.declared.trap.Trap.TheVariants as trap
use Rattle.ob_tree.specs.declared.pos.Pos.{Pos}
use Rattle.ob_types.specs.declared.typed.Width.{Width}
use Rattle.ob_types.specs.declared.typed.Variable.{Variable}
use Rattle.ob_types.specs.declared.typed.Label.{Label}
use Rattle.ob_types.specs.declared.typed.TypedBranch.{TypedBranch}
use Rattle.ob_types.specs.declared.typed.TypedCase.{TypedCase}
use Rattle.ob_types.specs.TypedSyntax.{Desig, Expr, If, Case, Repeat, For, Loop, With, Stmts, Branches, NoBranch, Branch, Cases, NoCase, OneCase, Otherwise}
use Rattle.ob_types.specs.TypedView.{expr_view, stmts_view, branches_view, cases_view}
use Rattle.ob_instr.specs.declared.opcode.Opcode.TheVariants as op
use Rattle.ob_scheme.specs.declared.want.Want.{Want}
use Rattle.ob_scheme.specs.declared.want.Want.TheVariants as want
use Rattle.ob_scheme.specs.Lines.{Line, Number, plain, placed, count, bare, jump, jump_if_false, jump_back, jump_back_if_false, behind}
use Rattle.ob_scheme.specs.Operations.{bytes_of}
use Rattle.ob_scheme.specs.Numbers.{instr}
use Rattle.ob_scheme.specs.Context.{Context}
use Rattle.ob_scheme.specs.Expressions.{end_expr, desig_code, expr_code}
use Rattle.ob_scheme.specs.Statements.{for_place, for_value, within, end_for_test, end_for_step, end_label, label_code, end_labels, labels_code, end_stmts, end_branches, end_cases, end_else, next_stmts, next_branches, next_cases, stmt_code, stmts_code, branches_code, cases_code, else_code}
use Rattle.ob_scheme.specs.Coded.{Coded, appended, place_in, with_instr}
use Rattle.ob_scheme.proofs.Ends.{behind_is, expr_ends, labels_end, stmts_end, branches_end, cases_end}
use Rattle.ob_scheme.proofs.Appends.{put_two, put_three, next_place, put_aimed, appended_none}
use Rattle.ob_scheme.proofs.Views.{view_branches, view_cases}

-- an expression, a designator, and lines
pub expr_and_place : (c : Context) (w v : Want) (e : Expr) (d : Desig) (c0 c1 c2 c3 : Coded) (r : List Line) → c1 ≡ appended c0 (expr_code c w e (place_in c0)) → c2 ≡ appended c1 (desig_code c v d (place_in c1)) → c3 ≡ appended c2 r → c3 ≡ appended c0 (expr_code c w e (place_in c0) ++ (desig_code c v d (end_expr c w e (place_in c0)) ++ r))
expr_and_place c w v e d c0 c1 c2 c3 r h k m =
    put_three c0 c1 c2 c3 (expr_code c w e (place_in c0)) (desig_code c v d (end_expr c w e (place_in c0))) r h
    (k ∙ ap (λ n. appended c1 (desig_code c v d n)) (next_place c0 c1 (expr_code c w e (place_in c0)) (end_expr c w e (place_in c0)) h (expr_ends c w e (place_in c0)))) m

-- REPEAT: its body, its test, and back
pub repeat_put : (c : Context) (body : Stmts) (e : Expr) (at : Pos) (t x : ℕ) (c0 c1 c2 c3 : Coded) (k : ℕ) → k ≡ place_in c0 → c1 ≡ appended c0 (stmts_code c body (place_in c0) t x) → c2 ≡ appended c1 (expr_code c want.Value e (place_in c1)) → c3 ≡ appended c2 (jump_back_if_false k at ∷ []) → c3 ≡ appended c0 (stmt_code c (Repeat body e at) (place_in c0) t x)
repeat_put c body e at t x c0 c1 c2 c3 k s h1 h2 h3 =
    let pc = place_in c0 in
    let a = stmts_code c body pc t x in
    let p1 = end_stmts c body pc in
    let l1 = next_place c0 c1 a p1 h1 (stmts_end c body pc t x) in
    put_three c0 c1 c2 c3 a (expr_code c want.Value e p1) (jump_back_if_false pc at ∷ []) h1
    (h2 ∙ ap (λ n. appended c1 (expr_code c want.Value e n)) l1) (h3 ∙ ap (λ n. appended c2 (jump_back_if_false n at ∷ [])) s)

-- LOOP: its body, in which EXIT leads behind it, and back
pub loop_put : (c : Context) (body : Stmts) (at : Pos) (t x : ℕ) (c0 c1 c2 : Coded) (k e : ℕ) → k ≡ place_in c0 → e ≡ suc (end_stmts c body (place_in c0)) → c1 ≡ appended c0 (stmts_code c body (place_in c0) t e) → c2 ≡ appended c1 (jump_back k at ∷ []) → c2 ≡ appended c0 (stmt_code c (Loop body at) (place_in c0) t x)
loop_put c body at t x c0 c1 c2 k e s f h1 h2 =
    let pc = place_in c0 in
    let p1 = end_stmts c body pc in
    put_two c0 c1 c2 (stmts_code c body pc t (suc p1)) (jump_back pc at ∷ []) (h1 ∙ ap (λ n. appended c0 (stmts_code c body pc t n)) f) (h2 ∙ ap (λ n. appended c1 (jump_back n at ∷ [])) s)

-- IF: its branches, and what stands behind ELSE
pub if_put : (c : Context) (bs : Branches) (o : Stmts) (t u x e : ℕ) (c0 c1 c2 : Coded) → e ≡ end_stmts c o (end_branches c bs (place_in c0)) → c1 ≡ appended c0 (branches_code c bs (place_in c0) t x e) → u ≡ next_branches c bs t → c2 ≡ appended c1 (stmts_code c o (place_in c1) u x) → c2 ≡ appended c0 (stmt_code c (If bs o) (place_in c0) t x)
if_put c bs o t u x e c0 c1 c2 f h1 g h2 =
    let pc = place_in c0 in
    let p1 = end_branches c bs pc in
    let end = end_stmts c o p1 in
    let k1 : c1 ≡ appended c0 (branches_code c bs pc t x end) = h1 ∙ ap (λ n. appended c0 (branches_code c bs pc t x n)) f in
    let l1 = next_place c0 c1 (branches_code c bs pc t x end) p1 k1 (branches_end c bs pc t x end) in
    put_two c0 c1 c2 (branches_code c bs pc t x end) (stmts_code c o p1 (next_branches c bs t) x) k1
    (h2 ∙ ap (λ n. appended c1 (stmts_code c o n u x)) l1 ∙ ap (λ n. appended c1 (stmts_code c o p1 n x)) g)

-- WITH: its branches, and what stands behind ELSE, or the trap
pub with_put : (c : Context) (bs : Branches) (o : Otherwise) (at : Pos) (t u x e : ℕ) (c0 c1 c2 : Coded) → e ≡ end_else c o (end_branches c bs (place_in c0)) → c1 ≡ appended c0 (branches_code c bs (place_in c0) t x e) → u ≡ next_branches c bs t → c2 ≡ appended c1 (else_code c trap.NoMatch at o (place_in c1) u x) → c2 ≡ appended c0 (stmt_code c (With bs o at) (place_in c0) t x)
with_put c bs o at t u x e c0 c1 c2 f h1 g h2 =
    let pc = place_in c0 in
    let p1 = end_branches c bs pc in
    let end = end_else c o p1 in
    let k1 : c1 ≡ appended c0 (branches_code c bs pc t x end) = h1 ∙ ap (λ n. appended c0 (branches_code c bs pc t x n)) f in
    let l1 = next_place c0 c1 (branches_code c bs pc t x end) p1 k1 (branches_end c bs pc t x end) in
    put_two c0 c1 c2 (branches_code c bs pc t x end) (else_code c trap.NoMatch at o p1 (next_branches c bs t) x) k1
    (h2 ∙ ap (λ n. appended c1 (else_code c trap.NoMatch at o n u x)) l1 ∙ ap (λ n. appended c1 (else_code c trap.NoMatch at o p1 n x)) g)

-- CASE: its value in a word, its cases, and what stands behind ELSE, or the trap
pub case_put : (c : Context) (v : Expr) (cs : Cases) (o : Otherwise) (at : Pos) (t s u x e : ℕ) (c0 c1 c2 c3 : Coded) → e ≡ end_else c o (end_cases c cs (suc (end_expr c want.Value v (suc (place_in c0))))) → c1 ≡ appended c0 (plain op.Local (count t) ∷ (expr_code c want.Value v (suc (place_in c0)) ++ bare op.Store ∷ [])) → s ≡ suc t → c2 ≡ appended c1 (cases_code c t cs (place_in c1) s x e) → u ≡ next_cases c cs s → c3 ≡ appended c2 (else_code c trap.NoCase at o (place_in c2) u x) → c3 ≡ appended c0 (stmt_code c (Case v cs o at) (place_in c0) t x)
case_put c v cs o at t s u x e c0 c1 c2 c3 f h1 i h2 g h3 =
    let pc = place_in c0 in
    let a = expr_code c want.Value v (suc pc) in
    let p1 = suc (end_expr c want.Value v (suc pc)) in
    let p2 = end_cases c cs p1 in
    let end = end_else c o p2 in
    let first = plain op.Local (count t) ∷ (a ++ bare op.Store ∷ []) in
    let n1 : p1 ≡ pc + length first = let k = expr_ends c want.Value v (suc pc) in let m = length-append a (bare op.Store ∷ []) in omega (arith, k, m) in
    let l1 = next_place c0 c1 first p1 h1 n1 in
    let b = cases_code c t cs p1 (suc t) x end in
    let k2 : c2 ≡ appended c1 b = h2 ∙ ap (λ n. appended c1 (cases_code c t cs n s x e)) l1 ∙ ap (λ n. appended c1 (cases_code c t cs p1 n x e)) i ∙ ap (λ n. appended c1 (cases_code c t cs p1 (suc t) x n)) f in
    let n2 : p2 ≡ place_in c1 + length b = let k = cases_end c t cs p1 (suc t) x end in let m = l1 in omega (arith, k, m) in
    let l2 = next_place c1 c2 b p2 k2 n2 in
    let d = else_code c trap.NoCase at o p2 (next_cases c cs (suc t)) x in
    let w : u ≡ next_cases c cs (suc t) = g ∙ ap (next_cases c cs) i in
    let k3 : c3 ≡ appended c2 d = h3 ∙ ap (λ n. appended c2 (else_code c trap.NoCase at o n u x)) l2 ∙ ap (λ n. appended c2 (else_code c trap.NoCase at o p2 n x)) w in
    put_three c0 c1 c2 c3 first b d h1 k2 k3
    ∙ ap (λ l. appended c0 (plain op.Local (count t) ∷ l)) (append_assoc a (bare op.Store ∷ []) (b ++ d))

-- FOR: its end in a word, its start, and then in a loop its test, a jump behind it that is aimed at last, its body, its step, and back
pub for_put : (c : Context) (v : Variable) (w : Width) (start stop : Expr) (step : ℤ) (body : Stmts) (at : Pos) (t s x : ℕ) (c0 c1 c2 c3 c4 c5 c6 c7 : Coded) (again over : ℕ)
    → c1 ≡ appended c0 (plain op.Local (count t) ∷ (expr_code c want.Value stop (suc (place_in c0)) ++ bare op.Store ∷ []))
    → c2 ≡ appended c1 (for_place c v ++ (expr_code c want.Value start (behind (for_place c v) (place_in c1)) ++ bare op.Store ∷ []))
    → again ≡ place_in c2
    → c3 ≡ appended c2 (for_value c v ++ (plain op.Local (count t) ∷ bare op.Load ∷ bare (within c step) ∷ []))
    → over ≡ place_in c3
    → c4 ≡ appended c3 (jump_if_false 0 ∷ [])
    → s ≡ suc t
    → c5 ≡ appended c4 (stmts_code c body (place_in c4) s x)
    → c6 ≡ appended c5 (for_place c v ++ (plain op.Int (Number step) ∷ placed op.Inc (count (bytes_of w)) at ∷ jump_back again at ∷ []))
    → c7 ≡ with_instr c6 over (instr op.JumpF (pos (place_in c6)) (pos 0))
    → c7 ≡ appended c0 (stmt_code c (For v w start stop step body at) (place_in c0) t x)
for_put c v w start stop step body at t s x c0 c1 c2 c3 c4 c5 c6 c7 again over h1 h2 e1 h3 e2 h4 e3 h5 h6 h7 =
    let pc = place_in c0 in
    let a = expr_code c want.Value stop (suc pc) in
    let p1 = suc (end_expr c want.Value stop (suc pc)) in
    let first = plain op.Local (count t) ∷ (a ++ bare op.Store ∷ []) in
    let n1 : p1 ≡ pc + length first = let k = expr_ends c want.Value stop (suc pc) in let m = length-append a (bare op.Store ∷ []) in omega (arith, k, m) in
    let l1 = next_place c0 c1 first p1 h1 n1 in
    let f = for_place c v in
    let q1 = behind f p1 in
    let b = expr_code c want.Value start q1 in
    let p2 = suc (end_expr c want.Value start q1) in
    let second = f ++ (b ++ bare op.Store ∷ []) in
    let k2 : c2 ≡ appended c1 second = h2 ∙ ap (λ n. appended c1 (f ++ (expr_code c want.Value start (behind f n) ++ bare op.Store ∷ []))) l1 in
    let n2 : p2 ≡ place_in c1 + length second = let k = expr_ends c want.Value start q1 in let j = behind_is f p1 in let m = length-append f (b ++ bare op.Store ∷ []) in let i = length-append b (bare op.Store ∷ []) in let l = l1 in omega (arith, k, j, m, i, l) in
    let l2 = next_place c1 c2 second p2 k2 n2 in
    let g = for_value c v in
    let third = g ++ (plain op.Local (count t) ∷ bare op.Load ∷ bare (within c step) ∷ []) in
    let q3 = suc (suc (suc (behind g p2))) in
    let n3 : q3 ≡ place_in c2 + length third = let j = behind_is g p2 in let m = length-append g (plain op.Local (count t) ∷ bare op.Load ∷ bare (within c step) ∷ []) in let l = l2 in omega (arith, j, m, l) in
    let l3 = next_place c2 c3 third q3 h3 n3 in
    let p3 = end_for_test c v p2 in
    let l4 : place_in c4 ≡ p3 = next_place c3 c4 (jump_if_false 0 ∷ []) p3 h4 (let l = l3 in omega (arith, l)) in
    let d = stmts_code c body p3 (suc t) x in
    let p4 = end_stmts c body p3 in
    let k5 : c5 ≡ appended c4 d = h5 ∙ ap (λ n. appended c4 (stmts_code c body n s x)) l4 ∙ ap (λ n. appended c4 (stmts_code c body p3 n x)) e3 in
    let l5 = next_place c4 c5 d p4 k5 (let k = stmts_end c body p3 (suc t) x in let l = l4 in omega (arith, k, l)) in
    let last = plain op.Int (Number step) ∷ placed op.Inc (count (bytes_of w)) at ∷ jump_back p2 at ∷ [] in
    let z : again ≡ p2 = e1 ∙ l2 in
    let k6 : c6 ≡ appended c5 (f ++ last) = h6 ∙ ap (λ n. appended c5 (f ++ (plain op.Int (Number step) ∷ placed op.Inc (count (bytes_of w)) at ∷ jump_back n at ∷ []))) z in
    let end = suc (end_for_step c v p4) in
    let l6 = next_place c5 c6 (f ++ last) end k6 (let j = behind_is f p4 in let m = length-append f last in let l = l5 in omega (arith, j, m, l)) in
    let k7 : c7 ≡ with_instr c6 over (instr op.JumpF (pos end) (pos 0)) = h7 ∙ ap (λ n. with_instr c6 over (instr op.JumpF (pos n) (pos 0))) l6 in
    put_aimed c0 c3 c4 c6 c7 (first ++ (second ++ third)) (d ++ (f ++ last)) op.JumpF 0 end over (put_three c0 c1 c2 c3 first second third h1 k2 h3) e2 h4 (put_two c4 c5 c6 d (f ++ last) k5 k6) k7
    ∙ ap (appended c0) (simp append_assoc)

-- ---- the branches of IF and WITH

-- a branch: its test, a jump behind it that is aimed at last, its body, and a jump to the end
pub branch_put : (c : Context) (test : Expr) (body : Stmts) (t x e : ℕ) (c0 c1 c2 c3 c4 c5 : Coded) (n : ℕ) → c1 ≡ appended c0 (expr_code c want.Value test (place_in c0)) → n ≡ place_in c1 → c2 ≡ appended c1 (jump_if_false 0 ∷ []) → c3 ≡ appended c2 (stmts_code c body (place_in c2) t x) → c4 ≡ appended c3 (jump e ∷ []) → c5 ≡ with_instr c4 n (instr op.JumpF (pos (place_in c4)) (pos 0)) → c5 ≡ appended c0 (branches_code c (Branch test body NoBranch) (place_in c0) t x e)
branch_put c test body t x e c0 c1 c2 c3 c4 c5 n h1 m h2 h3 h4 h5 =
    let pc = place_in c0 in
    let a = expr_code c want.Value test pc in
    let p1 = end_expr c want.Value test pc in
    let l1 = next_place c0 c1 a p1 h1 (expr_ends c want.Value test pc) in
    let l2 : place_in c2 ≡ suc p1 = next_place c1 c2 (jump_if_false 0 ∷ []) (suc p1) h2 (let v = l1 in omega (arith, v)) in
    let b = stmts_code c body (suc p1) t x in
    let p2 = end_stmts c body (suc p1) in
    let k3 : c3 ≡ appended c2 b = h3 ∙ ap (λ q. appended c2 (stmts_code c body q t x)) l2 in
    let l3 : place_in c3 ≡ p2 = next_place c2 c3 b p2 k3 (let v = l2 in let u = stmts_end c body (suc p1) t x in omega (arith, v, u)) in
    let l4 : place_in c4 ≡ suc p2 = next_place c3 c4 (jump e ∷ []) (suc p2) h4 (let v = l3 in omega (arith, v)) in
    let k5 : c5 ≡ with_instr c4 n (instr op.JumpF (pos (suc p2)) (pos 0)) = h5 ∙ ap (λ q. with_instr c4 n (instr op.JumpF (pos q) (pos 0))) l4 in
    put_aimed c0 c1 c2 c4 c5 a (b ++ jump e ∷ []) op.JumpF 0 (suc p2) n h1 m h2 (put_two c2 c3 c4 b (jump e ∷ []) k3 h4) k5

-- a branch more, in a loop
pub branches_turn : (c : Context) (es : List TypedBranch) (i : ℕ) (d : TypedBranch) (t u x e : ℕ) (c0 c1 whole : Coded) → i < length es → c1 ≡ appended c0 (branches_code c (Branch (expr_view (get_or es i d).test) (stmts_view (get_or es i d).body) NoBranch) (place_in c0) t x e) → u ≡ next_stmts c (stmts_view (get_or es i d).body) t → appended c0 (branches_code c (branches_view (drop i es)) (place_in c0) t x e) ≡ whole → appended c1 (branches_code c (branches_view (drop (i + 1) es)) (place_in c1) u x e) ≡ whole
branches_turn c es i d t u x e c0 c1 whole lt h g inv =
    let o = get_or es i d in
    let test = expr_view o.test in
    let body = stmts_view o.body in
    let rest = branches_view (drop (i + 1) es) in
    let pc = place_in c0 in
    let p1 = end_expr c want.Value test pc in
    let p2 = end_stmts c body (suc p1) in
    let a = expr_code c want.Value test pc in
    let b = stmts_code c body (suc p1) t x in
    let one = a ++ (jump_if_false (suc p2) ∷ (b ++ jump e ∷ [])) in
    let more = branches_code c rest (suc p2) (next_stmts c body t) x e in
    let l1 = next_place c0 c1 one (suc p2) h (branches_end c (Branch test body NoBranch) pc t x e) in
    let is : whole ≡ appended c0 (branches_code c (Branch test body rest) pc t x e) =
    sym inv ∙ ap (λ l. appended c0 (branches_code c (branches_view l) pc t x e)) (drop_more es i d lt) ∙ ap (λ bs. appended c0 (branches_code c bs pc t x e)) (view_branches o (drop (i + 1) es)) in
    put_two c0 c1 (appended c1 (branches_code c rest (place_in c1) u x e)) one more h (ap (λ n. appended c1 (branches_code c rest n u x e)) l1 ∙ ap (λ n. appended c1 (branches_code c rest (suc p2) n x e)) g)
    ∙ ap (appended c0) (simp append_assoc) ∙ sym is

pub branches_next : (c : Context) (es : List TypedBranch) (i : ℕ) (d : TypedBranch) (t u whole : ℕ) → i < length es → u ≡ next_stmts c (stmts_view (get_or es i d).body) t → next_branches c (branches_view (drop i es)) t ≡ whole → next_branches c (branches_view (drop (i + 1) es)) u ≡ whole
branches_next c es i d t u whole lt g inv =
    ap (next_branches c (branches_view (drop (i + 1) es))) g
    ∙ sym (ap (λ l. next_branches c (branches_view l) t) (drop_more es i d lt) ∙ ap (λ bs. next_branches c bs t) (view_branches (get_or es i d) (drop (i + 1) es))) ∙ inv

pub branches_over : (c : Context) (es : List TypedBranch) (i t x e : ℕ) (c0 whole : Coded) → length es ≤ i → appended c0 (branches_code c (branches_view (drop i es)) (place_in c0) t x e) ≡ whole → c0 ≡ whole
branches_over c es i t x e c0 whole past inv = appended_none c0 ∙ ap (λ l. appended c0 (branches_code c (branches_view l) (place_in c0) t x e)) (sym (drop_all i es past)) ∙ inv

pub branches_next_over : (c : Context) (es : List TypedBranch) (i t whole : ℕ) → length es ≤ i → next_branches c (branches_view (drop i es)) t ≡ whole → t ≡ whole
branches_next_over c es i t whole past inv = ap (λ l. next_branches c (branches_view l) t) (sym (drop_all i es past)) ∙ inv

-- ---- the cases of CASE

-- a label more, in a loop
pub labels_turn : (c : Context) (k : ℕ) (es : List Label) (i : ℕ) (d : Label) (body : ℕ) (c0 c1 whole : Coded) → i < length es → c1 ≡ appended c0 (label_code c k (get_or es i d) (place_in c0) body) → appended c0 (labels_code c k (drop i es) (place_in c0) body) ≡ whole → appended c1 (labels_code c k (drop (i + 1) es) (place_in c1) body) ≡ whole
labels_turn c k es i d body c0 c1 whole lt h inv =
    let o = get_or es i d in
    let pc = place_in c0 in
    let n1 : end_label c pc ≡ pc + length (label_code c k o pc body) = omega arith in
    let l1 = next_place c0 c1 (label_code c k o pc body) (end_label c pc) h n1 in
    put_two c0 c1 (appended c1 (labels_code c k (drop (i + 1) es) (place_in c1) body)) (label_code c k o pc body) (labels_code c k (drop (i + 1) es) (end_label c pc) body) h (ap (λ n. appended c1 (labels_code c k (drop (i + 1) es) n body)) l1)
    ∙ sym (ap (λ l. appended c0 (labels_code c k l pc body)) (drop_more es i d lt)) ∙ inv

pub labels_over : (c : Context) (k : ℕ) (es : List Label) (i body : ℕ) (c0 whole : Coded) → length es ≤ i → appended c0 (labels_code c k (drop i es) (place_in c0) body) ≡ whole → c0 ≡ whole
labels_over c k es i body c0 whole past inv = appended_none c0 ∙ ap (λ l. appended c0 (labels_code c k l (place_in c0) body)) (sym (drop_all i es past)) ∙ inv

-- a case: its labels, a jump behind it that is aimed at last, its body, and a jump to the end
pub case_one_put : (c : Context) (k : ℕ) (labels : List Label) (body : Stmts) (t x e s : ℕ) (c0 c1 c2 c3 c4 c5 : Coded) (n : ℕ) → s ≡ suc (end_labels c labels (place_in c0)) → c1 ≡ appended c0 (labels_code c k labels (place_in c0) s) → n ≡ place_in c1 → c2 ≡ appended c1 (jump 0 ∷ []) → c3 ≡ appended c2 (stmts_code c body (place_in c2) t x) → c4 ≡ appended c3 (jump e ∷ []) → c5 ≡ with_instr c4 n (instr op.Jump (pos (place_in c4)) (pos 0)) → c5 ≡ appended c0 (cases_code c k (OneCase labels body NoCase) (place_in c0) t x e)
case_one_put c k labels body t x e s c0 c1 c2 c3 c4 c5 n f h1 m h2 h3 h4 h5 =
    let pc = place_in c0 in
    let p1 = end_labels c labels pc in
    let a = labels_code c k labels pc (suc p1) in
    let k1 : c1 ≡ appended c0 a = h1 ∙ ap (λ q. appended c0 (labels_code c k labels pc q)) f in
    let l1 = next_place c0 c1 a p1 k1 (labels_end c k labels pc (suc p1)) in
    let l2 : place_in c2 ≡ suc p1 = next_place c1 c2 (jump 0 ∷ []) (suc p1) h2 (let v = l1 in omega (arith, v)) in
    let b = stmts_code c body (suc p1) t x in
    let p2 = end_stmts c body (suc p1) in
    let k3 : c3 ≡ appended c2 b = h3 ∙ ap (λ q. appended c2 (stmts_code c body q t x)) l2 in
    let l3 : place_in c3 ≡ p2 = next_place c2 c3 b p2 k3 (let v = l2 in let u = stmts_end c body (suc p1) t x in omega (arith, v, u)) in
    let l4 : place_in c4 ≡ suc p2 = next_place c3 c4 (jump e ∷ []) (suc p2) h4 (let v = l3 in omega (arith, v)) in
    let k5 : c5 ≡ with_instr c4 n (instr op.Jump (pos (suc p2)) (pos 0)) = h5 ∙ ap (λ q. with_instr c4 n (instr op.Jump (pos q) (pos 0))) l4 in
    put_aimed c0 c1 c2 c4 c5 a (b ++ jump e ∷ []) op.Jump 0 (suc p2) n k1 m h2 (put_two c2 c3 c4 b (jump e ∷ []) k3 h4) k5

-- a case more, in a loop
pub cases_turn : (c : Context) (k : ℕ) (es : List TypedCase) (i : ℕ) (d : TypedCase) (t u x e : ℕ) (c0 c1 whole : Coded) → i < length es → c1 ≡ appended c0 (cases_code c k (OneCase (get_or es i d).labels (stmts_view (get_or es i d).body) NoCase) (place_in c0) t x e) → u ≡ next_stmts c (stmts_view (get_or es i d).body) t → appended c0 (cases_code c k (cases_view (drop i es)) (place_in c0) t x e) ≡ whole → appended c1 (cases_code c k (cases_view (drop (i + 1) es)) (place_in c1) u x e) ≡ whole
cases_turn c k es i d t u x e c0 c1 whole lt h g inv =
    let o = get_or es i d in
    let labels = o.labels in
    let body = stmts_view o.body in
    let rest = cases_view (drop (i + 1) es) in
    let pc = place_in c0 in
    let p1 = end_labels c labels pc in
    let p2 = end_stmts c body (suc p1) in
    let a = labels_code c k labels pc (suc p1) in
    let b = stmts_code c body (suc p1) t x in
    let one = a ++ (jump (suc p2) ∷ (b ++ jump e ∷ [])) in
    let more = cases_code c k rest (suc p2) (next_stmts c body t) x e in
    let l1 = next_place c0 c1 one (suc p2) h (cases_end c k (OneCase labels body NoCase) pc t x e) in
    let is : whole ≡ appended c0 (cases_code c k (OneCase labels body rest) pc t x e) =
    sym inv ∙ ap (λ l. appended c0 (cases_code c k (cases_view l) pc t x e)) (drop_more es i d lt) ∙ ap (λ cs. appended c0 (cases_code c k cs pc t x e)) (view_cases o (drop (i + 1) es)) in
    put_two c0 c1 (appended c1 (cases_code c k rest (place_in c1) u x e)) one more h (ap (λ n. appended c1 (cases_code c k rest n u x e)) l1 ∙ ap (λ n. appended c1 (cases_code c k rest (suc p2) n x e)) g)
    ∙ ap (appended c0) (simp append_assoc) ∙ sym is

pub cases_next : (c : Context) (es : List TypedCase) (i : ℕ) (d : TypedCase) (t u whole : ℕ) → i < length es → u ≡ next_stmts c (stmts_view (get_or es i d).body) t → next_cases c (cases_view (drop i es)) t ≡ whole → next_cases c (cases_view (drop (i + 1) es)) u ≡ whole
cases_next c es i d t u whole lt g inv =
    ap (next_cases c (cases_view (drop (i + 1) es))) g
    ∙ sym (ap (λ l. next_cases c (cases_view l) t) (drop_more es i d lt) ∙ ap (λ cs. next_cases c cs t) (view_cases (get_or es i d) (drop (i + 1) es))) ∙ inv

pub cases_over : (c : Context) (k : ℕ) (es : List TypedCase) (i t x e : ℕ) (c0 whole : Coded) → length es ≤ i → appended c0 (cases_code c k (cases_view (drop i es)) (place_in c0) t x e) ≡ whole → c0 ≡ whole
cases_over c k es i t x e c0 whole past inv = appended_none c0 ∙ ap (λ l. appended c0 (cases_code c k (cases_view l) (place_in c0) t x e)) (sym (drop_all i es past)) ∙ inv

pub cases_next_over : (c : Context) (es : List TypedCase) (i t whole : ℕ) → length es ≤ i → next_cases c (cases_view (drop i es)) t ≡ whole → t ≡ whole
cases_next_over c es i t whole past inv = ap (λ l. next_cases c (cases_view l) t) (sym (drop_all i es past)) ∙ inv
