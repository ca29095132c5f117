-- The code of statements stands as the law of simulation asks.
use Rattle.std.proofs.Common.{◌≡◌, ℕ, suc, ◌+◌, ◌<◌, List, [], ◌∷◌, ◌++◌, length, ℤ, refl, sym, ap, ◌∙◌, subst, arith, Option, Some, None}
use Rattle.std.specs.Prelude.{pos}
use Rattle.ob_trap.specs.declared.trap.Trap.{Trap}
use Rattle.ob_trap.specs.declared.trap.Trap.TheVariants as trap
use Rattle.ob_trap.specs.Numbers.{trap_number}
use Rattle.ob_tree.specs.declared.pos.Pos.{Pos}
use Rattle.ob_types.specs.declared.types.TypeRef.TheVariants as ref
use Rattle.ob_types.specs.declared.types.Basic.TheVariants as basic
use Rattle.ob_types.specs.declared.typed.Variable.{Variable}
use Rattle.ob_types.specs.declared.typed.Width.{Width}
use Rattle.ob_types.specs.TypedSyntax.{Expr, Stmt, Assign, CallProper, Updated, Copy, New, NewOpenArray, Assert, Halt, If, Case, While, Repeat, For, Loop, Exit, Return, With, Stmts, Nothing, Then, Branches, NoBranch, Branch, Cases, NoCase, OneCase, Otherwise, NoElse, Else, Call, CallVariable}
use Rattle.ob_instr.specs.declared.opcode.Opcode.{Opcode}
use Rattle.ob_instr.specs.declared.opcode.Opcode.TheVariants as op
use Rattle.ob_meaning.specs.Values.{form_in}
use Rattle.ob_meaning.specs.Meaning.{hidden}
use Rattle.ob_meaning.specs.Globals.{texts_of_all, texts_of_optional, texts_of_branches, texts_of_cases, texts_of_else}
use Rattle.ob_meaning.specs.Calls.{hidden_of, hidden_of_all, hidden_of_branches, hidden_of_cases, hidden_of_else}
use Rattle.ob_scheme.specs.Lines.{Line, Number, count, plain, placed, bare, bare_at, jump, jump_if_false, jump_back, jump_back_if_false, behind}
use Rattle.ob_scheme.specs.Context.{Context, words}
use Rattle.ob_scheme.specs.Operations.{bytes_of, update_line}
use Rattle.ob_scheme.specs.declared.want.Want.TheVariants as want
use Rattle.ob_scheme.specs.Expressions as scheme
use Rattle.ob_scheme.specs.Statements as scheme_of
use Rattle.ob_scheme.specs.Statements.{for_place, for_value, within, new_line, labels_code, next_stmt, next_stmts, next_branches, next_cases}
use Rattle.law_simulation_relation.specs.Layout.{slot}
use Rattle.law_simulation_relation.specs.Ends.{end_variable, end_test, end_place, end_expr, end_optional, end_labels, end_stmt, end_stmts, end_branches, end_cases, end_else}
use Rattle.law_simulation_relation.specs.Stands as code
use Rattle.law_simulation_relation.specs.Stands.{Scope, Has, HasAt, OptionalCode, StmtCode, StmtsCode, BranchesCode, CasesCode, ElseCode, with_a, bytes, hidden_slot, dt, et, st, sst, for_code}
use Rattle.law_image_code.specs.Standing.{LineStands, Behind}
use Rattle.law_image_code.specs.Fits.{IsThere, StepFits, VariableGives, ExprFits, ResultFits, StmtFits, StmtsFit, BranchesFit, CasesFit, ElseFits, ProperFits}
use Rattle.law_image_code.specs.Agrees.{Agrees}
use Rattle.law_image_code.specs.Wanted.{desig_end, expr_end}
use Rattle.law_image_code.proofs.Ends.{expr_ends, value_place, counter_value, counter_place, labels_end, stmt_ends, stmts_end, branches_end, cases_end, else_ends}
use Rattle.law_image_code.proofs.Lines.{apart, apart_two, next, moved, texts_on, no_texts, inside, has_line, has_at}
use Rattle.law_image_code.proofs.Pieces.{bytes_same, update_stands, variable_stands}
use Rattle.law_image_code.proofs.Expressions.{D, E, value_texts, array_texts, on_expr, jump_stands, desig_stands, expr_stands}
use Rattle.law_image_code.proofs.Counters.{HiddenAt, hidden_apart, stmt_next, stmts_next, branches_next, cases_next}
use Rattle.law_image_code.proofs.Assignments.{within_same, place_and_value, assigned_stands, made_stands, labels_past, labels_stand}

module _ (sc : Scope) (c : Context) (ag : Agrees sc c) where
  -- the scheme's code
  abbrev pub S : Stmt → (pc t x : ℕ) → List Line
  S s pc t x = scheme_of.stmt_code c s pc t x

  abbrev pub SS : Stmts → (pc t x : ℕ) → List Line
  SS s pc t x = scheme_of.stmts_code c s pc t x

  abbrev pub BS : Branches → (pc t x end : ℕ) → List Line
  BS bs pc t x end = scheme_of.branches_code c bs pc t x end

  abbrev pub CS : ℕ → Cases → (pc t x end : ℕ) → List Line
  CS k cs pc t x end = scheme_of.cases_code c k cs pc t x end

  abbrev pub EL : Trap → Pos → Otherwise → (pc t x : ℕ) → List Line
  EL kind p o pc t x = scheme_of.else_code c kind p o pc t x

  abbrev ee : Expr → ℕ → ℕ
  ee e pc = end_expr sc.program e pc

  abbrev H : List Pos → ℕ → Type 0
  H ps t = HiddenAt sc ps t

  on_stmts : (s : Stmts) (p q t u x y : ℕ) (k r : ℕ) (rest : List Line) → p ≡ q → t ≡ u → x ≡ y → k ≡ r → Behind sc (SS s p t x ++ rest) q k → Behind sc (SS s q u y ++ rest) q r
  on_stmts s p q t u x y k r rest h i j m b = subst (λ n. Behind sc (SS s n u y ++ rest) q r) h (subst (λ n. Behind sc (SS s p n y ++ rest) q r) i (subst (λ n. Behind sc (SS s p t n ++ rest) q r) j (moved sc _ _ refl m b)))

  value_stands : (e : Expr) (pc at : ℕ) (rest : List Line) → ExprFits sc.program c want.Value e → Behind sc (E sc c ag want.Value e pc ++ rest) pc at → code.ExprCode sc e pc at × Behind sc rest (ee e pc) (at + et sc e)
  value_stands e pc at rest f h =
      let r = expr_stands sc c ag want.Value e pc at rest f h in
      (r.0, moved sc _ _ refl (ap (λ m. at + m) (value_texts sc c ag e)) r.1)

  -- the code of a call does not ask whether there is a result
  proper_stands : (e : Expr) (pc at : ℕ) (rest : List Line) → ProperFits sc.program c e → Behind sc (E sc c ag want.Value e pc ++ rest) pc at → code.ExprCode sc e pc at × Behind sc rest (ee e pc) (at + et sc e)
  proper_stands (Call callee es p t) pc at rest f h = value_stands (Call callee es p (Some (ref.Basic basic.Boolean))) pc at rest (tt, (tt, f)) h
  proper_stands (CallVariable d es p t) pc at rest f h = value_stands (CallVariable d es p t) pc at rest (tt, f) h
  proper_stands e pc at rest f h = absurd f

  -- an expression of which the scheme's place is the law's
  value_on : (e : Expr) (p pc at : ℕ) (rest : List Line) → p ≡ pc → ExprFits sc.program c want.Value e → Behind sc (E sc c ag want.Value e p ++ rest) pc at → code.ExprCode sc e pc at × Behind sc rest (ee e pc) (at + et sc e)
  value_on e p pc at rest h f b = value_stands e pc at rest f (on_expr sc c ag want.Value e p pc _ _ rest h refl b)

  ends : (e : Expr) (pc : ℕ) → ExprFits sc.program c want.Value e → scheme.end_expr c want.Value e pc ≡ ee e pc
  ends e pc f = expr_ends c sc.program ag.described want.Value e pc f

  local_at : (k : ℕ) (p : Pos) (pc at : ℕ) → slot sc.held (hidden p) ≡ k → LineStands sc (plain op.Local (count k)) pc at → Has sc pc (with_a op.Local (hidden_slot sc p))
  local_at k p pc at e h = subst (λ n. Has sc pc (with_a op.Local n)) (sym e) (has_line sc op.Local (pos k) (pos 0) None pc at h)

  jump_at : (o : Opcode) (t u pc at : ℕ) → t ≡ u → LineStands sc (plain o (count t)) pc at → Has sc pc (with_a o u)
  jump_at o t u pc at e h = jump_stands sc c ag o t u pc at e (has_line sc o (pos t) (pos 0) None pc at h)

  back_at : (o : Opcode) (t u : ℕ) (p : Pos) (pc at : ℕ) → t ≡ u → LineStands sc (placed o (count t) p) pc at → HasAt sc pc (with_a o u) p
  back_at o t u p pc at e h = subst (λ n. HasAt sc pc (with_a o n) p) e (has_at sc o (pos t) (pos 0) p pc at h)

  result_stands : (e : Option Expr) (pc at : ℕ) (rest : List Line) → ResultFits sc.program c e → Behind sc (scheme_of.result_code c e pc ++ rest) pc at → OptionalCode sc e pc at × Behind sc rest (suc (end_optional sc.program e pc)) (at + texts_of_optional (form_in sc.program) e)
  result_stands None pc at rest f h = (has_line sc op.Ret (pos 0) (pos 0) None pc at h.lines.0, no_texts sc (next sc h))
  result_stands (Some e) pc at rest f h =
      let r = value_stands e pc at (bare op.RetV ∷ rest) f (apart sc (E sc c ag want.Value e pc) _ rest pc at h) in
      ((r.0, has_line sc op.RetV (pos 0) (pos 0) None _ _ r.1.lines.0), next sc r.1)

  -- the variable of FOR
  counter_stands : (v : Variable) (pc at : ℕ) (rest : List Line) → IsThere c v → VariableGives sc.program c v want.Value (ref.Basic basic.LongInt) → Behind sc (for_place c v ++ rest) pc at → code.VariableCode sc v pc × Behind sc rest (end_variable v pc) at
  counter_stands v pc at rest f g h =
      let r = variable_stands sc c ag v want.Place (ref.Basic basic.LongInt) pc at rest f (value_place c sc.program ag.described v (ref.Basic basic.LongInt) g) h in
      (r.0, r.1)

  inc_at : (w : Width) (p : Pos) (pc at : ℕ) → LineStands sc (placed op.Inc (count (bytes_of w)) p) pc at → HasAt sc pc (with_a op.Inc (bytes w)) p
  inc_at w p pc at h = subst (λ n. HasAt sc pc (with_a op.Inc n) p) (bytes_same w) (has_at sc op.Inc (pos (bytes_of w)) (pos 0) p pc at h)

  step_at : (step : ℤ) (pc at : ℕ) → StepFits step → LineStands sc (bare (within c step)) pc at → Has sc pc (code.plain (for_code sc step))
  step_at step pc at f h = subst (λ o. Has sc pc (code.plain o)) (within_same sc c step f) (has_line sc (within c step) (pos 0) (pos 0) None pc at h)

  mutual
    pub stmt_stands : (s : Stmt) (pc t x at : ℕ) (rest : List Line) → StmtFits sc.program c s → H (hidden_of s) t → Behind sc (S s pc t x ++ rest) pc at → StmtCode sc s x pc at × Behind sc rest (end_stmt sc.program s pc) (at + st sc s)
    stmt_stands (Assign d how e p) pc t x at rest f hd h =
        let r = assigned_stands sc c ag how d e p pc at rest f.0 f.1.0 f.1.1 h in
        (r.0, texts_on sc at (dt sc d) (et sc e) r.1)
    stmt_stands (CallProper e) pc t x at rest f hd h = proper_stands e pc at rest f h
    stmt_stands (Updated o d e p) pc t x at rest f hd h =
        let r = place_and_value sc c ag d e (update_line o p) pc at rest f.0 f.1 h in
        let u = update_stands sc o p (ee e (end_place sc.program d pc)) _ rest r.1.1 in
        ((r.0, (r.1.0, u.0)), texts_on sc at (dt sc d) (et sc e) u.1)
    stmt_stands (Copy e d p) pc t x at rest f hd h =
        let q = scheme.end_expr c want.PlaceAndLength e pc in
        let p1 = expr_end sc.program want.PlaceAndLength e pc in
        let p2 = desig_end sc.program want.PlaceAndLength d p1 in
        let r = expr_stands sc c ag want.PlaceAndLength e pc at (D sc c ag want.PlaceAndLength d q ++ (bare_at op.StrCopy p ∷ rest)) f.0 (apart_two sc (E sc c ag want.PlaceAndLength e pc) (D sc c ag want.PlaceAndLength d q) _ rest pc at h) in
        let k = subst (λ n. Behind sc (D sc c ag want.PlaceAndLength d n ++ (bare_at op.StrCopy p ∷ rest)) p1 (at + et sc e)) (expr_ends c sc.program ag.described want.PlaceAndLength e pc f.0) (moved sc _ _ refl (ap (λ m. at + m) (array_texts sc c ag e)) r.1) in
        let s = desig_stands sc c ag want.PlaceAndLength d p1 (at + et sc e) (bare_at op.StrCopy p ∷ rest) f.1 k in
        ((r.0, (s.0, has_at sc op.StrCopy (pos 0) (pos 0) p p2 _ s.1.lines.0)), texts_on sc at (et sc e) (dt sc d) (next sc s.1))
    stmt_stands (New d what p) pc t x at rest f hd h =
        let r = desig_stands sc c ag want.Place d pc at (new_line c what p ∷ rest) f.0 (apart sc (D sc c ag want.Place d pc) _ rest pc at h) in
        let m = made_stands sc c ag what p (end_place sc.program d pc) _ rest f.1 r.1 in
        ((r.0, m.0), m.1)
    stmt_stands (NewOpenArray d a n p) pc t x at rest f hd h =
        let r = place_and_value sc c ag d n (placed op.NewO (count (words c a)) p) pc at rest f.0 f.1 h in
        let p2 = ee n (end_place sc.program d pc) in
        ((r.0, (r.1.0, subst (λ k. HasAt sc p2 (with_a op.NewO k) p) (ag.described.sizes a) (has_at sc op.NewO (pos (words c a)) (pos 0) p p2 _ r.1.1.lines.0))), texts_on sc at (dt sc d) (et sc n) (next sc r.1.1))
    stmt_stands (Assert e number p) pc t x at rest f hd h =
        let r = value_stands e pc at (placed op.Assert (Number number) p ∷ rest) f (apart sc (E sc c ag want.Value e pc) _ rest pc at h) in
        ((r.0, has_at sc op.Assert number (pos 0) p (ee e pc) _ r.1.lines.0), next sc r.1)
    stmt_stands (Halt number p) pc t x at rest f hd h = (has_at sc op.Trap (pos (trap_number trap.Halted)) number p pc at h.lines.0, no_texts sc (next sc h))
    stmt_stands (If branches otherwise) pc t x at rest f hd h =
        let q1 = scheme_of.end_branches c branches pc in
        let p1 = end_branches sc.program branches pc in
        let n = next_branches c branches t in
        let eb = branches_end c sc.program ag.described branches pc f.0 in
        let e2 = ap (scheme_of.end_stmts c otherwise) eb ∙ stmts_end c sc.program ag.described otherwise p1 f.1 in
        let hid = hidden_apart sc (hidden_of_branches branches) (hidden_of_all otherwise) t hd in
        let k = subst (λ m. Behind sc (BS branches pc t x m ++ (SS otherwise q1 n x ++ rest)) pc at) e2 (apart sc (BS branches pc t x (scheme_of.end_stmts c otherwise q1)) (SS otherwise q1 n x) rest pc at h) in
        let r = branches_stand branches pc t x (end_stmts sc.program otherwise p1) at (SS otherwise q1 n x ++ rest) f.0 hid.0 k in
        let s = stmts_stand otherwise p1 _ x _ rest f.1 hid.1 (on_stmts otherwise q1 p1 n _ x x _ _ rest eb (branches_next c branches t) refl refl r.1) in
        ((r.0 (inside sc rest _ _ s.1), s.0), texts_on sc at (texts_of_branches (form_in sc.program) branches) (texts_of_all (form_in sc.program) otherwise) s.1)
    stmt_stands (Case e cases otherwise p) pc t x at rest f hd h =
        let q1 = suc (scheme.end_expr c want.Value e (suc pc)) in
        let q2 = scheme_of.end_cases c cases q1 in
        let p1 = ee e (suc pc) in
        let p2 = end_cases sc.program cases (suc p1) in
        let p3 = end_else sc.program otherwise p2 in
        let n = next_cases c cases (suc t) in
        let e1 = ap suc (ends e (suc pc) f.0) in
        let e2 = ap (scheme_of.end_cases c cases) e1 ∙ cases_end c sc.program ag.described cases (suc p1) f.1.0 in
        let e3 = ap (scheme_of.end_else c otherwise) e2 ∙ else_ends c sc.program ag.described otherwise p2 f.1.1 in
        let hid = hidden_apart sc (hidden_of_cases cases) (hidden_of_else otherwise) (suc t) hd.1 in
        let a = CS t cases q1 (suc t) x (scheme_of.end_else c otherwise q2) in
        let b = EL trap.NoCase p otherwise q2 n x in
        let r = value_stands e (suc pc) at (bare op.Store ∷ ((a ++ b) ++ rest)) f.0 (apart sc (E sc c ag want.Value e (suc pc)) (bare op.Store ∷ (a ++ b)) rest (suc pc) at (next sc h)) in
        let k1 = apart sc a b rest (suc p1) (at + et sc e) (next sc r.1) in
        let k2 = subst (λ m. Behind sc (CS t cases q1 (suc t) x m ++ (b ++ rest)) (suc p1) (at + et sc e)) e3 k1 in
        let k3 = subst (λ m. Behind sc (CS t cases m (suc t) x p3 ++ (b ++ rest)) (suc p1) (at + et sc e)) e1 k2 in
        let s = cases_stand t p cases (suc p1) (suc t) x p3 (at + et sc e) (b ++ rest) f.1.0 hd.0 hid.0 k3 in
        let k4 = subst (λ m. Behind sc (EL trap.NoCase p otherwise q2 m x ++ rest) p2 (at + et sc e + texts_of_cases (form_in sc.program) cases)) (cases_next c cases (suc t)) s.1 in
        let k5 = subst (λ m. Behind sc (EL trap.NoCase p otherwise m (suc t + length (hidden_of_cases cases)) x ++ rest) p2 (at + et sc e + texts_of_cases (form_in sc.program) cases)) e2 k4 in
        let l = else_stands trap.NoCase p otherwise p2 _ x _ rest f.1.1 hid.1 k5 in
        let sum : at + et sc e + texts_of_cases (form_in sc.program) cases + texts_of_else (form_in sc.program) otherwise ≡ at + (et sc e + texts_of_cases (form_in sc.program) cases + texts_of_else (form_in sc.program) otherwise) = omega arith in
        ((local_at t p pc at hd.0 h.lines.0, (r.0, (has_line sc op.Store (pos 0) (pos 0) None p1 _ r.1.lines.0, (s.0 (inside sc rest p3 _ l.1), l.0)))), moved sc _ _ refl sum l.1)
    stmt_stands (While e body p) pc t x at rest f hd h =
        let q1 = scheme.end_expr c want.Value e pc in
        let q2 = scheme_of.end_stmts c body (suc q1) in
        let p1 = ee e pc in
        let p2 = end_stmts sc.program body (suc p1) in
        let e1 = ap suc (ends e pc f.0) in
        let e2 = ap (scheme_of.end_stmts c body) e1 ∙ stmts_end c sc.program ag.described body (suc p1) f.1 in
        let r = value_stands e pc at (jump_if_false (suc q2) ∷ ((SS body (suc q1) t x ++ jump_back pc p ∷ []) ++ rest)) f.0 (apart sc (E sc c ag want.Value e pc) _ rest pc at h) in
        let k = apart sc (SS body (suc q1) t x) (jump_back pc p ∷ []) rest (suc p1) (at + et sc e) (next sc r.1) in
        let s = stmts_stand body (suc p1) t x (at + et sc e) (jump_back pc p ∷ rest) f.1 hd (on_stmts body (suc q1) (suc p1) t t x x _ _ _ e1 refl refl refl k) in
        ((r.0, (jump_at op.JumpF (suc q2) (suc p2) p1 _ (ap suc e2) r.1.lines.0, (s.0, (has_at sc op.Jump (pos pc) (pos 0) p p2 _ s.1.lines.0, inside sc rest (suc p2) _ (next sc s.1))))), texts_on sc at (et sc e) (sst sc body) (next sc s.1))
    stmt_stands (Repeat body e p) pc t x at rest f hd h =
        let q1 = scheme_of.end_stmts c body pc in
        let p1 = end_stmts sc.program body pc in
        let r = stmts_stand body pc t x at (E sc c ag want.Value e q1 ++ (jump_back_if_false pc p ∷ rest)) f.0 hd (apart_two sc (SS body pc t x) (E sc c ag want.Value e q1) _ rest pc at h) in
        let s = value_on e q1 p1 (at + sst sc body) (jump_back_if_false pc p ∷ rest) (stmts_end c sc.program ag.described body pc f.0) f.1 r.1 in
        ((r.0, (s.0, (has_at sc op.JumpF (pos pc) (pos 0) p (ee e p1) _ s.1.lines.0, inside sc (jump_back_if_false pc p ∷ rest) (ee e p1) _ s.1))), texts_on sc at (sst sc body) (et sc e) (next sc s.1))
    stmt_stands (For v w start stop step body p) pc t x at rest f hd h =
        let s1 = scheme.end_expr c want.Value stop (suc pc) in
        let s2 = behind (for_place c v) (suc s1) in
        let s3 = suc (scheme.end_expr c want.Value start s2) in
        let s4 = scheme_of.end_for_test c v s3 in
        let s5 = scheme_of.end_stmts c body s4 in
        let p1 = ee stop (suc pc) in
        let p2 = end_variable v (suc p1) in
        let p3 = ee start p2 in
        let l = suc p3 in
        let l1 = end_variable v l in
        let b = suc (end_test v l) in
        let p4 = end_stmts sc.program body b in
        let p5 = end_variable v p4 in
        let e1 = ends stop (suc pc) f.1.1.0 in
        let e2 = ap (λ n. behind (for_place c v) (suc n)) e1 ∙ counter_place c sc.program ag.described v (suc p1) f.0.1 in
        let e3 = ap (λ n. suc (scheme.end_expr c want.Value start n)) e2 ∙ ap suc (ends start p2 f.1.0) in
        let e4 = ap (scheme_of.end_for_test c v) e3 ∙ ap (λ n. suc (suc (suc (suc n)))) (counter_value c sc.program ag.described v l f.0.1) in
        let e5 = ap (scheme_of.end_stmts c body) e4 ∙ stmts_end c sc.program ag.described body b f.1.1.1.1 in
        let e6 = ap (λ n. suc (scheme_of.end_for_step c v n)) e5 ∙ ap (λ n. suc (suc (suc n))) (counter_place c sc.program ag.described v p4 f.0.1) in
        let t6 = plain op.Int (Number step) ∷ placed op.Inc (count (bytes_of w)) p ∷ jump_back s3 p ∷ [] in
        let t5 = for_place c v ++ t6 in
        let t4 = plain op.Local (count t) ∷ bare op.Load ∷ bare (within c step) ∷ jump_if_false (suc (scheme_of.end_for_step c v s5)) ∷ (SS body s4 (suc t) x ++ t5) in
        let t3 = bare op.Store ∷ (for_value c v ++ t4) in
        let t2 = for_place c v ++ (E sc c ag want.Value start s2 ++ t3) in
        let r1 = value_stands stop (suc pc) at (bare op.Store ∷ (t2 ++ rest)) f.1.1.0 (apart sc (E sc c ag want.Value stop (suc pc)) (bare op.Store ∷ t2) rest (suc pc) at (next sc h)) in
        let k1 = at + et sc stop in
        let r2 = counter_stands v (suc p1) k1 (E sc c ag want.Value start s2 ++ (t3 ++ rest)) f.0.0 f.0.1 (apart_two sc (for_place c v) (E sc c ag want.Value start s2) t3 rest (suc p1) k1 (next sc r1.1)) in
        let r3 = value_on start s2 p2 k1 (t3 ++ rest) e2 f.1.0 r2.1 in
        let k2 = k1 + et sc start in
        let r4 = variable_stands sc c ag v want.Value (ref.Basic basic.LongInt) l k2 (t4 ++ rest) f.0.0 f.0.1 (apart sc (for_value c v) t4 rest l k2 (next sc r3.1)) in
        let x4 = r4.1.lines in
        let n4 = apart sc (SS body s4 (suc t) x) t5 rest b k2 (next sc (next sc (next sc (next sc r4.1)))) in
        let r5 = stmts_stand body b (suc t) x k2 (t5 ++ rest) f.1.1.1.1 hd.1 (on_stmts body s4 b (suc t) (suc t) x x _ _ _ e4 refl refl refl n4) in
        let k3 = k2 + sst sc body in
        let r6 = counter_stands v p4 k3 (t6 ++ rest) f.0.0 f.0.1 (apart sc (for_place c v) t6 rest p4 k3 r5.1) in
        let x6 = r6.1.lines in
        let last = next sc (next sc (next sc r6.1)) in
        let sum : k3 ≡ at + (et sc start + et sc stop + sst sc body) = omega arith in (
          (
            local_at t p pc at hd.0 h.lines.0,
            (
              r1.0,
              (
                has_line sc op.Store (pos 0) (pos 0) None p1 _ r1.1.lines.0,
                (
                  r2.0,
                  (
                    r3.0,
                    (
                      has_line sc op.Store (pos 0) (pos 0) None p3 _ r3.1.lines.0,
                      (
                        (r4.0.0, (r4.0.1, (local_at t p (suc l1) k2 hd.0 x4.0, (has_line sc op.Load (pos 0) (pos 0) None _ k2 x4.1.0, (step_at step _ k2 f.1.1.1.0 x4.1.1.0, jump_at op.JumpF _ _ _ k2 e6 x4.1.1.1.0))))),
                        (r5.0, (r6.0, (has_line sc op.Int step (pos 0) None p5 k3 x6.0, (inc_at w p (suc p5) k3 x6.1.0, (back_at op.Jump s3 l p (suc (suc p5)) k3 e3 x6.1.1.0, inside sc rest _ k3 last))))),
                      ),
                    ),
                  ),
                ),
              ),
            ),
          ),
          moved sc _ _ refl sum last,
        )
    stmt_stands (Loop body p) pc t x at rest f hd h =
        let q1 = scheme_of.end_stmts c body pc in
        let p1 = end_stmts sc.program body pc in
        let k = apart sc (SS body pc t (suc q1)) (jump_back pc p ∷ []) rest pc at h in
        let s = stmts_stand body pc t (suc p1) at (jump_back pc p ∷ rest) f hd (on_stmts body pc pc t t (suc q1) (suc p1) _ _ _ refl refl (ap suc (stmts_end c sc.program ag.described body pc f)) refl k) in
        ((s.0, (has_at sc op.Jump (pos pc) (pos 0) p p1 _ s.1.lines.0, inside sc rest (suc p1) _ (next sc s.1))), next sc s.1)
    stmt_stands Exit pc t x at rest f hd h = (has_line sc op.Jump (pos x) (pos 0) None pc at h.lines.0, no_texts sc (next sc h))
    stmt_stands (Return e) pc t x at rest f hd h = result_stands e pc at rest f h
    stmt_stands (With branches otherwise p) pc t x at rest f hd h =
        let q1 = scheme_of.end_branches c branches pc in
        let p1 = end_branches sc.program branches pc in
        let n = next_branches c branches t in
        let eb = branches_end c sc.program ag.described branches pc f.0 in
        let e2 = ap (scheme_of.end_else c otherwise) eb ∙ else_ends c sc.program ag.described otherwise p1 f.1 in
        let hid = hidden_apart sc (hidden_of_branches branches) (hidden_of_else otherwise) t hd in
        let k = subst (λ m. Behind sc (BS branches pc t x m ++ (EL trap.NoMatch p otherwise q1 n x ++ rest)) pc at) e2 (apart sc (BS branches pc t x (scheme_of.end_else c otherwise q1)) (EL trap.NoMatch p otherwise q1 n x) rest pc at h) in
        let r = branches_stand branches pc t x (end_else sc.program otherwise p1) at (EL trap.NoMatch p otherwise q1 n x ++ rest) f.0 hid.0 k in
        let k4 = subst (λ m. Behind sc (EL trap.NoMatch p otherwise q1 m x ++ rest) p1 (at + texts_of_branches (form_in sc.program) branches)) (branches_next c branches t) r.1 in
        let k5 = subst (λ m. Behind sc (EL trap.NoMatch p otherwise m (t + length (hidden_of_branches branches)) x ++ rest) p1 (at + texts_of_branches (form_in sc.program) branches)) eb k4 in
        let l = else_stands trap.NoMatch p otherwise p1 _ x _ rest f.1 hid.1 k5 in
        ((r.0 (inside sc rest _ _ l.1), l.0), texts_on sc at (texts_of_branches (form_in sc.program) branches) (texts_of_else (form_in sc.program) otherwise) l.1)

    pub stmts_stand : (s : Stmts) (pc t x at : ℕ) (rest : List Line) → StmtsFit sc.program c s → H (hidden_of_all s) t → Behind sc (SS s pc t x ++ rest) pc at → StmtsCode sc s x pc at × Behind sc rest (end_stmts sc.program s pc) (at + sst sc s)
    stmts_stand Nothing pc t x at rest f hd h = (tt, no_texts sc h)
    stmts_stand (Then s more) pc t x at rest f hd h =
        let q1 = scheme_of.end_stmt c s pc in
        let n = next_stmt c s t in
        let hid = hidden_apart sc (hidden_of s) (hidden_of_all more) t hd in
        let r = stmt_stands s pc t x at (SS more q1 n x ++ rest) f.0 hid.0 (apart sc (S s pc t x) (SS more q1 n x) rest pc at h) in
        let k = stmts_stand more (end_stmt sc.program s pc) _ x _ rest f.1 hid.1 (on_stmts more q1 _ n _ x x _ _ rest (stmt_ends c sc.program ag.described s pc f.0) (stmt_next c s t) refl refl r.1) in
        ((r.0, k.0), texts_on sc at (st sc s) (sst sc more) k.1)

    pub branches_stand : (bs : Branches) (pc t x end at : ℕ) (rest : List Line) → BranchesFit sc.program c bs → H (hidden_of_branches bs) t → Behind sc (BS bs pc t x end ++ rest) pc at → (end < length sc.u.code → BranchesCode sc bs end x pc at) × Behind sc rest (end_branches sc.program bs pc) (at + texts_of_branches (form_in sc.program) bs)
    branches_stand NoBranch pc t x end at rest f hd h = (λ i. tt, no_texts sc h)
    branches_stand (Branch test body more) pc t x end at rest f hd h =
        let q1 = scheme.end_expr c want.Value test pc in
        let q2 = scheme_of.end_stmts c body (suc q1) in
        let p1 = ee test pc in
        let p2 = end_stmts sc.program body (suc p1) in
        let n = next_stmts c body t in
        let e1 = ap suc (ends test pc f.0) in
        let e2 = ap (scheme_of.end_stmts c body) e1 ∙ stmts_end c sc.program ag.described body (suc p1) f.1.0 in
        let hid = hidden_apart sc (hidden_of_all body) (hidden_of_branches more) t hd in
        let r = value_stands test pc at (jump_if_false (suc q2) ∷ ((SS body (suc q1) t x ++ (jump end ∷ BS more (suc q2) n x end)) ++ rest)) f.0 (apart sc (E sc c ag want.Value test pc) _ rest pc at h) in
        let k = apart sc (SS body (suc q1) t x) (jump end ∷ BS more (suc q2) n x end) rest (suc p1) (at + et sc test) (next sc r.1) in
        let s = stmts_stand body (suc p1) t x (at + et sc test) (jump end ∷ (BS more (suc q2) n x end ++ rest)) f.1.0 hid.0 (on_stmts body (suc q1) (suc p1) t t x x _ _ _ e1 refl refl refl k) in
        let k2 = subst (λ m. Behind sc (BS more (suc q2) m x end ++ rest) (suc p2) (at + et sc test + sst sc body)) (stmts_next c body t) (next sc s.1) in
        let k3 = subst (λ m. Behind sc (BS more (suc m) (t + length (hidden_of_all body)) x end ++ rest) (suc p2) (at + et sc test + sst sc body)) e2 k2 in
        let m = branches_stand more (suc p2) _ x end _ rest f.1.1 hid.1 k3 in
        let sum : at + et sc test + sst sc body + texts_of_branches (form_in sc.program) more ≡ at + (et sc test + sst sc body + texts_of_branches (form_in sc.program) more) = omega arith in (
          λ i. (r.0, (jump_at op.JumpF (suc q2) (suc p2) p1 _ (ap suc e2) r.1.lines.0, (s.0, (has_line sc op.Jump (pos end) (pos 0) None p2 _ s.1.lines.0, (inside sc _ (suc p2) _ k3, (i, m.0 i)))))),
          moved sc _ _ refl sum m.1,
        )

    pub cases_stand : (k : ℕ) (p : Pos) (cs : Cases) (pc t x end at : ℕ) (rest : List Line) → CasesFit sc.program c cs → slot sc.held (hidden p) ≡ k → H (hidden_of_cases cs) t → Behind sc (CS k cs pc t x end ++ rest) pc at → (end < length sc.u.code → CasesCode sc cs p end x pc at) × Behind sc rest (end_cases sc.program cs pc) (at + texts_of_cases (form_in sc.program) cs)
    cases_stand k p NoCase pc t x end at rest f hk hd h = (λ i. tt, no_texts sc h)
    cases_stand k p (OneCase labels body more) pc t x end at rest f hk hd h =
        let q1 = suc (scheme_of.end_labels c labels pc) in
        let q2 = scheme_of.end_stmts c body q1 in
        let p1 = end_labels sc.program labels pc in
        let p2 = end_stmts sc.program body p1 in
        let n = next_stmts c body t in
        let e1 = labels_end c sc.program ag.described labels pc in
        let e2 = ap (scheme_of.end_stmts c body) e1 ∙ stmts_end c sc.program ag.described body p1 f.0 in
        let hid = hidden_apart sc (hidden_of_all body) (hidden_of_cases more) t hd in
        let behind_it = (SS body q1 t x ++ (jump end ∷ CS k more (suc q2) n x end)) ++ rest in
        let h1 = apart sc (labels_code c k labels pc q1) (jump (suc q2) ∷ (SS body q1 t x ++ (jump end ∷ CS k more (suc q2) n x end))) rest pc at h in
        let k1 = moved sc _ _ e1 refl (next sc (labels_past sc c ag k labels pc q1 at (jump (suc q2) ∷ behind_it) h1)) in
        let k2 = apart sc (SS body q1 t x) (jump end ∷ CS k more (suc q2) n x end) rest p1 at k1 in
        let s = stmts_stand body p1 t x at (jump end ∷ (CS k more (suc q2) n x end ++ rest)) f.0 hid.0 (on_stmts body q1 p1 t t x x _ _ _ e1 refl refl refl k2) in
        let k3 = subst (λ m. Behind sc (CS k more (suc q2) m x end ++ rest) (suc p2) (at + sst sc body)) (stmts_next c body t) (next sc s.1) in
        let k4 = subst (λ m. Behind sc (CS k more (suc m) (t + length (hidden_of_all body)) x end ++ rest) (suc p2) (at + sst sc body)) e2 k3 in
        let m = cases_stand k p more (suc p2) _ x end _ rest f.1 hk hid.1 k4 in
        let h2 = subst (λ z. Behind sc (labels_code c k labels pc z ++ (jump (suc q2) ∷ behind_it)) pc at) e1 h1 in
        let h3 = subst (λ z. Behind sc (labels_code c k labels pc p1 ++ (jump (suc z) ∷ behind_it)) pc at) e2 h2 in (
          λ i. (labels_stand sc c ag k p labels pc p1 (suc p2) at behind_it hk (inside sc behind_it p1 at k1) (inside sc _ (suc p2) _ k4) h3, (s.0, (has_line sc op.Jump (pos end) (pos 0) None p2 _ s.1.lines.0, (i, m.0 i)))),
          texts_on sc at (sst sc body) (texts_of_cases (form_in sc.program) more) m.1,
        )

    pub else_stands : (kind : Trap) (p : Pos) (o : Otherwise) (pc t x at : ℕ) (rest : List Line) → ElseFits sc.program c o → H (hidden_of_else o) t → Behind sc (EL kind p o pc t x ++ rest) pc at → ElseCode sc o (HasAt sc pc (with_a op.Trap (trap_number kind)) p) x pc at × Behind sc rest (end_else sc.program o pc) (at + texts_of_else (form_in sc.program) o)
    else_stands kind p NoElse pc t x at rest f hd h = (has_at sc op.Trap (pos (trap_number kind)) (pos 0) p pc at h.lines.0, no_texts sc (next sc h))
    else_stands kind p (Else body) pc t x at rest f hd h = stmts_stand body pc t x at rest f hd h
