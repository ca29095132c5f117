-- Where the code ends: as many lines behind its start as it has.
use Rattle.std.proofs.Common.{◌≡◌, ℕ, suc, ◌+◌, List, [], ◌∷◌, ◌++◌, length, arith, length-append, Option, Some, None}
use Rattle.ob_trap.specs.declared.trap.Trap.{Trap}
use Rattle.ob_trap.specs.declared.trap.Trap.TheVariants as trap
use Rattle.ob_tree.specs.declared.pos.Pos.{Pos}
use Rattle.ob_types.specs.declared.typed.Connective.TheVariants as connective
use Rattle.ob_types.specs.declared.typed.Label.{Label}
use Rattle.ob_types.specs.TypedSyntax.{Desig, OfVariable, Field, Index, Deref, Guard, Expr, Constant, ValueOf, ProcedureValue, Monadic, Dyadic, Logical, CompareTexts, IsPointer, IsRecord, Length, Call, CallVariable, Actuals, NoActual, AnActual, Stmt, Assign, CallProper, Updated, Copy, New, NewOpenArray, Assert, Halt, If, Case, While, Repeat, For, Loop, Exit, Return, With, Stmts, Nothing, Then, Branches, NoBranch, Branch, Cases, NoCase, OneCase, Otherwise, NoElse, Else}
use Rattle.ob_instr.specs.declared.opcode.Opcode.TheVariants as op
use Rattle.ob_scheme.specs.Lines.{Line, Number, plain, placed, count, bare, jump, jump_if_false, jump_back, behind}
use Rattle.ob_scheme.specs.Context.{Context, words}
use Rattle.ob_scheme.specs.Operations.{unary_code, bytes_of}
use Rattle.ob_scheme.specs.declared.want.Want.{Want}
use Rattle.ob_scheme.specs.declared.want.Want.TheVariants as want
use Rattle.ob_scheme.specs.Expressions.{wanted, constant_code, index_want, guard_want, from_guard, from_place, from_pointer, variable_code, end_desig, end_expr, end_actuals, desig_code, expr_code, actuals_code}
use Rattle.ob_scheme.specs.Statements.{target_want, source_want, for_place, for_value, within, end_for_test, end_for_step, end_label, label_code, end_labels, labels_code, end_result, result_code, end_stmt, end_stmts, end_branches, end_cases, end_else, next_stmt, next_stmts, next_branches, next_cases, stmt_code, stmts_code, branches_code, cases_code, else_code}

pub behind_is : (l : List Line) (pc : ℕ) → behind l pc ≡ pc + length l
behind_is [] pc = omega arith
behind_is (x ∷ l) pc = omega (arith, behind_is l (suc pc))

-- a part, and lines behind it
pub ends_one : (a r : List Line) (pc p : ℕ) → p ≡ pc + length a → behind r p ≡ pc + length (a ++ r)
ends_one a r pc p h = omega (arith, h, behind_is r p, length-append a r)

-- two parts, and lines behind them
pub ends_two : (a b r : List Line) (pc p q : ℕ) → p ≡ pc + length a → q ≡ p + length b → behind r q ≡ pc + length (a ++ (b ++ r))
ends_two a b r pc p q h k = omega (arith, h, k, behind_is r q, length-append a (b ++ r), length-append b r)

pub ends_and : (a b : List Line) (x y z : Line) (pc p q : ℕ) → p ≡ pc + length a → q ≡ suc p + length b → suc (suc q) ≡ pc + length (a ++ (x ∷ (b ++ y ∷ z ∷ [])))
ends_and a b x y z pc p q h k = omega (arith, h, k, length-append a (x ∷ (b ++ y ∷ z ∷ [])), length-append b (y ∷ z ∷ []))

pub ends_or : (a b : List Line) (x y z : Line) (pc p q : ℕ) → p ≡ pc + length a → q ≡ suc (suc (suc p)) + length b → q ≡ pc + length (a ++ (x ∷ y ∷ z ∷ b))
ends_or a b x y z pc p q h k = omega (arith, h, k, length-append a (x ∷ y ∷ z ∷ b))

module _ (c : Context) where
  mutual
    pub desig_ends : (w : Want) (d : Desig) (pc : ℕ) → end_desig c w d pc ≡ pc + length (desig_code c w d pc)
    desig_ends w (OfVariable v t) pc = behind_is (variable_code c w v t) pc
    desig_ends w (Field d owner name t) pc = ends_one (desig_code c want.Place d pc) (_ ∷ from_place c w t) pc (end_desig c want.Place d pc) (desig_ends want.Place d pc)
    desig_ends w (Index d n i at t) pc =
        let p1 = end_desig c (index_want n) d pc in
        ends_two (desig_code c (index_want n) d pc) (expr_code c want.Value i p1) (_ ∷ from_place c w t) pc p1 (end_expr c want.Value i p1) (desig_ends (index_want n) d pc) (expr_ends want.Value i p1)
    desig_ends w (Deref d at t) pc = ends_one (desig_code c want.Value d pc) (from_pointer c w t at) pc (end_desig c want.Value d pc) (desig_ends want.Value d pc)
    desig_ends w (Guard d g target at t) pc = ends_one (desig_code c (guard_want g w) d pc) (_ ∷ from_guard c g w t) pc (end_desig c (guard_want g w) d pc) (desig_ends (guard_want g w) d pc)

    pub expr_ends : (w : Want) (e : Expr) (pc : ℕ) → end_expr c w e pc ≡ pc + length (expr_code c w e pc)
    expr_ends w (Constant v) pc = behind_is (constant_code w v) pc
    expr_ends w (ValueOf d) pc = desig_ends w d pc
    expr_ends w (ProcedureValue q signature) pc = omega arith
    expr_ends w (Monadic o e at) pc = ends_one (expr_code c want.Value e pc) (unary_code o at) pc (end_expr c want.Value e pc) (expr_ends want.Value e pc)
    expr_ends w (Dyadic o a b at) pc = ends_two (expr_code c want.Value a pc) (expr_code c want.Value b (end_expr c want.Value a pc)) (_ ∷ []) pc (end_expr c want.Value a pc) (end_expr c want.Value b (end_expr c want.Value a pc)) (expr_ends want.Value a pc) (expr_ends want.Value b (end_expr c want.Value a pc))
    expr_ends w (Logical connective.And a b) pc =
        let p1 = end_expr c want.Value a pc in
        ends_and (expr_code c want.Value a pc) (expr_code c want.Value b (suc p1)) _ _ _ pc p1 (end_expr c want.Value b (suc p1)) (expr_ends want.Value a pc) (expr_ends want.Value b (suc p1))
    expr_ends w (Logical connective.Or a b) pc =
        let p1 = end_expr c want.Value a pc in
        ends_or (expr_code c want.Value a pc) (expr_code c want.Value b (suc (suc (suc p1)))) _ _ _ pc p1 (end_expr c want.Value b (suc (suc (suc p1)))) (expr_ends want.Value a pc) (expr_ends want.Value b (suc (suc (suc p1))))
    expr_ends w (CompareTexts r a b at) pc = ends_two (expr_code c want.PlaceAndLength a pc) (expr_code c want.PlaceAndLength b (end_expr c want.PlaceAndLength a pc)) (_ ∷ []) pc (end_expr c want.PlaceAndLength a pc) (end_expr c want.PlaceAndLength b (end_expr c want.PlaceAndLength a pc)) (expr_ends want.PlaceAndLength a pc) (expr_ends want.PlaceAndLength b (end_expr c want.PlaceAndLength a pc))
    expr_ends w (IsPointer e target) pc = ends_one (expr_code c want.Value e pc) (_ ∷ []) pc (end_expr c want.Value e pc) (expr_ends want.Value e pc)
    expr_ends w (IsRecord d target) pc = ends_one (desig_code c want.Tag d pc) (_ ∷ []) pc (end_desig c want.Tag d pc) (desig_ends want.Tag d pc)
    expr_ends w (Length d) pc = desig_ends want.Length d pc
    expr_ends w (Call callee es at t) pc = ends_one (actuals_code c es pc) (_ ∷ []) pc (end_actuals c es pc) (actuals_end es pc)
    expr_ends w (CallVariable d es at t) pc = ends_two (desig_code c want.Value d pc) (actuals_code c es (end_desig c want.Value d pc)) (_ ∷ []) pc (end_desig c want.Value d pc) (end_actuals c es (end_desig c want.Value d pc)) (desig_ends want.Value d pc) (actuals_end es (end_desig c want.Value d pc))

    pub actuals_end : (es : Actuals) (pc : ℕ) → end_actuals c es pc ≡ pc + length (actuals_code c es pc)
    actuals_end NoActual pc = omega arith
    actuals_end (AnActual how t e rest) pc =
        let w = wanted (words c) how t in
        let p = end_expr c w e pc in
        omega (arith, expr_ends w e pc, actuals_end rest p, length-append (expr_code c w e pc) (actuals_code c rest p))

  pub labels_end : (t : ℕ) (ls : List Label) (pc body : ℕ) → end_labels c ls pc ≡ pc + length (labels_code c t ls pc body)
  labels_end t [] pc body = omega arith
  labels_end t (l ∷ ls) pc body = omega (arith, labels_end t ls (end_label c pc) body, length-append (label_code c t l pc body) (labels_code c t ls (end_label c pc) body))

  pub result_ends : (e : Option Expr) (pc : ℕ) → end_result c e pc ≡ pc + length (result_code c e pc)
  result_ends None pc = omega arith
  result_ends (Some e) pc = ends_one (expr_code c want.Value e pc) (_ ∷ []) pc (end_expr c want.Value e pc) (expr_ends want.Value e pc)

  mutual
    pub stmt_ends : (s : Stmt) (pc t x : ℕ) → end_stmt c s pc ≡ pc + length (stmt_code c s pc t x)
    stmt_ends (Assign d how e at) pc t x =
        let p1 = end_desig c (target_want how d) d pc in
        ends_two (desig_code c (target_want how d) d pc) (expr_code c (source_want how) e p1) (_ ∷ []) pc p1 (end_expr c (source_want how) e p1) (desig_ends (target_want how d) d pc) (expr_ends (source_want how) e p1)
    stmt_ends (CallProper e) pc t x = expr_ends want.Value e pc
    stmt_ends (Updated o d e at) pc t x =
        let p1 = end_desig c want.Place d pc in
        ends_two (desig_code c want.Place d pc) (expr_code c want.Value e p1) (_ ∷ []) pc p1 (end_expr c want.Value e p1) (desig_ends want.Place d pc) (expr_ends want.Value e p1)
    stmt_ends (Copy e d at) pc t x =
        let p1 = end_expr c want.PlaceAndLength e pc in
        ends_two (expr_code c want.PlaceAndLength e pc) (desig_code c want.PlaceAndLength d p1) (_ ∷ []) pc p1 (end_desig c want.PlaceAndLength d p1) (expr_ends want.PlaceAndLength e pc) (desig_ends want.PlaceAndLength d p1)
    stmt_ends (New d what at) pc t x = ends_one (desig_code c want.Place d pc) (_ ∷ []) pc (end_desig c want.Place d pc) (desig_ends want.Place d pc)
    stmt_ends (NewOpenArray d element n at) pc t x =
        let p1 = end_desig c want.Place d pc in
        ends_two (desig_code c want.Place d pc) (expr_code c want.Value n p1) (_ ∷ []) pc p1 (end_expr c want.Value n p1) (desig_ends want.Place d pc) (expr_ends want.Value n p1)
    stmt_ends (Assert e number at) pc t x = ends_one (expr_code c want.Value e pc) (_ ∷ []) pc (end_expr c want.Value e pc) (expr_ends want.Value e pc)
    stmt_ends (Halt number at) pc t x = omega arith
    stmt_ends (If branches otherwise) pc t x =
        let p1 = end_branches c branches pc in
        let end = end_stmts c otherwise p1 in
        omega (arith, branches_end branches pc t x end, stmts_end otherwise p1 (next_branches c branches t) x, length-append (branches_code c branches pc t x end) (stmts_code c otherwise p1 (next_branches c branches t) x))
    stmt_ends (Case e cases otherwise at) pc t x =
        let p0 = end_expr c want.Value e (suc pc) in
        let p1 = suc p0 in
        let p2 = end_cases c cases p1 in
        let end = end_else c otherwise p2 in
        let a = expr_code c want.Value e (suc pc) in
        let b = cases_code c t cases p1 (suc t) x end in
        let d = else_code c trap.NoCase at otherwise p2 (next_cases c cases (suc t)) x in
        omega (arith, expr_ends want.Value e (suc pc), cases_end t cases p1 (suc t) x end, else_ends trap.NoCase at otherwise p2 (next_cases c cases (suc t)) x, length-append a (bare op.Store ∷ (b ++ d)), length-append b d)
    stmt_ends (While e body at) pc t x =
        let p1 = end_expr c want.Value e pc in
        let p2 = end_stmts c body (suc p1) in
        let a = expr_code c want.Value e pc in
        let b = stmts_code c body (suc p1) t x in
        omega (arith, expr_ends want.Value e pc, stmts_end body (suc p1) t x, length-append a (jump_if_false (suc p2) ∷ (b ++ jump_back pc at ∷ [])), length-append b (jump_back pc at ∷ []))
    stmt_ends (Repeat body e at) pc t x =
        let p1 = end_stmts c body pc in
        ends_two (stmts_code c body pc t x) (expr_code c want.Value e p1) (_ ∷ []) pc p1 (end_expr c want.Value e p1) (stmts_end body pc t x) (expr_ends want.Value e p1)
    stmt_ends (For v w start stop step body at) pc t x =
        let p0 = end_expr c want.Value stop (suc pc) in
        let p1 = suc p0 in
        let q = behind (for_place c v) p1 in
        let p2 = suc (end_expr c want.Value start q) in
        let p3 = end_for_test c v p2 in
        let p4 = end_stmts c body p3 in
        let a = expr_code c want.Value stop (suc pc) in
        let b = expr_code c want.Value start q in
        let d = stmts_code c body p3 (suc t) x in
        let r6 = plain op.Int (Number step) ∷ placed op.Inc (count (bytes_of w)) at ∷ jump_back p2 at ∷ [] in
        let r5 = for_place c v ++ r6 in
        let r4 = plain op.Local (count t) ∷ bare op.Load ∷ bare (within c step) ∷ jump_if_false (suc (end_for_step c v p4)) ∷ (d ++ r5) in
        let r3 = bare op.Store ∷ (for_value c v ++ r4) in
        let r2 = for_place c v ++ (b ++ r3) in
        omega (arith, expr_ends want.Value stop (suc pc), behind_is (for_place c v) p1, expr_ends want.Value start q, behind_is (for_value c v) p2, stmts_end body p3 (suc t) x, behind_is (for_place c v) p4, length-append a (bare op.Store ∷ r2), length-append (for_place c v) (b ++ r3), length-append b r3, length-append (for_value c v) r4, length-append d r5, length-append (for_place c v) r6)
    stmt_ends (Loop body at) pc t x =
        let p1 = end_stmts c body pc in
        ends_one (stmts_code c body pc t (suc p1)) (_ ∷ []) pc p1 (stmts_end body pc t (suc p1))
    stmt_ends Exit pc t x = omega arith
    stmt_ends (Return e) pc t x = result_ends e pc
    stmt_ends (With branches otherwise at) pc t x =
        let p1 = end_branches c branches pc in
        let end = end_else c otherwise p1 in
        omega (arith, branches_end branches pc t x end, else_ends trap.NoMatch at otherwise p1 (next_branches c branches t) x, length-append (branches_code c branches pc t x end) (else_code c trap.NoMatch at otherwise p1 (next_branches c branches t) x))

    pub stmts_end : (s : Stmts) (pc t x : ℕ) → end_stmts c s pc ≡ pc + length (stmts_code c s pc t x)
    stmts_end Nothing pc t x = omega arith
    stmts_end (Then s rest) pc t x =
        omega (arith, stmt_ends s pc t x, stmts_end rest (end_stmt c s pc) (next_stmt c s t) x, length-append (stmt_code c s pc t x) (stmts_code c rest (end_stmt c s pc) (next_stmt c s t) x))

    pub branches_end : (bs : Branches) (pc t x end : ℕ) → end_branches c bs pc ≡ pc + length (branches_code c bs pc t x end)
    branches_end NoBranch pc t x end = omega arith
    branches_end (Branch test body rest) pc t x end =
        let p1 = end_expr c want.Value test pc in
        let p2 = end_stmts c body (suc p1) in
        let a = expr_code c want.Value test pc in
        let b = stmts_code c body (suc p1) t x in
        let r = branches_code c rest (suc p2) (next_stmts c body t) x end in
        omega (arith, expr_ends want.Value test pc, stmts_end body (suc p1) t x, branches_end rest (suc p2) (next_stmts c body t) x end, length-append a (jump_if_false (suc p2) ∷ (b ++ (jump end ∷ r))), length-append b (jump end ∷ r))

    pub cases_end : (k : ℕ) (cs : Cases) (pc t x end : ℕ) → end_cases c cs pc ≡ pc + length (cases_code c k cs pc t x end)
    cases_end k NoCase pc t x end = omega arith
    cases_end k (OneCase labels body rest) pc t x end =
        let p1 = end_labels c labels pc in
        let p2 = end_stmts c body (suc p1) in
        let a = labels_code c k labels pc (suc p1) in
        let b = stmts_code c body (suc p1) t x in
        let r = cases_code c k rest (suc p2) (next_stmts c body t) x end in
        omega (arith, labels_end k labels pc (suc p1), stmts_end body (suc p1) t x, cases_end k rest (suc p2) (next_stmts c body t) x end, length-append a (jump (suc p2) ∷ (b ++ (jump end ∷ r))), length-append b (jump end ∷ r))

    pub else_ends : (kind : Trap) (at : Pos) (o : Otherwise) (pc t x : ℕ) → end_else c o pc ≡ pc + length (else_code c kind at o pc t x)
    else_ends kind at NoElse pc t x = omega arith
    else_ends kind at (Else body) pc t x = stmts_end body pc t x
