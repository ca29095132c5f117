-- The code of statements is the same by maps that agree on what it reads.
use Rattle.std.proofs.Common.{◌≡◌, ℕ, suc, List, [], ◌∷◌, ◌++◌, Bool, true, false, Option, Some, None, refl, ap, ◌∙◌}
use Rattle.std.specs.List.{AllByRecursion}
use Rattle.ob_trap.specs.declared.trap.Trap.{Trap}
use Rattle.ob_trap.specs.declared.trap.Trap.TheVariants as trap
use Rattle.ob_tree.specs.declared.names.QName.{QName}
use Rattle.ob_tree.specs.declared.pos.Pos.{Pos}
use Rattle.ob_types.specs.declared.types.TypeRef.{TypeRef}
use Rattle.ob_types.specs.declared.types.TypeRef.TheVariants as ref
use Rattle.ob_types.specs.declared.typed.Assigned.{Assigned}
use Rattle.ob_types.specs.declared.typed.Assigned.TheVariants as assigned
use Rattle.ob_types.specs.declared.typed.Made.{Made}
use Rattle.ob_types.specs.declared.typed.Made.TheVariants as made
use Rattle.ob_types.specs.declared.typed.Label.{Label}
use Rattle.ob_types.specs.declared.typed.Variable.{Variable}
use Rattle.ob_types.specs.declared.typed.TypedParameter.{TypedParameter}
use Rattle.ob_types.specs.declared.typed.TypedVariable.{TypedVariable}
use Rattle.ob_types.specs.TypedKinds.{variable_type}
use Rattle.ob_types.specs.TypedSyntax.{Desig, Expr, Stmt, Assign, CallProper, Updated, Copy, New, NewOpenArray, Assert, Halt, If, Case, While, Repeat, For, Loop, Exit, Return, With, Stmts, Nothing, Then, Branches, NoBranch, Branch, Cases, NoCase, OneCase, Otherwise, NoElse, Else, Module}
use Rattle.ob_instr.specs.declared.opcode.Opcode.TheVariants as op
use Rattle.ob_scheme.specs.declared.want.Want.{Want}
use Rattle.ob_scheme.specs.declared.want.Want.TheVariants as want
use Rattle.ob_scheme.specs.Lines.{plain, placed, placed_two, count, jump, jump_if_false, jump_back, behind}
use Rattle.ob_scheme.specs.Context.{Context, words, type_operand}
use Rattle.ob_scheme.specs.Expressions.{end_desig, end_expr, desig_code, expr_code}
use Rattle.ob_scheme.specs.Statements.{has_tag, target_want, source_want, copy_record, assign_line, new_line, for_place, for_value, end_for_test, end_for_step, end_label, label_code, end_labels, labels_code, end_result, result_code, end_stmt, end_stmts, end_branches, end_cases, end_else, next_stmt, next_stmts, next_branches, next_cases, next_else, stmt_code, stmts_code, branches_code, cases_code, else_code}
use Rattle.law_local_files.specs.Agreeing.{Map, On, Agree}
use Rattle.law_local_files.specs.Read.{DesigRead, ExprRead, ResultRead, AssignedRead, MadeRead, StmtRead, StmtsRead, BranchesRead, CasesRead, ElseRead}
use Rattle.law_local_files.proofs.Joined.{after, join, cons}
use Rattle.law_local_files.proofs.Places.{with_map, sizes_told, variable_told}
use Rattle.law_local_files.proofs.Expressions.{desig_end, expr_end, desig_is, expr_is}

-- ---- what asks no map: labels, and the words of FOR and CASE

module _ (c b : Context) where
  labels_end : (ls : List Label) (pc : ℕ) → end_labels c ls pc ≡ end_labels b ls pc
  labels_end [] pc = refl
  labels_end (l ∷ ls) pc = labels_end ls (end_label c pc)

  labels_are : (t : ℕ) (ls : List Label) (pc body : ℕ) → labels_code c t ls pc body ≡ labels_code b t ls pc body
  labels_are t [] pc body = refl
  labels_are t (l ∷ ls) pc body = ap (λ r. label_code c t l pc body ++ r) (labels_are t ls (end_label c pc) body)

  mutual
    pub stmt_next : (s : Stmt) (t : ℕ) → next_stmt c s t ≡ next_stmt b s t
    stmt_next (If branches otherwise) t = after (λ k. stmts_next otherwise k) (branches_next branches t)
    stmt_next (Case e cases otherwise at) t = after (λ k. else_next otherwise k) (cases_next cases (suc t))
    stmt_next (While e body at) t = stmts_next body t
    stmt_next (Repeat body e at) t = stmts_next body t
    stmt_next (For v w start stop step body at) t = stmts_next body (suc t)
    stmt_next (Loop body at) t = stmts_next body t
    stmt_next (With branches otherwise at) t = after (λ k. else_next otherwise k) (branches_next branches t)
    stmt_next (Assign d how e at) t = refl
    stmt_next (CallProper e) t = refl
    stmt_next (Updated o d e at) t = refl
    stmt_next (Copy e d at) t = refl
    stmt_next (New d what at) t = refl
    stmt_next (NewOpenArray d u n at) t = refl
    stmt_next (Assert e number at) t = refl
    stmt_next (Halt number at) t = refl
    stmt_next Exit t = refl
    stmt_next (Return e) t = refl

    pub stmts_next : (ss : Stmts) (t : ℕ) → next_stmts c ss t ≡ next_stmts b ss t
    stmts_next Nothing t = refl
    stmts_next (Then s rest) t = after (λ k. stmts_next rest k) (stmt_next s t)

    pub branches_next : (bs : Branches) (t : ℕ) → next_branches c bs t ≡ next_branches b bs t
    branches_next NoBranch t = refl
    branches_next (Branch test body rest) t = after (λ k. branches_next rest k) (stmts_next body t)

    pub cases_next : (cs : Cases) (t : ℕ) → next_cases c cs t ≡ next_cases b cs t
    cases_next NoCase t = refl
    cases_next (OneCase labels body rest) t = after (λ k. cases_next rest k) (stmts_next body t)

    pub else_next : (o : Otherwise) (t : ℕ) → next_else c o t ≡ next_else b o t
    else_next NoElse t = refl
    else_next (Else body) t = stmts_next body t

module _ (map other : Map) (m : Module) (Shapes Layouts : QName → Type 0) (agree : Agree map other m.name Shapes Layouts) (globals : AllByRecursion (λ v. On Layouts v.of) m.variables) (ps : List TypedParameter) (vs : List TypedVariable) (locals : AllByRecursion (λ v. On Layouts v.of) vs) where
  abbrev here : Context
  here = with_map map m ps vs

  abbrev there : Context
  there = with_map other m ps vs

  de : (w : Want) (d : Desig) (pc : ℕ) → DesigRead Shapes Layouts d → end_desig here w d pc ≡ end_desig there w d pc
  de = desig_end map other m Shapes Layouts agree globals ps vs locals

  ee : (w : Want) (e : Expr) (pc : ℕ) → ExprRead Shapes Layouts e → end_expr here w e pc ≡ end_expr there w e pc
  ee = expr_end map other m Shapes Layouts agree globals ps vs locals

  di : (w : Want) (d : Desig) (pc : ℕ) → DesigRead Shapes Layouts d → desig_code here w d pc ≡ desig_code there w d pc
  di = desig_is map other m Shapes Layouts agree globals ps vs locals

  ei : (w : Want) (e : Expr) (pc : ℕ) → ExprRead Shapes Layouts e → expr_code here w e pc ≡ expr_code there w e pc
  ei = expr_is map other m Shapes Layouts agree globals ps vs locals

  size : (t : TypeRef) → On Layouts t → words here t ≡ words there t
  size = sizes_told map other m Shapes Layouts agree globals ps vs locals

  place_is : (v : Variable) → for_place here v ≡ for_place there v
  place_is v = variable_told map other m Shapes Layouts agree globals ps vs locals want.Place v _ tt

  value_is : (v : Variable) → for_value here v ≡ for_value there v
  value_is v = variable_told map other m Shapes Layouts agree globals ps vs locals want.Value v _ tt

  place_end : (v : Variable) (pc : ℕ) → behind (for_place here v) pc ≡ behind (for_place there v) pc
  place_end v pc = ap (λ l. behind l pc) (place_is v)

  test_end : (v : Variable) (pc : ℕ) → end_for_test here v pc ≡ end_for_test there v pc
  test_end v pc = ap (λ l. suc (suc (suc (suc (behind l pc))))) (value_is v)

  step_end : (v : Variable) (pc : ℕ) → end_for_step here v pc ≡ end_for_step there v pc
  step_end v pc = ap (λ l. suc (suc (behind l pc))) (place_is v)

  result_end : (e : Option Expr) (pc : ℕ) → ResultRead Shapes Layouts e → end_result here e pc ≡ end_result there e pc
  result_end None pc on = refl
  result_end (Some e) pc on = ap suc (ee want.Value e pc on)

  result_is : (e : Option Expr) (pc : ℕ) → ResultRead Shapes Layouts e → result_code here e pc ≡ result_code there e pc
  result_is None pc on = refl
  result_is (Some e) pc on = join (ei want.Value e pc on) refl

  record_is : (b : Bool) (q : QName) (at : Pos) → Layouts q → copy_record here b q at ≡ copy_record there b q at
  record_is true q at on = ap (λ k. placed_two op.CopyRec (count k) (type_operand here q) at) (size (ref.Named q) on)
  record_is false q at on = ap (λ k. plain op.Copy (count k)) (size (ref.Named q) on)

  assign_is : (how : Assigned) (d : Desig) (e : Expr) (at : Pos) → AssignedRead Shapes Layouts how d → assign_line here how d e at ≡ assign_line there how d e at
  assign_is assigned.Scalar d e at on = refl
  assign_is assigned.Text d e at on = refl
  assign_is assigned.Array d e at on = ap (λ k. plain op.Copy (count k)) (size (variable_type d) on)
  assign_is (assigned.Record q) d e at on = record_is (has_tag d) q at on

  new_is : (what : Made) (at : Pos) → MadeRead Shapes Layouts what → new_line here what at ≡ new_line there what at
  new_is (made.Record q) at on = refl
  new_is (made.Array t) at on = ap (λ k. placed op.NewA (count k) at) (size t on)

  -- WHERE THE CODE ENDS
  mutual
    pub stmt_end : (s : Stmt) (pc : ℕ) → StmtRead Shapes Layouts s → end_stmt (with_map map m ps vs) s pc ≡ end_stmt (with_map other m ps vs) s pc
    stmt_end (Assign d how e at) pc on = ap suc (after (λ k. ee (source_want how) e k on.1) (de (target_want how d) d pc on.0))
    stmt_end (CallProper e) pc on = ee want.Value e pc on
    stmt_end (Updated o d e at) pc on = ap suc (after (λ k. ee want.Value e k on.1) (de want.Place d pc on.0))
    stmt_end (Copy e d at) pc on = ap suc (after (λ k. de want.PlaceAndLength d k on.1) (ee want.PlaceAndLength e pc on.0))
    stmt_end (New d what at) pc on = ap suc (de want.Place d pc on.0)
    stmt_end (NewOpenArray d t n at) pc on = ap suc (after (λ k. ee want.Value n k on.1) (de want.Place d pc on.0))
    stmt_end (Assert e number at) pc on = ap suc (ee want.Value e pc on)
    stmt_end (Halt number at) pc on = refl
    stmt_end (If branches otherwise) pc on = after (λ k. stmts_end otherwise k on.1) (branches_end branches pc on.0)
    stmt_end (Case e cases otherwise at) pc on = after (λ k. else_end otherwise k on.2) (after (λ k. cases_end cases (suc k) on.1) (ee want.Value e (suc pc) on.0))
    stmt_end (While e body at) pc on = ap suc (after (λ k. stmts_end body (suc k) on.1) (ee want.Value e pc on.0))
    stmt_end (Repeat body e at) pc on = ap suc (after (λ k. ee want.Value e k on.1) (stmts_end body pc on.0))
    stmt_end (For v w start stop step body at) pc on = ap suc (after (λ k. step_end v k) (after (λ k. stmts_end body k on.2) (after (λ k. test_end v (suc k)) (after (λ k. ee want.Value start k on.0) (after (λ k. place_end v (suc k)) (ee want.Value stop (suc pc) on.1))))))
    stmt_end (Loop body at) pc on = ap suc (stmts_end body pc on)
    stmt_end Exit pc on = refl
    stmt_end (Return e) pc on = result_end e pc on
    stmt_end (With branches otherwise at) pc on = after (λ k. else_end otherwise k on.1) (branches_end branches pc on.0)

    pub stmts_end : (ss : Stmts) (pc : ℕ) → StmtsRead Shapes Layouts ss → end_stmts (with_map map m ps vs) ss pc ≡ end_stmts (with_map other m ps vs) ss pc
    stmts_end Nothing pc on = refl
    stmts_end (Then s rest) pc on = after (λ k. stmts_end rest k on.1) (stmt_end s pc on.0)

    pub branches_end : (bs : Branches) (pc : ℕ) → BranchesRead Shapes Layouts bs → end_branches (with_map map m ps vs) bs pc ≡ end_branches (with_map other m ps vs) bs pc
    branches_end NoBranch pc on = refl
    branches_end (Branch test body rest) pc on = after (λ k. branches_end rest (suc k) on.2) (after (λ k. stmts_end body (suc k) on.1) (ee want.Value test pc on.0))

    pub cases_end : (cs : Cases) (pc : ℕ) → CasesRead Shapes Layouts cs → end_cases (with_map map m ps vs) cs pc ≡ end_cases (with_map other m ps vs) cs pc
    cases_end NoCase pc on = refl
    cases_end (OneCase labels body rest) pc on = after (λ k. cases_end rest (suc k) on.1) (after (λ k. stmts_end body (suc k) on.0) (labels_end here there labels pc))

    pub else_end : (o : Otherwise) (pc : ℕ) → ElseRead Shapes Layouts o → end_else (with_map map m ps vs) o pc ≡ end_else (with_map other m ps vs) o pc
    else_end NoElse pc on = refl
    else_end (Else body) pc on = stmts_end body pc on

  -- THE CODE
  mutual
    pub stmt_is : (s : Stmt) (pc t x : ℕ) → StmtRead Shapes Layouts s → stmt_code (with_map map m ps vs) s pc t x ≡ stmt_code (with_map other m ps vs) s pc t x
    stmt_is (Assign d how e at) pc t x on = join (di (target_want how d) d pc on.0) (join (after (λ k. ei (source_want how) e k on.1) (de (target_want how d) d pc on.0)) (cons (assign_is how d e at on.2) refl))
    stmt_is (CallProper e) pc t x on = ei want.Value e pc on
    stmt_is (Updated o d e at) pc t x on = join (di want.Place d pc on.0) (join (after (λ k. ei want.Value e k on.1) (de want.Place d pc on.0)) refl)
    stmt_is (Copy e d at) pc t x on = join (ei want.PlaceAndLength e pc on.0) (join (after (λ k. di want.PlaceAndLength d k on.1) (ee want.PlaceAndLength e pc on.0)) refl)
    stmt_is (New d what at) pc t x on = join (di want.Place d pc on.0) (cons (new_is what at on.1) refl)
    stmt_is (NewOpenArray d u n at) pc t x on = join (di want.Place d pc on.0) (join (after (λ k. ei want.Value n k on.1) (de want.Place d pc on.0)) (cons (ap (λ k. placed op.NewO (count k) at) (size u on.2)) refl))
    stmt_is (Assert e number at) pc t x on = join (ei want.Value e pc on) refl
    stmt_is (Halt number at) pc t x on = refl
    stmt_is (If branches otherwise) pc t x on =
        let e1 = branches_end branches pc on.0 in
        join (branches_are branches pc t x _ _ (after (λ k. stmts_end otherwise k on.1) e1) on.0)
        (after (λ k. ap (λ n. stmts_code here otherwise k n x) (branches_next here there branches t) ∙ stmts_are otherwise k (next_branches there branches t) x on.1) e1)
    stmt_is (Case e cases otherwise at) pc t x on =
        let e0 = ee want.Value e (suc pc) on.0 in
        let e2 = after (λ k. cases_end cases (suc k) on.1) e0 in
        cons refl (join (ei want.Value e (suc pc) on.0) (cons refl
        (join (after (λ k. cases_are t cases (suc k) (suc t) x _ _ (after (λ k. else_end otherwise k on.2) e2) on.1) e0)
        (after (λ k. ap (λ n. else_code here trap.NoCase at otherwise k n x) (cases_next here there cases (suc t)) ∙ else_is trap.NoCase at otherwise k (next_cases there cases (suc t)) x on.2) e2))))
    stmt_is (While e body at) pc t x on =
        let e1 = ee want.Value e pc on.0 in
        let e2 = after (λ k. stmts_end body (suc k) on.1) e1 in
        join (ei want.Value e pc on.0) (cons (ap (λ k. jump_if_false (suc k)) e2) (join (after (λ k. stmts_are body (suc k) t x on.1) e1) refl))
    stmt_is (Repeat body e at) pc t x on = join (stmts_are body pc t x on.0) (join (after (λ k. ei want.Value e k on.1) (stmts_end body pc on.0)) refl)
    stmt_is (For v w start stop step body at) pc t x on =
        let e0 = ee want.Value stop (suc pc) on.1 in
        let e1 = after (λ k. place_end v (suc k)) e0 in
        let e2 = after (λ k. ee want.Value start k on.0) e1 in
        let e3 = after (λ k. test_end v (suc k)) e2 in
        let e4 = after (λ k. stmts_end body k on.2) e3 in
        cons refl (join (ei want.Value stop (suc pc) on.1) (cons refl
        (join (place_is v) (join (after (λ k. ei want.Value start k on.0) e1) (cons refl
        (join (value_is v) (cons refl (cons refl (cons refl (cons (ap (λ k. jump_if_false (suc k)) (after (λ k. step_end v k) e4))
        (join (after (λ k. stmts_are body k (suc t) x on.2) e3)
        (join (place_is v) (cons refl (cons refl (cons (ap (λ k. jump_back (suc k) at) e2) refl)))))))))))))))
    stmt_is (Loop body at) pc t x on =
        let e1 = stmts_end body pc on in
        join (ap (λ k. stmts_code here body pc t (suc k)) e1 ∙ stmts_are body pc t (suc (end_stmts there body pc)) on) refl
    stmt_is Exit pc t x on = refl
    stmt_is (Return e) pc t x on = result_is e pc on
    stmt_is (With branches otherwise at) pc t x on =
        let e1 = branches_end branches pc on.0 in
        join (branches_are branches pc t x _ _ (after (λ k. else_end otherwise k on.1) e1) on.0)
        (after (λ k. ap (λ n. else_code here trap.NoMatch at otherwise k n x) (branches_next here there branches t) ∙ else_is trap.NoMatch at otherwise k (next_branches there branches t) x on.1) e1)

    pub stmts_are : (ss : Stmts) (pc t x : ℕ) → StmtsRead Shapes Layouts ss → stmts_code (with_map map m ps vs) ss pc t x ≡ stmts_code (with_map other m ps vs) ss pc t x
    stmts_are Nothing pc t x on = refl
    stmts_are (Then s rest) pc t x on =
        join (stmt_is s pc t x on.0)
        (after (λ k. ap (λ n. stmts_code here rest k n x) (stmt_next here there s t) ∙ stmts_are rest k (next_stmt there s t) x on.1) (stmt_end s pc on.0))

    pub branches_are : (bs : Branches) (pc t x end end' : ℕ) → end ≡ end' → BranchesRead Shapes Layouts bs → branches_code (with_map map m ps vs) bs pc t x end ≡ branches_code (with_map other m ps vs) bs pc t x end'
    branches_are NoBranch pc t x end end' e on = refl
    branches_are (Branch test body rest) pc t x end end' e on =
        let e1 = ee want.Value test pc on.0 in
        let e2 = after (λ k. stmts_end body (suc k) on.1) e1 in
        join (ei want.Value test pc on.0) (cons (ap (λ k. jump_if_false (suc k)) e2) (join (after (λ k. stmts_are body (suc k) t x on.1) e1)
        (cons (ap jump e) (after (λ k. ap (λ n. branches_code here rest (suc k) n x end) (stmts_next here there body t) ∙ branches_are rest (suc k) (next_stmts there body t) x end end' e on.2) e2))))

    pub cases_are : (v : ℕ) (cs : Cases) (pc t x end end' : ℕ) → end ≡ end' → CasesRead Shapes Layouts cs → cases_code (with_map map m ps vs) v cs pc t x end ≡ cases_code (with_map other m ps vs) v cs pc t x end'
    cases_are v NoCase pc t x end end' e on = refl
    cases_are v (OneCase labels body rest) pc t x end end' e on =
        let e1 = labels_end here there labels pc in
        let e2 = after (λ k. stmts_end body (suc k) on.0) e1 in
        join (ap (λ k. labels_code here v labels pc (suc k)) e1 ∙ labels_are here there v labels pc (suc (end_labels there labels pc)))
        (cons (ap (λ k. jump (suc k)) e2) (join (after (λ k. stmts_are body (suc k) t x on.0) e1)
        (cons (ap jump e) (after (λ k. ap (λ n. cases_code here v rest (suc k) n x end) (stmts_next here there body t) ∙ cases_are v rest (suc k) (next_stmts there body t) x end end' e on.1) e2))))

    pub else_is : (kind : Trap) (at : Pos) (o : Otherwise) (pc t x : ℕ) → ElseRead Shapes Layouts o → else_code (with_map map m ps vs) kind at o pc t x ≡ else_code (with_map other m ps vs) kind at o pc t x
    else_is kind at NoElse pc t x on = refl
    else_is kind at (Else body) pc t x on = stmts_are body pc t x on
