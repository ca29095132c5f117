-- The code of statements has a spelling.
use Rattle.std.proofs.Common.{◌≡◌, ℕ, suc, ◌+◌, ◌<◌, ◌≤◌, ◌^◌, Bool, true, false, List, [], ◌∷◌, ◌++◌, Option, Some, None, refl, arith}
use Rattle.std.specs.Prelude.{IfSome, ℤ, pos, negsuc}
use Rattle.std.specs.List.{AllByRecursion}
use Rattle.ob_trap.specs.declared.trap.Trap.{Trap}
use Rattle.ob_trap.specs.declared.trap.Trap.TheVariants as trap
use Rattle.ob_trap.specs.NumberLaws.{number_small}
use Rattle.ob_trap.specs.Numbers.{trap_number}
use Rattle.ob_tree.specs.declared.pos.Pos.{Pos}
use Rattle.ob_tree.specs.declared.names.QName.{QName}
use Rattle.ob_types.specs.declared.types.TypeRef.TheVariants as ref
use Rattle.ob_types.specs.declared.types.Basic.TheVariants as basic
use Rattle.ob_types.specs.declared.value.Value.{Value}
use Rattle.ob_types.specs.declared.value.Value.TheVariants as literal
use Rattle.ob_types.specs.declared.typed.Label.{Label}
use Rattle.ob_types.specs.declared.typed.Assigned.{Assigned}
use Rattle.ob_types.specs.declared.typed.Assigned.TheVariants as assigned
use Rattle.ob_types.specs.declared.typed.Made.{Made}
use Rattle.ob_types.specs.declared.typed.Made.TheVariants as made
use Rattle.ob_types.specs.Tests.{target}
use Rattle.ob_types.specs.TypedKinds.{variable_type}
use Rattle.ob_types.specs.TypedSyntax.{Desig, Expr, Constant, ValueOf, ProcedureValue, Monadic, Dyadic, Logical, CompareTexts, IsPointer, IsRecord, Length, Call, CallVariable, Stmt, Assign, CallProper, Updated, Copy, New, NewOpenArray, Assert, Halt, If, Case, While, Repeat, For, Loop, Exit, Return, With, Stmts, Nothing, Then, Branches, NoBranch, Branch, Cases, NoCase, OneCase, Otherwise, NoElse, Else}
use Rattle.ob_instr.specs.declared.opcode.Opcode.TheVariants as op
use Rattle.ob_layout.specs.Room.{hidden_words, hidden_of_all, hidden_of_branches, hidden_of_cases, hidden_of_else}
use Rattle.ob_scheme.specs.declared.want.Want.TheVariants as want
use Rattle.ob_scheme.specs.Lines.{Number, none, count, plain, placed, bare, bare_at, jump, jump_if_false, jump_back, jump_back_if_false, behind}
use Rattle.ob_scheme.specs.Context.{Context, words, type_operand}
use Rattle.ob_scheme.specs.Operations.{bytes_of, update_line}
use Rattle.ob_scheme.specs.Expressions.{end_desig, end_expr, desig_code, expr_code}
use Rattle.ob_scheme.specs.Statements.{has_tag, target_want, source_want, text_words, copy_record, assign_line, new_line, for_place, for_value, within, end_for_test, end_for_step, end_label, label_code, end_labels, labels_code, end_result, result_code, end_stmt, end_stmts, end_branches, end_cases, end_else, next_stmt, next_stmts, next_branches, next_cases, next_else, stmt_code, stmts_code, branches_code, cases_code, else_code}
use Rattle.ob_scheme.specs.Needs.{need_result, need_stmt, need_stmts, need_branches, need_cases, need_else}
use Rattle.ob_scheme.proofs.Ends.{behind_is, desig_ends, expr_ends, labels_end, stmt_ends, stmts_end, branches_end, cases_end, else_ends}
use Rattle.law_spelling.specs.Coded.{PosFits, LabelIsCoded, RecordIsCoded, TypeIsCoded, ExprIsCoded, AssignedIsCoded, MadeIsCoded, StmtIsCoded, StmtsAreCoded, BranchesAreCoded, CasesAreCoded, ElseIsCoded}
use Rattle.law_spelling.specs.Lines.{LineFits, LinesFit, HasRoom, RoomFits}
use Rattle.law_spelling.proofs.Lines.{count_fits, none_fits, names_one, plain_fits, placed_fits, two_fit, jump_fits, jump_if_fits, back_fits, back_if_fits, lines_both}
use Rattle.law_spelling.proofs.Pieces.{load_fits, store_fits, local_fits, int_fits, inc_fits, update_fits, type_fits, variable_fits}
use Rattle.law_spelling.proofs.Exprs.{top, desig_lines, expr_lines}

-- what is wanted of an assigned expression is no room
source_room : (how : Assigned) (e : Expr) → RoomFits (source_want how) e
source_room assigned.Scalar e = tt
source_room assigned.Text e = tt
source_room assigned.Array e = tt
source_room (assigned.Record q) e = tt

module _ (c : Context) where
  -- THE WORDS OF FOR AND CASE are those that the layout counts
  mutual
    stmt_next : (s : Stmt) (t : ℕ) → next_stmt c s t ≡ t + hidden_words s
    stmt_next (Assign d how e at) t = omega arith
    stmt_next (CallProper e) t = omega arith
    stmt_next (Updated o d e at) t = omega arith
    stmt_next (Copy e d at) t = omega arith
    stmt_next (New d what at) t = omega arith
    stmt_next (NewOpenArray d u n at) t = omega arith
    stmt_next (Assert e number at) t = omega arith
    stmt_next (Halt number at) t = omega arith
    stmt_next (If branches otherwise) t = let a = branches_next branches t in let b = stmts_next otherwise (next_branches c branches t) in omega (arith, a, b)
    stmt_next (Case e cases otherwise at) t = let a = cases_next cases (suc t) in let b = else_next otherwise (next_cases c cases (suc t)) in omega (arith, a, b)
    stmt_next (While e body at) t = stmts_next body t
    stmt_next (Repeat body e at) t = stmts_next body t
    stmt_next (For v w start stop step body at) t = let a = stmts_next body (suc t) in omega (arith, a)
    stmt_next (Loop body at) t = stmts_next body t
    stmt_next Exit t = omega arith
    stmt_next (Return e) t = omega arith
    stmt_next (With branches otherwise at) t = let a = branches_next branches t in let b = else_next otherwise (next_branches c branches t) in omega (arith, a, b)

    pub stmts_next : (s : Stmts) (t : ℕ) → next_stmts c s t ≡ t + hidden_of_all s
    stmts_next Nothing t = omega arith
    stmts_next (Then s rest) t = let a = stmt_next s t in let b = stmts_next rest (next_stmt c s t) in omega (arith, a, b)

    branches_next : (bs : Branches) (t : ℕ) → next_branches c bs t ≡ t + hidden_of_branches bs
    branches_next NoBranch t = omega arith
    branches_next (Branch test body rest) t = let a = stmts_next body t in let b = branches_next rest (next_stmts c body t) in omega (arith, a, b)

    cases_next : (cs : Cases) (t : ℕ) → next_cases c cs t ≡ t + hidden_of_cases cs
    cases_next NoCase t = omega arith
    cases_next (OneCase labels body rest) t = let a = stmts_next body t in let b = cases_next rest (next_stmts c body t) in omega (arith, a, b)

    else_next : (o : Otherwise) (t : ℕ) → next_else c o t ≡ t + hidden_of_else o
    else_next NoElse t = omega arith
    else_next (Else body) t = stmts_next body t

module _ (c : Context) (room : HasRoom c) where
  -- ---- the last line of simple statements

  text_few : (e : Expr) → ExprIsCoded c e → text_words e < 2 ^ 31
  text_few (Constant (literal.Bool b)) h = omega arith
  text_few (Constant (literal.Char n)) h = omega arith
  text_few (Constant (literal.Int z)) h = omega arith
  text_few (Constant (literal.Set n)) h = omega arith
  text_few (Constant (literal.Str text)) h = h
  text_few (Constant literal.Nil) h = omega arith
  text_few (ValueOf d) h = omega arith
  text_few (ProcedureValue q signature) h = omega arith
  text_few (Monadic o e at) h = omega arith
  text_few (Dyadic o a b at) h = omega arith
  text_few (Logical o a b) h = omega arith
  text_few (CompareTexts r a b at) h = omega arith
  text_few (IsPointer e target) h = omega arith
  text_few (IsRecord d target) h = omega arith
  text_few (Length d) h = omega arith
  text_few (Call f es at t) h = omega arith
  text_few (CallVariable d es at t) h = omega arith

  copy_fits : (pc n : ℕ) → n < 2 ^ 31 → LineFits pc (plain op.Copy (count n))
  copy_fits pc n l = plain_fits pc op.Copy (count n) refl refl (names_one op.Copy (count n) refl) (count_fits n l)

  record_fits : (b : Bool) (q : QName) (at : Pos) (pc : ℕ) → RecordIsCoded c q → PosFits at → LineFits pc (copy_record c b q at)
  record_fits true q at pc h p = two_fit pc op.CopyRec (count (words c (ref.Named q))) (type_operand c q) at refl refl (count_fits _ (room.words (ref.Named q))) (type_fits c room q h) p
  record_fits false q at pc h p = copy_fits pc (words c (ref.Named q)) (room.words (ref.Named q))

  assign_fits : (how : Assigned) (d : Desig) (e : Expr) (at : Pos) (pc : ℕ) → ExprIsCoded c e → AssignedIsCoded c how → PosFits at → LineFits pc (assign_line c how d e at)
  assign_fits assigned.Scalar d e at pc h k p = store_fits pc
  assign_fits assigned.Text d e at pc h k p = copy_fits pc (text_words e) (text_few e h)
  assign_fits assigned.Array d e at pc h k p = copy_fits pc (words c (variable_type d)) (room.words (variable_type d))
  assign_fits (assigned.Record q) d e at pc h k p = record_fits (has_tag d) q at pc k p

  new_fits : (what : Made) (at : Pos) (pc : ℕ) → MadeIsCoded c what → PosFits at → LineFits pc (new_line c what at)
  new_fits (made.Record q) at pc h p = placed_fits pc op.NewR (type_operand c q) at refl (names_one op.NewR (type_operand c q) refl) (type_fits c room q h) p
  new_fits (made.Array t) at pc h p = placed_fits pc op.NewA (count (words c t)) at refl (names_one op.NewA (count (words c t)) refl) (count_fits _ (room.words t)) p

  -- ---- labels, and the pieces of FOR

  step_test : (pc : ℕ) (step : ℤ) → LineFits pc (bare (within c step))
  step_test pc (pos n) = plain_fits pc op.Le none refl refl (λ l. refl) none_fits
  step_test pc (negsuc n) = plain_fits pc op.Ge none refl refl (λ l. refl) none_fits

  long_fits : TypeIsCoded c (ref.Basic basic.LongInt)
  unfolding target
  long_fits q e = absurd cc

  labels_fit : (t : ℕ) (ls : List Label) (pc body : ℕ) → t < 2 ^ 31 → AllByRecursion LabelIsCoded ls → end_labels c ls pc < body → body ≤ top → LinesFit pc (labels_code c t ls pc body)
  labels_fit t [] pc body k h e l = tt
  labels_fit t (x ∷ ls) pc body k h e l =
      let p = end_label c pc in
      let q = labels_end c t ls p body in
      lines_both pc p (label_code c t x pc body) (labels_code c t ls p body) (omega arith) (
        local_fits pc t k,
        (
          load_fits _,
          (
            int_fits _ x.low h.0.0,
            (
              plain_fits _ op.Ge none refl refl (λ l. refl) none_fits,
              (
                jump_if_fits _ p (omega arith) (omega (arith, q, e, l)),
                (
                  local_fits _ t k,
                  (
                    load_fits _,
                    (
                      int_fits _ x.high h.0.1,
                      (
                        plain_fits _ op.Le none refl refl (λ l. refl) none_fits,
                        (
                          jump_if_fits _ p (omega arith) (omega (arith, q, e, l)),
                          (jump_fits _ body (omega (arith, q, e)) (omega (arith, l)), tt),
                        ),
                      ),
                    ),
                  ),
                ),
              ),
            ),
          ),
        ),
      )
      (labels_fit t ls p body k h.1 e l)

  result_fits : (e : Option Expr) (pc : ℕ) → IfSome e (ExprIsCoded c) → need_result c e ≤ 256 → end_result c e pc ≤ top → LinesFit pc (result_code c e pc)
  result_fits None pc h n l = (plain_fits pc op.Ret none refl refl (λ l. refl) none_fits, tt)
  result_fits (Some e) pc h n l =
      let p = end_expr c want.Value e pc in
      lines_both pc p (expr_code c want.Value e pc) (bare op.RetV ∷ []) (expr_ends c want.Value e pc)
      (expr_lines c room want.Value e pc h tt n (omega (arith, l)))
      (plain_fits p op.RetV none refl refl (λ l. refl) none_fits, tt)

  trap_fits : (pc : ℕ) (kind : Trap) (at : Pos) → PosFits at → LineFits pc (placed op.Trap (count (trap_number kind)) at)
  trap_fits pc kind at p = record { a = count_fits (trap_number kind) (omega (arith, number_small kind)); b = none_fits; no_a = λ l. absurd (omega (arith, l)); no_b = λ l. refl; placed = λ m. refl; at = p }

  -- ---- THE CODE OF STATEMENTS

  abbrev few : ℕ
  few = 1048576

  mutual
    pub stmt_lines : (l : Bool) (s : Stmt) (pc t x : ℕ) → StmtIsCoded c l s → need_stmt c s ≤ 256 → end_stmt c s pc ≤ top → t + hidden_words s ≤ few → (l ≡ true → end_stmt c s pc < x) → x ≤ top → LinesFit pc (stmt_code c s pc t x)
    stmt_lines l (Assign d how e at) pc t x h n m k y z =
        let w = target_want how d in
        let p = end_desig c w d pc in
        let q = end_expr c (source_want how) e p in
        let i = expr_ends c (source_want how) e p in
        lines_both pc p (desig_code c w d pc) (expr_code c (source_want how) e p ++ assign_line c how d e at ∷ []) (desig_ends c w d pc)
        (desig_lines c room w d pc h.0 (omega (arith, n)) (omega (arith, m, i)))
        (lines_both p q (expr_code c (source_want how) e p) (assign_line c how d e at ∷ []) i
        (expr_lines c room (source_want how) e p h.1.0 (source_room how e) (omega (arith, n)) (omega (arith, m)))
        (assign_fits how d e at q h.1.0 h.1.1.0 h.1.1.1, tt))
    stmt_lines l (CallProper e) pc t x h n m k y z = expr_lines c room want.Value e pc h tt n m
    stmt_lines l (Updated o d e at) pc t x h n m k y z =
        let p = end_desig c want.Place d pc in
        let q = end_expr c want.Value e p in
        let i = expr_ends c want.Value e p in
        lines_both pc p (desig_code c want.Place d pc) (expr_code c want.Value e p ++ update_line o at ∷ []) (desig_ends c want.Place d pc)
        (desig_lines c room want.Place d pc h.0 (omega (arith, n)) (omega (arith, m, i)))
        (lines_both p q (expr_code c want.Value e p) (update_line o at ∷ []) i
        (expr_lines c room want.Value e p h.1.0 tt (omega (arith, n)) (omega (arith, m)))
        (update_fits o at q h.1.1, tt))
    stmt_lines l (Copy e d at) pc t x h n m k y z =
        let p = end_expr c want.PlaceAndLength e pc in
        let q = end_desig c want.PlaceAndLength d p in
        let i = desig_ends c want.PlaceAndLength d p in
        lines_both pc p (expr_code c want.PlaceAndLength e pc) (desig_code c want.PlaceAndLength d p ++ bare_at op.StrCopy at ∷ []) (expr_ends c want.PlaceAndLength e pc)
        (expr_lines c room want.PlaceAndLength e pc h.0 tt (omega (arith, n)) (omega (arith, m, i)))
        (lines_both p q (desig_code c want.PlaceAndLength d p) (bare_at op.StrCopy at ∷ []) i
        (desig_lines c room want.PlaceAndLength d p h.1.0 (omega (arith, n)) (omega (arith, m)))
        (placed_fits q op.StrCopy none at refl (λ i. refl) none_fits h.1.1, tt))
    stmt_lines l (New d what at) pc t x h n m k y z =
        let p = end_desig c want.Place d pc in
        lines_both pc p (desig_code c want.Place d pc) (new_line c what at ∷ []) (desig_ends c want.Place d pc)
        (desig_lines c room want.Place d pc h.0 n (omega (arith, m)))
        (new_fits what at p h.1.0 h.1.1, tt)
    stmt_lines l (NewOpenArray d u e at) pc t x h n m k y z =
        let p = end_desig c want.Place d pc in
        let q = end_expr c want.Value e p in
        let i = expr_ends c want.Value e p in
        lines_both pc p (desig_code c want.Place d pc) (expr_code c want.Value e p ++ placed op.NewO (count (words c u)) at ∷ []) (desig_ends c want.Place d pc)
        (desig_lines c room want.Place d pc h.0 (omega (arith, n)) (omega (arith, m, i)))
        (lines_both p q (expr_code c want.Value e p) (placed op.NewO (count (words c u)) at ∷ []) i
        (expr_lines c room want.Value e p h.1.0 tt (omega (arith, n)) (omega (arith, m)))
        (placed_fits q op.NewO (count (words c u)) at refl (names_one op.NewO (count (words c u)) refl) (count_fits _ (room.words u)) h.1.1, tt))
    stmt_lines l (Assert e number at) pc t x h n m k y z =
        let p = end_expr c want.Value e pc in
        lines_both pc p (expr_code c want.Value e pc) (placed op.Assert (Number number) at ∷ []) (expr_ends c want.Value e pc)
        (expr_lines c room want.Value e pc h.0 tt n (omega (arith, m)))
        (placed_fits p op.Assert (Number number) at refl (names_one op.Assert (Number number) refl) h.1.0 h.1.1, tt)
    stmt_lines l (Halt number at) pc t x h n m k y z = (two_fit pc op.Trap (count (trap_number trap.Halted)) (Number number) at refl refl (count_fits (trap_number trap.Halted) (omega (arith, number_small trap.Halted))) h.0 h.1, tt)
    stmt_lines l (If branches otherwise) pc t x h n m k y z =
        let p1 = end_branches c branches pc in
        let u = next_branches c branches t in
        let i = stmts_end c otherwise p1 u x in
        let j = branches_next c branches t in
        lines_both pc p1 (branches_code c branches pc t x (end_stmts c otherwise p1)) (stmts_code c otherwise p1 u x) (branches_end c branches pc t x (end_stmts c otherwise p1))
        (branches_lines l branches pc t x (end_stmts c otherwise p1) h.0 (omega (arith, n)) (omega (arith, i)) m (omega (arith, k)) (λ e. let o = y e in omega (arith, o, i)) z)
        (stmts_lines l otherwise p1 u x h.1 (omega (arith, n)) m (omega (arith, k, j)) y z)
    stmt_lines l (Case e cases otherwise at) pc t x h n m k y z =
        let q = end_expr c want.Value e (suc pc) in
        let p1 = suc q in
        let p2 = end_cases c cases p1 in
        let end = end_else c otherwise p2 in
        let u = next_cases c cases (suc t) in
        let i = expr_ends c want.Value e (suc pc) in
        let j = cases_end c t cases p1 (suc t) x end in
        let o = else_ends c trap.NoCase at otherwise p2 u x in
        let v = cases_next c cases (suc t) in (
          local_fits pc t (omega (arith, k)),
          lines_both (suc pc) q (expr_code c want.Value e (suc pc)) (bare op.Store ∷ (cases_code c t cases p1 (suc t) x end ++ else_code c trap.NoCase at otherwise p2 u x)) i
              (expr_lines c room want.Value e (suc pc) h.0 tt (omega (arith, n)) (omega (arith, m, j, o))) (
                store_fits q,
                lines_both p1 p2 (cases_code c t cases p1 (suc t) x end) (else_code c trap.NoCase at otherwise p2 u x) j
                    (cases_lines t l cases p1 (suc t) x end h.1.0 (omega (arith, k)) (omega (arith, n)) (omega (arith, o)) m (omega (arith, k)) (λ e. let f = y e in omega (arith, f, o)) z)
                    (else_lines trap.NoCase at l otherwise p2 u x h.1.1.0 h.1.1.1 (omega (arith, n)) m (omega (arith, k, v)) y z),
              ),
        )
    stmt_lines l (While e body at) pc t x h n m k y z =
        let p1 = end_expr c want.Value e pc in
        let p2 = end_stmts c body (suc p1) in
        let i = stmts_end c body (suc p1) t x in
        let j = expr_ends c want.Value e pc in
        lines_both pc p1 (expr_code c want.Value e pc) (jump_if_false (suc p2) ∷ (stmts_code c body (suc p1) t x ++ jump_back pc at ∷ [])) j
        (expr_lines c room want.Value e pc h.0 tt (omega (arith, n)) (omega (arith, m, i))) (
          jump_if_fits p1 (suc p2) (omega (arith, i)) (omega (arith, m)),
          lines_both (suc p1) p2 (stmts_code c body (suc p1) t x) (jump_back pc at ∷ []) i
              (stmts_lines l body (suc p1) t x h.1.0 (omega (arith, n)) (omega (arith, m)) k (λ e. let f = y e in omega (arith, f)) z)
              (back_fits p2 pc at (omega (arith, i, j)) (omega (arith, m, i, j)) h.1.1, tt),
        )
    stmt_lines l (Repeat body e at) pc t x h n m k y z =
        let p1 = end_stmts c body pc in
        let q = end_expr c want.Value e p1 in
        let i = stmts_end c body pc t x in
        let j = expr_ends c want.Value e p1 in
        lines_both pc p1 (stmts_code c body pc t x) (expr_code c want.Value e p1 ++ jump_back_if_false pc at ∷ []) i
        (stmts_lines l body pc t x h.0 (omega (arith, n)) (omega (arith, m, j)) k (λ e. let f = y e in omega (arith, f, j)) z)
        (lines_both p1 q (expr_code c want.Value e p1) (jump_back_if_false pc at ∷ []) j
        (expr_lines c room want.Value e p1 h.1.0 tt (omega (arith, n)) (omega (arith, m)))
        (back_if_fits q pc at (omega (arith, i, j)) (omega (arith, m, i, j)) h.1.1, tt))
    stmt_lines l (For v w start stop step body at) pc t x h n m k y z =
        let q0 = end_expr c want.Value stop (suc pc) in
        let p1 = suc q0 in
        let q1 = behind (for_place c v) p1 in
        let q2 = end_expr c want.Value start q1 in
        let p2 = suc q2 in
        let q3 = behind (for_value c v) p2 in
        let p3 = end_for_test c v p2 in
        let p4 = end_stmts c body p3 in
        let q5 = behind (for_place c v) p4 in
        let e0 = expr_ends c want.Value stop (suc pc) in
        let e1 = behind_is (for_place c v) p1 in
        let e2 = expr_ends c want.Value start q1 in
        let e3 = behind_is (for_value c v) p2 in
        let e4 = stmts_end c body p3 (suc t) x in
        let e5 = behind_is (for_place c v) p4 in
        let last = plain op.Int (Number step) ∷ placed op.Inc (count (bytes_of w)) at ∷ jump_back p2 at ∷ [] in
        let r5 = for_place c v ++ last in
        let r4 = stmts_code c body p3 (suc t) x ++ r5 in
        let r3 = for_value c v ++ (plain op.Local (count t) ∷ bare op.Load ∷ bare (within c step) ∷ jump_if_false (suc (end_for_step c v p4)) ∷ r4) in
        let r2 = expr_code c want.Value start q1 ++ (bare op.Store ∷ r3) in
        let r1 = for_place c v ++ r2 in (
          local_fits pc t (omega (arith, k)),
          lines_both (suc pc) q0 (expr_code c want.Value stop (suc pc)) (bare op.Store ∷ r1) e0
              (expr_lines c room want.Value stop (suc pc) h.1.1.0 tt (omega (arith, n)) (omega (arith, m, e1, e2, e3, e4, e5))) (
                store_fits q0,
                lines_both p1 q1 (for_place c v) r2 e1
                    (variable_fits c room want.Place v (ref.Basic basic.LongInt) p1 h.0 long_fits)
                    (lines_both q1 q2 (expr_code c want.Value start q1) (bare op.Store ∷ r3) e2
                    (expr_lines c room want.Value start q1 h.1.0 tt (omega (arith, n)) (omega (arith, m, e3, e4, e5))) (
                      store_fits q2,
                      lines_both p2 q3 (for_value c v) (plain op.Local (count t) ∷ bare op.Load ∷ bare (within c step) ∷ jump_if_false (suc (end_for_step c v p4)) ∷ r4) e3
                          (variable_fits c room want.Value v (ref.Basic basic.LongInt) p2 h.0 long_fits) (
                            local_fits q3 t (omega (arith, k)),
                            (
                              load_fits (suc q3),
                              (
                                step_test (suc (suc q3)) step,
                                (
                                  jump_if_fits (suc (suc (suc q3))) (suc (end_for_step c v p4)) (omega (arith, e4, e5)) (omega (arith, m)),
                                  lines_both p3 p4 (stmts_code c body p3 (suc t) x) r5 e4
                                      (stmts_lines l body p3 (suc t) x h.1.1.1.1.0 (omega (arith, n)) (omega (arith, m, e5)) (omega (arith, k)) (λ e. let f = y e in omega (arith, f, e5)) z)
                                      (lines_both p4 q5 (for_place c v) last e5
                                      (variable_fits c room want.Place v (ref.Basic basic.LongInt) p4 h.0 long_fits)
                                      (int_fits q5 step h.1.1.1.0, (inc_fits (suc q5) w at h.1.1.1.1.1, (back_fits (suc (suc q5)) p2 at (omega (arith, e3, e4, e5)) (omega (arith, m, e3, e4, e5)) h.1.1.1.1.1, tt)))),
                                ),
                              ),
                            ),
                          ),
                    )),
              ),
        )
    stmt_lines l (Loop body at) pc t x h n m k y z =
        let p1 = end_stmts c body pc in
        let i = stmts_end c body pc t (suc p1) in
        lines_both pc p1 (stmts_code c body pc t (suc p1)) (jump_back pc at ∷ []) i
        (stmts_lines true body pc t (suc p1) h.0 n (omega (arith, m)) k (λ e. omega arith) m)
        (back_fits p1 pc at (omega (arith, i)) (omega (arith, m, i)) h.1, tt)
    stmt_lines l Exit pc t x h n m k y z = let f = y h in (jump_fits pc x (omega (arith, f)) (omega (arith, z)), tt)
    stmt_lines l (Return e) pc t x h n m k y z = result_fits e pc h n m
    stmt_lines l (With branches otherwise at) pc t x h n m k y z =
        let p1 = end_branches c branches pc in
        let u = next_branches c branches t in
        let end = end_else c otherwise p1 in
        let i = else_ends c trap.NoMatch at otherwise p1 u x in
        let j = branches_next c branches t in
        lines_both pc p1 (branches_code c branches pc t x end) (else_code c trap.NoMatch at otherwise p1 u x) (branches_end c branches pc t x end)
        (branches_lines l branches pc t x end h.0 (omega (arith, n)) (omega (arith, i)) m (omega (arith, k)) (λ e. let f = y e in omega (arith, f, i)) z)
        (else_lines trap.NoMatch at l otherwise p1 u x h.1.0 h.1.1 (omega (arith, n)) m (omega (arith, k, j)) y z)

    pub stmts_lines : (l : Bool) (s : Stmts) (pc t x : ℕ) → StmtsAreCoded c l s → need_stmts c s ≤ 256 → end_stmts c s pc ≤ top → t + hidden_of_all s ≤ few → (l ≡ true → end_stmts c s pc < x) → x ≤ top → LinesFit pc (stmts_code c s pc t x)
    stmts_lines l Nothing pc t x h n m k y z = tt
    stmts_lines l (Then s rest) pc t x h n m k y z =
        let p = end_stmt c s pc in
        let u = next_stmt c s t in
        let i = stmts_end c rest p u x in
        let j = stmt_next c s t in
        lines_both pc p (stmt_code c s pc t x) (stmts_code c rest p u x) (stmt_ends c s pc t x)
        (stmt_lines l s pc t x h.0 (omega (arith, n)) (omega (arith, m, i)) (omega (arith, k)) (λ e. let f = y e in omega (arith, f, i)) z)
        (stmts_lines l rest p u x h.1 (omega (arith, n)) m (omega (arith, k, j)) y z)

    branches_lines : (l : Bool) (bs : Branches) (pc t x end : ℕ) → BranchesAreCoded c l bs → need_branches c bs ≤ 256 → end_branches c bs pc ≤ end → end ≤ top → t + hidden_of_branches bs ≤ few → (l ≡ true → end_branches c bs pc < x) → x ≤ top → LinesFit pc (branches_code c bs pc t x end)
    branches_lines l NoBranch pc t x end h n m o k y z = tt
    branches_lines l (Branch test body rest) pc t x end h n m o k y z =
        let p1 = end_expr c want.Value test pc in
        let p2 = end_stmts c body (suc p1) in
        let u = next_stmts c body t in
        let i = stmts_end c body (suc p1) t x in
        let j = branches_end c rest (suc p2) u x end in
        let v = stmts_next c body t in
        lines_both pc p1 (expr_code c want.Value test pc) (jump_if_false (suc p2) ∷ (stmts_code c body (suc p1) t x ++ (jump end ∷ branches_code c rest (suc p2) u x end))) (expr_ends c want.Value test pc)
        (expr_lines c room want.Value test pc h.0 tt (omega (arith, n)) (omega (arith, m, o, i, j))) (
          jump_if_fits p1 (suc p2) (omega (arith, i)) (omega (arith, m, o, j)),
          lines_both (suc p1) p2 (stmts_code c body (suc p1) t x) (jump end ∷ branches_code c rest (suc p2) u x end) i
              (stmts_lines l body (suc p1) t x h.1.0 (omega (arith, n)) (omega (arith, m, o, j)) (omega (arith, k)) (λ e. let f = y e in omega (arith, f, j)) z) (
                jump_fits p2 end (omega (arith, m, j)) (omega (arith, o)),
                branches_lines l rest (suc p2) u x end h.1.1 (omega (arith, n)) m o (omega (arith, k, v)) y z,
              ),
        )

    cases_lines : (r : ℕ) (l : Bool) (cs : Cases) (pc t x end : ℕ) → CasesAreCoded c l cs → r < 2 ^ 31 → need_cases c cs ≤ 256 → end_cases c cs pc ≤ end → end ≤ top → t + hidden_of_cases cs ≤ few → (l ≡ true → end_cases c cs pc < x) → x ≤ top → LinesFit pc (cases_code c r cs pc t x end)
    cases_lines r l NoCase pc t x end h w n m o k y z = tt
    cases_lines r l (OneCase labels body rest) pc t x end h w n m o k y z =
        let p1 = end_labels c labels pc in
        let p2 = end_stmts c body (suc p1) in
        let u = next_stmts c body t in
        let i = stmts_end c body (suc p1) t x in
        let j = cases_end c r rest (suc p2) u x end in
        let v = stmts_next c body t in
        lines_both pc p1 (labels_code c r labels pc (suc p1)) (jump (suc p2) ∷ (stmts_code c body (suc p1) t x ++ (jump end ∷ cases_code c r rest (suc p2) u x end))) (labels_end c r labels pc (suc p1))
        (labels_fit r labels pc (suc p1) w h.0 (omega arith) (omega (arith, m, o, i, j))) (
          jump_fits p1 (suc p2) (omega (arith, i)) (omega (arith, m, o, j)),
          lines_both (suc p1) p2 (stmts_code c body (suc p1) t x) (jump end ∷ cases_code c r rest (suc p2) u x end) i
              (stmts_lines l body (suc p1) t x h.1.0 (omega (arith, n)) (omega (arith, m, o, j)) (omega (arith, k)) (λ e. let f = y e in omega (arith, f, j)) z) (
                jump_fits p2 end (omega (arith, m, j)) (omega (arith, o)),
                cases_lines r l rest (suc p2) u x end h.1.1 w (omega (arith, n)) m o (omega (arith, k, v)) y z,
              ),
        )

    else_lines : (kind : Trap) (at : Pos) (l : Bool) (o : Otherwise) (pc t x : ℕ) → ElseIsCoded c l o → PosFits at → need_else c o ≤ 256 → end_else c o pc ≤ top → t + hidden_of_else o ≤ few → (l ≡ true → end_else c o pc < x) → x ≤ top → LinesFit pc (else_code c kind at o pc t x)
    else_lines kind at l NoElse pc t x h p n m k y z = (trap_fits pc kind at p, tt)
    else_lines kind at l (Else body) pc t x h p n m k y z = stmts_lines l body pc t x h n m k y z
