-- The words of the strings that code lays down are those of the strings that its tree uses as arrays: statements and modules.
use Rattle.std.proofs.Common.{◌≡◌, ℕ, suc, Bool, true, false, List, [], ◌∷◌, ◌++◌, Option, Some, None, refl, arith}
use Rattle.ob_trap.specs.declared.trap.Trap.{Trap}
use Rattle.ob_trap.specs.declared.trap.Trap.TheVariants as trap
use Rattle.ob_tree.specs.declared.pos.Pos.{Pos}
use Rattle.ob_tree.specs.declared.names.QName.{QName}
use Rattle.ob_types.specs.declared.types.TypeRef.{TypeRef}
use Rattle.ob_types.specs.declared.types.TypeRef.TheVariants as ref
use Rattle.ob_types.specs.declared.types.Basic.TheVariants as basic
use Rattle.ob_types.specs.declared.typed.Assigned.{Assigned}
use Rattle.ob_types.specs.declared.typed.Assigned.TheVariants as assigned
use Rattle.ob_types.specs.declared.typed.Made.{Made}
use Rattle.ob_types.specs.declared.typed.Made.TheVariants as made
use Rattle.ob_types.specs.declared.typed.Update.{Update}
use Rattle.ob_types.specs.declared.typed.Update.TheVariants as update
use Rattle.ob_types.specs.declared.typed.Label.{Label}
use Rattle.ob_types.specs.TypedSyntax.{Desig, Expr, Stmt, Assign, CallProper, Updated, Copy, New, NewOpenArray, Assert, Halt, If, Case, While, Repeat, For, Loop, Exit, Return, With, Stmts, Nothing, Then, Branches, NoBranch, Branch, Cases, NoCase, OneCase, Otherwise, NoElse, Else}
use Rattle.ob_instr.specs.declared.opcode.Opcode.TheVariants as op
use Rattle.ob_layout.specs.Texts.{texts_of_designator, texts_of_expr, texts_of_optional, texts_of, texts_of_all, texts_of_branches, texts_of_cases, texts_of_else}
use Rattle.ob_scheme.specs.declared.want.Want.TheVariants as want
use Rattle.ob_scheme.specs.Lines.{Number, plain, placed, count, bare, bare_at, jump, jump_if_false, jump_back, jump_back_if_false, behind}
use Rattle.ob_scheme.specs.Operations.{bytes_of, update_line}
use Rattle.ob_scheme.specs.Context.{Context, words}
use Rattle.ob_scheme.specs.Expressions.{end_desig, end_expr, desig_code, expr_code}
use Rattle.ob_scheme.specs.Statements.{has_tag, target_want, source_want, copy_record, assign_line, new_line, for_place, for_value, within, end_for_test, end_for_step, end_label, label_code, end_labels, labels_code, result_code, end_stmt, end_stmts, end_branches, end_cases, end_else, next_stmt, next_stmts, next_branches, next_cases, stmt_code, stmts_code, branches_code, cases_code, else_code}
use Rattle.law_load_plan.proofs.Texts.{line_words, laid, used, laid_both, used_both, laid_one, laid_two, is_room, type_laid, variable_laid, desig_laid, value_laid}

module _ (c : Context) where
  abbrev W : TypeRef → ℕ
  W = words c

  -- ---- small pieces

  copy_laid : (b : Bool) (q : QName) (at : Pos) → line_words (copy_record c b q at) ≡ 0
  copy_laid true q at = let e = type_laid c q in omega (arith, e)
  copy_laid false q at = refl

  assign_laid : (how : Assigned) (d : Desig) (e : Expr) (at : Pos) → laid (assign_line c how d e at ∷ []) ≡ 0
  assign_laid assigned.Scalar d e at = refl
  assign_laid assigned.Text d e at = refl
  assign_laid assigned.Array d e at = refl
  assign_laid (assigned.Record q) d e at = let f = copy_laid (has_tag d) q at in omega (arith, f)

  source_plain : (how : Assigned) → is_room (source_want how) ≡ false
  source_plain assigned.Scalar = refl
  source_plain assigned.Text = refl
  source_plain assigned.Array = refl
  source_plain (assigned.Record q) = refl

  new_laid : (what : Made) (at : Pos) → laid (new_line c what at ∷ []) ≡ 0
  new_laid (made.Record q) at = let f = type_laid c q in omega (arith, f)
  new_laid (made.Array t) at = refl

  update_laid : (o : Update) (at : Pos) → laid (update_line o at ∷ []) ≡ 0
  update_laid (update.Inc w) at = refl
  update_laid (update.Dec w) at = refl
  update_laid update.Incl at = refl
  update_laid update.Excl at = refl

  label_laid : (t : ℕ) (l : Label) (pc body : ℕ) → laid (label_code c t l pc body) ≡ 0
  label_laid t l pc body = refl

  labels_laid : (t : ℕ) (ls : List Label) (pc body : ℕ) → laid (labels_code c t ls pc body) ≡ 0
  labels_laid t [] pc body = refl
  labels_laid t (l ∷ ls) pc body = omega (arith, label_laid t l pc body, labels_laid t ls (end_label c pc) body, laid_both (label_code c t l pc body) (labels_code c t ls (end_label c pc) body))

  result_laid : (e : Option Expr) (pc : ℕ) → laid (result_code c e pc) ≡ used (texts_of_optional W e)
  result_laid None pc = refl
  result_laid (Some e) pc = laid_one (expr_code c want.Value e pc) (bare op.RetV ∷ []) (used (texts_of_expr W e)) (value_laid c want.Value refl e pc) refl

  -- THE STRINGS of statements
  mutual
    pub stmt_laid : (s : Stmt) (pc t x : ℕ) → laid (stmt_code c s pc t x) ≡ used (texts_of W s)
    stmt_laid (Assign d how e at) pc t x =
        let p1 = end_desig c (target_want how d) d pc in
        laid_two (desig_code c (target_want how d) d pc) (expr_code c (source_want how) e p1) (assign_line c how d e at ∷ []) (texts_of_designator W d) (texts_of_expr W e) (desig_laid c (target_want how d) d pc) (value_laid c (source_want how) (source_plain how) e p1) (assign_laid how d e at)
    stmt_laid (CallProper e) pc t x = value_laid c want.Value refl e pc
    stmt_laid (Updated o d e at) pc t x =
        let p1 = end_desig c want.Place d pc in
        laid_two (desig_code c want.Place d pc) (expr_code c want.Value e p1) (update_line o at ∷ []) (texts_of_designator W d) (texts_of_expr W e) (desig_laid c want.Place d pc) (value_laid c want.Value refl e p1) (update_laid o at)
    stmt_laid (Copy e d at) pc t x =
        let p1 = end_expr c want.PlaceAndLength e pc in
        laid_two (expr_code c want.PlaceAndLength e pc) (desig_code c want.PlaceAndLength d p1) (bare_at op.StrCopy at ∷ []) (texts_of_expr W e) (texts_of_designator W d) (value_laid c want.PlaceAndLength refl e pc) (desig_laid c want.PlaceAndLength d p1) refl
    stmt_laid (New d what at) pc t x = laid_one (desig_code c want.Place d pc) (new_line c what at ∷ []) (used (texts_of_designator W d)) (desig_laid c want.Place d pc) (new_laid what at)
    stmt_laid (NewOpenArray d element n at) pc t x =
        let p1 = end_desig c want.Place d pc in
        laid_two (desig_code c want.Place d pc) (expr_code c want.Value n p1) (placed op.NewO (count (words c element)) at ∷ []) (texts_of_designator W d) (texts_of_expr W n) (desig_laid c want.Place d pc) (value_laid c want.Value refl n p1) refl
    stmt_laid (Assert e number at) pc t x = laid_one (expr_code c want.Value e pc) (placed op.Assert (Number number) at ∷ []) (used (texts_of_expr W e)) (value_laid c want.Value refl e pc) refl
    stmt_laid (Halt number at) pc t x = refl
    stmt_laid (If branches otherwise) pc t x =
        let p1 = end_branches c branches pc in
        let end = end_stmts c otherwise p1 in
        omega (arith, branches_laid branches pc t x end, stmts_laid otherwise p1 (next_branches c branches t) x, laid_both (branches_code c branches pc t x end) (stmts_code c otherwise p1 (next_branches c branches t) x), used_both (texts_of_branches W branches) (texts_of_all W otherwise))
    stmt_laid (Case e cases otherwise at) pc t x =
        let p0 = end_expr c want.Value e (suc pc) in
        let p1 = suc p0 in
        let p2 = end_cases c cases p1 in
        let end = end_else c otherwise p2 in
        let a = expr_code c want.Value e (suc pc) in
        let b = cases_code c t cases p1 (suc t) x end in
        let d = else_code c trap.NoCase at otherwise p2 (next_cases c cases (suc t)) x in
        omega (arith, value_laid c want.Value refl e (suc pc), cases_laid t cases p1 (suc t) x end, else_laid trap.NoCase at otherwise p2 (next_cases c cases (suc t)) x, laid_both a (bare op.Store ∷ (b ++ d)), laid_both b d, used_both (texts_of_expr W e ++ texts_of_cases W cases) (texts_of_else W otherwise), used_both (texts_of_expr W e) (texts_of_cases W cases))
    stmt_laid (While e body at) pc t x =
        let p1 = end_expr c want.Value e pc in
        let p2 = end_stmts c body (suc p1) in
        let a = expr_code c want.Value e pc in
        let b = stmts_code c body (suc p1) t x in
        omega (arith, value_laid c want.Value refl e pc, stmts_laid body (suc p1) t x, laid_both a (jump_if_false (suc p2) ∷ (b ++ jump_back pc at ∷ [])), laid_both b (jump_back pc at ∷ []), used_both (texts_of_expr W e) (texts_of_all W body))
    stmt_laid (Repeat body e at) pc t x =
        let p1 = end_stmts c body pc in
        laid_two (stmts_code c body pc t x) (expr_code c want.Value e p1) (jump_back_if_false pc at ∷ []) (texts_of_all W body) (texts_of_expr W e) (stmts_laid body pc t x) (value_laid c want.Value refl e p1) refl
    stmt_laid (For v w start stop step body at) pc t x =
        let p0 = end_expr c want.Value stop (suc pc) in
        let p1 = suc p0 in
        let q = behind (for_place c v) p1 in
        let p2 = suc (end_expr c want.Value start q) in
        let p3 = end_for_test c v p2 in
        let p4 = end_stmts c body p3 in
        let a = expr_code c want.Value stop (suc pc) in
        let b = expr_code c want.Value start q in
        let d = stmts_code c body p3 (suc t) x in
        let r6 = plain op.Int (Number step) ∷ placed op.Inc (count (bytes_of w)) at ∷ jump_back p2 at ∷ [] in
        let r5 = for_place c v ++ r6 in
        let r4 = plain op.Local (count t) ∷ bare op.Load ∷ bare (within c step) ∷ jump_if_false (suc (end_for_step c v p4)) ∷ (d ++ r5) in
        let r3 = bare op.Store ∷ (for_value c v ++ r4) in
        let r2 = for_place c v ++ (b ++ r3) in
        omega (arith, value_laid c want.Value refl stop (suc pc), variable_laid c want.Place v (ref.Basic basic.LongInt), variable_laid c want.Value v (ref.Basic basic.LongInt), value_laid c want.Value refl start q, stmts_laid body p3 (suc t) x, laid_both a (bare op.Store ∷ r2), laid_both (for_place c v) (b ++ r3), laid_both b r3, laid_both (for_value c v) r4, laid_both d r5, laid_both (for_place c v) r6, used_both (texts_of_expr W stop ++ texts_of_expr W start) (texts_of_all W body), used_both (texts_of_expr W stop) (texts_of_expr W start))
    stmt_laid (Loop body at) pc t x =
        let p1 = end_stmts c body pc in
        laid_one (stmts_code c body pc t (suc p1)) (jump_back pc at ∷ []) (used (texts_of_all W body)) (stmts_laid body pc t (suc p1)) refl
    stmt_laid Exit pc t x = refl
    stmt_laid (Return e) pc t x = result_laid e pc
    stmt_laid (With branches otherwise at) pc t x =
        let p1 = end_branches c branches pc in
        let end = end_else c otherwise p1 in
        omega (arith, branches_laid branches pc t x end, else_laid trap.NoMatch at otherwise p1 (next_branches c branches t) x, laid_both (branches_code c branches pc t x end) (else_code c trap.NoMatch at otherwise p1 (next_branches c branches t) x), used_both (texts_of_branches W branches) (texts_of_else W otherwise))

    pub stmts_laid : (s : Stmts) (pc t x : ℕ) → laid (stmts_code c s pc t x) ≡ used (texts_of_all W s)
    stmts_laid Nothing pc t x = refl
    stmts_laid (Then s rest) pc t x =
        omega (arith, stmt_laid s pc t x, stmts_laid rest (end_stmt c s pc) (next_stmt c s t) x, laid_both (stmt_code c s pc t x) (stmts_code c rest (end_stmt c s pc) (next_stmt c s t) x), used_both (texts_of W s) (texts_of_all W rest))

    pub branches_laid : (bs : Branches) (pc t x end : ℕ) → laid (branches_code c bs pc t x end) ≡ used (texts_of_branches W bs)
    branches_laid NoBranch pc t x end = refl
    branches_laid (Branch test body rest) pc t x end =
        let p1 = end_expr c want.Value test pc in
        let p2 = end_stmts c body (suc p1) in
        let a = expr_code c want.Value test pc in
        let b = stmts_code c body (suc p1) t x in
        let r = branches_code c rest (suc p2) (next_stmts c body t) x end in
        omega (arith, value_laid c want.Value refl test pc, stmts_laid body (suc p1) t x, branches_laid rest (suc p2) (next_stmts c body t) x end, laid_both a (jump_if_false (suc p2) ∷ (b ++ (jump end ∷ r))), laid_both b (jump end ∷ r), used_both (texts_of_expr W test ++ texts_of_all W body) (texts_of_branches W rest), used_both (texts_of_expr W test) (texts_of_all W body))

    pub cases_laid : (k : ℕ) (cs : Cases) (pc t x end : ℕ) → laid (cases_code c k cs pc t x end) ≡ used (texts_of_cases W cs)
    cases_laid k NoCase pc t x end = refl
    cases_laid k (OneCase labels body rest) pc t x end =
        let p1 = end_labels c labels pc in
        let p2 = end_stmts c body (suc p1) in
        let a = labels_code c k labels pc (suc p1) in
        let b = stmts_code c body (suc p1) t x in
        let r = cases_code c k rest (suc p2) (next_stmts c body t) x end in
        omega (arith, labels_laid k labels pc (suc p1), stmts_laid body (suc p1) t x, cases_laid k rest (suc p2) (next_stmts c body t) x end, laid_both a (jump (suc p2) ∷ (b ++ (jump end ∷ r))), laid_both b (jump end ∷ r), used_both (texts_of_all W body) (texts_of_cases W rest))

    pub else_laid : (kind : Trap) (at : Pos) (o : Otherwise) (pc t x : ℕ) → laid (else_code c kind at o pc t x) ≡ used (texts_of_else W o)
    else_laid kind at NoElse pc t x = refl
    else_laid kind at (Else body) pc t x = stmts_laid body pc t x
