-- The code of statements: where it ends, and what it is, of a tree, the index at which its code begins, the next word t for FOR and
-- CASE, and the index behind the innermost LOOP, to which EXIT jumps.
use Rattle.std.specs.Prelude.{ℕ, suc, List, [], ◌∷◌, ◌++◌, length, ℤ, pos, negsuc, Option, Some, None, Bool, true, false}
use Rattle.ob_trap.specs.declared.trap.Trap.{Trap}
use Rattle.ob_trap.specs.declared.trap.Trap.TheVariants as trap
use Rattle.ob_trap.specs.Numbers.{trap_number}
use Rattle.ob_tree.specs.declared.pos.Pos.{Pos}
use Rattle.ob_tree.specs.declared.names.QName.{QName}
use Rattle.ob_types.specs.declared.types.TypeRef.TheVariants as ref
use Rattle.ob_types.specs.declared.typed.Passing.{Passing}
use Rattle.ob_types.specs.declared.typed.Passing.TheVariants as passing
use Rattle.ob_types.specs.declared.typed.Variable.{Variable}
use Rattle.ob_types.specs.declared.typed.Variable.TheVariants as variable
use Rattle.ob_types.specs.declared.typed.Guarded.{Guarded}
use Rattle.ob_types.specs.declared.typed.Guarded.TheVariants as guarded
use Rattle.ob_types.specs.declared.typed.Assigned.{Assigned}
use Rattle.ob_types.specs.declared.typed.Assigned.TheVariants as assigned
use Rattle.ob_types.specs.declared.typed.Made.{Made}
use Rattle.ob_types.specs.declared.typed.Made.TheVariants as made
use Rattle.ob_types.specs.declared.typed.Label.{Label}
use Rattle.ob_types.specs.declared.types.Basic.TheVariants as basic
use Rattle.ob_types.specs.declared.value.Value.{Value}
use Rattle.ob_types.specs.declared.value.Value.TheVariants as literal
use Rattle.ob_types.specs.TypedKinds.{variable_type}
use Rattle.ob_types.specs.TypedSyntax.{Desig, OfVariable, Deref, Guard, Expr, Constant, Stmt, Assign, CallProper, Updated, Copy, New, NewOpenArray, Assert, Halt, If, Case, While, Repeat, For, Loop, Exit, Return, With, Stmts, Nothing, Then, Branches, NoBranch, Branch, Cases, NoCase, OneCase, Otherwise, NoElse, Else}
use Rattle.ob_instr.specs.declared.opcode.Opcode.{Opcode}
use Rattle.ob_instr.specs.declared.opcode.Opcode.TheVariants as op
use Rattle.ob_scheme.specs.Lines.{Number, Line, plain, placed, placed_two, count, bare, bare_at, jump, jump_if_false, jump_back, jump_back_if_false, behind}
use Rattle.ob_scheme.specs.Context.{Context, words, type_operand}
use Rattle.ob_scheme.specs.Operations.{bytes_of, update_line}
use Rattle.ob_scheme.specs.declared.want.Want.{Want}
use Rattle.ob_scheme.specs.declared.want.Want.TheVariants as want
use Rattle.ob_scheme.specs.Expressions.{variable_code, end_desig, end_expr, desig_code, expr_code}

-- ---- small pieces

abbrev pub word_at : ℕ → List Line
word_at k = plain op.Local (count k) ∷ bare op.Load ∷ []

-- the tag of a VAR record and of what a pointer points to is its dynamic type's, of any other variable its static type's
abbrev pub is_passed_with_tag : Passing → Bool
is_passed_with_tag passing.VariableRecord = true
is_passed_with_tag how = false

abbrev pub is_tagged_variable : Variable → Bool
is_tagged_variable (variable.Parameter how x) = is_passed_with_tag how
is_tagged_variable v = false

abbrev pub is_tagged_guard : Guarded → Bool
is_tagged_guard guarded.Record = true
is_tagged_guard guarded.Pointer = false

abbrev pub has_tag : Desig → Bool
has_tag (OfVariable v t) = is_tagged_variable v
has_tag (Guard d g target at t) = is_tagged_guard g
has_tag (Deref d at t) = true
has_tag d = false

-- a record is copied where it lies, or with a test of the target's tag
abbrev pub record_want : Bool → Want
record_want true = want.PlaceAndTag
record_want false = want.Place

-- what is wanted of the target, and of what is assigned
abbrev pub target_want : Assigned → Desig → Want
target_want (assigned.Record q) d = record_want (has_tag d)
target_want how d = want.Place

abbrev pub source_want : Assigned → Want
source_want assigned.Scalar = want.Value
source_want how = want.Place

-- how many words a string has, its 0X among them
abbrev pub text_words_of : Value → ℕ
text_words_of (literal.Str text) = suc (length text)
text_words_of v = 0

abbrev pub text_words : Expr → ℕ
text_words (Constant v) = text_words_of v
text_words e = 0

module _ (c : Context) where
  abbrev pub copy_record : Bool → QName → Pos → Line
  copy_record true q at = placed_two op.CopyRec (count (words c (ref.Named q))) (type_operand c q) at
  copy_record false q at = plain op.Copy (count (words c (ref.Named q)))

  abbrev pub assign_line : Assigned → Desig → Expr → Pos → Line
  assign_line assigned.Scalar d e at = bare op.Store
  assign_line assigned.Text d e at = plain op.Copy (count (text_words e))
  assign_line assigned.Array d e at = plain op.Copy (count (words c (variable_type d)))
  assign_line (assigned.Record q) d e at = copy_record (has_tag d) q at

  abbrev pub new_line : Made → Pos → Line
  new_line (made.Record q) at = placed op.NewR (type_operand c q) at
  new_line (made.Array t) at = placed op.NewA (count (words c t)) at

  -- FOR's variable is of an integer type
  abbrev pub for_place : Variable → List Line
  for_place v = variable_code c want.Place v (ref.Basic basic.LongInt)

  abbrev pub for_value : Variable → List Line
  for_value v = variable_code c want.Value v (ref.Basic basic.LongInt)

  -- up to the end for a positive step, down to it for a negative one
  abbrev pub within : ℤ → Opcode
  within (pos n) = op.Le
  within (negsuc n) = op.Ge

  abbrev pub end_for_test : Variable → ℕ → ℕ
  end_for_test v pc = suc (suc (suc (suc (behind (for_value v) pc))))

  abbrev pub end_for_step : Variable → ℕ → ℕ
  end_for_step v pc = suc (suc (behind (for_place v) pc))

  -- a label: below or above it, on to the next; else to the body
  abbrev pub end_label : ℕ → ℕ
  end_label pc = suc (suc (suc (suc (suc (suc (suc (suc (suc (suc (suc pc))))))))))

  abbrev pub label_code : ℕ → Label → ℕ → ℕ → List Line
  label_code t l pc body =
      plain op.Local (count t) ∷ bare op.Load ∷ plain op.Int (Number l.low) ∷ bare op.Ge ∷ jump_if_false (end_label pc)
      ∷ plain op.Local (count t) ∷ bare op.Load ∷ plain op.Int (Number l.high) ∷ bare op.Le ∷ jump_if_false (end_label pc)
      ∷ jump body ∷ []

  abbrev pub end_labels : List Label → ℕ → ℕ
  end_labels [] pc = pc
  end_labels (l ∷ ls) pc = end_labels ls (end_label pc)

  abbrev pub labels_code : ℕ → List Label → ℕ → ℕ → List Line
  labels_code t [] pc body = []
  labels_code t (l ∷ ls) pc body = label_code t l pc body ++ labels_code t ls (end_label pc) body

  abbrev pub end_result : Option Expr → ℕ → ℕ
  end_result None pc = suc pc
  end_result (Some e) pc = suc (end_expr c want.Value e pc)

  abbrev pub result_code : Option Expr → ℕ → List Line
  result_code None pc = bare op.Ret ∷ []
  result_code (Some e) pc = expr_code c want.Value e pc ++ bare op.RetV ∷ []

  -- ---- WHERE THE CODE ENDS

  abbrev mutual
    pub end_stmt : Stmt → ℕ → ℕ
    end_stmt (Assign d how e at) pc = suc (end_expr c (source_want how) e (end_desig c (target_want how d) d pc))
    end_stmt (CallProper e) pc = end_expr c want.Value e pc
    end_stmt (Updated o d e at) pc = suc (end_expr c want.Value e (end_desig c want.Place d pc))
    end_stmt (Copy e d at) pc = suc (end_desig c want.PlaceAndLength d (end_expr c want.PlaceAndLength e pc))
    end_stmt (New d what at) pc = suc (end_desig c want.Place d pc)
    end_stmt (NewOpenArray d t n at) pc = suc (end_expr c want.Value n (end_desig c want.Place d pc))
    end_stmt (Assert e number at) pc = suc (end_expr c want.Value e pc)
    end_stmt (Halt number at) pc = suc pc
    end_stmt (If branches otherwise) pc = end_stmts otherwise (end_branches branches pc)
    end_stmt (Case e cases otherwise at) pc = end_else otherwise (end_cases cases (suc (end_expr c want.Value e (suc pc))))
    end_stmt (While e body at) pc = suc (end_stmts body (suc (end_expr c want.Value e pc)))
    end_stmt (Repeat body e at) pc = suc (end_expr c want.Value e (end_stmts body pc))
    end_stmt (For v w start stop step body at) pc =
        let p1 = suc (end_expr c want.Value stop (suc pc)) in
        let p2 = suc (end_expr c want.Value start (behind (for_place v) p1)) in
        suc (end_for_step v (end_stmts body (end_for_test v p2)))
    end_stmt (Loop body at) pc = suc (end_stmts body pc)
    end_stmt Exit pc = suc pc
    end_stmt (Return e) pc = end_result e pc
    end_stmt (With branches otherwise at) pc = end_else otherwise (end_branches branches pc)

    pub end_stmts : Stmts → ℕ → ℕ
    end_stmts Nothing pc = pc
    end_stmts (Then s rest) pc = end_stmts rest (end_stmt s pc)

    pub end_branches : Branches → ℕ → ℕ
    end_branches NoBranch pc = pc
    end_branches (Branch test body rest) pc = end_branches rest (suc (end_stmts body (suc (end_expr c want.Value test pc))))

    pub end_cases : Cases → ℕ → ℕ
    end_cases NoCase pc = pc
    end_cases (OneCase labels body rest) pc = end_cases rest (suc (end_stmts body (suc (end_labels labels pc))))

    pub end_else : Otherwise → ℕ → ℕ
    end_else NoElse pc = suc pc
    end_else (Else body) pc = end_stmts body pc

  -- ---- THE WORDS of FOR and CASE: the next one behind a statement

  abbrev mutual
    pub next_stmt : Stmt → ℕ → ℕ
    next_stmt (If branches otherwise) t = next_stmts otherwise (next_branches branches t)
    next_stmt (Case e cases otherwise at) t = next_else otherwise (next_cases cases (suc t))
    next_stmt (While e body at) t = next_stmts body t
    next_stmt (Repeat body e at) t = next_stmts body t
    next_stmt (For v w start stop step body at) t = next_stmts body (suc t)
    next_stmt (Loop body at) t = next_stmts body t
    next_stmt (With branches otherwise at) t = next_else otherwise (next_branches branches t)
    next_stmt s t = t

    pub next_stmts : Stmts → ℕ → ℕ
    next_stmts Nothing t = t
    next_stmts (Then s rest) t = next_stmts rest (next_stmt s t)

    pub next_branches : Branches → ℕ → ℕ
    next_branches NoBranch t = t
    next_branches (Branch test body rest) t = next_branches rest (next_stmts body t)

    pub next_cases : Cases → ℕ → ℕ
    next_cases NoCase t = t
    next_cases (OneCase labels body rest) t = next_cases rest (next_stmts body t)

    pub next_else : Otherwise → ℕ → ℕ
    next_else NoElse t = t
    next_else (Else body) t = next_stmts body t

  -- ---- THE CODE

  abbrev mutual
    pub stmt_code : Stmt → (pc t x : ℕ) → List Line
    stmt_code (Assign d how e at) pc t x = desig_code c (target_want how d) d pc ++ (expr_code c (source_want how) e (end_desig c (target_want how d) d pc) ++ assign_line how d e at ∷ [])
    stmt_code (CallProper e) pc t x = expr_code c want.Value e pc
    stmt_code (Updated o d e at) pc t x = desig_code c want.Place d pc ++ (expr_code c want.Value e (end_desig c want.Place d pc) ++ update_line o at ∷ [])
    stmt_code (Copy e d at) pc t x = expr_code c want.PlaceAndLength e pc ++ (desig_code c want.PlaceAndLength d (end_expr c want.PlaceAndLength e pc) ++ bare_at op.StrCopy at ∷ [])
    stmt_code (New d what at) pc t x = desig_code c want.Place d pc ++ new_line what at ∷ []
    stmt_code (NewOpenArray d element n at) pc t x = desig_code c want.Place d pc ++ (expr_code c want.Value n (end_desig c want.Place d pc) ++ placed op.NewO (count (words c element)) at ∷ [])
    stmt_code (Assert e number at) pc t x = expr_code c want.Value e pc ++ placed op.Assert (Number number) at ∷ []
    stmt_code (Halt number at) pc t x = placed_two op.Trap (count (trap_number trap.Halted)) (Number number) at ∷ []
    stmt_code (If branches otherwise) pc t x =
        let p1 = end_branches branches pc in
        branches_code branches pc t x (end_stmts otherwise p1) ++ stmts_code otherwise p1 (next_branches branches t) x
    stmt_code (Case e cases otherwise at) pc t x =
        let p1 = suc (end_expr c want.Value e (suc pc)) in
        let p2 = end_cases cases p1 in
        plain op.Local (count t) ∷ (expr_code c want.Value e (suc pc) ++ (bare op.Store ∷ (cases_code t cases p1 (suc t) x (end_else otherwise p2) ++ else_code trap.NoCase at otherwise p2 (next_cases cases (suc t)) x)))
    stmt_code (While e body at) pc t x =
        let p1 = end_expr c want.Value e pc in
        let p2 = end_stmts body (suc p1) in
        expr_code c want.Value e pc ++ (jump_if_false (suc p2) ∷ (stmts_code body (suc p1) t x ++ jump_back pc at ∷ []))
    stmt_code (Repeat body e at) pc t x = stmts_code body pc t x ++ (expr_code c want.Value e (end_stmts body pc) ++ jump_back_if_false pc at ∷ [])
    stmt_code (For v w start stop step body at) pc t x =
        let p1 = suc (end_expr c want.Value stop (suc pc)) in
        let p2 = suc (end_expr c want.Value start (behind (for_place v) p1)) in
        let p3 = end_for_test v p2 in
        let p4 = end_stmts body p3 in
        plain op.Local (count t) ∷ (expr_code c want.Value stop (suc pc) ++ (bare op.Store
        ∷ (for_place v ++ (expr_code c want.Value start (behind (for_place v) p1) ++ (bare op.Store
        ∷ (for_value v ++ (plain op.Local (count t) ∷ bare op.Load ∷ bare (within step) ∷ jump_if_false (suc (end_for_step v p4))
        ∷ (stmts_code body p3 (suc t) x
        ++ (for_place v ++ (plain op.Int (Number step) ∷ placed op.Inc (count (bytes_of w)) at ∷ jump_back p2 at ∷ [])))))))))
        )
    stmt_code (Loop body at) pc t x =
        let p1 = end_stmts body pc in
        stmts_code body pc t (suc p1) ++ jump_back pc at ∷ []
    stmt_code Exit pc t x = jump x ∷ []
    stmt_code (Return e) pc t x = result_code e pc
    stmt_code (With branches otherwise at) pc t x =
        let p1 = end_branches branches pc in
        branches_code branches pc t x (end_else otherwise p1) ++ else_code trap.NoMatch at otherwise p1 (next_branches branches t) x

    pub stmts_code : Stmts → (pc t x : ℕ) → List Line
    stmts_code Nothing pc t x = []
    stmts_code (Then s rest) pc t x = stmt_code s pc t x ++ stmts_code rest (end_stmt s pc) (next_stmt s t) x

    -- a test, on to the next where it fails; the body, and then to the end
    pub branches_code : Branches → (pc t x end : ℕ) → List Line
    branches_code NoBranch pc t x end = []
    branches_code (Branch test body rest) pc t x end =
        let p1 = end_expr c want.Value test pc in
        let p2 = end_stmts body (suc p1) in
        expr_code c want.Value test pc ++ (jump_if_false (suc p2) ∷ (stmts_code body (suc p1) t x ++ (jump end ∷ branches_code rest (suc p2) (next_stmts body t) x end)))

    -- the labels, on to the next; the body, and then to the end; the value is in the word k
    pub cases_code : (k : ℕ) → Cases → (pc t x end : ℕ) → List Line
    cases_code k NoCase pc t x end = []
    cases_code k (OneCase labels body rest) pc t x end =
        let p1 = end_labels labels pc in
        let p2 = end_stmts body (suc p1) in
        labels_code k labels pc (suc p1) ++ (jump (suc p2) ∷ (stmts_code body (suc p1) t x ++ (jump end ∷ cases_code k rest (suc p2) (next_stmts body t) x end)))

    -- what stands behind ELSE, or the trap
    pub else_code : Trap → Pos → Otherwise → (pc t x : ℕ) → List Line
    else_code kind at NoElse pc t x = placed op.Trap (count (trap_number kind)) at ∷ []
    else_code kind at (Else body) pc t x = stmts_code body pc t x
