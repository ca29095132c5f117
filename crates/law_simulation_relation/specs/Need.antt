-- How many operands a part of the code puts on those that stand, at most.
use Rattle.std.specs.Prelude.{ℕ, ◌+◌, max, Option, Some, None}
use Rattle.ob_types.specs.declared.typed.Passing.{Passing}
use Rattle.ob_types.specs.declared.typed.Passing.TheVariants as passing
use Rattle.ob_types.specs.declared.typed.Variable.TheVariants as variable
use Rattle.ob_types.specs.declared.typed.Guarded.TheVariants as guarded
use Rattle.ob_types.specs.declared.typed.Assigned.{Assigned}
use Rattle.ob_types.specs.declared.typed.Assigned.TheVariants as assigned
use Rattle.ob_types.specs.TypedSyntax.{Desig, OfVariable, Field, Index, Deref, Guard, Expr, Constant, ValueOf, ProcedureValue, Monadic, Dyadic, Logical, CompareTexts, IsPointer, IsRecord, Length, Call, CallVariable, Actuals, NoActual, AnActual, Stmt, Assign, CallProper, Updated, Copy, New, NewOpenArray, Assert, Halt, If, Case, While, Repeat, For, Loop, Exit, Return, With, Stmts, Nothing, Then, Branches, NoBranch, Branch, Cases, NoCase, OneCase, Otherwise, NoElse, Else}
use Rattle.law_simulation_relation.specs.Stands.{slots_passed}

abbrev mutual
  pub need_place : Desig → ℕ
  need_place (OfVariable v t) = 1
  need_place (Field d o x t) = need_place d
  need_place (Index d (Some n) i at t) = max (need_place d) (1 + need_expr i)
  need_place (Index d None i at t) = max (need_open d) (2 + need_expr i)
  need_place (Deref d at t) = need_place d
  need_place (Guard d guarded.Pointer q at t) = need_place d
  need_place (Guard d guarded.Record q at t) = need_tagged d

  pub need_tagged : Desig → ℕ
  need_tagged (OfVariable v t) = 2
  need_tagged (Field d o x t) = max 2 (need_place d)
  need_tagged (Index d (Some n) i at t) = max 2 (max (need_place d) (1 + need_expr i))
  need_tagged (Index d None i at t) = max 2 (max (need_open d) (2 + need_expr i))
  need_tagged (Deref d at t) = max 2 (need_place d)
  need_tagged (Guard d guarded.Pointer q at t) = max 2 (need_place d)
  need_tagged (Guard d guarded.Record q at t) = need_tagged d

  pub need_open : Desig → ℕ
  need_open (OfVariable v t) = 2
  need_open (Deref d at t) = max 2 (need_place d)
  need_open d = 2

  pub need_expr : Expr → ℕ
  need_expr (Constant c) = 1
  need_expr (ValueOf d) = need_place d
  need_expr (ProcedureValue q signature) = 1
  need_expr (Monadic op e at) = need_expr e
  need_expr (Dyadic op a b at) = max (need_expr a) (1 + need_expr b)
  need_expr (Logical op a b) = max (need_expr a) (need_expr b)
  need_expr (CompareTexts r a b at) = max (need_array a) (2 + need_array b)
  need_expr (IsPointer e q) = need_expr e
  need_expr (IsRecord d q) = 1
  need_expr (Length d) = need_length d
  need_expr (Call callee es at t) = max 1 (need_actuals es)
  need_expr (CallVariable d es at t) = max (need_place d) (1 + need_actuals es)

  pub need_length : Desig → ℕ
  need_length (Deref d at t) = need_place d
  need_length d = 1

  pub need_array : Expr → ℕ
  need_array (ValueOf d) = max (need_open d) (max 2 (need_place d))
  need_array e = 2

  pub need_passed : Expr → Passing → ℕ
  need_passed (ValueOf d) passing.Scalar = need_place d
  need_passed (ValueOf d) passing.Structure = need_place d
  need_passed (ValueOf d) passing.Variable = need_place d
  need_passed (ValueOf d) passing.VariableRecord = need_tagged d
  need_passed (ValueOf d) how = max (need_open d) (max 2 (need_place d))
  need_passed (Constant c) passing.OpenArray = 2
  need_passed (Constant c) passing.VariableOpenArray = 2
  need_passed (Constant c) how = 1
  need_passed (ProcedureValue q signature) how = 1
  need_passed (Monadic op e at) how = need_expr e
  need_passed (Dyadic op a b at) how = max (need_expr a) (1 + need_expr b)
  need_passed (Logical op a b) how = max (need_expr a) (need_expr b)
  need_passed (CompareTexts r a b at) how = max (need_array a) (2 + need_array b)
  need_passed (IsPointer e q) how = need_expr e
  need_passed (IsRecord d q) how = 1
  need_passed (Length d) how = need_length d
  need_passed (Call callee es at t) how = max 1 (need_actuals es)
  need_passed (CallVariable d es at t) how = max (need_place d) (1 + need_actuals es)

  pub need_actuals : Actuals → ℕ
  need_actuals NoActual = 0
  need_actuals (AnActual how t e rest) = max (need_passed e how) (slots_passed how + need_actuals rest)

abbrev pub need_optional : Option Expr → ℕ
need_optional None = 0
need_optional (Some e) = need_expr e

-- a record's target, and behind it what is assigned: with its tag where that may be another than its static type's
abbrev pub need_record : Desig → ℕ → ℕ
need_record (OfVariable (variable.Parameter passing.VariableRecord x) t) n = 2 + n
need_record (Deref d at t) n = max (need_tagged (Deref d at t)) (2 + n)
need_record (Guard d g q at t) n = max (need_tagged (Guard d g q at t)) (2 + n)
need_record d n = max (need_place d) (1 + n)

abbrev pub need_assigned : Assigned → Desig → Expr → ℕ
need_assigned assigned.Scalar d e = max (need_place d) (1 + need_expr e)
need_assigned assigned.Text d e = max (need_place d) 2
need_assigned assigned.Array d e = max (need_place d) (1 + need_passed e passing.Structure)
need_assigned (assigned.Record q) d e = need_record d (need_passed e passing.Structure)

abbrev mutual
  pub need_stmt : Stmt → ℕ
  need_stmt (Assign d how e at) = need_assigned how d e
  need_stmt (CallProper e) = need_expr e
  need_stmt (Updated op d e at) = max (need_place d) (1 + need_expr e)
  need_stmt (Copy e d at) = max (need_array e) (2 + need_array (ValueOf d))
  need_stmt (New d what at) = need_place d
  need_stmt (NewOpenArray d t n at) = max (need_place d) (1 + need_expr n)
  need_stmt (Assert e number at) = need_expr e
  need_stmt (Halt number at) = 0
  need_stmt (If branches otherwise) = max (need_branches branches) (need_stmts otherwise)
  need_stmt (Case e cases otherwise at) = max (1 + need_expr e) (max 2 (max (need_cases cases) (need_else otherwise)))
  need_stmt (While e body at) = max (need_expr e) (need_stmts body)
  need_stmt (Repeat body e at) = max (need_stmts body) (need_expr e)
  need_stmt (For v w start end step body at) = max (1 + need_expr end) (max (1 + need_expr start) (max 2 (need_stmts body)))
  need_stmt (Loop body at) = need_stmts body
  need_stmt Exit = 0
  need_stmt (Return e) = need_optional e
  need_stmt (With branches otherwise at) = max (need_branches branches) (need_else otherwise)

  pub need_stmts : Stmts → ℕ
  need_stmts Nothing = 0
  need_stmts (Then s rest) = max (need_stmt s) (need_stmts rest)

  pub need_branches : Branches → ℕ
  need_branches NoBranch = 0
  need_branches (Branch test body rest) = max (need_expr test) (max (need_stmts body) (need_branches rest))

  pub need_cases : Cases → ℕ
  need_cases NoCase = 0
  need_cases (OneCase labels body rest) = max (need_stmts body) (need_cases rest)

  pub need_else : Otherwise → ℕ
  need_else NoElse = 0
  need_else (Else body) = need_stmts body
