-- How many operands stand at most while the code of a tree runs, above those that stood before it; and the limits of code.
use Rattle.std.specs.Prelude.{ℕ, ◌+◌, max, List, [], ◌∷◌, length, nat_le, Bool, true, ◌&&◌, Option, Some, None}
use Rattle.ob_tree.specs.declared.names.QName.{QName}
use Rattle.ob_types.specs.declared.types.TypeRef.{TypeRef}
use Rattle.ob_types.specs.declared.desc.Desc.{Desc}
use Rattle.ob_types.specs.declared.typed.Label.{Label}
use Rattle.ob_types.specs.TypedSyntax.{Desig, OfVariable, Field, Index, Deref, Guard, Expr, Constant, ValueOf, ProcedureValue, Monadic, Dyadic, Logical, CompareTexts, IsPointer, IsRecord, Length, Call, CallVariable, Actuals, NoActual, AnActual, Stmt, Assign, CallProper, Updated, Copy, New, NewOpenArray, Assert, Halt, If, Case, While, Repeat, For, Loop, Exit, Return, With, Stmts, Nothing, Then, Branches, NoBranch, Branch, Cases, NoCase, OneCase, Otherwise, NoElse, Else, Procedure, Module}
use Rattle.ob_scheme.specs.Context.{Context, words}
use Rattle.ob_scheme.specs.declared.want.Want.{Want}
use Rattle.ob_scheme.specs.declared.want.Want.TheVariants as want
use Rattle.ob_scheme.specs.Expressions.{wanted, index_want, guard_want}
use Rattle.ob_scheme.specs.Statements.{target_want, source_want}
use Rattle.ob_scheme.specs.Procedures.{all_procedures, within, module_code}

-- how many operands what is wanted comes to
abbrev pub operands_of : Want → ℕ
operands_of want.Value = 1
operands_of want.Place = 1
operands_of (want.Room n) = 1
operands_of want.PlaceAndTag = 2
operands_of want.Tag = 1
operands_of want.PlaceAndLength = 2
operands_of want.Length = 1

abbrev pub result_operands : Option TypeRef → ℕ
result_operands None = 0
result_operands (Some t) = 1

abbrev pub label_operands : List Label → ℕ
label_operands [] = 0
label_operands (l ∷ ls) = 2

module _ (c : Context) where
  abbrev mutual
    pub need_desig : Want → Desig → ℕ
    need_desig w (OfVariable v t) = operands_of w
    need_desig w (Field d owner name t) = max (need_desig want.Place d) (operands_of w)
    need_desig w (Index d n i at t) = max (need_desig (index_want n) d) (max (operands_of (index_want n) + need_expr want.Value i) (operands_of w))
    need_desig w (Deref d at t) = max (need_desig want.Value d) (operands_of w)
    need_desig w (Guard d g target at t) = max (need_desig (guard_want g w) d) (operands_of w)

    pub need_expr : Want → Expr → ℕ
    need_expr w (Constant v) = operands_of w
    need_expr w (ValueOf d) = need_desig w d
    need_expr w (ProcedureValue q signature) = 1
    need_expr w (Monadic o e at) = need_expr want.Value e
    need_expr w (Dyadic o a b at) = max (need_expr want.Value a) (1 + need_expr want.Value b)
    need_expr w (Logical o a b) = max (need_expr want.Value a) (need_expr want.Value b)
    need_expr w (CompareTexts r a b at) = max (need_expr want.PlaceAndLength a) (2 + need_expr want.PlaceAndLength b)
    need_expr w (IsPointer e target) = need_expr want.Value e
    need_expr w (IsRecord d target) = need_desig want.Tag d
    need_expr w (Length d) = need_desig want.Length d
    need_expr w (Call callee es at t) = max (need_actuals es) (result_operands t)
    need_expr w (CallVariable d es at t) = max (need_desig want.Value d) (1 + need_actuals es)

    pub need_actuals : Actuals → ℕ
    need_actuals NoActual = 0
    need_actuals (AnActual how t e rest) = max (need_expr (wanted (words c) how t) e) (operands_of (wanted (words c) how t) + need_actuals rest)

  abbrev pub need_result : Option Expr → ℕ
  need_result None = 0
  need_result (Some e) = need_expr want.Value e

  abbrev mutual
    pub need_stmt : Stmt → ℕ
    need_stmt (Assign d how e at) = max (need_desig (target_want how d) d) (operands_of (target_want how d) + need_expr (source_want how) e)
    need_stmt (CallProper e) = need_expr want.Value e
    need_stmt (Updated o d e at) = max (need_desig want.Place d) (1 + need_expr want.Value e)
    need_stmt (Copy e d at) = max (need_expr want.PlaceAndLength e) (2 + need_desig want.PlaceAndLength d)
    need_stmt (New d what at) = need_desig want.Place d
    need_stmt (NewOpenArray d t n at) = max (need_desig want.Place d) (1 + need_expr want.Value n)
    need_stmt (Assert e number at) = need_expr want.Value e
    need_stmt (Halt number at) = 0
    need_stmt (If branches otherwise) = max (need_branches branches) (need_stmts otherwise)
    need_stmt (Case e cases otherwise at) = max (1 + need_expr want.Value e) (max (need_cases cases) (need_else otherwise))
    need_stmt (While e body at) = max (need_expr want.Value e) (need_stmts body)
    need_stmt (Repeat body e at) = max (need_stmts body) (need_expr want.Value e)
    need_stmt (For v w start stop step body at) = max (1 + need_expr want.Value stop) (max (1 + need_expr want.Value start) (max 2 (need_stmts body)))
    need_stmt (Loop body at) = need_stmts body
    need_stmt Exit = 0
    need_stmt (Return e) = need_result e
    need_stmt (With branches otherwise at) = max (need_branches branches) (need_else otherwise)

    pub need_stmts : Stmts → ℕ
    need_stmts Nothing = 0
    need_stmts (Then s rest) = max (need_stmt s) (need_stmts rest)

    pub need_branches : Branches → ℕ
    need_branches NoBranch = 0
    need_branches (Branch test body rest) = max (need_expr want.Value test) (max (need_stmts body) (need_branches rest))

    pub need_cases : Cases → ℕ
    need_cases NoCase = 0
    need_cases (OneCase labels body rest) = max (label_operands labels) (max (need_stmts body) (need_cases rest))

    pub need_else : Otherwise → ℕ
    need_else NoElse = 0
    need_else (Else body) = need_stmts body

-- ---- LIMITS

abbrev pub most_operands : ℕ
most_operands = 256

abbrev pub most_code : ℕ
most_code = 262144

abbrev pub have_few_operands : (QName → Option Desc) → Module → List Procedure → Bool
have_few_operands types m [] = true
have_few_operands types m (p ∷ ps) = nat_le (need_stmts (within types m p) p.body) most_operands && have_few_operands types m ps

-- the limit of operands, and that of code
abbrev pub has_few_operands : (QName → Option Desc) → Module → Bool
has_few_operands types m = have_few_operands types m (all_procedures m)

abbrev pub has_short_code : (QName → Option Desc) → Module → Bool
has_short_code types m = nat_le (length (module_code types m)) most_code
