-- How many lines the code of a tree has, wherever it begins; of these numbers those above the limit of code are told no further.
use Rattle.std.specs.Prelude.{ℕ, ◌+◌, ◌*◌, min, length, Option, Some, None}
use Rattle.ob_tree.specs.declared.names.QName.{QName}
use Rattle.ob_types.specs.declared.desc.Desc.{Desc}
use Rattle.ob_types.specs.declared.typed.Variable.{Variable}
use Rattle.ob_types.specs.TypedSyntax.{Desig, OfVariable, Field, Index, Deref, Guard, Expr, Constant, ValueOf, ProcedureValue, Monadic, Dyadic, Logical, CompareTexts, IsPointer, IsRecord, Length, Call, CallVariable, Actuals, NoActual, AnActual, Stmt, Assign, CallProper, Updated, Copy, New, NewOpenArray, Assert, Halt, If, Case, While, Repeat, For, Loop, Exit, Return, With, Stmts, Nothing, Then, Branches, NoBranch, Branch, Cases, NoCase, OneCase, Otherwise, NoElse, Else}
use Rattle.ob_scheme.specs.declared.want.Want.{Want}
use Rattle.ob_scheme.specs.declared.want.Want.TheVariants as want
use Rattle.ob_scheme.specs.Descriptions.{elements_of}
use Rattle.ob_scheme.specs.Expressions.{index_want, guard_want}
use Rattle.ob_scheme.specs.Statements.{target_want, source_want}
use Rattle.ob_gproc_operands.specs.Nowhere.{passed}
use Rattle.ob_gstmt_labels.specs.Sizes.{place_size, pointer_size, guard_size, variable_size, constant_size, unary_size, between, joined}

-- more than a module may have count as one more than that
abbrev pub capped : ℕ → ℕ
capped n = min n 262145

-- FOR, beside its end, its start and its body
abbrev pub for_size : Variable → ℕ
for_size v = variable_size want.Place v + (variable_size want.Place v + (variable_size want.Value v + 10))

module _ (types : QName → Option Desc) where
  abbrev mutual
    pub desig_lines : Want → Desig → ℕ
    desig_lines w (OfVariable v t) = variable_size w v
    desig_lines w (Field d owner name t) = desig_lines want.Place d + (place_size w + 1)
    desig_lines w (Index d n i at t) = desig_lines (index_want n) d + (expr_lines want.Value i + (place_size w + 1))
    desig_lines w (Deref d at t) = desig_lines want.Value d + pointer_size w (elements_of types t)
    desig_lines w (Guard d g target at t) = desig_lines (guard_want g w) d + (guard_size g w + 1)

    pub expr_lines : Want → Expr → ℕ
    expr_lines w (Constant v) = constant_size w v
    expr_lines w (ValueOf d) = desig_lines w d
    expr_lines w (ProcedureValue q signature) = 1
    expr_lines w (Monadic o e at) = expr_lines want.Value e + unary_size o
    expr_lines w (Dyadic o a b at) = expr_lines want.Value a + (expr_lines want.Value b + 1)
    expr_lines w (Logical o a b) = expr_lines want.Value a + (expr_lines want.Value b + (between o + joined o))
    expr_lines w (CompareTexts r a b at) = expr_lines want.PlaceAndLength a + (expr_lines want.PlaceAndLength b + 1)
    expr_lines w (IsPointer e target) = expr_lines want.Value e + 1
    expr_lines w (IsRecord d target) = desig_lines want.Tag d + 1
    expr_lines w (Length d) = desig_lines want.Length d
    expr_lines w (Call callee es at t) = actuals_lines es + 1
    expr_lines w (CallVariable d es at t) = desig_lines want.Value d + (actuals_lines es + 1)

    pub actuals_lines : Actuals → ℕ
    actuals_lines NoActual = 0
    actuals_lines (AnActual how t e rest) = expr_lines (passed how) e + actuals_lines rest

  abbrev pub result_lines : Option Expr → ℕ
  result_lines None = 1
  result_lines (Some e) = expr_lines want.Value e + 1

  abbrev mutual
    pub stmt_lines : Stmt → ℕ
    stmt_lines (Assign d how e at) = desig_lines (target_want how d) d + (expr_lines (source_want how) e + 1)
    stmt_lines (CallProper e) = expr_lines want.Value e
    stmt_lines (Updated o d e at) = desig_lines want.Place d + (expr_lines want.Value e + 1)
    stmt_lines (Copy e d at) = expr_lines want.PlaceAndLength e + (desig_lines want.PlaceAndLength d + 1)
    stmt_lines (New d what at) = desig_lines want.Place d + 1
    stmt_lines (NewOpenArray d t n at) = desig_lines want.Place d + (expr_lines want.Value n + 1)
    stmt_lines (Assert e number at) = expr_lines want.Value e + 1
    stmt_lines (Halt number at) = 1
    stmt_lines (If branches otherwise) = branches_lines branches + stmts_lines otherwise
    stmt_lines (Case e cases otherwise at) = expr_lines want.Value e + (cases_lines cases + (else_lines otherwise + 2))
    stmt_lines (While e body at) = expr_lines want.Value e + (stmts_lines body + 2)
    stmt_lines (Repeat body e at) = stmts_lines body + (expr_lines want.Value e + 1)
    stmt_lines (For v w start stop step body at) = expr_lines want.Value stop + (expr_lines want.Value start + (stmts_lines body + for_size v))
    stmt_lines (Loop body at) = stmts_lines body + 1
    stmt_lines Exit = 1
    stmt_lines (Return e) = result_lines e
    stmt_lines (With branches otherwise at) = branches_lines branches + else_lines otherwise

    pub stmts_lines : Stmts → ℕ
    stmts_lines Nothing = 0
    stmts_lines (Then s rest) = stmt_lines s + stmts_lines rest

    pub branches_lines : Branches → ℕ
    branches_lines NoBranch = 0
    branches_lines (Branch test body rest) = expr_lines want.Value test + (stmts_lines body + 2) + branches_lines rest

    pub cases_lines : Cases → ℕ
    cases_lines NoCase = 0
    cases_lines (OneCase labels body rest) = 11 * length labels + (stmts_lines body + 2) + cases_lines rest

    pub else_lines : Otherwise → ℕ
    else_lines NoElse = 1
    else_lines (Else body) = stmts_lines body
