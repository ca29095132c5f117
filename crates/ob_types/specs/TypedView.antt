-- The checked tree, as the tree that meaning and code are read from.
use Rattle.std.specs.Prelude.{List, [], ◌∷◌, map, Option, Some, None}
use Rattle.std.specs.Option.{option_map}
use Rattle.ob_types.specs.declared.types.TypeRef.{TypeRef}
use Rattle.ob_types.specs.declared.typed.Passing.{Passing}
use Rattle.ob_types.specs.declared.typed.Designator as d
use Rattle.ob_types.specs.declared.typed.Designator.TheOpen.{Designator-F, TypedExpr-F, Actual-F}
use Rattle.ob_types.specs.declared.typed.Designator.TheFolds.{fold-Designator, fold-TypedExpr, fold-Actual}
use Rattle.ob_types.specs.declared.typed.TypedExpr.{TypedExpr}
use Rattle.ob_types.specs.declared.typed.Actual as a
use Rattle.ob_types.specs.declared.typed.TypedStmt.{TypedStmt}
use Rattle.ob_types.specs.declared.typed.TypedStmt.TheOpen.{TypedStmt-F, TypedBranch-F, TypedCase-F}
use Rattle.ob_types.specs.declared.typed.TypedStmt.TheFolds.{fold-TypedStmt, fold-TypedBranch, fold-TypedCase}
use Rattle.ob_types.specs.declared.typed.TypedBranch.{TypedBranch}
use Rattle.ob_types.specs.declared.typed.TypedCase.{TypedCase}
use Rattle.ob_types.specs.declared.typed.Label.{Label}
use Rattle.ob_types.specs.declared.typed.TypedProcedure.{TypedProcedure}
use Rattle.ob_types.specs.declared.typed.Mentioned.{Mentioned}
use Rattle.ob_types.specs.declared.typed.TypedModule.{TypedModule}
use Rattle.ob_types.specs.TypedSyntax.{Desig, OfVariable, Field, Index, Deref, Guard, Expr, Constant, ValueOf, ProcedureValue, Monadic, Dyadic, Logical, CompareTexts, IsPointer, IsRecord, Length, Call, CallVariable, Actuals, NoActual, AnActual, Stmt, Assign, CallProper, Updated, Copy, New, NewOpenArray, Assert, Halt, If, Case, While, Repeat, For, Loop, Exit, Return, With, Stmts, Nothing, Then, Branches, NoBranch, Branch, Cases, NoCase, OneCase, Otherwise, NoElse, Else, Procedure, Mentions, Module}

-- an actual parameter of a list
pub record OneActual : Type 0 where
  pub passing : Passing
  pub formal : TypeRef
  pub e : Expr

abbrev pub actuals_of : List OneActual → Actuals
actuals_of [] = NoActual
actuals_of (x ∷ xs) = AnActual x.passing x.formal x.e (actuals_of xs)

abbrev pub designator_layer : Designator-F Desig Expr OneActual → Desig
designator_layer (Designator-F.Variable v t) = OfVariable v t
designator_layer (Designator-F.Field x owner name t) = Field x owner name t
designator_layer (Designator-F.Index x n i at t) = Index x n i at t
designator_layer (Designator-F.Deref x at t) = Deref x at t
designator_layer (Designator-F.Guard x g target at t) = Guard x g target at t

abbrev pub expr_layer : TypedExpr-F Desig Expr OneActual → Expr
expr_layer (TypedExpr-F.Constant v) = Constant v
expr_layer (TypedExpr-F.Designator x) = ValueOf x
expr_layer (TypedExpr-F.Procedure name signature) = ProcedureValue name signature
expr_layer (TypedExpr-F.Unary op x at) = Monadic op x at
expr_layer (TypedExpr-F.Binary op x y at) = Dyadic op x y at
expr_layer (TypedExpr-F.Logical op x y) = Logical op x y
expr_layer (TypedExpr-F.CompareTexts r x y at) = CompareTexts r x y at
expr_layer (TypedExpr-F.IsPointer x target) = IsPointer x target
expr_layer (TypedExpr-F.IsRecord x target) = IsRecord x target
expr_layer (TypedExpr-F.Length x) = Length x
expr_layer (TypedExpr-F.Call callee xs at t) = Call callee (actuals_of xs) at t
expr_layer (TypedExpr-F.CallVariable x xs at t) = CallVariable x (actuals_of xs) at t

abbrev pub actual_layer : Actual-F Desig Expr OneActual → OneActual
actual_layer x = record { passing = x.passing; formal = x.formal; e = x.value }

abbrev pub designator_view : d.Designator → Desig
designator_view = fold-Designator Desig Expr OneActual designator_layer expr_layer actual_layer

abbrev pub expr_view : TypedExpr → Expr
expr_view = fold-TypedExpr Desig Expr OneActual designator_layer expr_layer actual_layer

abbrev pub actual_view : a.Actual → OneActual
actual_view = fold-Actual Desig Expr OneActual designator_layer expr_layer actual_layer

abbrev pub actuals_view : List a.Actual → Actuals
actuals_view xs = actuals_of (map actual_view xs)

-- a branch and a case of a list
pub record OneBranch : Type 0 where
  pub test : Expr
  pub body : Stmts

pub record LabelledBody : Type 0 where
  pub labels : List Label
  pub body : Stmts

abbrev pub stmts_of : List Stmt → Stmts
stmts_of [] = Nothing
stmts_of (s ∷ rest) = Then s (stmts_of rest)

abbrev pub branches_of : List OneBranch → Branches
branches_of [] = NoBranch
branches_of (b ∷ rest) = Branch b.test b.body (branches_of rest)

abbrev pub cases_of : List LabelledBody → Cases
cases_of [] = NoCase
cases_of (c ∷ rest) = OneCase c.labels c.body (cases_of rest)

abbrev pub otherwise_of : Option (List Stmt) → Otherwise
otherwise_of None = NoElse
otherwise_of (Some body) = Else (stmts_of body)

abbrev pub stmt_layer : TypedStmt-F Stmt OneBranch LabelledBody → Stmt
stmt_layer (TypedStmt-F.Assign target assigned e at) = Assign (designator_view target) assigned (expr_view e) at
stmt_layer (TypedStmt-F.Call e) = CallProper (expr_view e)
stmt_layer (TypedStmt-F.Update op target e at) = Updated op (designator_view target) (expr_view e) at
stmt_layer (TypedStmt-F.Copy source target at) = Copy (expr_view source) (designator_view target) at
stmt_layer (TypedStmt-F.New target made at) = New (designator_view target) made at
stmt_layer (TypedStmt-F.NewOpenArray target element n at) = NewOpenArray (designator_view target) element (expr_view n) at
stmt_layer (TypedStmt-F.Assert e n at) = Assert (expr_view e) n at
stmt_layer (TypedStmt-F.Halt n at) = Halt n at
stmt_layer (TypedStmt-F.If branches otherwise) = If (branches_of branches) (stmts_of otherwise)
stmt_layer (TypedStmt-F.Case e cases otherwise at) = Case (expr_view e) (cases_of cases) (otherwise_of otherwise) at
stmt_layer (TypedStmt-F.While e body at) = While (expr_view e) (stmts_of body) at
stmt_layer (TypedStmt-F.Repeat body e at) = Repeat (stmts_of body) (expr_view e) at
stmt_layer (TypedStmt-F.For v width start stop step body at) = For v width (expr_view start) (expr_view stop) step (stmts_of body) at
stmt_layer (TypedStmt-F.Loop body at) = Loop (stmts_of body) at
stmt_layer TypedStmt-F.Exit = Exit
stmt_layer (TypedStmt-F.Return e) = Return (option_map expr_view e)
stmt_layer (TypedStmt-F.With branches otherwise at) = With (branches_of branches) (otherwise_of otherwise) at

abbrev pub branch_layer : TypedBranch-F Stmt OneBranch LabelledBody → OneBranch
branch_layer b = record { test = expr_view b.test; body = stmts_of b.body }

abbrev pub case_layer : TypedCase-F Stmt OneBranch LabelledBody → LabelledBody
case_layer c = record { labels = c.labels; body = stmts_of c.body }

abbrev pub stmt_view : TypedStmt → Stmt
stmt_view = fold-TypedStmt Stmt OneBranch LabelledBody stmt_layer branch_layer case_layer

abbrev pub branch_view : TypedBranch → OneBranch
branch_view = fold-TypedBranch Stmt OneBranch LabelledBody stmt_layer branch_layer case_layer

abbrev pub case_view : TypedCase → LabelledBody
case_view = fold-TypedCase Stmt OneBranch LabelledBody stmt_layer branch_layer case_layer

abbrev pub stmts_view : List TypedStmt → Stmts
stmts_view body = stmts_of (map stmt_view body)

abbrev pub branches_view : List TypedBranch → Branches
branches_view bs = branches_of (map branch_view bs)

abbrev pub cases_view : List TypedCase → Cases
cases_view cs = cases_of (map case_view cs)

abbrev pub otherwise_view : Option (List TypedStmt) → Otherwise
otherwise_view None = NoElse
otherwise_view (Some body) = Else (stmts_view body)

abbrev pub procedure_view : TypedProcedure → Procedure
procedure_view p = record {
  name = p.name;
  mark = p.mark;
  at = p.pos;
  binding = p.binding;
  parameters = p.parameters;
  result = p.result;
  locals = p.locals;
  body = stmts_view p.body;
}

abbrev pub mentioned_view : Mentioned → Mentions
mentioned_view x = record { objects = x.objects; types = x.types; lengths = map designator_view x.lengths }

abbrev pub module_view : TypedModule → Module
module_view m = record {
  name = m.name;
  imports = m.imports;
  constants = m.constants;
  types = m.types;
  variables = m.variables;
  procedures = map procedure_view m.procedures;
  body = stmts_view m.body;
  mentioned = mentioned_view m.mentioned;
}
