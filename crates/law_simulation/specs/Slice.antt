-- The forms for which the law is proved: those that a checked module can have. Left out is what the rules refuse, above all a guarded
-- pointer that is passed by VAR: by another name its variable could then be given what does not extend the guard's type.
use Rattle.std.specs.Prelude.{◌≡◌, Option, Some, None}
use Rattle.ob_tree.specs.declared.names.QName.{QName}
use Rattle.ob_types.specs.declared.types.Basic.TheVariants as basic
use Rattle.ob_types.specs.declared.types.TypeRef.TheVariants as ref
use Rattle.ob_types.specs.declared.typed.OutProcedure.TheVariants as out
use Rattle.ob_types.specs.declared.value.Value.TheVariants as literal
use Rattle.ob_types.specs.declared.typed.Made.TheVariants as made
use Rattle.ob_types.specs.declared.typed.Update.TheVariants as update
use Rattle.ob_types.specs.declared.typed.Passing.TheVariants as passing
use Rattle.ob_types.specs.declared.typed.Variable.{Variable}
use Rattle.ob_types.specs.declared.typed.Variable.TheVariants as variable
use Rattle.ob_types.specs.declared.typed.Guarded.TheVariants as guarded
use Rattle.ob_types.specs.declared.typed.Callee.TheVariants as callee
use Rattle.ob_types.specs.declared.typed.Assigned.TheVariants as assigned
use Rattle.ob_types.specs.TypedSyntax.{Desig, OfVariable, Field, Index, Deref, Guard, Expr, Constant, ValueOf, Monadic, Dyadic, Logical, IsPointer, IsRecord, Call, CallVariable, Actuals, NoActual, AnActual, Stmt, Assign, CallProper, Updated, Assert, Halt, If, While, Repeat, Loop, Exit, Return, With, Stmts, Nothing, Then, Branches, NoBranch, Branch, NoElse, Else, Copy, New, NewOpenArray, CompareTexts, Length, Procedure, ProcedureValue, Case, For, Cases, NoCase, OneCase, Otherwise}
use Rattle.ob_meaning.specs.Values as values
use Rattle.law_simulation_relation.specs.Setting.{Setting}
use Rattle.law_simulation_relation.specs.Plain.{Plain}

-- a record variable, by its address and tag
abbrev pub InTaggedVariable : Variable → Type 0
InTaggedVariable (variable.Parameter passing.Structure x) = Unit {0}
InTaggedVariable (variable.Parameter passing.VariableRecord x) = Unit {0}
InTaggedVariable v = Plain v

-- an array variable whose length, where its slots have it, is taken with its address
abbrev pub InArrayVariable : Variable → Type 0
InArrayVariable (variable.Parameter passing.Structure x) = Unit {0}
InArrayVariable (variable.Parameter passing.OpenArray x) = Unit {0}
InArrayVariable (variable.Parameter passing.VariableOpenArray x) = Unit {0}
InArrayVariable v = Plain v

abbrev mutual
  pub InDesig : Desig → Type 0
  InDesig (OfVariable v t) = Unit {0}
  InDesig (Field d o x t) = InDesig d
  InDesig (Deref d at t) = InHolder d
  InDesig (Index d (Some l) i at t) = InDesig d × InExpr i
  InDesig (Index d None i at t) = InOpen d × InExpr i
  InDesig (Guard d guarded.Record q at t) = InTagged d
  InDesig d = ⊥

  -- what holds a scalar of a type, and of a guarded pointer the scalar that it holds for now
  pub InHolder : Desig → Type 0
  InHolder (OfVariable v t) = Unit {0}
  InHolder (Field d o x t) = InDesig d
  InHolder (Deref d at t) = InHolder d
  InHolder (Index d (Some l) i at t) = InDesig d × InExpr i
  InHolder (Index d None i at t) = InOpen d × InExpr i
  InHolder (Guard d guarded.Pointer q at t) = InHolder d
  InHolder d = ⊥

  -- a record by its address and tag
  pub InTagged : Desig → Type 0
  InTagged (OfVariable v t) = InTaggedVariable v
  InTagged (Field d o x t) = InDesig d
  InTagged (Deref d at t) = InHolder d
  InTagged (Index d (Some l) i at t) = InDesig d × InExpr i
  InTagged (Index d None i at t) = InOpen d × InExpr i
  InTagged (Guard d guarded.Record q at t) = InTagged d
  InTagged d = ⊥

  -- an open array by its address and length
  pub InOpen : Desig → Type 0
  InOpen (OfVariable (variable.Parameter passing.OpenArray x) t) = Unit {0}
  InOpen (OfVariable (variable.Parameter passing.VariableOpenArray x) t) = Unit {0}
  InOpen (Deref d at t) = InDesig d
  InOpen d = ⊥

  -- an array as a whole, open or of a length
  pub InArray : Desig → Type 0
  InArray (OfVariable v t) = InArrayVariable v
  InArray (Field d o x t) = InDesig d
  InArray (Index d (Some l) i at t) = InDesig d × InExpr i
  InArray (Index d None i at t) = InOpen d × InExpr i
  InArray (Deref d at t) = InDesig d
  InArray d = ⊥

  pub InExpr : Expr → Type 0
  InExpr (Constant l) = Unit {0}
  InExpr (ValueOf d) = InHolder d
  InExpr (ProcedureValue q s) = Unit {0}
  InExpr (Monadic o e at) = InExpr e
  InExpr (Dyadic o x y at) = InExpr x × InExpr y
  InExpr (Logical o x y) = InExpr x × InExpr y
  InExpr (CompareTexts r x y at) = InText x × InText y
  InExpr (Length d) = InOpen d
  InExpr (IsPointer e q) = InExpr e
  InExpr (IsRecord d q) = Unit {0}
  InExpr (Call (callee.Declared q) es at r) = InActuals es
  InExpr (Call (callee.Bound f k) es at r) = InActuals es
  InExpr (Call (callee.Super base f k) es at r) = InActuals es
  InExpr (CallVariable d es at r) = InHolder d × InActuals es
  InExpr e = ⊥

  -- an array of characters, or a string
  pub InText : Expr → Type 0
  InText (Constant (literal.Str text)) = Unit {0}
  InText (ValueOf d) = InArray d
  InText e = ⊥

  pub InActuals : Actuals → Type 0
  InActuals NoActual = Unit {0}
  InActuals (AnActual passing.Scalar t e rest) = InExpr e × InActuals rest
  InActuals (AnActual passing.Variable t (ValueOf d) rest) = InDesig d × InActuals rest
  InActuals (AnActual passing.Structure t (ValueOf d) rest) = InDesig d × InActuals rest
  InActuals (AnActual passing.Structure t (Constant (literal.Str text)) rest) = InActuals rest
  InActuals (AnActual passing.OpenArray t (ValueOf d) rest) = InArray d × InActuals rest
  InActuals (AnActual passing.OpenArray t (Constant (literal.Str text)) rest) = InActuals rest
  InActuals (AnActual passing.VariableRecord t (ValueOf d) rest) = InTagged d × InActuals rest
  InActuals (AnActual passing.VariableOpenArray t (ValueOf d) rest) = InArray d × InActuals rest
  InActuals es = ⊥

abbrev pub InOptional : Option Expr → Type 0
InOptional None = Unit {0}
InOptional (Some e) = InExpr e

abbrev mutual
  pub InStmt : Stmt → Type 0
  InStmt (Assign d assigned.Scalar e at) = InHolder d × InExpr e
  InStmt (Assign d assigned.Text (Constant (literal.Str text)) at) = InDesig d
  InStmt (Assign d assigned.Array (ValueOf e) at) = InDesig d × InDesig e
  InStmt (Assign d (assigned.Record q) (ValueOf e) at) = InTagged d × InDesig e
  InStmt (CallProper (Call (callee.Declared q) es at r)) = InActuals es
  InStmt (CallProper (Call (callee.Bound f k) es at r)) = InActuals es
  InStmt (CallProper (Call (callee.Super base f k) es at r)) = InActuals es
  InStmt (CallProper (CallVariable d es at r)) = InHolder d × InActuals es
  InStmt (CallProper (Call (callee.Out out.Ln) NoActual at r)) = Unit {0}
  InStmt (CallProper (Call (callee.Out out.Char) (AnActual passing.Scalar (ref.Basic basic.Char) e NoActual) at r)) = InExpr e
  InStmt (CallProper (Call (callee.Out out.Int) (AnActual passing.Scalar (ref.Basic basic.LongInt) e (AnActual passing.Scalar (ref.Basic basic.LongInt) f NoActual)) at r)) = InExpr e × InExpr f
  InStmt (CallProper (Call (callee.Out out.Str) (AnActual passing.OpenArray t e NoActual) at r)) = InText e
  InStmt (New d (made.Record q) at) = InHolder d
  InStmt (New d (made.Array t) at) = InDesig d
  InStmt (NewOpenArray d t e at) = InDesig d × InExpr e
  InStmt (Copy e d at) = InText e × InArray d
  InStmt (Updated (update.Inc w) d e at) = InDesig d × InExpr e
  InStmt (Updated (update.Dec w) d e at) = InDesig d × InExpr e
  InStmt (Updated update.Incl d e at) = InDesig d × InExpr e
  InStmt (Updated update.Excl d e at) = InDesig d × InExpr e
  InStmt (Assert e number at) = InExpr e
  InStmt (Halt number at) = Unit {0}
  InStmt (If branches otherwise) = InBranches branches × InStmts otherwise
  InStmt (Case e cases otherwise at) = InExpr e × (InCases cases × InElse otherwise)
  InStmt (While e body at) = InExpr e × InStmts body
  InStmt (Repeat body e at) = InStmts body × InExpr e
  InStmt (For v w start end step body at) = Plain v × (InExpr start × (InExpr end × InStmts body))
  InStmt (Loop body at) = InStmts body
  InStmt Exit = Unit {0}
  InStmt (Return e) = InOptional e
  InStmt (With branches NoElse at) = InBranches branches
  InStmt (With branches (Else body) at) = InBranches branches × InStmts body
  InStmt t = ⊥

  pub InStmts : Stmts → Type 0
  InStmts Nothing = Unit {0}
  InStmts (Then t rest) = InStmt t × InStmts rest

  pub InBranches : Branches → Type 0
  InBranches NoBranch = Unit {0}
  InBranches (Branch test body rest) = InExpr test × (InStmts body × InBranches rest)

  pub InCases : Cases → Type 0
  InCases NoCase = Unit {0}
  InCases (OneCase labels body rest) = InStmts body × InCases rest

  pub InElse : Otherwise → Type 0
  InElse NoElse = Unit {0}
  InElse (Else body) = InStmts body

-- the bodies of all procedures are of these forms
abbrev pub AllIn : Setting → Type 0
AllIn c = (q : QName) (p : Procedure) → values.procedure_of c.program q ≡ Some p → InStmts p.body
