-- The variables that a tree names are those of its procedure, and FOR has steps other than 0.
use Rattle.std.specs.Prelude.{Option, Some, None}
use Rattle.ob_types.specs.TypedSyntax.{Desig, OfVariable, Field, Index, Deref, Guard, Expr, Constant, ValueOf, ProcedureValue, Monadic, Dyadic, Logical, CompareTexts, IsPointer, IsRecord, Length, Call, CallVariable, Actuals, NoActual, AnActual, Stmt, Assign, CallProper, Updated, Copy, New, NewOpenArray, Assert, Halt, If, Case, While, Repeat, For, Loop, Exit, Return, With, Stmts, Nothing, Then, Branches, NoBranch, Branch, Cases, NoCase, OneCase, Otherwise, NoElse, Else}
use Rattle.ob_scheme.specs.Context.{Context}
use Rattle.law_image_code.specs.Fits.{IsThere, StepFits}

module _ (c : Context) where
  abbrev mutual
    pub DesigThere : Desig → Type 0
    DesigThere (OfVariable v t) = IsThere c v
    DesigThere (Field d o x t) = DesigThere d
    DesigThere (Index d n i at t) = DesigThere d × ExprThere i
    DesigThere (Deref d at t) = DesigThere d
    DesigThere (Guard d g q at t) = DesigThere d

    pub ExprThere : Expr → Type 0
    ExprThere (Constant v) = Unit {0}
    ExprThere (ValueOf d) = DesigThere d
    ExprThere (ProcedureValue q s) = Unit {0}
    ExprThere (Monadic o x at) = ExprThere x
    ExprThere (Dyadic o x y at) = ExprThere x × ExprThere y
    ExprThere (Logical o x y) = ExprThere x × ExprThere y
    ExprThere (CompareTexts r x y at) = ExprThere x × ExprThere y
    ExprThere (IsPointer x q) = ExprThere x
    ExprThere (IsRecord d q) = DesigThere d
    ExprThere (Length d) = DesigThere d
    ExprThere (Call f es at r) = ActualsThere es
    ExprThere (CallVariable d es at r) = DesigThere d × ActualsThere es

    pub ActualsThere : Actuals → Type 0
    ActualsThere NoActual = Unit {0}
    ActualsThere (AnActual how t x rest) = ExprThere x × ActualsThere rest

  abbrev pub OptionalThere : Option Expr → Type 0
  OptionalThere None = Unit {0}
  OptionalThere (Some x) = ExprThere x

  abbrev mutual
    pub StmtThere : Stmt → Type 0
    StmtThere (Assign d how x at) = DesigThere d × ExprThere x
    StmtThere (CallProper x) = ExprThere x
    StmtThere (Updated o d x at) = DesigThere d × ExprThere x
    StmtThere (Copy x d at) = ExprThere x × DesigThere d
    StmtThere (New d what at) = DesigThere d
    StmtThere (NewOpenArray d t n at) = DesigThere d × ExprThere n
    StmtThere (Assert x number at) = ExprThere x
    StmtThere (Halt number at) = Unit {0}
    StmtThere (If branches otherwise) = BranchesThere branches × StmtsThere otherwise
    StmtThere (Case x cases otherwise at) = ExprThere x × (CasesThere cases × ElseThere otherwise)
    StmtThere (While x body at) = ExprThere x × StmtsThere body
    StmtThere (Repeat body x at) = StmtsThere body × ExprThere x
    StmtThere (For v w start stop step body at) = IsThere c v × (ExprThere start × (ExprThere stop × (StepFits step × StmtsThere body)))
    StmtThere (Loop body at) = StmtsThere body
    StmtThere Exit = Unit {0}
    StmtThere (Return x) = OptionalThere x
    StmtThere (With branches otherwise at) = BranchesThere branches × ElseThere otherwise

    pub StmtsThere : Stmts → Type 0
    StmtsThere Nothing = Unit {0}
    StmtsThere (Then s rest) = StmtThere s × StmtsThere rest

    pub BranchesThere : Branches → Type 0
    BranchesThere NoBranch = Unit {0}
    BranchesThere (Branch test body rest) = ExprThere test × (StmtsThere body × BranchesThere rest)

    pub CasesThere : Cases → Type 0
    CasesThere NoCase = Unit {0}
    CasesThere (OneCase labels body rest) = StmtsThere body × CasesThere rest

    pub ElseThere : Otherwise → Type 0
    ElseThere NoElse = Unit {0}
    ElseThere (Else body) = StmtsThere body
