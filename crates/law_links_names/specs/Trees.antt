-- What a checked tree names of other modules, so far as its code names it too.
use Rattle.std.specs.Prelude.{◌≡◌, ℕ, List, true, false, Option, Some, None, bytes_eq}
use Rattle.ob_tree.specs.declared.names.QName.{QName}
use Rattle.ob_types.specs.declared.types.TypeRef.{TypeRef}
use Rattle.ob_types.specs.declared.desc.Desc.{Desc}
use Rattle.ob_types.specs.declared.typed.Passing.{Passing}
use Rattle.ob_types.specs.declared.typed.Passing.TheVariants as passing
use Rattle.ob_types.specs.declared.typed.Variable.{Variable}
use Rattle.ob_types.specs.declared.typed.Variable.TheVariants as variable
use Rattle.ob_types.specs.declared.typed.Guarded.{Guarded}
use Rattle.ob_types.specs.declared.typed.Guarded.TheVariants as guarded
use Rattle.ob_types.specs.declared.typed.Callee.{Callee}
use Rattle.ob_types.specs.declared.typed.Callee.TheVariants as callee
use Rattle.ob_types.specs.declared.typed.Assigned.{Assigned}
use Rattle.ob_types.specs.declared.typed.Assigned.TheVariants as assigned
use Rattle.ob_types.specs.declared.typed.Made.{Made}
use Rattle.ob_types.specs.declared.typed.Made.TheVariants as made
use Rattle.ob_types.specs.TypedKinds.{variable_type}
use Rattle.ob_types.specs.TypedSyntax.{Desig, OfVariable, Field, Index, Deref, Guard, Expr, Constant, ValueOf, ProcedureValue, Monadic, Dyadic, Logical, CompareTexts, IsPointer, IsRecord, Length, Call, CallVariable, Actuals, NoActual, AnActual, Stmt, Assign, CallProper, Updated, Copy, New, NewOpenArray, Assert, Halt, If, Case, While, Repeat, For, Loop, Exit, Return, With, Stmts, Nothing, Then, Branches, NoBranch, Branch, Cases, NoCase, OneCase, Otherwise, NoElse, Else}
use Rattle.ob_scheme.specs.Descriptions.{own_name}
use Rattle.ob_scheme.specs.Statements.{has_tag}

-- By the descriptions of the module of that name; what is wanted of the variables, the procedures and the record types of other
-- modules.
module _ (types : QName → Option Desc) (unit : List ℕ) (Var Proc Rec : QName → Type 0) where
  -- it is the module's own, or what is wanted is so of it
  abbrev pub IfOther : (QName → Type 0) → QName → Type 0
  IfOther P q = bytes_eq q.«module» unit ≡ false → P q

  abbrev pub VariableNamed : Variable → Type 0
  VariableNamed (variable.Module m x) = IfOther Var (record { «module» = m; object = x })
  VariableNamed (variable.Local x) = Unit {0}
  VariableNamed (variable.Parameter how x) = Unit {0}

  abbrev pub NameNamed : Option QName → Type 0
  NameNamed None = Unit {0}
  NameNamed (Some q) = IfOther Rec q

  -- the record type that a type is
  abbrev pub TypeNamed : TypeRef → Type 0
  TypeNamed t = NameNamed (own_name types t)

  -- a variable that carries no tag gets that of its type
  abbrev pub TagNamed : Desig → Type 0
  TagNamed d = has_tag d ≡ false → TypeNamed (variable_type d)

  abbrev pub GuardNamed : Guarded → Desig → Type 0
  GuardNamed guarded.Pointer d = Unit {0}
  GuardNamed guarded.Record d = TagNamed d

  abbrev pub CalleeNamed : Callee → Type 0
  CalleeNamed (callee.Declared q) = IfOther Proc q
  CalleeNamed (callee.Bound family receiver) = Unit {0}
  CalleeNamed (callee.Super base family receiver) = IfOther Rec base
  CalleeNamed (callee.Out p) = Unit {0}

  -- a record by VAR is passed with its tag
  abbrev pub PassedNamed : Passing → Expr → Type 0
  PassedNamed passing.VariableRecord (ValueOf d) = TagNamed d
  PassedNamed how e = Unit {0}

  abbrev mutual
    pub DesigNamed : Desig → Type 0
    DesigNamed (OfVariable v t) = VariableNamed v
    DesigNamed (Field d owner name t) = DesigNamed d
    DesigNamed (Index d n e at t) = DesigNamed d × ExprNamed e
    DesigNamed (Deref d at t) = DesigNamed d
    DesigNamed (Guard d g target at t) = DesigNamed d × IfOther Rec target × GuardNamed g d

    pub ExprNamed : Expr → Type 0
    ExprNamed (Constant v) = Unit {0}
    ExprNamed (ValueOf d) = DesigNamed d
    ExprNamed (ProcedureValue q signature) = IfOther Proc q
    ExprNamed (Monadic o e at) = ExprNamed e
    ExprNamed (Dyadic o a b at) = ExprNamed a × ExprNamed b
    ExprNamed (Logical o a b) = ExprNamed a × ExprNamed b
    ExprNamed (CompareTexts r a b at) = ExprNamed a × ExprNamed b
    ExprNamed (IsPointer e target) = ExprNamed e × IfOther Rec target
    ExprNamed (IsRecord d target) = DesigNamed d × IfOther Rec target
    ExprNamed (Length d) = DesigNamed d
    ExprNamed (Call callee es at t) = CalleeNamed callee × ActualsNamed es
    ExprNamed (CallVariable d es at t) = DesigNamed d × ActualsNamed es

    pub ActualsNamed : Actuals → Type 0
    ActualsNamed NoActual = Unit {0}
    ActualsNamed (AnActual how t e rest) = ExprNamed e × PassedNamed how e × ActualsNamed rest

  abbrev pub AssignedNamed : Assigned → Desig → Type 0
  AssignedNamed assigned.Scalar d = Unit {0}
  AssignedNamed assigned.Text d = Unit {0}
  AssignedNamed assigned.Array d = Unit {0}
  AssignedNamed (assigned.Record q) d = has_tag d ≡ true → IfOther Rec q

  abbrev pub MadeNamed : Made → Type 0
  MadeNamed (made.Record q) = IfOther Rec q
  MadeNamed (made.Array t) = Unit {0}

  abbrev pub ResultNamed : Option Expr → Type 0
  ResultNamed None = Unit {0}
  ResultNamed (Some e) = ExprNamed e

  abbrev mutual
    pub StmtNamed : Stmt → Type 0
    StmtNamed (Assign d how e at) = DesigNamed d × ExprNamed e × AssignedNamed how d
    StmtNamed (CallProper e) = ExprNamed e
    StmtNamed (Updated o d e at) = DesigNamed d × ExprNamed e
    StmtNamed (Copy e d at) = ExprNamed e × DesigNamed d
    StmtNamed (New d what at) = DesigNamed d × MadeNamed what
    StmtNamed (NewOpenArray d t n at) = DesigNamed d × ExprNamed n
    StmtNamed (Assert e number at) = ExprNamed e
    StmtNamed (Halt number at) = Unit {0}
    StmtNamed (If branches otherwise) = BranchesNamed branches × StmtsNamed otherwise
    StmtNamed (Case e cases otherwise at) = ExprNamed e × CasesNamed cases × ElseNamed otherwise
    StmtNamed (While e body at) = ExprNamed e × StmtsNamed body
    StmtNamed (Repeat body e at) = StmtsNamed body × ExprNamed e
    StmtNamed (For v w start stop step body at) = VariableNamed v × ExprNamed start × ExprNamed stop × StmtsNamed body
    StmtNamed (Loop body at) = StmtsNamed body
    StmtNamed Exit = Unit {0}
    StmtNamed (Return e) = ResultNamed e
    StmtNamed (With branches otherwise at) = BranchesNamed branches × ElseNamed otherwise

    pub StmtsNamed : Stmts → Type 0
    StmtsNamed Nothing = Unit {0}
    StmtsNamed (Then s rest) = StmtNamed s × StmtsNamed rest

    pub BranchesNamed : Branches → Type 0
    BranchesNamed NoBranch = Unit {0}
    BranchesNamed (Branch test body rest) = ExprNamed test × StmtsNamed body × BranchesNamed rest

    pub CasesNamed : Cases → Type 0
    CasesNamed NoCase = Unit {0}
    CasesNamed (OneCase labels body rest) = StmtsNamed body × CasesNamed rest

    pub ElseNamed : Otherwise → Type 0
    ElseNamed NoElse = Unit {0}
    ElseNamed (Else body) = StmtsNamed body
