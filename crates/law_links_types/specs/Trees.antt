-- What a checked tree says of the record types that its code names: that they are records, and where the types of its variables lead.
use Rattle.std.specs.Prelude.{◌≡◌, ℕ, List, true, Option, Some, None, bytes_eq}
use Rattle.std.specs.List.{AllByRecursion}
use Rattle.ob_tree.specs.declared.names.QName.{QName}
use Rattle.ob_types.specs.declared.types.TypeRef.{TypeRef}
use Rattle.ob_types.specs.declared.types.TypeRef.TheVariants as ref
use Rattle.ob_types.specs.declared.desc.Desc.{Desc}
use Rattle.ob_types.specs.declared.desc.Desc.TheVariants as desc
use Rattle.ob_types.specs.declared.desc.RecordDesc.{RecordDesc}
use Rattle.ob_types.specs.declared.typed.Passing.{Passing}
use Rattle.ob_types.specs.declared.typed.Passing.TheVariants as passing
use Rattle.ob_types.specs.declared.typed.Guarded.{Guarded}
use Rattle.ob_types.specs.declared.typed.Guarded.TheVariants as guarded
use Rattle.ob_types.specs.declared.typed.Callee.{Callee}
use Rattle.ob_types.specs.declared.typed.Callee.TheVariants as callee
use Rattle.ob_types.specs.declared.typed.Assigned.{Assigned}
use Rattle.ob_types.specs.declared.typed.Assigned.TheVariants as assigned
use Rattle.ob_types.specs.declared.typed.Made.{Made}
use Rattle.ob_types.specs.declared.typed.Made.TheVariants as made
use Rattle.ob_types.specs.declared.typed.TypedModule.{TypedModule}
use Rattle.ob_types.specs.Tests.{target, shape_at, pointer_of}
use Rattle.ob_types.specs.TypedKinds.{variable_type}
use Rattle.ob_types.specs.TypedSyntax.{Desig, OfVariable, Field, Index, Deref, Guard, Expr, Constant, ValueOf, ProcedureValue, Monadic, Dyadic, Logical, CompareTexts, IsPointer, IsRecord, Length, Call, CallVariable, Actuals, NoActual, AnActual, Stmt, Assign, CallProper, Updated, Copy, New, NewOpenArray, Assert, Halt, If, Case, While, Repeat, For, Loop, Exit, Return, With, Stmts, Nothing, Then, Branches, NoBranch, Branch, Cases, NoCase, OneCase, Otherwise, NoElse, Else}
use Rattle.ob_types.specs.TypedView.{stmts_view}

-- By these descriptions, in the module of this name.
module _ (types : QName → Option Desc) (unit : List ℕ) where
  -- a record type
  pub record IsRecordType (q : QName) : Type 0 where
    pub of : RecordDesc
    pub is : types q ≡ Some (desc.Record of)

  -- the type stands for the record type of that name
  pub record StandsFor (t : TypeRef) (q : QName) : Type 0 where
    pub same : target types 201 t ≡ ref.Named q
    pub type : IsRecordType q

  pub record StandsForOne (t : TypeRef) : Type 0 where
    pub name : QName
    pub stands : StandsFor t name

  -- it points to what stands for the record type
  pub record PointsTo (t : TypeRef) (q : QName) : Type 0 where
    pub base : TypeRef
    pub pointed : pointer_of (shape_at types (target types 201 t)) ≡ Some base
    pub stands : StandsFor base q

  -- the record type is the base of one of the module
  pub record IsBase (q : QName) : Type 0 where
    pub extension : QName
    pub own : bytes_eq extension.«module» unit ≡ true
    pub of : RecordDesc
    pub is : types extension ≡ Some (desc.Record of)
    pub base : TypeRef
    pub has : of.base ≡ Some base
    pub stands : StandsFor base q

  -- a guard on a VAR record stands on a variable of a record type
  abbrev pub GuardRecorded : Guarded → Desig → Type 0
  GuardRecorded guarded.Pointer d = Unit {0}
  GuardRecorded guarded.Record d = StandsForOne (variable_type d)

  abbrev pub CalleeRecorded : Callee → Type 0
  CalleeRecorded (callee.Declared q) = Unit {0}
  CalleeRecorded (callee.Bound family receiver) = Unit {0}
  CalleeRecorded (callee.Super base family receiver) = IsBase base
  CalleeRecorded (callee.Out p) = Unit {0}

  -- what is passed as a record by VAR is of a record type
  abbrev pub PassedRecorded : Passing → Expr → Type 0
  PassedRecorded passing.VariableRecord (ValueOf d) = StandsForOne (variable_type d)
  PassedRecorded how e = Unit {0}

  abbrev mutual
    pub DesigRecorded : Desig → Type 0
    DesigRecorded (OfVariable v t) = Unit {0}
    DesigRecorded (Field d owner name t) = DesigRecorded d
    DesigRecorded (Index d n e at t) = DesigRecorded d × ExprRecorded e
    DesigRecorded (Deref d at t) = DesigRecorded d
    DesigRecorded (Guard d g target at t) = DesigRecorded d × IsRecordType target × GuardRecorded g d

    pub ExprRecorded : Expr → Type 0
    ExprRecorded (Constant v) = Unit {0}
    ExprRecorded (ValueOf d) = DesigRecorded d
    ExprRecorded (ProcedureValue q signature) = Unit {0}
    ExprRecorded (Monadic o e at) = ExprRecorded e
    ExprRecorded (Dyadic o a b at) = ExprRecorded a × ExprRecorded b
    ExprRecorded (Logical o a b) = ExprRecorded a × ExprRecorded b
    ExprRecorded (CompareTexts r a b at) = ExprRecorded a × ExprRecorded b
    ExprRecorded (IsPointer e target) = ExprRecorded e × IsRecordType target
    ExprRecorded (IsRecord d target) = DesigRecorded d × IsRecordType target
    ExprRecorded (Length d) = DesigRecorded d
    ExprRecorded (Call callee es at t) = CalleeRecorded callee × ActualsRecorded es
    ExprRecorded (CallVariable d es at t) = DesigRecorded d × ActualsRecorded es

    pub ActualsRecorded : Actuals → Type 0
    ActualsRecorded NoActual = Unit {0}
    ActualsRecorded (AnActual how t e rest) = ExprRecorded e × PassedRecorded how e × ActualsRecorded rest

  -- a record is assigned as what the variable's type stands for
  abbrev pub AssignedRecorded : Assigned → Desig → Type 0
  AssignedRecorded assigned.Scalar d = Unit {0}
  AssignedRecorded assigned.Text d = Unit {0}
  AssignedRecorded assigned.Array d = Unit {0}
  AssignedRecorded (assigned.Record q) d = StandsFor (variable_type d) q

  -- a record that is made is what the variable points to
  abbrev pub MadeRecorded : Made → Desig → Type 0
  MadeRecorded (made.Record q) d = PointsTo (variable_type d) q
  MadeRecorded (made.Array t) d = Unit {0}

  abbrev pub ResultRecorded : Option Expr → Type 0
  ResultRecorded None = Unit {0}
  ResultRecorded (Some e) = ExprRecorded e

  abbrev mutual
    pub StmtRecorded : Stmt → Type 0
    StmtRecorded (Assign d how e at) = DesigRecorded d × ExprRecorded e × AssignedRecorded how d
    StmtRecorded (CallProper e) = ExprRecorded e
    StmtRecorded (Updated o d e at) = DesigRecorded d × ExprRecorded e
    StmtRecorded (Copy e d at) = ExprRecorded e × DesigRecorded d
    StmtRecorded (New d what at) = DesigRecorded d × MadeRecorded what d
    StmtRecorded (NewOpenArray d t n at) = DesigRecorded d × ExprRecorded n
    StmtRecorded (Assert e number at) = ExprRecorded e
    StmtRecorded (Halt number at) = Unit {0}
    StmtRecorded (If branches otherwise) = BranchesRecorded branches × StmtsRecorded otherwise
    StmtRecorded (Case e cases otherwise at) = ExprRecorded e × CasesRecorded cases × ElseRecorded otherwise
    StmtRecorded (While e body at) = ExprRecorded e × StmtsRecorded body
    StmtRecorded (Repeat body e at) = StmtsRecorded body × ExprRecorded e
    StmtRecorded (For v w start stop step body at) = ExprRecorded start × ExprRecorded stop × StmtsRecorded body
    StmtRecorded (Loop body at) = StmtsRecorded body
    StmtRecorded Exit = Unit {0}
    StmtRecorded (Return e) = ResultRecorded e
    StmtRecorded (With branches otherwise at) = BranchesRecorded branches × ElseRecorded otherwise

    pub StmtsRecorded : Stmts → Type 0
    StmtsRecorded Nothing = Unit {0}
    StmtsRecorded (Then s rest) = StmtRecorded s × StmtsRecorded rest

    pub BranchesRecorded : Branches → Type 0
    BranchesRecorded NoBranch = Unit {0}
    BranchesRecorded (Branch test body rest) = ExprRecorded test × StmtsRecorded body × BranchesRecorded rest

    pub CasesRecorded : Cases → Type 0
    CasesRecorded NoCase = Unit {0}
    CasesRecorded (OneCase labels body rest) = StmtsRecorded body × CasesRecorded rest

    pub ElseRecorded : Otherwise → Type 0
    ElseRecorded NoElse = Unit {0}
    ElseRecorded (Else body) = StmtsRecorded body

  -- the base of a record type, if it has one, is a record type
  abbrev pub BaseRecorded : Option TypeRef → Type 0
  BaseRecorded None = Unit {0}
  BaseRecorded (Some t) = StandsForOne t

  abbrev pub TypeRecorded : Desc → Type 0
  TypeRecorded (desc.Record r) = BaseRecorded r.base
  TypeRecorded d = Unit {0}

-- ALL that is said of them in a checked module
pub record ModuleRecorded (types : QName → Option Desc) (m : TypedModule) : Type 0 where
  pub types_are : AllByRecursion (λ t. TypeRecorded types m.name t.desc) m.types
  pub procedures : AllByRecursion (λ p. StmtsRecorded types m.name (stmts_view p.body)) m.procedures
  pub body : StmtsRecorded types m.name (stmts_view m.body)
