-- What the code of a module reads in descriptions: of these names the shapes, and of those the layouts too.
use Rattle.std.specs.Prelude.{Option, Some, None}
use Rattle.std.specs.List.{AllByRecursion}
use Rattle.ob_tree.specs.declared.names.QName.{QName}
use Rattle.ob_types.specs.declared.types.TypeRef.{TypeRef}
use Rattle.ob_types.specs.declared.value.Value.TheVariants as literal
use Rattle.ob_types.specs.declared.desc.Desc.{Desc}
use Rattle.ob_types.specs.declared.desc.Desc.TheVariants as desc
use Rattle.ob_types.specs.declared.typed.Passing.{Passing}
use Rattle.ob_types.specs.declared.typed.Passing.TheVariants as passing
use Rattle.ob_types.specs.declared.typed.Callee.{Callee}
use Rattle.ob_types.specs.declared.typed.Callee.TheVariants as callee
use Rattle.ob_types.specs.declared.typed.Assigned.{Assigned}
use Rattle.ob_types.specs.declared.typed.Assigned.TheVariants as assigned
use Rattle.ob_types.specs.declared.typed.Made.{Made}
use Rattle.ob_types.specs.declared.typed.Made.TheVariants as made
use Rattle.ob_types.specs.declared.typed.Binding.{Binding}
use Rattle.ob_types.specs.declared.typed.TypedParameter.{TypedParameter}
use Rattle.ob_types.specs.TypedSyntax.{Desig, OfVariable, Field, Index, Deref, Guard, Expr, Constant, ValueOf, ProcedureValue, Monadic, Dyadic, Logical, CompareTexts, IsPointer, IsRecord, Length, Call, CallVariable, Actuals, NoActual, AnActual, Stmt, Assign, CallProper, Updated, Copy, New, NewOpenArray, Assert, Halt, If, Case, While, Repeat, For, Loop, Exit, Return, With, Stmts, Nothing, Then, Branches, NoBranch, Branch, Cases, NoCase, OneCase, Otherwise, NoElse, Else, Procedure, Module}
use Rattle.ob_types.specs.TypedKinds.{variable_type}
use Rattle.ob_types.specs.Maps.{listed}
use Rattle.ob_uses_roots.specs.Counts.{own_name}
use Rattle.law_local_files.specs.Agreeing.{On}

module _ (Shapes Layouts : QName → Type 0) where
  -- the record that introduces a bound procedure, for its number
  abbrev pub CalleeRead : Callee → Type 0
  CalleeRead (callee.Declared q) = Unit {0}
  CalleeRead (callee.Bound family r) = Shapes family.owner
  CalleeRead (callee.Super base family r) = Shapes family.owner
  CalleeRead (callee.Out p) = Unit {0}

  -- the array that a string is passed to by value, for its words
  abbrev pub RoomRead : Passing → Expr → TypeRef → Type 0
  RoomRead passing.Structure (Constant (literal.Str text)) t = On Layouts t
  RoomRead how e t = Unit {0}

  abbrev mutual
    -- the type of each prefix, the record that has a field, the layout of an element
    pub DesigRead : Desig → Type 0
    DesigRead (OfVariable v t) = On Shapes t
    DesigRead (Field d owner name t) = DesigRead d × Shapes owner × On Shapes t
    DesigRead (Index d n i at t) = DesigRead d × ExprRead i × On Shapes t × On Layouts t
    DesigRead (Deref d at t) = DesigRead d × On Shapes t
    DesigRead (Guard d g target at t) = DesigRead d × On Shapes t

    pub ExprRead : Expr → Type 0
    ExprRead (Constant v) = Unit {0}
    ExprRead (ValueOf d) = DesigRead d
    ExprRead (ProcedureValue q signature) = Unit {0}
    ExprRead (Monadic op e at) = ExprRead e
    ExprRead (Dyadic op a b at) = ExprRead a × ExprRead b
    ExprRead (Logical op a b) = ExprRead a × ExprRead b
    ExprRead (CompareTexts r a b at) = ExprRead a × ExprRead b
    ExprRead (IsPointer e target) = ExprRead e
    ExprRead (IsRecord d target) = DesigRead d
    ExprRead (Length d) = DesigRead d
    ExprRead (Call callee es at t) = ActualsRead es × CalleeRead callee
    ExprRead (CallVariable d es at t) = DesigRead d × ActualsRead es

    pub ActualsRead : Actuals → Type 0
    ActualsRead NoActual = Unit {0}
    ActualsRead (AnActual how t e rest) = ExprRead e × RoomRead how e t × ActualsRead rest

  abbrev pub ResultRead : Option Expr → Type 0
  ResultRead None = Unit {0}
  ResultRead (Some e) = ExprRead e

  -- the layout of what is copied, and of the elements that are made
  abbrev pub AssignedRead : Assigned → Desig → Type 0
  AssignedRead assigned.Scalar d = Unit {0}
  AssignedRead assigned.Text d = Unit {0}
  AssignedRead assigned.Array d = On Layouts (variable_type d)
  AssignedRead (assigned.Record q) d = Layouts q

  abbrev pub MadeRead : Made → Type 0
  MadeRead (made.Record q) = Unit {0}
  MadeRead (made.Array t) = On Layouts t

  abbrev mutual
    pub StmtRead : Stmt → Type 0
    StmtRead (Assign d how e at) = DesigRead d × ExprRead e × AssignedRead how d
    StmtRead (CallProper e) = ExprRead e
    StmtRead (Updated op d e at) = DesigRead d × ExprRead e
    StmtRead (Copy e d at) = ExprRead e × DesigRead d
    StmtRead (New d what at) = DesigRead d × MadeRead what
    StmtRead (NewOpenArray d t n at) = DesigRead d × ExprRead n × On Layouts t
    StmtRead (Assert e number at) = ExprRead e
    StmtRead (Halt number at) = Unit {0}
    StmtRead (If branches otherwise) = BranchesRead branches × StmtsRead otherwise
    StmtRead (Case e cases otherwise at) = ExprRead e × CasesRead cases × ElseRead otherwise
    StmtRead (While e body at) = ExprRead e × StmtsRead body
    StmtRead (Repeat body e at) = StmtsRead body × ExprRead e
    StmtRead (For v w start stop step body at) = ExprRead start × ExprRead stop × StmtsRead body
    StmtRead (Loop body at) = StmtsRead body
    StmtRead Exit = Unit {0}
    StmtRead (Return e) = ResultRead e
    StmtRead (With branches otherwise at) = BranchesRead branches × ElseRead otherwise

    pub StmtsRead : Stmts → Type 0
    StmtsRead Nothing = Unit {0}
    StmtsRead (Then s rest) = StmtRead s × StmtsRead rest

    pub BranchesRead : Branches → Type 0
    BranchesRead NoBranch = Unit {0}
    BranchesRead (Branch test body rest) = ExprRead test × StmtsRead body × BranchesRead rest

    pub CasesRead : Cases → Type 0
    CasesRead NoCase = Unit {0}
    CasesRead (OneCase labels body rest) = StmtsRead body × CasesRead rest

    pub ElseRead : Otherwise → Type 0
    ElseRead NoElse = Unit {0}
    ElseRead (Else body) = StmtsRead body

  -- ---- declarations

  -- the layout of a structure by value, and of an open array's elements
  abbrev pub PassedRead : Passing → TypeRef → Type 0
  PassedRead passing.Structure t = On Layouts t
  PassedRead passing.OpenArray t = On Layouts t
  PassedRead how t = Unit {0}

  abbrev pub ParameterRead : TypedParameter → Type 0
  ParameterRead p = PassedRead p.passing p.of

  abbrev pub BindingRead : Option Binding → Type 0
  BindingRead None = Unit {0}
  BindingRead (Some b) = Shapes b.family.owner

  pub record ProcedureRead (p : Procedure) : Type 0 where
    pub parameters : AllByRecursion ParameterRead p.parameters
    pub locals : AllByRecursion (λ v. On Layouts v.of) p.locals
    pub binding : BindingRead p.binding
    pub body : StmtsRead p.body

  -- a record's layout, and what it is made of
  abbrev pub TypeRead : QName → Desc → Type 0
  TypeRead q (desc.Record r) = Layouts q × AllByRecursion (On Shapes) (listed r.base) × AllByRecursion (On Layouts) (listed r.base) × AllByRecursion (λ f. On Layouts f.of) r.fields
  TypeRead q d = Unit {0}

  -- ALL that is read for the layout and the code of a module
  pub record ModuleRead (m : Module) : Type 0 where
    pub types : AllByRecursion (λ t. TypeRead (own_name m t) t.desc) m.types
    pub variables : AllByRecursion (λ v. On Layouts v.of) m.variables
    pub procedures : AllByRecursion ProcedureRead m.procedures
    pub body : StmtsRead m.body
