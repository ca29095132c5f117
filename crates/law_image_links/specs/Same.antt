-- Two maps of descriptions that say the same of what a module names: then its file is the same by both.
use Rattle.std.specs.Prelude.{◌≡◌, ℕ, List, Option, Some, None}
use Rattle.std.specs.List.{AllByRecursion}
use Rattle.ob_tree.specs.declared.names.QName.{QName}
use Rattle.ob_types.specs.declared.types.TypeRef.{TypeRef}
use Rattle.ob_types.specs.declared.types.TypeRef.TheVariants as ref
use Rattle.ob_types.specs.declared.value.Value.TheVariants as literal
use Rattle.ob_types.specs.declared.desc.Desc.{Desc}
use Rattle.ob_types.specs.declared.desc.Desc.TheVariants as desc
use Rattle.ob_types.specs.declared.face.Use.{Use}
use Rattle.ob_types.specs.declared.typed.Passing.{Passing}
use Rattle.ob_types.specs.declared.typed.Passing.TheVariants as passing
use Rattle.ob_types.specs.declared.typed.Binding.{Binding}
use Rattle.ob_types.specs.declared.typed.Callee.{Callee}
use Rattle.ob_types.specs.declared.typed.Callee.TheVariants as callee
use Rattle.ob_types.specs.declared.typed.Assigned.{Assigned}
use Rattle.ob_types.specs.declared.typed.Assigned.TheVariants as assigned
use Rattle.ob_types.specs.declared.typed.Made.{Made}
use Rattle.ob_types.specs.declared.typed.Made.TheVariants as made
use Rattle.ob_types.specs.declared.typed.Family.{Family}
use Rattle.ob_types.specs.TypedKinds.{variable_type}
use Rattle.ob_types.specs.TypedSyntax.{Desig, OfVariable, Field, Index, Deref, Guard, Expr, Constant, ValueOf, ProcedureValue, Monadic, Dyadic, Logical, CompareTexts, IsPointer, IsRecord, Length, Call, CallVariable, Actuals, NoActual, AnActual, Stmt, Assign, CallProper, Updated, Copy, New, NewOpenArray, Assert, Halt, If, Case, While, Repeat, For, Loop, Exit, Return, With, Stmts, Nothing, Then, Branches, NoBranch, Branch, Cases, NoCase, OneCase, Otherwise, NoElse, Else, Procedure, Module}
use Rattle.ob_obj.specs.declared.parts.Export.{Export}
use Rattle.ob_layout.specs.Words.{words_of}
use Rattle.ob_scheme.specs.Descriptions.{own_name, elements_of, field_place, method_number, open_words}
use Rattle.ob_scheme.specs.Object.{object_file}

module _ (a b : QName → Option Desc) where
  -- of a type its name and its elements
  pub record IsSame (t : TypeRef) : Type 0 where
    pub name : own_name a t ≡ own_name b t
    pub elements : elements_of a t ≡ elements_of b t

  -- its words: only where code takes them, since a client may name a part of a type that has grown
  abbrev pub IsSameSize : TypeRef → Type 0
  IsSameSize t = words_of a t ≡ words_of b t

  -- of a parameter's type what passing takes: where a string is passed to an array by value, the words of the array
  abbrev pub PassedSame : Passing → Expr → TypeRef → Type 0
  PassedSame passing.Structure (Constant (literal.Str text)) t = IsSameSize t
  PassedSame how e t = Unit {0}

  abbrev pub ParameterSame : Passing → TypeRef → Type 0
  ParameterSame passing.Structure t = IsSameSize t
  ParameterSame passing.OpenArray t = open_words a t ≡ open_words b t
  ParameterSame how t = Unit {0}

  abbrev pub IsSameField : QName → List ℕ → Type 0
  IsSameField o x = field_place a o x ≡ field_place b o x

  abbrev pub IsSameFamily : Family → Type 0
  IsSameFamily f = method_number a f.owner f.name ≡ method_number b f.owner f.name

  abbrev pub CalleeSame : Callee → Type 0
  CalleeSame (callee.Declared q) = Unit {0}
  CalleeSame (callee.Bound f k) = IsSameFamily f
  CalleeSame (callee.Super base f k) = IsSameFamily f
  CalleeSame (callee.Out o) = Unit {0}

  abbrev mutual
    pub DesigSame : Desig → Type 0
    DesigSame (OfVariable v t) = IsSame t
    DesigSame (Field d o x t) = DesigSame d × (IsSameField o x × IsSame t)
    DesigSame (Index d n i at t) = DesigSame d × (ExprSame i × IsSame t × IsSameSize t)
    DesigSame (Deref d at t) = DesigSame d × IsSame t
    DesigSame (Guard d g q at t) = DesigSame d × IsSame t

    pub ExprSame : Expr → Type 0
    ExprSame (Constant v) = Unit {0}
    ExprSame (ValueOf d) = DesigSame d
    ExprSame (ProcedureValue q signature) = Unit {0}
    ExprSame (Monadic o e at) = ExprSame e
    ExprSame (Dyadic o x y at) = ExprSame x × ExprSame y
    ExprSame (Logical o x y) = ExprSame x × ExprSame y
    ExprSame (CompareTexts r x y at) = ExprSame x × ExprSame y
    ExprSame (IsPointer e q) = ExprSame e
    ExprSame (IsRecord d q) = DesigSame d
    ExprSame (Length d) = DesigSame d
    ExprSame (Call k es at t) = ActualsSame es × CalleeSame k
    ExprSame (CallVariable d es at t) = DesigSame d × ActualsSame es

    pub ActualsSame : Actuals → Type 0
    ActualsSame NoActual = Unit {0}
    ActualsSame (AnActual how t e rest) = PassedSame how e t × (ExprSame e × ActualsSame rest)

  abbrev pub ResultSame : Option Expr → Type 0
  ResultSame None = Unit {0}
  ResultSame (Some e) = ExprSame e

  abbrev pub AssignedSame : Assigned → Desig → Type 0
  AssignedSame assigned.Scalar d = Unit {0}
  AssignedSame assigned.Text d = Unit {0}
  AssignedSame assigned.Array d = IsSameSize (variable_type d)
  AssignedSame (assigned.Record q) d = IsSameSize (ref.Named q)

  abbrev pub MadeSame : Made → Type 0
  MadeSame (made.Record q) = Unit {0}
  MadeSame (made.Array t) = IsSameSize t

  abbrev mutual
    pub StmtSame : Stmt → Type 0
    StmtSame (Assign d how e at) = DesigSame d × (ExprSame e × AssignedSame how d)
    StmtSame (CallProper e) = ExprSame e
    StmtSame (Updated o d e at) = DesigSame d × ExprSame e
    StmtSame (Copy e d at) = ExprSame e × DesigSame d
    StmtSame (New d what at) = DesigSame d × MadeSame what
    StmtSame (NewOpenArray d t n at) = DesigSame d × (ExprSame n × IsSameSize t)
    StmtSame (Assert e number at) = ExprSame e
    StmtSame (Halt number at) = Unit {0}
    StmtSame (If branches otherwise) = BranchesSame branches × StmtsSame otherwise
    StmtSame (Case e cases otherwise at) = ExprSame e × (CasesSame cases × ElseSame otherwise)
    StmtSame (While e body at) = ExprSame e × StmtsSame body
    StmtSame (Repeat body e at) = StmtsSame body × ExprSame e
    StmtSame (For v w start stop step body at) = ExprSame start × (ExprSame stop × StmtsSame body)
    StmtSame (Loop body at) = StmtsSame body
    StmtSame Exit = Unit {0}
    StmtSame (Return e) = ResultSame e
    StmtSame (With branches otherwise at) = BranchesSame branches × ElseSame otherwise

    pub StmtsSame : Stmts → Type 0
    StmtsSame Nothing = Unit {0}
    StmtsSame (Then s rest) = StmtSame s × StmtsSame rest

    pub BranchesSame : Branches → Type 0
    BranchesSame NoBranch = Unit {0}
    BranchesSame (Branch test body rest) = ExprSame test × (StmtsSame body × BranchesSame rest)

    pub CasesSame : Cases → Type 0
    CasesSame NoCase = Unit {0}
    CasesSame (OneCase labels body rest) = StmtsSame body × CasesSame rest

    pub ElseSame : Otherwise → Type 0
    ElseSame NoElse = Unit {0}
    ElseSame (Else body) = StmtsSame body

  abbrev pub BindingSame : Option Binding → Type 0
  BindingSame None = Unit {0}
  BindingSame (Some k) = IsSameFamily k.family

  pub record ProcedureSame (p : Procedure) : Type 0 where
    pub binding : BindingSame p.binding
    pub parameters : AllByRecursion (λ x. ParameterSame x.passing x.of) p.parameters
    pub locals : AllByRecursion (λ v. IsSameSize v.of) p.locals
    pub body : StmtsSame p.body

  abbrev pub BaseSame : Option TypeRef → Type 0
  BaseSame None = Unit {0}
  BaseSame (Some t) = own_name a t ≡ own_name b t

  -- the base of a record type
  abbrev pub DescSame : Desc → Type 0
  DescSame (desc.Record r) = BaseSame r.base
  DescSame d = Unit {0}

  pub record ModuleSame (m : Module) : Type 0 where
    pub types : AllByRecursion (λ t. DescSame t.desc) m.types
    pub variables : AllByRecursion (λ v. IsSameSize v.of) m.variables
    pub procedures : AllByRecursion ProcedureSame m.procedures
    pub body : StmtsSame m.body

-- THE LAW: by both the file is the same.
abbrev pub FilesSame : Type 0
FilesSame = (a b : QName → Option Desc) (m : Module) → ModuleSame a b m → (exports : List Export) (uses : List Use) → object_file a m exports uses ≡ object_file b m exports uses
