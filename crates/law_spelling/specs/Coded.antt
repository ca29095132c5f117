-- What the rules have seen to of the statements of a module, so that their code has a spelling: numbers and positions have room, and
-- names of other modules are names.
use Rattle.std.specs.Prelude.{◌≡◌, ℕ, suc, ◌<◌, ◌^◌, List, length, Option, Some, IfSome, Bool, true, false, FitsSigned}
use Rattle.std.specs.Int.{w32}
use Rattle.std.specs.List.{AllByRecursion}
use Rattle.ob_tree.specs.declared.pos.Pos.{Pos}
use Rattle.ob_tree.specs.declared.names.QName.{QName}
use Rattle.ob_types.specs.declared.types.TypeRef.{TypeRef}
use Rattle.ob_types.specs.declared.desc.Desc.{Desc}
use Rattle.ob_types.specs.declared.value.Value.{Value}
use Rattle.ob_types.specs.declared.value.Value.TheVariants as literal
use Rattle.ob_types.specs.declared.typed.Passing.{Passing}
use Rattle.ob_types.specs.declared.typed.Passing.TheVariants as passing
use Rattle.ob_types.specs.declared.typed.Variable.{Variable}
use Rattle.ob_types.specs.declared.typed.Variable.TheVariants as variable
use Rattle.ob_types.specs.declared.typed.Callee.{Callee}
use Rattle.ob_types.specs.declared.typed.Callee.TheVariants as callee
use Rattle.ob_types.specs.declared.typed.Assigned.{Assigned}
use Rattle.ob_types.specs.declared.typed.Assigned.TheVariants as assigned
use Rattle.ob_types.specs.declared.typed.Made.{Made}
use Rattle.ob_types.specs.declared.typed.Made.TheVariants as made
use Rattle.ob_types.specs.declared.typed.Label.{Label}
use Rattle.ob_types.specs.TypedSyntax.{Desig, OfVariable, Field, Index, Deref, Guard, Expr, Constant, ValueOf, ProcedureValue, Monadic, Dyadic, Logical, CompareTexts, IsPointer, IsRecord, Length, Call, CallVariable, Actuals, NoActual, AnActual, Stmt, Assign, CallProper, Updated, Copy, New, NewOpenArray, Assert, Halt, If, Case, While, Repeat, For, Loop, Exit, Return, With, Stmts, Nothing, Then, Branches, NoBranch, Branch, Cases, NoCase, OneCase, Otherwise, NoElse, Else, Procedure, Module}
use Rattle.ob_format.specs.Names.{name, object_name}
use Rattle.ob_scheme.specs.Context.{Context, words, is_own}
use Rattle.ob_scheme.specs.Descriptions.{own_name}
use Rattle.ob_scheme.specs.Procedures.{within}

abbrev pub PosFits : Pos → Type 0
PosFits at = (at.line < 2 ^ 32) × (at.col < 2 ^ 32)

-- the word of a constant has room; a string is no longer than a number says
abbrev pub ConstantIsCoded : Value → Type 0
ConstantIsCoded (literal.Bool b) = Unit {0}
ConstantIsCoded (literal.Char n) = n < 256
ConstantIsCoded (literal.Int z) = FitsSigned w32 z
ConstantIsCoded (literal.Set n) = n < 2 ^ 32
ConstantIsCoded (literal.Str text) = suc (length text) < 2 ^ 31
ConstantIsCoded literal.Nil = Unit {0}

abbrev pub LabelIsCoded : Label → Type 0
LabelIsCoded l = FitsSigned w32 l.low × FitsSigned w32 l.high

module _ (c : Context) where
  -- the names of a variable or a procedure of another module
  abbrev pub OtherNames : List ℕ → List ℕ → Type 0
  OtherNames m x = is_own c m ≡ false → name.fits m × name.fits x

  abbrev pub ProcedureIsCoded : QName → Type 0
  ProcedureIsCoded q = OtherNames q.«module» q.object

  abbrev pub VariableIsCoded : Variable → Type 0
  VariableIsCoded (variable.Module m x) = OtherNames m x
  VariableIsCoded v = Unit {0}

  -- the names of a record type of another module
  abbrev pub RecordIsCoded : QName → Type 0
  RecordIsCoded q = is_own c q.«module» ≡ false → name.fits q.«module» × object_name.fits q.object

  -- so is what a type stands for
  abbrev pub TypeIsCoded : TypeRef → Type 0
  TypeIsCoded t = (q : QName) → own_name c.types t ≡ Some q → RecordIsCoded q

  abbrev pub CalleeIsCoded : Callee → Type 0
  CalleeIsCoded (callee.Declared q) = ProcedureIsCoded q
  CalleeIsCoded (callee.Bound f r) = Unit {0}
  CalleeIsCoded (callee.Super base f r) = RecordIsCoded base
  CalleeIsCoded (callee.Out p) = Unit {0}

  -- a string that is passed by value leaves room for its 0X in the words of its parameter
  abbrev pub PassedIsCoded : Passing → TypeRef → Expr → Type 0
  PassedIsCoded passing.Structure t (Constant (literal.Str text)) = length text < words c t
  PassedIsCoded how t e = Unit {0}

  abbrev mutual
    pub DesigIsCoded : Desig → Type 0
    DesigIsCoded (OfVariable v t) = VariableIsCoded v × TypeIsCoded t
    DesigIsCoded (Field d owner x t) = DesigIsCoded d × TypeIsCoded t
    DesigIsCoded (Index d n i at t) = DesigIsCoded d × (ExprIsCoded i × (PosFits at × (TypeIsCoded t × IfSome n (λ k. k < 2 ^ 31))))
    DesigIsCoded (Deref d at t) = DesigIsCoded d × PosFits at
    DesigIsCoded (Guard d g target at t) = DesigIsCoded d × (RecordIsCoded target × (PosFits at × TypeIsCoded t))

    pub ExprIsCoded : Expr → Type 0
    ExprIsCoded (Constant v) = ConstantIsCoded v
    ExprIsCoded (ValueOf d) = DesigIsCoded d
    ExprIsCoded (ProcedureValue q signature) = ProcedureIsCoded q
    ExprIsCoded (Monadic o e at) = ExprIsCoded e × PosFits at
    ExprIsCoded (Dyadic o a b at) = ExprIsCoded a × (ExprIsCoded b × PosFits at)
    ExprIsCoded (Logical o a b) = ExprIsCoded a × ExprIsCoded b
    ExprIsCoded (CompareTexts r a b at) = ExprIsCoded a × (ExprIsCoded b × PosFits at)
    ExprIsCoded (IsPointer e target) = ExprIsCoded e × RecordIsCoded target
    ExprIsCoded (IsRecord d target) = DesigIsCoded d × RecordIsCoded target
    ExprIsCoded (Length d) = DesigIsCoded d
    ExprIsCoded (Call callee es at t) = ActualsAreCoded es × (CalleeIsCoded callee × PosFits at)
    ExprIsCoded (CallVariable d es at t) = DesigIsCoded d × (ActualsAreCoded es × PosFits at)

    pub ActualsAreCoded : Actuals → Type 0
    ActualsAreCoded NoActual = Unit {0}
    ActualsAreCoded (AnActual how t e rest) = ExprIsCoded e × (PassedIsCoded how t e × ActualsAreCoded rest)

  abbrev pub AssignedIsCoded : Assigned → Type 0
  AssignedIsCoded (assigned.Record q) = RecordIsCoded q
  AssignedIsCoded how = Unit {0}

  abbrev pub MadeIsCoded : Made → Type 0
  MadeIsCoded (made.Record q) = RecordIsCoded q
  MadeIsCoded (made.Array t) = Unit {0}

  -- inside a LOOP or not
  abbrev mutual
    pub StmtIsCoded : Bool → Stmt → Type 0
    StmtIsCoded l (Assign d how e at) = DesigIsCoded d × (ExprIsCoded e × (AssignedIsCoded how × PosFits at))
    StmtIsCoded l (CallProper e) = ExprIsCoded e
    StmtIsCoded l (Updated o d e at) = DesigIsCoded d × (ExprIsCoded e × PosFits at)
    StmtIsCoded l (Copy e d at) = ExprIsCoded e × (DesigIsCoded d × PosFits at)
    StmtIsCoded l (New d what at) = DesigIsCoded d × (MadeIsCoded what × PosFits at)
    StmtIsCoded l (NewOpenArray d t n at) = DesigIsCoded d × (ExprIsCoded n × PosFits at)
    StmtIsCoded l (Assert e number at) = ExprIsCoded e × (FitsSigned w32 number × PosFits at)
    StmtIsCoded l (Halt number at) = FitsSigned w32 number × PosFits at
    StmtIsCoded l (If branches otherwise) = BranchesAreCoded l branches × StmtsAreCoded l otherwise
    StmtIsCoded l (Case e cases otherwise at) = ExprIsCoded e × (CasesAreCoded l cases × (ElseIsCoded l otherwise × PosFits at))
    StmtIsCoded l (While e body at) = ExprIsCoded e × (StmtsAreCoded l body × PosFits at)
    StmtIsCoded l (Repeat body e at) = StmtsAreCoded l body × (ExprIsCoded e × PosFits at)
    StmtIsCoded l (For v w start stop step body at) = VariableIsCoded v × (ExprIsCoded start × (ExprIsCoded stop × (FitsSigned w32 step × (StmtsAreCoded l body × PosFits at))))
    StmtIsCoded l (Loop body at) = StmtsAreCoded true body × PosFits at
    StmtIsCoded l Exit = l ≡ true
    StmtIsCoded l (Return e) = IfSome e ExprIsCoded
    StmtIsCoded l (With branches otherwise at) = BranchesAreCoded l branches × (ElseIsCoded l otherwise × PosFits at)

    pub StmtsAreCoded : Bool → Stmts → Type 0
    StmtsAreCoded l Nothing = Unit {0}
    StmtsAreCoded l (Then s rest) = StmtIsCoded l s × StmtsAreCoded l rest

    pub BranchesAreCoded : Bool → Branches → Type 0
    BranchesAreCoded l NoBranch = Unit {0}
    BranchesAreCoded l (Branch test body rest) = ExprIsCoded test × (StmtsAreCoded l body × BranchesAreCoded l rest)

    pub CasesAreCoded : Bool → Cases → Type 0
    CasesAreCoded l NoCase = Unit {0}
    CasesAreCoded l (OneCase labels body rest) = AllByRecursion LabelIsCoded labels × (StmtsAreCoded l body × CasesAreCoded l rest)

    pub ElseIsCoded : Bool → Otherwise → Type 0
    ElseIsCoded l NoElse = Unit {0}
    ElseIsCoded l (Else body) = StmtsAreCoded l body

-- a procedure, with the place where it is named
pub record BodyIsCoded (types : QName → Option Desc) (m : Module) (p : Procedure) : Type 0 where
  pub at : PosFits p.at
  pub body : StmtsAreCoded (within types m p) false p.body
