-- The members that statements name, fields of records and bound procedures, are those of the records that they name as their owners, in a
-- map of descriptions.
use Rattle.std.specs.Prelude.{ℕ, List, Option, Some, None, IsSome}
use Rattle.std.specs.List.{AllByRecursion}
use Rattle.ob_tree.specs.declared.names.QName.{QName}
use Rattle.ob_types.specs.declared.desc.Desc.{Desc}
use Rattle.ob_types.specs.declared.desc.Desc.TheVariants as desc
use Rattle.ob_types.specs.declared.typed.Family.{Family}
use Rattle.ob_types.specs.declared.typed.Callee.{Callee}
use Rattle.ob_types.specs.declared.typed.Callee.TheVariants as callee
use Rattle.ob_types.specs.declared.typed.Binding.{Binding}
use Rattle.ob_types.specs.TypedSyntax.{Desig, OfVariable, Field, Index, Deref, Guard, Expr, Constant, ValueOf, ProcedureValue, Monadic, Dyadic, Logical, CompareTexts, IsPointer, IsRecord, Length, Call, CallVariable, Actuals, NoActual, AnActual, Stmt, Assign, CallProper, Updated, Copy, New, NewOpenArray, Assert, Halt, If, Case, While, Repeat, For, Loop, Exit, Return, With, Stmts, Nothing, Then, Branches, NoBranch, Branch, Cases, NoCase, OneCase, Otherwise, NoElse, Else, Procedure, Module}
use Rattle.ob_rules.specs.Shapes.{Map}
use Rattle.ob_layout.specs.Members.{field_named, method_named}

-- a record with a field of the name of its own
abbrev pub HasField : Option Desc → List ℕ → Type 0
HasField (Some (desc.Record r)) x = IsSome (field_named x r.fields)
HasField d x = ⊥

-- a record that introduces a bound procedure of the name
abbrev pub HasMethod : Option Desc → List ℕ → Type 0
HasMethod (Some (desc.Record r)) x = IsSome (method_named x r.methods)
HasMethod d x = ⊥

module _ (map : Map) where
  -- the record has a field of the name of its own
  abbrev pub FieldSeen : QName → List ℕ → Type 0
  FieldSeen o x = HasField (map o) x

  -- the record introduces a bound procedure of the name
  abbrev pub FamilySeen : Family → Type 0
  FamilySeen f = HasMethod (map f.owner) f.name

  abbrev pub CalleeSeen : Callee → Type 0
  CalleeSeen (callee.Declared q) = Unit {0}
  CalleeSeen (callee.Bound f k) = FamilySeen f
  CalleeSeen (callee.Super base f k) = FamilySeen f
  CalleeSeen (callee.Out o) = Unit {0}

  abbrev mutual
    pub DesigSeen : Desig → Type 0
    DesigSeen (OfVariable v t) = Unit {0}
    DesigSeen (Field d o x t) = DesigSeen d × FieldSeen o x
    DesigSeen (Index d n i at t) = DesigSeen d × ExprSeen i
    DesigSeen (Deref d at t) = DesigSeen d
    DesigSeen (Guard d g q at t) = DesigSeen d

    pub ExprSeen : Expr → Type 0
    ExprSeen (Constant v) = Unit {0}
    ExprSeen (ValueOf d) = DesigSeen d
    ExprSeen (ProcedureValue q signature) = Unit {0}
    ExprSeen (Monadic o e at) = ExprSeen e
    ExprSeen (Dyadic o a b at) = ExprSeen a × ExprSeen b
    ExprSeen (Logical o a b) = ExprSeen a × ExprSeen b
    ExprSeen (CompareTexts r a b at) = ExprSeen a × ExprSeen b
    ExprSeen (IsPointer e q) = ExprSeen e
    ExprSeen (IsRecord d q) = DesigSeen d
    ExprSeen (Length d) = DesigSeen d
    ExprSeen (Call k es at t) = ActualsSeen es × CalleeSeen k
    ExprSeen (CallVariable d es at t) = DesigSeen d × ActualsSeen es

    pub ActualsSeen : Actuals → Type 0
    ActualsSeen NoActual = Unit {0}
    ActualsSeen (AnActual how t e rest) = ExprSeen e × ActualsSeen rest

  abbrev pub ResultSeen : Option Expr → Type 0
  ResultSeen None = Unit {0}
  ResultSeen (Some e) = ExprSeen e

  abbrev mutual
    pub StmtSeen : Stmt → Type 0
    StmtSeen (Assign d how e at) = DesigSeen d × ExprSeen e
    StmtSeen (CallProper e) = ExprSeen e
    StmtSeen (Updated o d e at) = DesigSeen d × ExprSeen e
    StmtSeen (Copy e d at) = ExprSeen e × DesigSeen d
    StmtSeen (New d what at) = DesigSeen d
    StmtSeen (NewOpenArray d t n at) = DesigSeen d × ExprSeen n
    StmtSeen (Assert e number at) = ExprSeen e
    StmtSeen (Halt number at) = Unit {0}
    StmtSeen (If branches otherwise) = BranchesSeen branches × StmtsSeen otherwise
    StmtSeen (Case e cases otherwise at) = ExprSeen e × CasesSeen cases × ElseSeen otherwise
    StmtSeen (While e body at) = ExprSeen e × StmtsSeen body
    StmtSeen (Repeat body e at) = StmtsSeen body × ExprSeen e
    StmtSeen (For v w start stop step body at) = ExprSeen start × ExprSeen stop × StmtsSeen body
    StmtSeen (Loop body at) = StmtsSeen body
    StmtSeen Exit = Unit {0}
    StmtSeen (Return e) = ResultSeen e
    StmtSeen (With branches otherwise at) = BranchesSeen branches × ElseSeen otherwise

    pub StmtsSeen : Stmts → Type 0
    StmtsSeen Nothing = Unit {0}
    StmtsSeen (Then s rest) = StmtSeen s × StmtsSeen rest

    pub BranchesSeen : Branches → Type 0
    BranchesSeen NoBranch = Unit {0}
    BranchesSeen (Branch test body rest) = ExprSeen test × StmtsSeen body × BranchesSeen rest

    pub CasesSeen : Cases → Type 0
    CasesSeen NoCase = Unit {0}
    CasesSeen (OneCase labels body rest) = StmtsSeen body × CasesSeen rest

    pub ElseSeen : Otherwise → Type 0
    ElseSeen NoElse = Unit {0}
    ElseSeen (Else body) = StmtsSeen body

  -- a procedure that is bound: the record that introduces it has it
  abbrev pub BindingSeen : Option Binding → Type 0
  BindingSeen None = Unit {0}
  BindingSeen (Some b) = FamilySeen b.family

  pub record ProcedureSeen (p : Procedure) : Type 0 where
    pub binding : BindingSeen p.binding
    pub body : StmtsSeen p.body

  -- ALL that a module names of members is there
  pub record ModuleSeen (m : Module) : Type 0 where
    pub procedures : AllByRecursion ProcedureSeen m.procedures
    pub body : StmtsSeen m.body
