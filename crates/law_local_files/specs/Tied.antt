-- What ties a checked tree to the types that it names: whatever code reads in a description that no count names is led to by what
-- counts.
use Rattle.std.specs.Prelude.{◌≡◌, ℕ, true, List, [], ◌∷◌, map as each, Option, Some, None}
use Rattle.std.specs.List.{AllByRecursion}
use Rattle.ob_tree.specs.declared.names.QName.{QName}
use Rattle.ob_types.specs.declared.types.TypeRef.{TypeRef}
use Rattle.ob_types.specs.declared.types.TypeRef.TheVariants as ref
use Rattle.ob_types.specs.declared.value.Value.TheVariants as literal
use Rattle.ob_types.specs.declared.typed.Passing.{Passing}
use Rattle.ob_types.specs.declared.typed.Passing.TheVariants as passing
use Rattle.ob_types.specs.declared.typed.Callee.{Callee}
use Rattle.ob_types.specs.declared.typed.Callee.TheVariants as callee
use Rattle.ob_types.specs.declared.typed.Assigned.{Assigned}
use Rattle.ob_types.specs.declared.typed.Assigned.TheVariants as assigned
use Rattle.ob_types.specs.declared.typed.Made.{Made}
use Rattle.ob_types.specs.declared.typed.Made.TheVariants as made
use Rattle.ob_types.specs.declared.typed.Binding.{Binding}
use Rattle.ob_types.specs.TypedSyntax.{Desig, OfVariable, Field, Index, Deref, Guard, Expr, Constant, ValueOf, ProcedureValue, Monadic, Dyadic, Logical, CompareTexts, IsPointer, IsRecord, Length, Call, CallVariable, Actuals, NoActual, AnActual, Stmt, Assign, CallProper, Updated, Copy, New, NewOpenArray, Assert, Halt, If, Case, While, Repeat, For, Loop, Exit, Return, With, Stmts, Nothing, Then, Branches, NoBranch, Branch, Cases, NoCase, OneCase, Otherwise, NoElse, Else, Procedure, Module}
use Rattle.ob_types.specs.TypedKinds.{variable_type}
use Rattle.ob_types.specs.Tests.{target}
use Rattle.ob_uses_roots.specs.Counts.{own_name}
use Rattle.ob_uses_roots.specs.Noted.{names_of}
use Rattle.ob_uses.specs.declared.way.Way.TheVariants as way
use Rattle.ob_uses.specs.Closed.{is_among}
use Rattle.ob_uses.specs.Reaching.{Reaches}
use Rattle.ob_uses.specs.Ways.{leads_by}
use Rattle.law_local_files.specs.Agreeing.{Map, On}
use Rattle.law_local_files.specs.Laws.{IsRoom}

-- The map is the view from a module of this name; these are its own types.
module _ (map : Map) (m : List ℕ) (Own : QName → Type 0) where
  -- the type leads to the name, by what is near
  abbrev pub LeadsTo : TypeRef → QName → Type 0
  LeadsTo t = Reaches (leads_by way.Near map m) (names_of (t ∷ []))

  -- a string is passed to an array whose shape tells its words
  abbrev pub RoomTied : Passing → Expr → TypeRef → Type 0
  RoomTied passing.Structure (Constant (literal.Str text)) t = On (IsRoom map m) t
  RoomTied how e t = Unit {0}

  -- the receiver is a variable, whose type leads to the record that introduces the procedure; for a super call a type of the module does
  abbrev pub ReceiverTied : Expr → QName → Type 0
  ReceiverTied (ValueOf d) q = LeadsTo (variable_type d) q
  ReceiverTied e q = ⊥

  abbrev pub SuperTied : Expr → QName → Type 0
  SuperTied (ValueOf d) q = (o : QName) × Own o × LeadsTo (ref.Named o) q
  SuperTied e q = ⊥

  abbrev pub CalleeTied : Callee → Actuals → Type 0
  CalleeTied (callee.Declared q) es = Unit {0}
  CalleeTied (callee.Bound family r) NoActual = ⊥
  CalleeTied (callee.Bound family r) (AnActual how t e rest) = ReceiverTied e family.owner
  CalleeTied (callee.Super base family r) NoActual = ⊥
  CalleeTied (callee.Super base family r) (AnActual how t e rest) = SuperTied e family.owner
  CalleeTied (callee.Out p) es = Unit {0}

  abbrev mutual
    pub DesigTied : Desig → Type 0
    DesigTied (OfVariable v t) = Unit {0}
    DesigTied (Field d owner name t) = DesigTied d × LeadsTo (variable_type d) owner
    DesigTied (Index d n i at t) = DesigTied d × ExprTied i
    DesigTied (Deref d at t) = DesigTied d
    DesigTied (Guard d g target at t) = DesigTied d

    pub ExprTied : Expr → Type 0
    ExprTied (Constant v) = Unit {0}
    ExprTied (ValueOf d) = DesigTied d
    ExprTied (ProcedureValue q signature) = Unit {0}
    ExprTied (Monadic op e at) = ExprTied e
    ExprTied (Dyadic op a b at) = ExprTied a × ExprTied b
    ExprTied (Logical op a b) = ExprTied a × ExprTied b
    ExprTied (CompareTexts r a b at) = ExprTied a × ExprTied b
    ExprTied (IsPointer e target) = ExprTied e
    ExprTied (IsRecord d target) = DesigTied d
    ExprTied (Length d) = DesigTied d
    ExprTied (Call callee es at t) = ActualsTied es × CalleeTied callee es
    ExprTied (CallVariable d es at t) = DesigTied d × ActualsTied es

    pub ActualsTied : Actuals → Type 0
    ActualsTied NoActual = Unit {0}
    ActualsTied (AnActual how t e rest) = ExprTied e × RoomTied how e t × ActualsTied rest

  abbrev pub ResultTied : Option Expr → Type 0
  ResultTied None = Unit {0}
  ResultTied (Some e) = ExprTied e

  -- a record is assigned as what the variable's type stands for
  abbrev pub AssignedTied : Assigned → Desig → Type 0
  AssignedTied (assigned.Record q) d = target map 201 (variable_type d) ≡ ref.Named q
  AssignedTied how d = Unit {0}

  -- an array that is made is what the variable points to
  abbrev pub MadeTied : Made → Desig → Type 0
  MadeTied (made.Record q) d = Unit {0}
  MadeTied (made.Array t) d = On (LeadsTo (variable_type d)) t

  abbrev mutual
    pub StmtTied : Stmt → Type 0
    StmtTied (Assign d how e at) = DesigTied d × ExprTied e × AssignedTied how d
    StmtTied (CallProper e) = ExprTied e
    StmtTied (Updated op d e at) = DesigTied d × ExprTied e
    StmtTied (Copy e d at) = ExprTied e × DesigTied d
    StmtTied (New d what at) = DesigTied d × MadeTied what d
    StmtTied (NewOpenArray d t n at) = DesigTied d × ExprTied n × On (LeadsTo (variable_type d)) t
    StmtTied (Assert e number at) = ExprTied e
    StmtTied (Halt number at) = Unit {0}
    StmtTied (If branches otherwise) = BranchesTied branches × StmtsTied otherwise
    StmtTied (Case e cases otherwise at) = ExprTied e × CasesTied cases × ElseTied otherwise
    StmtTied (While e body at) = ExprTied e × StmtsTied body
    StmtTied (Repeat body e at) = StmtsTied body × ExprTied e
    StmtTied (For v w start stop step body at) = ExprTied start × ExprTied stop × StmtsTied body
    StmtTied (Loop body at) = StmtsTied body
    StmtTied Exit = Unit {0}
    StmtTied (Return e) = ResultTied e
    StmtTied (With branches otherwise at) = BranchesTied branches × ElseTied otherwise

    pub StmtsTied : Stmts → Type 0
    StmtsTied Nothing = Unit {0}
    StmtsTied (Then s rest) = StmtTied s × StmtsTied rest

    pub BranchesTied : Branches → Type 0
    BranchesTied NoBranch = Unit {0}
    BranchesTied (Branch test body rest) = ExprTied test × StmtsTied body × BranchesTied rest

    pub CasesTied : Cases → Type 0
    CasesTied NoCase = Unit {0}
    CasesTied (OneCase labels body rest) = StmtsTied body × CasesTied rest

    pub ElseTied : Otherwise → Type 0
    ElseTied NoElse = Unit {0}
    ElseTied (Else body) = StmtsTied body

  -- a procedure that is bound to a type of the module, which leads to the record that introduces it
  abbrev pub BindingTied : Option Binding → Type 0
  BindingTied None = Unit {0}
  BindingTied (Some b) = Own b.owner × LeadsTo (ref.Named b.owner) b.family.owner

  pub record ProcedureTied (p : Procedure) : Type 0 where
    pub binding : BindingTied p.binding
    pub body : StmtsTied p.body

-- a name of a type of the module
abbrev pub IsTypeOf : Module → QName → Type 0
IsTypeOf m q = is_among (each (own_name m) m.types) q ≡ true

-- ALL that ties a module
pub record ModuleTied (map : Map) (m : Module) : Type 0 where
  pub procedures : AllByRecursion (ProcedureTied map m.name (IsTypeOf m)) m.procedures
  pub body : StmtsTied map m.name (IsTypeOf m) m.body
