-- What the code rests on in a checked tree: its names are there, and of each part there is what is wanted of it.
use Rattle.std.specs.Prelude.{◌≡◌, ◌⊎◌, ◌<◌, ◌^◌, ℕ, zero, List, [], ◌∷◌, ℤ, pos, Option, Some, None, bytes_eq}
use Rattle.ob_tree.specs.declared.names.QName.{QName}
use Rattle.ob_types.specs.declared.types.TypeRef.{TypeRef}
use Rattle.ob_types.specs.declared.types.TypeRef.TheVariants as ref
use Rattle.ob_types.specs.declared.types.Basic.TheVariants as basic
use Rattle.ob_types.specs.declared.value.Value.{Value as Literal}
use Rattle.ob_types.specs.declared.value.Value.TheVariants as literal
use Rattle.ob_types.specs.declared.typed.Passing.TheVariants as passing
use Rattle.ob_types.specs.declared.typed.Variable.{Variable}
use Rattle.ob_types.specs.declared.typed.Variable.TheVariants as variable
use Rattle.ob_types.specs.declared.typed.Guarded.{Guarded}
use Rattle.ob_types.specs.declared.typed.Guarded.TheVariants as guarded
use Rattle.ob_types.specs.declared.typed.Callee.{Callee}
use Rattle.ob_types.specs.declared.typed.Callee.TheVariants as callee
use Rattle.ob_types.specs.declared.typed.Assigned.{Assigned}
use Rattle.ob_types.specs.declared.typed.Assigned.TheVariants as assigned
use Rattle.ob_types.specs.declared.typed.Made.{Made}
use Rattle.ob_types.specs.declared.typed.Made.TheVariants as made
use Rattle.ob_types.specs.declared.typed.TypedType.{TypedType}
use Rattle.ob_types.specs.declared.typed.TypedVariable.{TypedVariable}
use Rattle.ob_types.specs.declared.typed.TypedParameter.{TypedParameter}
use Rattle.ob_types.specs.TypedKinds.{variable_type}
use Rattle.ob_types.specs.TypedSyntax.{Desig, OfVariable, Field, Index, Deref, Guard, Expr, Constant, ValueOf, ProcedureValue, Monadic, Dyadic, Logical, CompareTexts, IsPointer, IsRecord, Length, Call, CallVariable, Actuals, NoActual, AnActual, Stmt, Assign, CallProper, Updated, Copy, New, NewOpenArray, Assert, Halt, If, Case, While, Repeat, For, Loop, Exit, Return, With, Stmts, Nothing, Then, Branches, NoBranch, Branch, Cases, NoCase, OneCase, Otherwise, NoElse, Else}
use Rattle.ob_meaning.specs.Values.{Program, Form, ArrayForm, OpenForm, RecordForm, Fields, fields_of, form_in, record_in}
use Rattle.ob_scheme.specs.declared.want.Want.{Want}
use Rattle.ob_scheme.specs.declared.want.Want.TheVariants as want
use Rattle.ob_scheme.specs.Context.{Context, words, is_own, records}
use Rattle.ob_scheme.specs.Expressions.{wanted, guard_want}
use Rattle.ob_scheme.specs.Statements.{target_want, source_want}
use Rattle.law_simulation_relation.specs.Relation.{OrElse, FieldIn}

-- NAMES

abbrev pub IsNamed : List ℕ → Type 0
IsNamed [] = ⊥
IsNamed (n ∷ name) = Unit {0}

abbrev pub AmongLocals : List TypedVariable → List ℕ → Type 0
AmongLocals [] x = ⊥
AmongLocals (v ∷ vs) x = OrElse (bytes_eq x v.name) (Unit {0}) (AmongLocals vs x)

abbrev pub AmongParameters : List TypedParameter → List ℕ → Type 0
AmongParameters [] x = ⊥
AmongParameters (p ∷ ps) x = OrElse (bytes_eq x p.name) (Unit {0}) (AmongParameters ps x)

abbrev pub AmongTypes : List TypedType → List ℕ → Type 0
AmongTypes [] x = ⊥
AmongTypes (t ∷ ts) x = OrElse (bytes_eq x t.name) (Unit {0}) (AmongTypes ts x)

-- a variable of the procedure's own is one of its parameters or locals
abbrev pub IsThere : Context → Variable → Type 0
IsThere c (variable.Module m x) = Unit {0}
IsThere c (variable.Local x) = AmongLocals c.locals x
IsThere c (variable.Parameter how x) = AmongParameters c.parameters x

-- a record type of the module is one that it declares
abbrev pub IsKnown : Context → QName → Type 0
IsKnown c q = OrElse (is_own c q.module) (AmongTypes (records c) q.object) (Unit {0})

-- WHAT CAN BE HAD

-- a parameter by VAR with its tag
abbrev pub TaggedGives : Want → Type 0
TaggedGives want.Value = ⊥
TaggedGives want.Place = Unit {0}
TaggedGives (want.Room n) = Unit {0}
TaggedGives want.PlaceAndTag = Unit {0}
TaggedGives want.Tag = Unit {0}
TaggedGives want.PlaceAndLength = ⊥
TaggedGives want.Length = ⊥

-- a guard of a pointer variable, or of a record
abbrev pub GuardGives : Guarded → Want → Type 0
GuardGives guarded.Pointer want.Value = Unit {0}
GuardGives guarded.Pointer want.Place = Unit {0}
GuardGives guarded.Pointer (want.Room n) = Unit {0}
GuardGives guarded.Pointer w = ⊥
GuardGives guarded.Record w = TaggedGives w

-- no string, and no set of other elements than 0 to 31
abbrev pub IsScalar : Literal → Type 0
IsScalar (literal.Str text) = ⊥
IsScalar (literal.Set n) = n < 2 ^ 32
IsScalar v = Unit {0}

-- a string is laid down where a place is wanted
abbrev pub ConstantGives : Want → Literal → Type 0
ConstantGives want.Value v = IsScalar v
ConstantGives want.Place (literal.Str text) = Unit {0}
ConstantGives (want.Room n) (literal.Str text) = Unit {0}
ConstantGives want.PlaceAndLength (literal.Str text) = Unit {0}
ConstantGives w v = ⊥

-- what is computed has a value alone
abbrev pub IsValue : Want → Type 0
IsValue want.Value = Unit {0}
IsValue w = ⊥

-- tag and length alone are wanted of designators
abbrev pub IsWhole : Want → Type 0
IsWhole want.Tag = ⊥
IsWhole want.Length = ⊥
IsWhole w = Unit {0}

abbrev pub HasResult : Option TypeRef → Type 0
HasResult None = ⊥
HasResult (Some t) = Unit {0}

abbrev pub StepFits : ℤ → Type 0
StepFits (pos zero) = ⊥
StepFits step = Unit {0}

-- a record is no guarded pointer
abbrev pub IsNoPointer : Desig → Type 0
IsNoPointer (Guard d guarded.Pointer q at t) = ⊥
IsNoPointer d = Unit {0}

module _ (program : Program) (c : Context) where
  abbrev pub IsRecordType : TypeRef → Type 0
  IsRecordType t = (q : QName) × (line : List QName) × (fs : Fields) × (form_in program t ≡ RecordForm (q ∷ line) fs) × IsKnown c q

  abbrev pub IsArrayType : TypeRef → Type 0
  IsArrayType t = (n : ℕ) × (e : Form) × (form_in program t ≡ ArrayForm n e)

  abbrev pub IsOpenType : TypeRef → Type 0
  IsOpenType t = (e : Form) × (form_in program t ≡ OpenForm e)

  -- a variable at a place of its own
  abbrev pub PlaceGives : Want → TypeRef → Type 0
  PlaceGives want.Value t = Unit {0}
  PlaceGives want.Place t = Unit {0}
  PlaceGives (want.Room n) t = Unit {0}
  PlaceGives want.PlaceAndTag t = IsRecordType t
  PlaceGives want.Tag t = ⊥
  PlaceGives want.PlaceAndLength t = IsArrayType t
  PlaceGives want.Length t = ⊥

  -- an open array as a parameter
  abbrev pub OpenGives : Want → TypeRef → Type 0
  OpenGives want.Value t = ⊥
  OpenGives want.Place t = Unit {0}
  OpenGives (want.Room n) t = Unit {0}
  OpenGives want.PlaceAndTag t = ⊥
  OpenGives want.Tag t = ⊥
  OpenGives want.PlaceAndLength t = IsOpenType t
  OpenGives want.Length t = Unit {0}

  abbrev pub VariableGives : Variable → Want → TypeRef → Type 0
  VariableGives (variable.Parameter passing.OpenArray x) w t = OpenGives w t
  VariableGives (variable.Parameter passing.VariableOpenArray x) w t = OpenGives w t
  VariableGives (variable.Parameter passing.VariableRecord x) w t = TaggedGives w
  VariableGives v w t = PlaceGives w t

  -- what a pointer points to
  abbrev pub PointerGives : Want → TypeRef → Type 0
  PointerGives want.Value t = Unit {0}
  PointerGives want.Place t = Unit {0}
  PointerGives (want.Room n) t = Unit {0}
  PointerGives want.PlaceAndTag t = Unit {0}
  PointerGives want.Tag t = ⊥
  PointerGives want.PlaceAndLength t = IsArrayType t ⊎ IsOpenType t
  PointerGives want.Length t = Unit {0}

  abbrev pub ProcedureFits : QName → Type 0
  ProcedureFits q = IsNamed q.object

  abbrev pub CalleeFits : Callee → Type 0
  CalleeFits (callee.Declared q) = ProcedureFits q
  CalleeFits (callee.Bound f k) = Unit {0}
  CalleeFits (callee.Super base f k) = IsKnown c base
  CalleeFits (callee.Out o) = Unit {0}

  -- TREES

  abbrev mutual
    pub DesigFits : Want → Desig → Type 0
    DesigFits w (OfVariable v t) = IsThere c v × VariableGives v w t
    DesigFits w (Field d o x t) = DesigFits want.Place d × (FieldIn (fields_of (record_in program o)) o x × PlaceGives w t)
    DesigFits w (Index d (Some n) i at t) = DesigFits want.Place d × (ExprFits want.Value i × PlaceGives w t)
    DesigFits w (Index d None i at t) = DesigFits want.PlaceAndLength d × (IsOpenType (variable_type d) × (ExprFits want.Value i × PlaceGives w t))
    DesigFits w (Deref d at t) = DesigFits want.Value d × PointerGives w t
    DesigFits w (Guard d g q at t) = DesigFits (guard_want g w) d × (IsKnown c q × GuardGives g w)

    pub ExprFits : Want → Expr → Type 0
    ExprFits w (Constant v) = ConstantGives w v
    ExprFits w (ValueOf d) = IsWhole w × DesigFits w d
    ExprFits w (ProcedureValue q signature) = IsValue w × ProcedureFits q
    ExprFits w (Monadic o e at) = IsValue w × ExprFits want.Value e
    ExprFits w (Dyadic o a b at) = IsValue w × (ExprFits want.Value a × ExprFits want.Value b)
    ExprFits w (Logical o a b) = IsValue w × (ExprFits want.Value a × ExprFits want.Value b)
    ExprFits w (CompareTexts r a b at) = IsValue w × (ExprFits want.PlaceAndLength a × ExprFits want.PlaceAndLength b)
    ExprFits w (IsPointer e q) = IsValue w × (ExprFits want.Value e × IsKnown c q)
    ExprFits w (IsRecord d q) = IsValue w × (DesigFits want.Tag d × IsKnown c q)
    ExprFits w (Length d) = IsValue w × DesigFits want.Length d
    ExprFits w (Call callee es at t) = IsValue w × (HasResult t × (ActualsFit es × CalleeFits callee))
    ExprFits w (CallVariable d es at t) = IsValue w × (DesigFits want.Value d × ActualsFit es)

    pub ActualsFit : Actuals → Type 0
    ActualsFit NoActual = Unit {0}
    ActualsFit (AnActual how t e rest) = ExprFits (wanted (words c) how t) e × ActualsFit rest

  -- a call that stands as a statement
  abbrev pub ProperFits : Expr → Type 0
  ProperFits (Call callee es at t) = ActualsFit es × CalleeFits callee
  ProperFits (CallVariable d es at t) = DesigFits want.Value d × ActualsFit es
  ProperFits e = ⊥

  abbrev pub ResultFits : Option Expr → Type 0
  ResultFits None = Unit {0}
  ResultFits (Some e) = ExprFits want.Value e

  abbrev pub AssignedFits : Assigned → Desig → Type 0
  AssignedFits assigned.Scalar d = Unit {0}
  AssignedFits assigned.Text d = Unit {0}
  AssignedFits assigned.Array d = Unit {0}
  AssignedFits (assigned.Record q) d = IsNoPointer d × ((form_in program (variable_type d) ≡ record_in program q) × IsKnown c q)

  abbrev pub MadeFits : Made → Type 0
  MadeFits (made.Record q) = IsKnown c q
  MadeFits (made.Array t) = Unit {0}

  abbrev mutual
    pub StmtFits : Stmt → Type 0
    StmtFits (Assign d how e at) = DesigFits (target_want how d) d × (ExprFits (source_want how) e × AssignedFits how d)
    StmtFits (CallProper e) = ProperFits e
    StmtFits (Updated o d e at) = DesigFits want.Place d × ExprFits want.Value e
    StmtFits (Copy e d at) = ExprFits want.PlaceAndLength e × DesigFits want.PlaceAndLength d
    StmtFits (New d what at) = DesigFits want.Place d × MadeFits what
    StmtFits (NewOpenArray d t n at) = DesigFits want.Place d × ExprFits want.Value n
    StmtFits (Assert e number at) = ExprFits want.Value e
    StmtFits (Halt number at) = Unit {0}
    StmtFits (If branches otherwise) = BranchesFit branches × StmtsFit otherwise
    StmtFits (Case e cases otherwise at) = ExprFits want.Value e × (CasesFit cases × ElseFits otherwise)
    StmtFits (While e body at) = ExprFits want.Value e × StmtsFit body
    StmtFits (Repeat body e at) = StmtsFit body × ExprFits want.Value e
    StmtFits (For v w start stop step body at) = (IsThere c v × VariableGives v want.Value (ref.Basic basic.LongInt)) × (ExprFits want.Value start × (ExprFits want.Value stop × (StepFits step × StmtsFit body)))
    StmtFits (Loop body at) = StmtsFit body
    StmtFits Exit = Unit {0}
    StmtFits (Return e) = ResultFits e
    StmtFits (With branches otherwise at) = BranchesFit branches × ElseFits otherwise

    pub StmtsFit : Stmts → Type 0
    StmtsFit Nothing = Unit {0}
    StmtsFit (Then s rest) = StmtFits s × StmtsFit rest

    pub BranchesFit : Branches → Type 0
    BranchesFit NoBranch = Unit {0}
    BranchesFit (Branch test body rest) = ExprFits want.Value test × (StmtsFit body × BranchesFit rest)

    pub CasesFit : Cases → Type 0
    CasesFit NoCase = Unit {0}
    CasesFit (OneCase labels body rest) = StmtsFit body × CasesFit rest

    pub ElseFits : Otherwise → Type 0
    ElseFits NoElse = Unit {0}
    ElseFits (Else body) = StmtsFit body
