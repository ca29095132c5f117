-- The rules that a checked tree keeps, as far as code and meaning rest on them.
use Rattle.std.specs.Prelude.{◌≡◌, ◌⊎◌, ◌<◌, ℕ, ◌^◌, List, [], ◌∷◌, length, ℤ, Option, Some, None, Bool, true, bytes_eq}
use Rattle.ob_tree.specs.declared.names.QName.{QName}
use Rattle.ob_tree.specs.declared.pos.Pos.{Pos}
use Rattle.ob_types.specs.declared.types.Basic.{Basic}
use Rattle.ob_types.specs.declared.types.Basic.TheVariants as basic
use Rattle.ob_types.specs.declared.types.TypeRef.{TypeRef}
use Rattle.ob_types.specs.declared.types.Signature.{Signature}
use Rattle.ob_types.specs.declared.types.Mode.{Mode}
use Rattle.ob_types.specs.declared.types.Mode.TheVariants as mode
use Rattle.ob_types.specs.declared.value.Value.{Value as Literal}
use Rattle.ob_types.specs.declared.value.Value.TheVariants as literal
use Rattle.ob_types.specs.declared.typed.Width.{Width}
use Rattle.ob_types.specs.declared.typed.Width.TheVariants as width
use Rattle.ob_types.specs.declared.typed.Passing.{Passing}
use Rattle.ob_types.specs.declared.typed.Passing.TheVariants as passing
use Rattle.ob_types.specs.declared.typed.Variable.{Variable}
use Rattle.ob_types.specs.declared.typed.Variable.TheVariants as variable
use Rattle.ob_types.specs.declared.typed.Guarded.TheVariants as guarded
use Rattle.ob_types.specs.declared.typed.Comparison.{Comparison}
use Rattle.ob_types.specs.declared.typed.Comparison.TheVariants as comparison
use Rattle.ob_types.specs.declared.typed.Compared.TheVariants as compared
use Rattle.ob_types.specs.declared.typed.Unary.{Unary}
use Rattle.ob_types.specs.declared.typed.Unary.TheVariants as unary
use Rattle.ob_types.specs.declared.typed.Binary.{Binary}
use Rattle.ob_types.specs.declared.typed.Binary.TheVariants as binary
use Rattle.ob_types.specs.declared.typed.Callee.{Callee}
use Rattle.ob_types.specs.declared.typed.Callee.TheVariants as callee
use Rattle.ob_types.specs.declared.desc.Receiver.{Receiver}
use Rattle.ob_types.specs.declared.desc.Receiver.TheVariants as receiver
use Rattle.ob_types.specs.declared.typed.Assigned.{Assigned}
use Rattle.ob_types.specs.declared.typed.Assigned.TheVariants as assigned
use Rattle.ob_types.specs.declared.typed.Update.{Update}
use Rattle.ob_types.specs.declared.typed.Update.TheVariants as update
use Rattle.ob_types.specs.declared.typed.Made.{Made}
use Rattle.ob_types.specs.declared.typed.Made.TheVariants as made
use Rattle.ob_types.specs.declared.typed.TypedParameter.{TypedParameter}
use Rattle.ob_types.specs.TypedSyntax.{Desig, OfVariable, Field, Index, Deref, Guard, Expr, Constant, ValueOf, ProcedureValue, Monadic, Dyadic, Logical, CompareTexts, IsPointer, IsRecord, Length, Call, CallVariable, Actuals, NoActual, AnActual, Stmt, Assign, CallProper, Updated, Copy, New, NewOpenArray, Assert, Halt, If, Case, While, Repeat, For, Loop, Exit, Return, With, Stmts, Nothing, Then, Branches, NoBranch, Branch, Cases, NoCase, OneCase, Otherwise, NoElse, Else, Procedure}
use Rattle.ob_types.specs.TypedKinds.{variable_type}
use Rattle.ob_meaning.specs.Values.{Program, procedure_of, Form, BasicForm, PointerForm, ProcedureForm, ArrayForm, OpenForm, RecordForm, fields_of, form_in, record_in, bases_in, Held, Own, Referred, Copied, Formals, formals_in}
use Rattle.ob_types.specs.Numbers.{is_in}
use Rattle.ob_meaning.specs.Meaning.{nearest, hidden}
use Rattle.law_simulation_relation.specs.Layout.{field_offset, field_form, held_name, form_named, variables_in}
use Rattle.law_simulation_relation.specs.Relation.{OrElse, FormOk, LengthFits, Sub, Scalar, IsStructure, FieldIn, ValueIn}
pub use Rattle.law_simulation_relation.specs.Passed.{passing_for, IsOpen, IsClosed, IsPassed, IsUnguarded, IsString, IsVariable, CalleeTakes}

abbrev pub basic_of : Width → Basic
basic_of width.ShortInt = basic.ShortInt
basic_of width.Integer = basic.Integer
basic_of width.LongInt = basic.LongInt

abbrev pub integer : Width → Form
integer w = BasicForm (basic_of w)

abbrev pub longint : Form
longint = BasicForm basic.LongInt

abbrev pub boolean : Form
boolean = BasicForm basic.Boolean

abbrev pub char : Form
char = BasicForm basic.Char

abbrev pub set : Form
set = BasicForm basic.Set

-- an integer type within another
pub data Within : Width → Width → Type 0 where
  same : {w : Width} → Within w w
  short : Within width.ShortInt width.Integer
  shorter : Within width.ShortInt width.LongInt
  middle : Within width.Integer width.LongInt

-- the characters of a string
abbrev pub AreCharacters : List ℕ → Type 0
AreCharacters [] = Unit {0}
AreCharacters (c ∷ cs) = (c < 256) × AreCharacters cs

abbrev pub IsEquality : Comparison → Type 0
IsEquality comparison.Equal = Unit {0}
IsEquality comparison.NotEqual = Unit {0}
IsEquality r = ⊥

abbrev pub ByPassing : Passing → (scalar structure array referred referred_record referred_array : Type 0) → Type 0
ByPassing passing.Scalar A B C D E F = A
ByPassing passing.Structure A B C D E F = B
ByPassing passing.OpenArray A B C D E F = C
ByPassing passing.Variable A B C D E F = D
ByPassing passing.VariableRecord A B C D E F = E
ByPassing passing.VariableOpenArray A B C D E F = F

-- the type of the parameter, as an actual one names it: only that of a record or an array by value must be of the parameter's own form,
-- since a receiver names its own type, which may extend the parameter's
abbrev pub IsFormal : Program → Passing → TypeRef → TypeRef → Type 0
IsFormal program passing.Structure t u = (form_in program t ≡ form_in program u) × IsStructure (form_in program u)
IsFormal program how t u = Unit {0}

-- the form of a result, where there is one
abbrev pub result_form : Program → Option TypeRef → Option Form
result_form program None = None
result_form program (Some t) = Some (form_in program t)

abbrev pub As : (Held → Type 0) → List Held → List ℕ → Type 0
As Kind [] x = ⊥
As Kind (h ∷ hs) x = OrElse (bytes_eq x (held_name h)) (Kind h) (As Kind hs x)

abbrev pub IsOwn : Held → Type 0
IsOwn (Own x t) = Unit {0}
IsOwn h = ⊥

abbrev pub IsReferred : ℕ → Held → Type 0
IsReferred k (Referred x n t) = n ≡ k
IsReferred k h = ⊥

abbrev pub IsCopied : ℕ → Held → Type 0
IsCopied k (Copied x n t) = n ≡ k
IsCopied k h = ⊥

-- a record type by its own name
abbrev pub IsRecordType : Program → QName → Type 0
IsRecordType program q = (line : List QName) × (record_in program q ≡ RecordForm (q ∷ line) (fields_of (record_in program q)))

-- a test or a guard is for a record type that extends the static one
abbrev pub TestOk : Program → QName → Form → Type 0
TestOk program q t = IsRecordType program q × Sub (record_in program q) t

-- the first parameter is a receiver of a record type: the record by VAR, or a pointer to it
abbrev pub ReceiverOk : Program → Receiver → QName → List TypedParameter → Type 0
ReceiverOk program k t [] = ⊥
ReceiverOk program receiver.Record t (p ∷ ps) = (p.passing ≡ passing.VariableRecord) × (form_in program p.of ≡ record_in program t)
ReceiverOk program receiver.Pointer t (p ∷ ps) = (p.passing ≡ passing.Scalar) × ((u : TypeRef) × (form_in program p.of ≡ PointerForm u) × (form_in program u ≡ record_in program t))

-- a record parameter by VAR, with its guards
abbrev pub IsVariableRecord : Desig → Type 0
IsVariableRecord (OfVariable (variable.Parameter passing.VariableRecord x) t) = Unit {0}
IsVariableRecord (Guard d guarded.Record q at t) = IsVariableRecord d
IsVariableRecord d = ⊥

abbrev pub IsRecordForm : Form → Type 0
IsRecordForm t = (line : List QName) × (t ≡ RecordForm line (fields_of t))

-- an array of such elements, open or of a length
abbrev pub IsArrayOf : Form → Form → Type 0
IsArrayOf t u = (t ≡ OpenForm u) ⊎ ((n : ℕ) × (t ≡ ArrayForm n u))

module _ (program : Program) (Has : Formals → QName → Type 0) (unit : List ℕ) (held : List Held) (result : Option TypeRef) where
  -- what may stand for a scalar type: itself; a smaller integer type; a pointer to an extension
  pub data Widens : Form → Form → Type 0 where
    itself : {t : Form} → Widens t t
    integers : (v w : Width) → Within v w → Widens (integer v) (integer w)
    pointers : (t u : TypeRef) → ((a : Form) → Sub a (form_in program t) → Sub a (form_in program u)) → ((has : Bool) → LengthFits (form_in program t) has → LengthFits (form_in program u) has) → Widens (PointerForm t) (PointerForm u)
    procedures : (fs gs : Formals) → ((q : QName) → Has fs q → Has gs q) → Widens (ProcedureForm fs) (ProcedureForm gs)

  -- a parameter has its kind, and an open array by value the type of one
  abbrev pub ParameterOk : Passing → List ℕ → Type 0
  ParameterOk passing.Scalar x = As IsOwn held x
  ParameterOk passing.Structure x = As (IsCopied 1) held x
  ParameterOk passing.OpenArray x = As (IsCopied 2) held x × IsOpen (form_named held x)
  ParameterOk passing.Variable x = As (IsReferred 1) held x
  ParameterOk passing.VariableRecord x = As (IsReferred 2) held x
  ParameterOk passing.VariableOpenArray x = As (IsReferred 2) held x

  abbrev pub VariableOk : Variable → Form → Type 0
  VariableOk (variable.Module m x) t = ValueIn (variables_in program program m) x × (form_named (variables_in program program m) x ≡ t)
  VariableOk (variable.Local x) t = As IsOwn held x × (form_named held x ≡ t)
  VariableOk (variable.Parameter how x) t = ParameterOk how x × (form_named held x ≡ t)

  abbrev pub ConstantOk : Literal → Form → Type 0
  ConstantOk (literal.Bool b) t = t ≡ boolean
  ConstantOk (literal.Char c) t = (c < 256) × (t ≡ char)
  ConstantOk (literal.Int z) t = (w : Width) × (is_in w z ≡ true) × (t ≡ integer w)
  ConstantOk (literal.Set n) t = (n < 2 ^ 32) × (t ≡ set)
  ConstantOk (literal.Str text) t = ⊥
  ConstantOk literal.Nil t = ((u : TypeRef) × (t ≡ PointerForm u)) ⊎ ((fs : Formals) × (t ≡ ProcedureForm fs))

  abbrev pub unary_in : Unary → Form
  unary_in (unary.Negate w) = integer w
  unary_in unary.Not = boolean
  unary_in unary.Complement = set
  unary_in (unary.Abs w) = integer w
  unary_in unary.Cap = char
  unary_in unary.Chr = longint
  unary_in (unary.Long w) = integer w
  unary_in unary.Odd = longint
  unary_in unary.Ord = char
  unary_in (unary.Short w) = longint
  unary_in unary.Element = longint

  abbrev pub unary_out : Unary → Form
  unary_out (unary.Negate w) = integer w
  unary_out unary.Not = boolean
  unary_out unary.Complement = set
  unary_out (unary.Abs w) = integer w
  unary_out unary.Cap = char
  unary_out unary.Chr = char
  unary_out (unary.Long w) = integer w
  unary_out unary.Odd = boolean
  unary_out unary.Ord = BasicForm basic.Integer
  unary_out (unary.Short w) = integer w
  unary_out unary.Element = set

  -- the types of the operands and of the result
  pub data BinaryOk : Binary → Form → Form → Form → Type 0 where
    sum : (w : Width) → BinaryOk (binary.Add w) (integer w) (integer w) (integer w)
    difference : (w : Width) → BinaryOk (binary.Subtract w) (integer w) (integer w) (integer w)
    product : (w : Width) → BinaryOk (binary.Multiply w) (integer w) (integer w) (integer w)
    quotient : (w : Width) → BinaryOk (binary.Quotient w) (integer w) (integer w) (integer w)
    remainder : (w : Width) → BinaryOk (binary.Remainder w) (integer w) (integer w) (integer w)
    union : BinaryOk binary.Union set set set
    without : BinaryOk binary.Difference set set set
    meet : BinaryOk binary.Intersection set set set
    either : BinaryOk binary.SymmetricDifference set set set
    range : BinaryOk binary.Range longint longint set
    inside : BinaryOk binary.In longint set boolean
    ash : BinaryOk binary.Ash longint longint longint
    integers : (r : Comparison) → BinaryOk (binary.Compare r compared.Integer) longint longint boolean
    chars : (r : Comparison) → BinaryOk (binary.Compare r compared.Char) char char boolean
    booleans : (r : Comparison) → IsEquality r → BinaryOk (binary.Compare r compared.Boolean) boolean boolean boolean
    sets : (r : Comparison) → IsEquality r → BinaryOk (binary.Compare r compared.Set) set set boolean
    pointers : (r : Comparison) (t u : TypeRef) → IsEquality r → BinaryOk (binary.Compare r compared.Pointer) (PointerForm t) (PointerForm u) boolean
    procedures : (r : Comparison) (fs gs : Formals) → IsEquality r → BinaryOk (binary.Compare r compared.Procedure) (ProcedureForm fs) (ProcedureForm gs) boolean

  abbrev pub form_of : Desig → Form
  form_of d = form_in program (variable_type d)

  -- a field where its owner has it is where every extension has it
  abbrev pub FieldOk : Form → QName → List ℕ → Form → Type 0
  FieldOk t o x u = (line : List QName) × (t ≡ RecordForm line (fields_of t)) × FieldIn (fields_of t) o x × (field_form (fields_of t) o x ≡ u) × (field_offset (fields_of t) o x ≡ field_offset (fields_of (record_in program o)) o x)

  abbrev pub IsPointerTo : Form → Form → Type 0
  IsPointerTo t u = (r : TypeRef) × (t ≡ PointerForm r) × (form_in program r ≡ u)

  abbrev pub ResultOk : Option TypeRef → Form → Type 0
  ResultOk None t = ⊥
  ResultOk (Some r) t = Scalar (form_in program r) × Widens (form_in program r) t

  -- arrays of characters and strings
  abbrev pub IsText : Form → Type 0
  IsText (ArrayForm n t) = t ≡ char
  IsText (OpenForm t) = t ≡ char
  IsText t = ⊥

  -- what is called, with what is asked of its parameters
  abbrev pub CallOk : Callee → Option TypeRef → (List TypedParameter → Type 0) → Type 0 → Type 0
  CallOk (callee.Declared q) r Fits Out = (p : Procedure) × (procedure_of program q ≡ Some p) × (result_form program p.result ≡ result_form program r) × Fits p.parameters
  CallOk (callee.Bound f k) r Fits Out = (t : QName) × (q : QName) × (p : Procedure) × IsRecordType program t × (nearest program (bases_in program t) f ≡ Some q) × (procedure_of program q ≡ Some p) × ReceiverOk program k t p.parameters × (result_form program p.result ≡ result_form program r) × Fits p.parameters
  CallOk (callee.Super base f k) r Fits Out = (q : QName) × (p : Procedure) × IsRecordType program base × (nearest program (bases_in program base) f ≡ Some q) × (procedure_of program q ≡ Some p) × (result_form program p.result ≡ result_form program r) × Fits p.parameters
  CallOk (callee.Out o) r Fits Out = (r ≡ None) × Out

  abbrev mutual
    -- a designator whose own type is the form of its type's name
    pub DesigOk : Desig → Type 0
    DesigOk (OfVariable v t) = VariableOk v (form_in program t) × IsPassed v (form_in program t)
    DesigOk (Field d o x t) = DesigOk d × FieldOk (form_of d) o x (form_in program t) × IsClosed (form_in program t)
    DesigOk (Index d (Some n) i at t) = DesigOk d × (ExprOk i longint × (form_of d ≡ ArrayForm n (form_in program t)) × IsClosed (form_in program t))
    DesigOk (Index d None i at t) = DesigOk d × (ExprOk i longint × (form_of d ≡ OpenForm (form_in program t)) × IsClosed (form_in program t))
    DesigOk (Deref d at t) = DesigOk d × IsPointerTo (form_of d) (form_in program t)
    DesigOk (Guard d guarded.Pointer q at t) = DesigOk d × (IsPointerTo (form_in program t) (record_in program q) × ((r : TypeRef) × (form_of d ≡ PointerForm r) × TestOk program q (form_in program r)))
    DesigOk (Guard d guarded.Record q at t) = DesigOk d × ((form_in program t ≡ record_in program q) × TestOk program q (form_of d))

    -- the value of an expression fits a type
    pub ExprOk : Expr → Form → Type 0
    ExprOk (Constant c) t = ConstantOk c t
    ExprOk (ValueOf d) t = DesigOk d × (Scalar (form_of d) × Widens (form_of d) t)
    ExprOk (ProcedureValue q signature) t = (fs : Formals) × (t ≡ ProcedureForm fs) × Has fs q
    ExprOk (Monadic o e at) t = ExprOk e (unary_in o) × Widens (unary_out o) t
    ExprOk (Dyadic o a b at) t = (u : Form) × (v : Form) × (r : Form) × BinaryOk o u v r × ExprOk a u × ExprOk b v × Widens r t
    ExprOk (Logical o a b) t = ExprOk a boolean × (ExprOk b boolean × Widens boolean t)
    ExprOk (CompareTexts r a b at) t = TextOk a × (TextOk b × Widens boolean t)
    ExprOk (IsPointer e q) t = ((u : TypeRef) × ExprOk e (PointerForm u) × TestOk program q (form_in program u)) × Widens boolean t
    ExprOk (IsRecord d q) t = DesigOk d × (IsVariableRecord d × (TestOk program q (form_of d) × Widens boolean t))
    ExprOk (Length d) t = DesigOk d × (((u : Form) × (form_of d ≡ OpenForm u)) × Widens longint t)
    ExprOk (Call c es at r) t = CallOk c r (ActualsOk es) (OutOk es) × ResultOk r t
    ExprOk (CallVariable d es at r) t = (DesigOk d × ((s : Signature) × (form_of d ≡ ProcedureForm (formals_in program s)) × (result_form program s.result ≡ result_form program r) × SignatureOk es s.params)) × ResultOk r t

    pub TextOk : Expr → Type 0
    TextOk (ValueOf d) = DesigOk d × IsText (form_of d)
    TextOk (Constant (literal.Str text)) = AreCharacters text
    TextOk e = ⊥

    pub OutOk : Actuals → Type 0
    OutOk NoActual = Unit {0}
    OutOk (AnActual passing.Scalar t e rest) = ExprOk e (form_in program t) × OutOk rest
    OutOk (AnActual passing.OpenArray t e rest) = TextOk e × OutOk rest
    OutOk (AnActual how t e rest) = ⊥

    pub ActualsOk : Actuals → List TypedParameter → Type 0
    ActualsOk NoActual [] = Unit {0}
    ActualsOk NoActual (p ∷ ps) = ⊥
    ActualsOk (AnActual how t e rest) [] = ⊥
    ActualsOk (AnActual how t e rest) (p ∷ ps) = (how ≡ p.passing) × (IsFormal program how t p.of × (ByPassing how (ExprOk e (form_in program p.of) × Scalar (form_in program p.of)) (StructureOk e (form_in program p.of)) (ArrayOk e (form_in program p.of)) (ReferredOk e (form_in program p.of)) (RecordOk e (form_in program p.of)) (VariableArrayOk e (form_in program p.of)) × ActualsOk rest ps))

    -- by a signature alone, as procedure variables are called
    pub SignatureOk : Actuals → List (Mode × TypeRef) → Type 0
    SignatureOk NoActual [] = Unit {0}
    SignatureOk NoActual (p ∷ ps) = ⊥
    SignatureOk (AnActual how t e rest) [] = ⊥
    SignatureOk (AnActual how t e rest) (p ∷ ps) = (how ≡ passing_for p.0 (form_in program p.1)) × ((form_in program t ≡ form_in program p.1) × (ByPassing how (ExprOk e (form_in program t) × Scalar (form_in program t)) (StructureOk e (form_in program t)) (ArrayOk e (form_in program t)) (ReferredOk e (form_in program t)) (RecordOk e (form_in program t)) (VariableArrayOk e (form_in program t)) × SignatureOk rest ps))

    pub StructureOk : Expr → Form → Type 0
    StructureOk (ValueOf d) t = DesigOk d × Sub (form_of d) t
    StructureOk (Constant (literal.Str text)) t = (n : ℕ) × (t ≡ ArrayForm n char) × (length text < n) × AreCharacters text
    StructureOk e t = ⊥

    pub ArrayOk : Expr → Form → Type 0
    ArrayOk (ValueOf d) t = DesigOk d × ((u : Form) × (t ≡ OpenForm u) × IsArrayOf (form_of d) u)
    ArrayOk (Constant (literal.Str text)) t = (t ≡ OpenForm char) × AreCharacters text
    ArrayOk e t = ⊥

    pub ReferredOk : Expr → Form → Type 0
    ReferredOk (ValueOf d) t = DesigOk d × ((a : Form) → Sub a (form_of d) → Sub a t) × IsUnguarded d
    ReferredOk e t = ⊥

    pub RecordOk : Expr → Form → Type 0
    RecordOk (ValueOf d) t = DesigOk d × (IsRecordForm (form_of d) × ((a : Form) → Sub a (form_of d) → Sub a t))
    RecordOk e t = ⊥

    pub VariableArrayOk : Expr → Form → Type 0
    VariableArrayOk (ValueOf d) t = DesigOk d × ((u : Form) × (t ≡ OpenForm u) × IsArrayOf (form_of d) u)
    VariableArrayOk e t = ⊥

  abbrev pub AssignedOk : Assigned → Desig → Expr → Type 0
  AssignedOk assigned.Scalar d e = ExprOk e (form_of d) × Scalar (form_of d)
  AssignedOk assigned.Text d e = (n : ℕ) × (form_of d ≡ ArrayForm n char) × StructureOk e (form_of d) × IsString e
  AssignedOk assigned.Array d e = ((n : ℕ) × (u : Form) × (form_of d ≡ ArrayForm n u)) × StructureOk e (form_of d) × IsVariable e
  AssignedOk (assigned.Record q) d e = (form_of d ≡ record_in program q) × (IsRecordType program q × StructureOk e (form_of d))

  abbrev pub UpdateOk : Update → Desig → Expr → Type 0
  UpdateOk (update.Inc w) d e = ExprOk e longint × (form_of d ≡ integer w)
  UpdateOk (update.Dec w) d e = ExprOk e longint × (form_of d ≡ integer w)
  UpdateOk update.Incl d e = ExprOk e longint × (form_of d ≡ set)
  UpdateOk update.Excl d e = ExprOk e longint × (form_of d ≡ set)

  abbrev pub MadeOk : Made → Form → Type 0
  MadeOk (made.Record q) t = IsPointerTo t (record_in program q) × ((line : List QName) × (record_in program q ≡ RecordForm (q ∷ line) (fields_of (record_in program q))))
  MadeOk (made.Array u) t = IsPointerTo t (form_in program u) × ((n : ℕ) × (v : Form) × (form_in program u ≡ ArrayForm n v) × FormOk program (ArrayForm n v))

  abbrev pub ReturnOk : Option Expr → Option TypeRef → Type 0
  ReturnOk None None = Unit {0}
  ReturnOk None (Some t) = ⊥
  ReturnOk (Some e) None = ⊥
  ReturnOk (Some e) (Some t) = ExprOk e (form_in program t) × Scalar (form_in program t)

  -- the value of CASE: an integer or a character
  abbrev pub CaseOk : Expr → Type 0
  CaseOk e = ExprOk e longint ⊎ ExprOk e char

  abbrev pub HiddenOk : Pos → Type 0
  HiddenOk at = As IsOwn held (hidden at) × (form_named held (hidden at) ≡ longint)

  -- any step, also one that the variable's type has not: the addition then traps
  abbrev pub StepOk : ℤ → Width → Type 0
  StepOk step w = is_in width.LongInt step ≡ true

  -- a call of a proper procedure
  abbrev pub ProperOk : Expr → Type 0
  ProperOk (Call c es at r) = CallOk c r (ActualsOk es) (OutOk es) × (r ≡ None) × CalleeTakes c es
  ProperOk (CallVariable d es at r) = (DesigOk d × ((s : Signature) × (form_of d ≡ ProcedureForm (formals_in program s)) × (result_form program s.result ≡ result_form program r) × SignatureOk es s.params)) × (r ≡ None)
  ProperOk e = ⊥

  -- inside a LOOP or not
  abbrev mutual
    pub StmtOk : Stmt → Bool → Type 0
    StmtOk (Assign d how e at) l = DesigOk d × AssignedOk how d e
    StmtOk (CallProper e) l = ProperOk e
    StmtOk (Updated o d e at) l = DesigOk d × UpdateOk o d e
    StmtOk (Copy e d at) l = TextOk e × (DesigOk d × IsText (form_of d))
    StmtOk (New d what at) l = DesigOk d × MadeOk what (form_of d)
    StmtOk (NewOpenArray d t n at) l = DesigOk d × (IsPointerTo (form_of d) (OpenForm (form_in program t)) × (FormOk program (form_in program t) × ExprOk n longint))
    StmtOk (Assert e number at) l = ExprOk e boolean
    StmtOk (Halt number at) l = Unit {0}
    StmtOk (If branches otherwise) l = BranchesOk branches l × StmtsOk otherwise l
    StmtOk (Case e cases otherwise at) l = CaseOk e × (HiddenOk at × (CasesOk cases l × ElseOk otherwise l))
    StmtOk (While e body at) l = ExprOk e boolean × StmtsOk body l
    StmtOk (Repeat body e at) l = StmtsOk body l × ExprOk e boolean
    StmtOk (For v w start end step body at) l = (VariableOk v (integer w) × IsPassed v (integer w)) × (ExprOk start (integer w) × (ExprOk end longint × (HiddenOk at × (StepOk step w × StmtsOk body l))))
    StmtOk (Loop body at) l = StmtsOk body true
    StmtOk Exit l = l ≡ true
    StmtOk (Return e) l = ReturnOk e result
    StmtOk (With branches otherwise at) l = BranchesOk branches l × ElseOk otherwise l

    pub StmtsOk : Stmts → Bool → Type 0
    StmtsOk Nothing l = Unit {0}
    StmtsOk (Then s rest) l = StmtOk s l × StmtsOk rest l

    pub BranchesOk : Branches → Bool → Type 0
    BranchesOk NoBranch l = Unit {0}
    BranchesOk (Branch test body rest) l = ExprOk test boolean × (StmtsOk body l × BranchesOk rest l)

    pub CasesOk : Cases → Bool → Type 0
    CasesOk NoCase l = Unit {0}
    CasesOk (OneCase labels body rest) l = StmtsOk body l × CasesOk rest l

    pub ElseOk : Otherwise → Bool → Type 0
    ElseOk NoElse l = Unit {0}
    ElseOk (Else body) l = StmtsOk body l
