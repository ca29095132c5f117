-- Types as they are built, values, places and states.
use Rattle.std.specs.Prelude.{ℕ, zero, suc, ◌+◌, ◌*◌, List, [], ◌∷◌, ◌++◌, length, ℤ, pos, Option, Some, None, Bool, false, ◌&&◌, ◌||◌, nat_eq, bytes_eq, if◌then◌else◌}
use Rattle.ob_tree.specs.declared.names.QName.{QName}
use Rattle.ob_types.specs.declared.types.Basic.{Basic}
use Rattle.ob_types.specs.declared.types.Basic.TheVariants as basic
use Rattle.ob_types.specs.declared.types.TypeRef.{TypeRef}
use Rattle.ob_types.specs.declared.types.TypeRef.TheVariants as ref
use Rattle.ob_types.specs.declared.types.Mode.{Mode}
use Rattle.ob_types.specs.declared.types.Signature.{Signature}
use Rattle.ob_types.specs.declared.desc.Desc.{Desc}
use Rattle.ob_types.specs.declared.desc.Desc.TheVariants as desc
use Rattle.ob_types.specs.declared.desc.Field.{Field}
use Rattle.ob_types.specs.declared.typed.TypedType.{TypedType}
use Rattle.ob_types.specs.TypedSyntax.{Procedure, Module}

-- NAMES

abbrev pub same_name : QName → QName → Bool
same_name a b = bytes_eq a.object b.object && bytes_eq a.module b.module

-- a map with one entry changed; a place that is sought stands before one that is declared
abbrev pub changed : {A : Type 0} → (List ℕ → A) → List ℕ → A → List ℕ → A
changed g x v y = if bytes_eq y x then v else g y

abbrev pub changed_at : {A : Type 0} → (ℕ → A) → ℕ → A → ℕ → A
changed_at g x v y = if nat_eq y x then v else g y

-- PROGRAMS

-- modules with different names, each after those that it imports
abbrev pub Program : Type 0
Program = List Module

abbrev pub type_named : List TypedType → List ℕ → Option Desc
type_named [] x = None
type_named (t ∷ ts) x = if bytes_eq x t.name then Some t.desc else type_named ts x

abbrev pub procedure_named : List Procedure → List ℕ → Option Procedure
procedure_named [] x = None
procedure_named (p ∷ ps) x = if bytes_eq x p.name then Some p else procedure_named ps x

-- what the declaration of a type says
abbrev pub description : Program → QName → Option Desc
description [] q = None
description (m ∷ ms) q = if bytes_eq q.module m.name then type_named m.types q.object else description ms q

abbrev pub procedure_of : Program → QName → Option Procedure
procedure_of [] q = None
procedure_of (m ∷ ms) q = if bytes_eq q.module m.name then procedure_named m.procedures q.object else procedure_of ms q

abbrev pub number_of_types : Program → ℕ
number_of_types [] = 0
number_of_types (m ∷ ms) = length m.types + number_of_types ms

-- WHAT A TYPE IS

-- a basic type, a pointer with what it points to, a procedure type, an array of so many elements, an open array, or a record: itself and its bases,
-- the nearest first, and its fields, those of the farthest base first. Procedure types are one form where their parameters and results match: a
-- procedure type is what its parameters, in turn, and its result are, by whatever names it is written.
mutual
  pub data Form : Type 0 where
    BasicForm : (b : Basic) → Form
    PointerForm : (base : TypeRef) → Form
    ProcedureForm : (formals : Formals) → Form
    ArrayForm : (n : ℕ) → (element : Form) → Form
    OpenForm : (element : Form) → Form
    RecordForm : (line : List QName) → (fields : Fields) → Form

  pub data Fields : Type 0 where
    NoField : Fields
    AField : (owner : QName) → (name : List ℕ) → (form : Form) → (rest : Fields) → Fields

  -- parameters, and behind the last of them the result, where there is one
  pub data Formals : Type 0 where
    NoResult : Formals
    AResult : (form : Form) → Formals
    AFormal : (mode : Mode) → (form : Form) → (rest : Formals) → Formals

abbrev pub joined : Fields → Fields → Fields
joined NoField gs = gs
joined (AField owner name t fs) gs = AField owner name t (joined fs gs)

abbrev pub line_of : Form → List QName
line_of (RecordForm line fs) = line
line_of t = []

abbrev pub fields_of : Form → Fields
fields_of (RecordForm line fs) = fs
fields_of t = NoField

abbrev pub own_fields : (TypeRef → Form) → QName → List Field → Fields
own_fields form q [] = NoField
own_fields form q (f ∷ fs) = AField q f.name (form f.of) (own_fields form q fs)

abbrev pub base_line : (TypeRef → Form) → Option TypeRef → List QName
base_line form None = []
base_line form (Some t) = line_of (form t)

abbrev pub base_fields : (TypeRef → Form) → Option TypeRef → Fields
base_fields form None = NoField
base_fields form (Some t) = fields_of (form t)

abbrev pub result_formals : (TypeRef → Form) → Option TypeRef → Formals
result_formals form None = NoResult
result_formals form (Some t) = AResult (form t)

abbrev pub formals_before : (TypeRef → Form) → List (Mode × TypeRef) → Formals → Formals
formals_before form [] rest = rest
formals_before form (p ∷ ps) rest = AFormal p.0 (form p.1) (formals_before form ps rest)

abbrev pub formals_of : (TypeRef → Form) → Signature → Formals
formals_of form s = formals_before form s.params (result_formals form s.result)

-- what its declaration says, the types in it being known: BOOLEAN where it says nothing else
abbrev pub described : (TypeRef → Form) → QName → Option Desc → Form
described form q (Some (desc.Alias m t)) = form t
described form q (Some (desc.Array m n t)) = ArrayForm n (form t)
described form q (Some (desc.OpenArray m t)) = OpenForm (form t)
described form q (Some (desc.Pointer m t)) = PointerForm t
described form q (Some (desc.ProcType m s)) = ProcedureForm (formals_of form s)
described form q (Some (desc.Record r)) = RecordForm (q ∷ base_line form r.base) (joined (base_fields form r.base) (own_fields form q r.fields))
described form q d = BasicForm basic.Boolean

-- a type that stands on at most n others, one on the next, pointers standing on none
abbrev pub form_within : (QName → Option Desc) → ℕ → TypeRef → Form
form_within types zero (ref.Basic b) = BasicForm b
form_within types zero (ref.Named q) = BasicForm basic.Boolean
form_within types (suc n) (ref.Basic b) = BasicForm b
form_within types (suc n) (ref.Named q) = described (form_within types n) q (types q)

-- no type of a program stands on more than all others
abbrev pub form_in : Program → TypeRef → Form
form_in program = form_within (description program) (number_of_types program)

abbrev pub record_in : Program → QName → Form
record_in program q = form_in program (ref.Named q)

-- what a procedure type of that signature takes and gives
abbrev pub formals_in : Program → Signature → Formals
formals_in program s = formals_of (form_in program) s

-- the types that a record type extends, itself first
abbrev pub bases_in : Program → QName → List QName
bases_in program q = line_of (record_in program q)

abbrev pub is_among : List QName → QName → Bool
is_among [] q = false
is_among (t ∷ ts) q = same_name q t || is_among ts q

-- WORDS

abbrev mutual
  pub words : Form → ℕ
  words (BasicForm b) = 1
  words (PointerForm t) = 1
  words (ProcedureForm fs) = 1
  words (ArrayForm n t) = n * words t
  words (OpenForm t) = 0
  words (RecordForm line fs) = fields_words fs

  pub fields_words : Fields → ℕ
  fields_words NoField = 0
  fields_words (AField owner name t fs) = words t + fields_words fs

-- VALUES

-- a truth value, a character by its number, an integer, a set of numbers from 0 to 31, NIL, the n-th object made, a procedure by
-- its module and name, a list of n values, or a record: its dynamic type, and a value for each field by declaring type and name
pub data Value : Type 0 where
  Truth : (b : Bool) → Value
  Character : (c : ℕ) → Value
  Integer : (z : ℤ) → Value
  SetOf : (has : ℕ → Bool) → Value
  Nil : Value
  Object : (n : ℕ) → Value
  ProcedureAt : (q : QName) → Value
  Elements : (n : ℕ) → (element : ℕ → Value) → Value
  Record : (type : QName) → (fields : QName → List ℕ → Value) → Value

abbrev pub first_basic : Basic → Value
first_basic basic.Boolean = Truth false
first_basic basic.Char = Character 0
first_basic basic.ShortInt = Integer (pos 0)
first_basic basic.Integer = Integer (pos 0)
first_basic basic.LongInt = Integer (pos 0)
first_basic basic.Set = SetOf (λ i. false)

-- a record of the first type of a line; there is always one
abbrev pub record_of : List QName → (QName → List ℕ → Value) → Value
record_of [] fields = Nil
record_of (q ∷ qs) fields = Record q fields

-- variables and objects begin as 0, FALSE, 0X, {} and NIL
abbrev mutual
  pub first : Form → Value
  first (BasicForm b) = first_basic b
  first (PointerForm t) = Nil
  first (ProcedureForm fs) = Nil
  first (ArrayForm n t) = Elements n (λ i. first t)
  first (OpenForm t) = Elements 0 (λ i. first t)
  first (RecordForm line fs) = record_of line (firsts fs)

  pub firsts : Fields → QName → List ℕ → Value
  firsts NoField = λ owner name. Nil
  firsts (AField owner name t fs) = λ o x. if bytes_eq x name && same_name o owner then first t else firsts fs o x

-- parts of values; what has no such part comes in no checked program
abbrev pub truth_of : Value → Bool
truth_of (Truth b) = b
truth_of v = false

abbrev pub character_of : Value → ℕ
character_of (Character c) = c
character_of v = 0

-- the number of an integer or of a character
abbrev pub integer_of : Value → ℤ
integer_of (Integer z) = z
integer_of (Character c) = pos c
integer_of v = pos 0

abbrev pub set_of : Value → ℕ → Bool
set_of (SetOf has) = has
set_of v = λ i. false

abbrev pub length_of : Value → ℕ
length_of (Elements n element) = n
length_of v = 0

abbrev pub element_of : Value → ℕ → Value
element_of (Elements n element) = element
element_of v = λ i. Nil

abbrev pub field_of : Value → QName → List ℕ → Value
field_of (Record t fields) = fields
field_of v = λ o x. Nil

-- the dynamic type of a record
abbrev pub type_of : Value → Option QName
type_of (Record t fields) = Some t
type_of v = None

-- a value with one part changed
abbrev pub with_element : Value → ℕ → Value → Value
with_element v i w = Elements (length_of v) (changed_at (element_of v) i w)

abbrev pub typed_record : Option QName → (QName → List ℕ → Value) → Value
typed_record None fields = Nil
typed_record (Some q) fields = Record q fields

abbrev pub with_field : Value → QName → List ℕ → Value → Value
with_field v owner name w = typed_record (type_of v) (λ o x. if bytes_eq x name && same_name o owner then w else field_of v o x)

-- PLACES

-- a variable of a module, a variable of the k-th active call, counted from the oldest, or the n-th object
pub data Root : Type 0 where
  OfModule : (m : List ℕ) → (name : List ℕ) → Root
  OfCall : (k : ℕ) → (name : List ℕ) → Root
  OfObject : (n : ℕ) → Root

pub data Step : Type 0 where
  FieldStep : (owner : QName) → (name : List ℕ) → Step
  ElementStep : (i : ℕ) → Step

pub data Place : Type 0 where
  At : (root : Root) → (path : List Step) → Place

abbrev pub inside : Place → Step → Place
inside (At root path) step = At root (path ++ step ∷ [])

abbrev pub part : Value → List Step → Value
part v [] = v
part v (FieldStep owner name ∷ path) = part (field_of v owner name) path
part v (ElementStep i ∷ path) = part (element_of v i) path

abbrev pub with_part : Value → List Step → Value → Value
with_part v [] w = w
with_part v (FieldStep owner name ∷ path) w = with_field v owner name (with_part (field_of v owner name) path w)
with_part v (ElementStep i ∷ path) w = with_element v i (with_part (element_of v i) path w)

-- the values of the modules' variables, of the variables of the k-th active call, and of the n-th object
pub record Store : Type 0 where
  pub globals : List ℕ → List ℕ → Value
  pub locals : ℕ → List ℕ → Value
  pub objects : ℕ → Value

abbrev pub at_root : Store → Root → Value
at_root g (OfModule m x) = g.globals m x
at_root g (OfCall k x) = g.locals k x
at_root g (OfObject n) = g.objects n

abbrev pub with_root : Store → Root → Value → Store
with_root g (OfModule m x) v = record g { globals = changed g.globals m (changed (g.globals m) x v) }
with_root g (OfCall k x) v = record g { locals = changed_at g.locals k (changed (g.locals k) x v) }
with_root g (OfObject n) v = record g { objects = changed_at g.objects n v }

abbrev pub value_at : Store → Place → Value
value_at g (At root path) = part (at_root g root) path

abbrev pub with_value_at : Store → Place → Value → Store
with_value_at g (At root path) v = with_root g root (with_part (at_root g root) path v)

-- STATES

-- a variable of an active call, with the type that it has there: one of its own, a parameter by VAR with its declared type, or a structured parameter by
-- value, with its own copy
pub data Held : Type 0 where
  Own : (name : List ℕ) → (form : Form) → Held
  Referred : (name : List ℕ) → (slots : ℕ) → (form : Form) → Held
  Copied : (name : List ℕ) → (slots : ℕ) → (form : Form) → Held

-- an active call: its procedure, its variables, and the places of its parameters by VAR
pub record Active : Type 0 where
  pub procedure : QName
  pub held : List Held
  pub places : List ℕ → Place

-- what an object was made as: a variable of a type, or an open array of n elements of a type
pub data AnObject : Type 0 where
  Whole : (form : Form) → AnObject
  Opened : (n : ℕ) → (element : Form) → AnObject

-- the newest call and the newest object stand first
pub record State : Type 0 where
  pub store : Store
  pub calls : List Active
  pub made : List AnObject
  pub turns : ℕ
  pub out : List ℕ
