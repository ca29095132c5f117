-- When the machine's words stand for a state of the meaning.
use Rattle.std.specs.Prelude.{◌≡◌, ◌⊎◌, ℕ, zero, suc, ◌+◌, ◌^◌, ◌<◌, ◌≤◌, List, [], ◌∷◌, ◌++◌, length, replicate, ℤ, pos, Bool, true, false, bytes_eq, ◌&&◌, if◌then◌else◌, Option, Some, None}
use Rattle.std.specs.Int.{w32, cast_signed}
use Rattle.ob_tree.specs.declared.names.QName.{QName}
use Rattle.ob_tree.specs.declared.proc_ref.ProcRef.{ProcRef}
use Rattle.ob_types.specs.declared.types.Basic.{Basic}
use Rattle.ob_types.specs.declared.types.Basic.TheVariants as basic
use Rattle.ob_types.specs.declared.types.TypeRef.{TypeRef}
use Rattle.ob_types.specs.declared.typed.Width.{Width}
use Rattle.ob_types.specs.declared.typed.Width.TheVariants as width
use Rattle.ob_types.specs.TypedSyntax.{Module}
use Rattle.ob_instr.specs.Image.{Image, World}
use Rattle.ob_instr.specs.Rows.{truth, tag, proc_value}
use Rattle.ob_meaning.specs.Values.{same_name, Program, Form, BasicForm, PointerForm, ProcedureForm, ArrayForm, OpenForm, RecordForm, Fields, NoField, AField, joined, form_in, record_in, words, Value, Truth, Character, Integer, SetOf, Nil, Object, ProcedureAt, Elements, Record, field_of, element_of, length_of, type_of, Root, OfModule, OfCall, OfObject, Step, FieldStep, ElementStep, Place, At, Held, Own, Referred, Copied, Active, AnObject, Whole, Opened, State, Formals}
use Rattle.ob_types.specs.Numbers.{is_in}
use Rattle.ob_meaning.specs.Meaning.{costs_of}
use Rattle.ob_meaning.specs.Calls.{cost_of_calls}
use Rattle.law_simulation_relation.specs.Layout.{module_number, procedure_index, procedures_in, type_number, held_name, slots_words, held_at, object_at, object_form, object_offset, has_length_at, module_held, stack_start, heap_start, root_form, place_form, address, variables_in, field_form}
use Rattle.law_simulation_relation.specs.Texts.{module_texts}

abbrev pub OrElse : Bool → Type 0 → Type 0 → Type 0
OrElse true A B = A
OrElse false A B = B

-- TYPES

-- what a variable of a static type can be: itself; of a record, an extension; of an open array, one of any length
pub data Sub : Form → Form → Type 0 where
  itself : {t : Form} → Sub t t
  extended : (more : List QName) (gs : Fields) {line : List QName} {fs : Fields} → Sub (RecordForm (more ++ line) (joined fs gs)) (RecordForm line fs)
  opened : (n : ℕ) {t : Form} → Sub (ArrayForm n t) (OpenForm t)

abbrev pub Scalar : Form → Type 0
Scalar (BasicForm b) = Unit {0}
Scalar (PointerForm t) = Unit {0}
Scalar (ProcedureForm fs) = Unit {0}
Scalar (ArrayForm n t) = ⊥
Scalar (OpenForm t) = ⊥
Scalar (RecordForm line fs) = ⊥

-- what objects are made as: arrays and records
abbrev pub IsStructure : Form → Type 0
IsStructure (BasicForm b) = ⊥
IsStructure (PointerForm t) = ⊥
IsStructure (ProcedureForm fs) = ⊥
IsStructure (ArrayForm n t) = Unit {0}
IsStructure (OpenForm t) = ⊥
IsStructure (RecordForm line fs) = Unit {0}

abbrev pub FieldIn : Fields → QName → List ℕ → Type 0
FieldIn NoField o x = ⊥
FieldIn (AField owner name t fs) o x = OrElse (bytes_eq x name && same_name o owner) (Unit {0}) (FieldIn fs o x)

abbrev pub PathIn : Form → List Step → Type 0
PathIn t [] = Unit {0}
PathIn (RecordForm line fs) (FieldStep o x ∷ path) = FieldIn fs o x × PathIn (field_form fs o x) path
PathIn (ArrayForm n t) (ElementStep i ∷ path) = (i < n) × PathIn t path
PathIn t path = ⊥

-- a variable with a value of its own
abbrev pub HasValue : Held → Type 0
HasValue (Own x t) = Unit {0}
HasValue (Referred x n t) = ⊥
HasValue (Copied x n t) = Unit {0}

abbrev pub ValueIn : List Held → List ℕ → Type 0
ValueIn [] x = ⊥
ValueIn (h ∷ hs) x = OrElse (bytes_eq x (held_name h)) (HasValue h) (ValueIn hs x)

-- different names
abbrev pub Fresh : List ℕ → List Held → Type 0
Fresh x [] = Unit {0}
Fresh x (h ∷ hs) = (bytes_eq x (held_name h) ≡ false) × Fresh x hs

abbrev pub AreDifferent : List Held → Type 0
AreDifferent [] = Unit {0}
AreDifferent (h ∷ hs) = Fresh (held_name h) hs × AreDifferent hs

-- modules with different names, each with variables of different names
abbrev pub FreshModule : List ℕ → List Module → Type 0
FreshModule x [] = Unit {0}
FreshModule x (m ∷ ms) = (bytes_eq x m.name ≡ false) × FreshModule x ms

abbrev pub ModulesOk : Program → List Module → Type 0
ModulesOk program [] = Unit {0}
ModulesOk program (m ∷ ms) = FreshModule m.name ms × (AreDifferent (module_held program m) × ModulesOk program ms)

abbrev pub head : List QName → Option QName
head [] = None
head (q ∷ qs) = Some q

abbrev pub FreshField : QName → List ℕ → Fields → Type 0
FreshField o x NoField = Unit {0}
FreshField o x (AField owner name t fs) = ((bytes_eq x name && same_name o owner) ≡ false) × FreshField o x fs

-- the words of a set: element i as bit i
abbrev pub bits_below : ℕ → (ℕ → Bool) → ℕ
bits_below zero has = 0
bits_below (suc n) has = bits_below n has + (if has n then 2 ^ n else 0)

abbrev pub set_word : (ℕ → Bool) → ℤ
set_word has = cast_signed w32 (bits_below 32 has)

abbrev pub width_of : Basic → Option Width
width_of basic.ShortInt = Some width.ShortInt
width_of basic.Integer = Some width.Integer
width_of basic.LongInt = Some width.LongInt
width_of b = None

abbrev pub IsTruth : Value → Type 0
IsTruth v = (b : Bool) × (v ≡ Truth b)

abbrev pub IsCharacter : Value → Type 0
IsCharacter v = (c : ℕ) × (c < 256) × (v ≡ Character c)

abbrev pub IsInteger : Width → Value → Type 0
IsInteger w v = (z : ℤ) × (is_in w z ≡ true) × (v ≡ Integer z)

abbrev pub IsSet : Value → Type 0
IsSet v = (has : ℕ → Bool) × (v ≡ SetOf has)

abbrev pub IsBasic : Basic → Value → Type 0
IsBasic basic.Boolean v = IsTruth v
IsBasic basic.Char v = IsCharacter v
IsBasic basic.ShortInt v = IsInteger width.ShortInt v
IsBasic basic.Integer v = IsInteger width.Integer v
IsBasic basic.LongInt v = IsInteger width.LongInt v
IsBasic basic.Set v = IsSet v

-- a pointer to open arrays points to what was made with a length
abbrev pub LengthFits : Form → Bool → Type 0
LengthFits (OpenForm t) has = has ≡ true
LengthFits t has = Unit {0}

-- an array's length: from 1 up to the last of LONGINT
abbrev pub IsLength : ℕ → Type 0
IsLength n = (1 ≤ n) × (n < 2147483648)

module _ (program : Program) where
  -- types as they are built: an array has such a length, the fields differ, a record is the one that its name stands for, no open array stands inside
  abbrev mutual
    pub FormOk : Form → Type 0
    FormOk (BasicForm b) = Unit {0}
    FormOk (PointerForm t) = Unit {0}
    FormOk (ProcedureForm fs) = Unit {0}
    FormOk (ArrayForm n t) = IsLength n × FormOk t
    FormOk (OpenForm t) = ⊥
    FormOk (RecordForm [] fs) = ⊥
    FormOk (RecordForm (q ∷ line) fs) = (record_in program q ≡ RecordForm (q ∷ line) fs) × FieldsOk fs

    pub FieldsOk : Fields → Type 0
    FieldsOk NoField = Unit {0}
    FieldsOk (AField owner name t fs) = FreshField owner name fs × (FormOk t × FieldsOk fs)

  abbrev pub ObjectOk : Form → Type 0
  ObjectOk t = IsStructure t × FormOk t

  -- a procedure that is there, and that can be called so
  abbrev pub IsProcedure : (Formals → QName → Type 0) → Formals → Value → Type 0
  IsProcedure Has fs v = (v ≡ Nil) ⊎ ((q : QName) × (v ≡ ProcedureAt q) × Has fs q)

  abbrev pub IsPointer : List AnObject → TypeRef → Value → Type 0
  IsPointer os t v = (v ≡ Nil) ⊎ ((n : ℕ) × (v ≡ Object n) × (n < length os) × Sub (object_at os n) (form_in program t) × LengthFits (form_in program t) (has_length_at os n))

  -- a procedure that can be called with such parameters, for such a result
  module _ (Has : Formals → QName → Type 0) where
    -- a value fits its type, exactly
    abbrev mutual
      pub Fine : List AnObject → Form → Value → Type 0
      Fine os (BasicForm b) v = IsBasic b v
      Fine os (PointerForm t) v = IsPointer os t v
      Fine os (ProcedureForm fs) v = IsProcedure Has fs v
      Fine os (ArrayForm n t) v = (length_of v ≡ n) × ((i : ℕ) → i < n → Fine os t (element_of v i))
      Fine os (OpenForm t) v = ⊥
      Fine os (RecordForm line fs) v = (type_of v ≡ head line) × FieldsFine os fs (field_of v)

      pub FieldsFine : List AnObject → Fields → (QName → List ℕ → Value) → Type 0
      FieldsFine os NoField g = Unit {0}
      FieldsFine os (AField owner name t fs) g = Fine os t (g owner name) × FieldsFine os fs g

    module _ (img : Image) where
      -- WORDS

      abbrev pub number_of : QName → ProcRef
      number_of q = record { «module» = module_number program q.module; proc = procedure_index (procedures_in program q.module) q.object }

      abbrev pub tag_of : QName → ℤ
      tag_of q = tag (type_number img.types q)

      abbrev pub word_of : List AnObject → Value → ℤ
      word_of os (Truth b) = truth b
      word_of os (Character c) = pos c
      word_of os (Integer z) = z
      word_of os (SetOf has) = set_word has
      word_of os Nil = pos 0
      word_of os (Object n) = pos (heap_start program img + object_offset os n)
      word_of os (ProcedureAt q) = proc_value (number_of q)
      word_of os (Elements n element) = pos 0
      word_of os (Record t fields) = pos 0

      abbrev pub flat_elements : ℕ → (ℕ → List ℤ) → List ℤ
      flat_elements zero f = []
      flat_elements (suc n) f = flat_elements n f ++ f n

      abbrev mutual
        pub flat : List AnObject → Form → Value → List ℤ
        flat os (BasicForm b) v = word_of os v ∷ []
        flat os (PointerForm t) v = word_of os v ∷ []
        flat os (ProcedureForm fs) v = word_of os v ∷ []
        flat os (ArrayForm n t) v = flat_elements n (λ i. flat os t (element_of v i))
        flat os (OpenForm t) v = []
        flat os (RecordForm line fs) v = flat_fields os fs (field_of v)

        pub flat_fields : List AnObject → Fields → (QName → List ℕ → Value) → List ℤ
        flat_fields os NoField g = []
        flat_fields os (AField owner name t fs) g = flat os t (g owner name) ++ flat_fields os fs g

      -- the word behind an address: a record's tag, or an array's length
      abbrev pub second_word : Form → ℤ
      second_word (RecordForm (q ∷ line) fs) = tag_of q
      second_word (ArrayForm n t) = pos n
      second_word t = pos 0

      abbrev pub pointing : ℕ → ℕ → Form → List ℤ
      pointing zero a t = []
      pointing (suc zero) a t = pos a ∷ []
      pointing (suc (suc n)) a t = pos a ∷ second_word t ∷ replicate n (pos 0)

      -- VARIABLES OF A CALL; their copies begin at an address, which a copied one's slot has

      abbrev pub flat_slots : List AnObject → List Active → (List ℕ → Place) → ℕ → List Held → (List ℕ → Value) → List ℤ
      flat_slots os cs places base [] g = []
      flat_slots os cs places base (Own x t ∷ hs) g = flat os t (g x) ++ flat_slots os cs places base hs g
      flat_slots os cs places base (Referred x n t ∷ hs) g = pointing n (address program img os cs (places x)) (place_form program img os cs (places x)) ++ flat_slots os cs places base hs g
      flat_slots os cs places base (Copied x n t ∷ hs) g = pointing n base t ++ flat_slots os cs places (base + words t) hs g

      abbrev pub flat_copies : List AnObject → List Held → (List ℕ → Value) → List ℤ
      flat_copies os [] g = []
      flat_copies os (Own x t ∷ hs) g = flat_copies os hs g
      flat_copies os (Referred x n t ∷ hs) g = flat_copies os hs g
      flat_copies os (Copied x n t ∷ hs) g = flat os t (g x) ++ flat_copies os hs g

      -- a place that is there
      abbrev pub RootIn : List AnObject → List Active → Root → Type 0
      RootIn os cs (OfModule m x) = ValueIn (variables_in program program m) x
      RootIn os cs (OfCall k x) = (k < length cs) × ValueIn (held_at cs k) x
      RootIn os cs (OfObject n) = n < length os

      abbrev pub PlaceIn : List AnObject → List Active → Place → Type 0
      PlaceIn os cs (At root path) = RootIn os cs root × PathIn (root_form program img os cs root) path

      -- a place of a static type
      abbrev pub PlaceOf : List AnObject → List Active → Form → Place → Type 0
      PlaceOf os cs t p = PlaceIn os cs p × Sub (place_form program img os cs p) t

      -- a parameter by VAR stands for a place below its call, with as many slots as its type asks for
      abbrev pub SlotsFit : ℕ → Form → Type 0
      SlotsFit n (RecordForm line fs) = n ≡ 2
      SlotsFit n (OpenForm t) = n ≡ 2
      SlotsFit n t = n ≡ 1

      abbrev pub CopySlots : ℕ → Type 0
      CopySlots n = (n ≡ 1) ⊎ (n ≡ 2)

      abbrev pub HeldFine : List AnObject → List Active → (List ℕ → Place) → List Held → (List ℕ → Value) → Type 0
      HeldFine os cs places [] g = Unit {0}
      HeldFine os cs places (Own x t ∷ hs) g = FormOk t × (Fine os t (g x) × HeldFine os cs places hs g)
      HeldFine os cs places (Referred x n t ∷ hs) g = SlotsFit n t × (PlaceOf os cs t (places x) × HeldFine os cs places hs g)
      HeldFine os cs places (Copied x n t ∷ hs) g = (FormOk t × CopySlots n) × (Fine os t (g x) × HeldFine os cs places hs g)

      -- CALLS

      abbrev pub call_start : List Active → ℕ
      call_start cs = stack_start program img + cost_of_calls cs

      abbrev pub flat_call : List AnObject → List Active → Active → (List ℕ → Value) → List ℤ
      flat_call os cs c g = flat_slots os cs c.places (call_start cs + slots_words c.held) c.held g ++ flat_copies os c.held g

      abbrev pub flat_calls : List AnObject → (ℕ → List ℕ → Value) → List Active → List ℤ
      flat_calls os g [] = []
      flat_calls os g (c ∷ cs) = flat_calls os g cs ++ flat_call os cs c (g (length cs))

      abbrev pub CallsFine : List AnObject → (ℕ → List ℕ → Value) → List Active → Type 0
      CallsFine os g [] = Unit {0}
      CallsFine os g (c ∷ cs) = CallsFine os g cs × (AreDifferent c.held × HeldFine os cs c.places c.held (g (length cs)))

      -- OBJECTS, the oldest first

      abbrev pub extra : AnObject → List ℤ
      extra (Whole (RecordForm (q ∷ line) fs)) = tag_of q ∷ []
      extra (Whole t) = pos 0 ∷ []
      extra (Opened n t) = pos 0 ∷ pos n ∷ []

      abbrev pub flat_objects : List AnObject → List AnObject → (ℕ → Value) → List ℤ
      flat_objects all [] g = []
      flat_objects all (x ∷ xs) g = flat_objects all xs g ++ (extra x ++ flat all (object_form x) (g (length xs)))

      abbrev pub ObjectsFine : List AnObject → List AnObject → (ℕ → Value) → Type 0
      ObjectsFine all [] g = Unit {0}
      ObjectsFine all (x ∷ xs) g = ObjectsFine all xs g × (ObjectOk (object_form x) × Fine all (object_form x) (g (length xs)))

      -- MODULES, each with its variables and the strings behind them

      abbrev pub no_places : List ℕ → Place
      no_places x = At (OfModule [] x) []

      abbrev pub flat_module : List AnObject → Module → (List ℕ → Value) → List ℤ
      flat_module os m g = flat_slots os [] no_places 0 (module_held program m) g ++ module_texts program m

      abbrev pub flat_modules : List AnObject → List Module → (List ℕ → List ℕ → Value) → List ℤ
      flat_modules os [] g = []
      flat_modules os (m ∷ ms) g = flat_module os m (g m.name) ++ flat_modules os ms g

      abbrev pub ModulesFine : List AnObject → List Module → (List ℕ → List ℕ → Value) → Type 0
      ModulesFine os [] g = Unit {0}
      ModulesFine os (m ∷ ms) g = HeldFine os [] no_places (module_held program m) (g m.name) × ModulesFine os ms g

      -- THE WORDS STAND FOR THE STATE, where these calls are active. Behind the modules' words stand those of further modules and
      -- free ones, and these stay; the free words of the stack and of the heap are any.
      pub record StandsIn (heap : ℕ) (behind : List ℤ) (cs : List Active) (s : State) (w : World) : Type 0 where
        pub stack_free : List ℤ
        pub heap_free : List ℤ
        pub words : w.words ≡ flat_modules s.made program s.store.globals ++ (behind ++ (flat_calls s.made s.store.locals cs ++ (stack_free ++ (flat_objects s.made s.made s.store.objects ++ heap_free))))
        pub globals_size : length (flat_modules s.made program s.store.globals) + length behind ≡ img.room.globals
        pub stack_size : cost_of_calls cs + length stack_free ≡ img.room.stack
        pub heap_size : costs_of s.made + length heap_free ≡ heap
        pub stack : w.stack ≡ call_start cs
        pub heap_next : w.heap ≡ heap_start program img + costs_of s.made
        pub turns : w.turns ≡ s.turns
        pub out : w.out ≡ s.out
        pub modules_fine : ModulesFine s.made program s.store.globals
        pub calls_fine : CallsFine s.made s.store.locals cs
        pub objects_fine : ObjectsFine s.made s.made s.store.objects

      -- more objects, those of before as they were
      pub record Grows (os all : List AnObject) : Type 0 where
        pub len : length os ≤ length all
        pub offset : (n : ℕ) → n < length os → object_offset all n ≡ object_offset os n
        pub at : (n : ℕ) → n < length os → object_at all n ≡ object_at os n
        pub has_length : (n : ℕ) → n < length os → has_length_at all n ≡ has_length_at os n

      -- with at most b turns left and at least the objects os
      pub record StandsAt (heap : ℕ) (behind : List ℤ) (cs : List Active) (b : ℕ) (os : List AnObject) (s : State) (w : World) : Type 0 where
        pub all : StandsIn heap behind cs s w
        pub calls : s.calls ≡ cs
        pub bound : s.turns ≤ b
        pub objects : Grows os s.made
