-- Where code stands in a module's instructions: the scheme, as what each tree's code is and where.
use Rattle.std.specs.Prelude.{◌≡◌, ◌<◌, ℕ, suc, ◌+◌, List, [], ◌∷◌, ◌++◌, map, length, ℤ, pos, negsuc, Option, Some, None, Bool, true, false, bytes_eq, if◌then◌else◌, slice_get}
use Rattle.std.specs.Int.{w32, cast_signed}
use Rattle.ob_trap.specs.declared.trap.Trap.TheVariants as trap
use Rattle.ob_trap.specs.Numbers.{trap_number}
use Rattle.ob_tree.specs.declared.pos.Pos.{Pos}
use Rattle.ob_tree.specs.declared.names.QName.{QName}
use Rattle.ob_types.specs.declared.types.TypeRef.{TypeRef}
use Rattle.ob_types.specs.declared.desc.Receiver.TheVariants as receiver
use Rattle.ob_types.specs.declared.value.Value.{Value as Literal}
use Rattle.ob_types.specs.declared.value.Value.TheVariants as literal
use Rattle.ob_types.specs.declared.typed.Width.{Width}
use Rattle.ob_types.specs.declared.typed.Width.TheVariants as width
use Rattle.ob_types.specs.declared.typed.Passing.{Passing}
use Rattle.ob_types.specs.declared.typed.Passing.TheVariants as passing
use Rattle.ob_types.specs.declared.typed.Variable.{Variable}
use Rattle.ob_types.specs.declared.typed.Variable.TheVariants as variable
use Rattle.ob_types.specs.declared.typed.Guarded.TheVariants as guarded
use Rattle.ob_types.specs.declared.typed.Comparison.{Comparison}
use Rattle.ob_types.specs.declared.typed.Comparison.TheVariants as comparison
use Rattle.ob_types.specs.declared.typed.Unary.{Unary}
use Rattle.ob_types.specs.declared.typed.Unary.TheVariants as unary
use Rattle.ob_types.specs.declared.typed.Binary.{Binary}
use Rattle.ob_types.specs.declared.typed.Binary.TheVariants as binary
use Rattle.ob_types.specs.declared.typed.Connective.TheVariants as connective
use Rattle.ob_types.specs.declared.typed.OutProcedure.{OutProcedure}
use Rattle.ob_types.specs.declared.typed.OutProcedure.TheVariants as out
use Rattle.ob_types.specs.declared.typed.Family.{Family}
use Rattle.ob_types.specs.declared.typed.Callee.{Callee}
use Rattle.ob_types.specs.declared.typed.Callee.TheVariants as callee
use Rattle.ob_types.specs.declared.typed.Assigned.{Assigned}
use Rattle.ob_types.specs.declared.typed.Assigned.TheVariants as assigned
use Rattle.ob_types.specs.declared.typed.Update.{Update}
use Rattle.ob_types.specs.declared.typed.Update.TheVariants as update
use Rattle.ob_types.specs.declared.typed.Made.{Made}
use Rattle.ob_types.specs.declared.typed.Made.TheVariants as made
use Rattle.ob_types.specs.declared.typed.Label.{Label}
use Rattle.ob_types.specs.TypedSyntax.{Desig, OfVariable, Field, Index, Deref, Guard, Expr, Constant, ValueOf, ProcedureValue, Monadic, Dyadic, Logical, CompareTexts, IsPointer, IsRecord, Length, Call, CallVariable, Actuals, NoActual, AnActual, Stmt, Assign, CallProper, Updated, Copy, New, NewOpenArray, Assert, Halt, If, Case, While, Repeat, For, Loop, Exit, Return, With, Stmts, Nothing, Then, Branches, NoBranch, Branch, Cases, NoCase, OneCase, Otherwise, NoElse, Else}
use Rattle.ob_types.specs.TypedKinds.{variable_type}
use Rattle.ob_instr.specs.declared.opcode.Opcode.{Opcode}
use Rattle.ob_instr.specs.declared.opcode.Opcode.TheVariants as op
use Rattle.ob_instr.specs.declared.instr.Instr.{Instr}
use Rattle.ob_instr.specs.Image.{ModuleImage, Image}
use Rattle.ob_instr.specs.Rows.{truth}
use Rattle.ob_instr.specs.Table.{position_at}
use Rattle.ob_meaning.specs.Values.{Program, Form, ArrayForm, OpenForm, RecordForm, fields_of, form_in, record_in, words, Held}
use Rattle.ob_types.specs.Numbers.{is_positive}
use Rattle.ob_meaning.specs.Meaning.{hidden}
use Rattle.ob_meaning.specs.Globals.{texts_of_designator, texts_of_expr, texts_of, texts_of_all, texts_of_branches, texts_of_cases, passed_words}
use Rattle.law_simulation_relation.specs.Layout.{type_number, field_offset, slot, slots_words, variables_in, module_offset}
use Rattle.law_simulation_relation.specs.Texts.{text_words, texts_in}
use Rattle.law_simulation_relation.specs.Relation.{OrElse, number_of}
use Rattle.law_simulation_relation.specs.Ends.{end_variable, end_test, end_step, end_place, end_tagged, end_open, end_expr, end_tag, end_address, end_record, end_array, end_actuals, end_labels, end_stmt, end_stmts, end_branches, end_cases, end_else}

abbrev pub instr : Opcode → ℤ → ℤ → Instr
instr o a b = record { op = o; a = a; b = b }

abbrev pub plain : Opcode → Instr
plain o = instr o (pos 0) (pos 0)

abbrev pub with_a : Opcode → ℕ → Instr
with_a o a = instr o (pos a) (pos 0)

abbrev pub bytes : Width → ℕ
bytes width.ShortInt = 1
bytes width.Integer = 2
bytes width.LongInt = 4

abbrev pub comparison_code : Comparison → Opcode
comparison_code comparison.Equal = op.Eq
comparison_code comparison.NotEqual = op.Ne
comparison_code comparison.Less = op.Lt
comparison_code comparison.LessEqual = op.Le
comparison_code comparison.Greater = op.Gt
comparison_code comparison.GreaterEqual = op.Ge

abbrev pub comparison_number : Comparison → ℕ
comparison_number comparison.Equal = 0
comparison_number comparison.NotEqual = 1
comparison_number comparison.Less = 2
comparison_number comparison.LessEqual = 3
comparison_number comparison.Greater = 4
comparison_number comparison.GreaterEqual = 5

abbrev pub unary_code : Unary → Option Instr
unary_code (unary.Negate w) = Some (with_a op.Neg (bytes w))
unary_code unary.Not = Some (plain op.Not)
unary_code unary.Complement = Some (plain op.Compl)
unary_code (unary.Abs w) = Some (with_a op.Abs (bytes w))
unary_code unary.Cap = Some (plain op.Cap)
unary_code unary.Chr = Some (plain op.Chr)
unary_code (unary.Long w) = None
unary_code unary.Odd = Some (plain op.Odd)
unary_code unary.Ord = None
unary_code (unary.Short w) = Some (with_a op.Range (bytes w))
unary_code unary.Element = Some (plain op.Bit)

abbrev pub binary_code : Binary → Instr
binary_code (binary.Add w) = with_a op.Add (bytes w)
binary_code (binary.Subtract w) = with_a op.Sub (bytes w)
binary_code (binary.Multiply w) = with_a op.Mul (bytes w)
binary_code (binary.Quotient w) = plain op.Div
binary_code (binary.Remainder w) = plain op.Mod
binary_code binary.Union = plain op.Union
binary_code binary.Difference = plain op.Minus
binary_code binary.Intersection = plain op.Meet
binary_code binary.SymmetricDifference = plain op.Xor
binary_code binary.Range = plain op.Bits
binary_code binary.In = plain op.In
binary_code binary.Ash = plain op.Ash
binary_code (binary.Compare r c) = plain (comparison_code r)

-- the operators that have a result for all operands: they neither trap nor spend a turn, and files have no position for them
abbrev pub never_stops : Opcode → Bool
never_stops op.Not = true
never_stops op.Compl = true
never_stops op.Cap = true
never_stops op.Odd = true
never_stops op.Union = true
never_stops op.Minus = true
never_stops op.Meet = true
never_stops op.Xor = true
never_stops op.Eq = true
never_stops op.Ne = true
never_stops op.Lt = true
never_stops op.Le = true
never_stops op.Gt = true
never_stops op.Ge = true
never_stops o = false

abbrev pub update_code : Update → Instr
update_code (update.Inc w) = with_a op.Inc (bytes w)
update_code (update.Dec w) = with_a op.Dec (bytes w)
update_code update.Incl = plain op.Incl
update_code update.Excl = plain op.Excl

abbrev pub out_code : OutProcedure → ℕ
out_code out.Char = 1
out_code out.Str = 2
out_code out.Int = 3
out_code out.Ln = 4

-- the word of a constant
abbrev pub literal_word : Literal → ℤ
literal_word (literal.Bool b) = truth b
literal_word (literal.Char c) = pos c
literal_word (literal.Int z) = z
literal_word (literal.Set n) = cast_signed w32 n
literal_word (literal.Str text) = pos 0
literal_word literal.Nil = pos 0

abbrev pub text_length : Literal → ℕ
text_length (literal.Str text) = length text
text_length v = 0

-- how many operands the arguments are
abbrev pub slots_passed : Passing → ℕ
slots_passed passing.Scalar = 1
slots_passed passing.Structure = 1
slots_passed passing.OpenArray = 2
slots_passed passing.Variable = 1
slots_passed passing.VariableRecord = 2
slots_passed passing.VariableOpenArray = 2

abbrev pub operands_of : Actuals → ℕ
operands_of NoActual = 0
operands_of (AnActual how t e rest) = slots_passed how + operands_of rest

-- the operands behind the receiver's
abbrev pub behind_receiver : Actuals → ℕ
behind_receiver NoActual = 0
behind_receiver (AnActual how t e rest) = operands_of rest

-- A module's code: the module, its image and the static variables of the procedure at hand. A method's number is by its family.
pub record Scope : Type 0 where
  pub program : Program
  pub img : Image
  pub u : ModuleImage
  pub unit : List ℕ
  pub held : List Held
  pub method_number : Family → ℕ

module _ (sc : Scope) where
  pub record Has (pc : ℕ) (i : Instr) : Type 0 where
    pub is : slice_get sc.u.code pc ≡ Some i

  -- with its position, unless it never stops
  pub record HasAt (pc : ℕ) (i : Instr) (at : Pos) : Type 0 where
    pub has : Has pc i
    pub place : OrElse (never_stops i.op) (Unit {0}) (position_at sc.u.positions pc ≡ at)

  -- an instruction with a number of this module's that stands for a type
  pub record HasType (pc : ℕ) (o : Opcode) (q : QName) : Type 0 where
    pub number : ℕ
    pub has : Has pc (with_a o number)
    pub is : slice_get sc.u.types number ≡ Some (type_number sc.img.types q)

  pub record HasTypeAt (pc : ℕ) (o : Opcode) (q : QName) (at : Pos) : Type 0 where
    pub type : HasType pc o q
    pub place : position_at sc.u.positions pc ≡ at

  -- a target lies in the code
  abbrev pub Inside : ℕ → Type 0
  Inside a = a < length sc.u.code

  abbrev pub local_slot : List ℕ → ℕ
  local_slot x = slot sc.held x

  -- VARIABLES

  pub record HasLink (pc : ℕ) (m x : List ℕ) : Type 0 where
    pub number : ℕ
    pub has : Has pc (with_a op.ExtVar number)
    pub is : slice_get sc.u.variable_links number ≡ Some (suc (module_offset sc.program sc.program m + slot (variables_in sc.program sc.program m) x))

  abbrev pub ParameterCode : Passing → List ℕ → ℕ → Type 0
  ParameterCode passing.Scalar x pc = Has pc (with_a op.Local (local_slot x))
  ParameterCode how x pc = Has pc (with_a op.Local (local_slot x)) × Has (suc pc) (plain op.Load)

  abbrev pub VariableCode : Variable → ℕ → Type 0
  VariableCode (variable.Module m x) pc = OrElse (bytes_eq m sc.unit) (Has pc (with_a op.Global (slot (variables_in sc.program sc.program m) x))) (HasLink pc m x)
  VariableCode (variable.Local x) pc = Has pc (with_a op.Local (local_slot x))
  VariableCode (variable.Parameter how x) pc = ParameterCode how x pc

  -- a variable of the call by its second word: its tag or length
  abbrev pub SecondCode : List ℕ → ℕ → Type 0
  SecondCode x pc = Has pc (with_a op.Local (suc (local_slot x))) × Has (suc pc) (plain op.Load)

  abbrev pub variable_name : Variable → List ℕ
  variable_name (variable.Module m x) = x
  variable_name (variable.Local x) = x
  variable_name (variable.Parameter how x) = x

  abbrev pub record_name : Form → QName
  record_name (RecordForm (q ∷ line) fs) = q
  record_name t = record { «module» = []; object = [] }

  abbrev pub form_of : Desig → Form
  form_of d = form_in sc.program (variable_type d)

  abbrev pub fixed_length : Form → ℕ
  fixed_length (ArrayForm n t) = n
  fixed_length t = 0

  abbrev pub TaggedVariable : Variable → Form → ℕ → Type 0
  TaggedVariable (variable.Parameter passing.VariableRecord x) t pc = ParameterCode passing.VariableRecord x pc × SecondCode x (suc (suc pc))
  TaggedVariable v t pc = VariableCode v pc × HasType (end_variable v pc) op.Tag (record_name t)

  abbrev pub Form2 : Form → Type 0 → Type 0 → Type 0
  Form2 (OpenForm t) A B = A
  Form2 t A B = B

  -- a string's characters and 0X stand at an offset of the module's first word
  pub record TextStands (text : List ℕ) (at : ℕ) : Type 0 where
    pub before : List ℤ
    pub behind : List ℤ
    pub is : texts_in sc.program sc.program sc.unit ≡ before ++ (map pos text ++ (pos 0 ∷ behind))
    pub offset : slots_words (variables_in sc.program sc.program sc.unit) + length before ≡ at

  -- a string filled with 0X to so many words stands there
  pub record FilledStands (text : List ℕ) (n at : ℕ) : Type 0 where
    pub before : List ℤ
    pub behind : List ℤ
    pub is : texts_in sc.program sc.program sc.unit ≡ before ++ (text_words text n ++ behind)
    pub offset : slots_words (variables_in sc.program sc.program sc.unit) + length before ≡ at

  abbrev pub LiteralFilled : Literal → ℕ → ℕ → Type 0
  LiteralFilled (literal.Str text) n at = FilledStands text n at
  LiteralFilled c n at = Unit {0}

  abbrev pub LiteralStands : Literal → ℕ → Type 0
  LiteralStands (literal.Str text) at = TextStands text at
  LiteralStands c at = Unit {0}

  abbrev pub string_at : ℕ → ℕ → Type 0
  string_at pc at = Has pc (with_a op.Global at)

  -- where the strings of a part begin, which stand behind others
  abbrev pub dt : Desig → ℕ
  dt d = texts_of_designator (form_in sc.program) d

  abbrev pub et : Expr → ℕ
  et e = texts_of_expr (form_in sc.program) e

  abbrev pub UnaryCode : Option Instr → ℕ → Pos → Type 0
  UnaryCode None pc at = Unit {0}
  UnaryCode (Some i) pc at = HasAt pc i at

  -- the callee's own instruction
  pub record HasProcedure (pc : ℕ) (q : QName) (own link : Opcode) : Type 0 where
    pub is : OrElse (bytes_eq q.module sc.unit) (Has pc (with_a own ((number_of sc.program (λ s q. Unit {0}) sc.img q).proc))) ((k : ℕ) × Has pc (with_a link k) × (slice_get sc.u.procedure_links k ≡ Some (number_of sc.program (λ s q. Unit {0}) sc.img q)))

  abbrev pub CallCode : Callee → Actuals → ℕ → Pos → Type 0
  CallCode (callee.Declared q) es pc at = HasProcedure pc q op.Call op.CallX × (position_at sc.u.positions pc ≡ at)
  CallCode (callee.Bound f receiver.Pointer) es pc at = HasAt pc (instr op.CallP (pos (sc.method_number f)) (pos (behind_receiver es))) at
  CallCode (callee.Bound f receiver.Record) es pc at = HasAt pc (instr op.CallR (pos (sc.method_number f)) (pos (behind_receiver es))) at
  CallCode (callee.Super base f r) es pc at = (a : ℕ) × HasAt pc (instr op.CallS (pos a) (pos (sc.method_number f))) at × (slice_get sc.u.types a ≡ Some (type_number sc.img.types base))
  CallCode (callee.Out p) es pc at = HasAt pc (with_a op.Out (out_code p)) at

  abbrev pub passed_before : Passing → TypeRef → Expr → ℕ
  passed_before how t e = passed_words how e (words (form_in sc.program t)) (et e)

  abbrev mutual
    -- a(d), with its first string at an offset
    pub PlaceCode : Desig → ℕ → ℕ → Type 0
    PlaceCode (OfVariable v t) pc at = VariableCode v pc
    PlaceCode (Field d o x t) pc at = PlaceCode d pc at × Has (end_place sc.program d pc) (with_a op.Offset (field_offset (fields_of (record_in sc.program o)) o x))
    PlaceCode (Index d (Some n) i p t) pc at = PlaceCode d pc at × (ExprCode i (end_place sc.program d pc) (at + dt d) × HasAt (end_expr sc.program i (end_place sc.program d pc)) (instr op.Index (pos n) (pos (words (form_in sc.program t)))) p)
    PlaceCode (Index d None i p t) pc at = OpenCode d pc at × (ExprCode i (end_open sc.program d pc) (at + dt d) × HasAt (end_expr sc.program i (end_open sc.program d pc)) (with_a op.IndexO (words (form_in sc.program t))) p)
    PlaceCode (Deref d p t) pc at = PlaceCode d pc at × (Has (end_place sc.program d pc) (plain op.Load) × HasAt (suc (end_place sc.program d pc)) (plain op.Deref) p)
    PlaceCode (Guard d guarded.Pointer q p t) pc at = PlaceCode d pc at × HasTypeAt (end_place sc.program d pc) op.GuardAt q p
    PlaceCode (Guard d guarded.Record q p t) pc at = TaggedCode d pc at × (HasTypeAt (end_tagged sc.program d pc) op.GuardR q p × Has (suc (end_tagged sc.program d pc)) (plain op.Drop))

    -- g(d)
    pub TaggedCode : Desig → ℕ → ℕ → Type 0
    TaggedCode (OfVariable v t) pc at = TaggedVariable v (form_in sc.program t) pc
    TaggedCode (Field d o x t) pc at = PlaceCode d pc at × (Has (end_place sc.program d pc) (with_a op.Offset (field_offset (fields_of (record_in sc.program o)) o x)) × HasType (suc (end_place sc.program d pc)) op.Tag (record_name (form_in sc.program t)))
    TaggedCode (Index d (Some n) i p t) pc at = PlaceCode d pc at × (ExprCode i (end_place sc.program d pc) (at + dt d) × (HasAt (end_expr sc.program i (end_place sc.program d pc)) (instr op.Index (pos n) (pos (words (form_in sc.program t)))) p × HasType (suc (end_expr sc.program i (end_place sc.program d pc))) op.Tag (record_name (form_in sc.program t))))
    TaggedCode (Index d None i p t) pc at = OpenCode d pc at × (ExprCode i (end_open sc.program d pc) (at + dt d) × (HasAt (end_expr sc.program i (end_open sc.program d pc)) (with_a op.IndexO (words (form_in sc.program t))) p × HasType (suc (end_expr sc.program i (end_open sc.program d pc))) op.Tag (record_name (form_in sc.program t))))
    TaggedCode (Deref d p t) pc at = PlaceCode d pc at × (Has (end_place sc.program d pc) (plain op.Load) × HasAt (suc (end_place sc.program d pc)) (plain op.Tagged) p)
    TaggedCode (Guard d guarded.Pointer q p t) pc at = ⊥
    TaggedCode (Guard d guarded.Record q p t) pc at = TaggedCode d pc at × HasTypeAt (end_tagged sc.program d pc) op.GuardR q p

    -- l(d) of an open array
    pub OpenCode : Desig → ℕ → ℕ → Type 0
    OpenCode (OfVariable v t) pc at = VariableCode v pc × SecondCode (variable_name v) (suc (suc pc))
    OpenCode (Deref d p t) pc at = PlaceCode d pc at × (Has (end_place sc.program d pc) (plain op.Load) × HasAt (suc (end_place sc.program d pc)) (plain op.Lenned) p)
    OpenCode d pc at = ⊥

    -- v(e)
    pub ExprCode : Expr → ℕ → ℕ → Type 0
    ExprCode (Constant c) pc at = Has pc (instr op.Int (literal_word c) (pos 0))
    ExprCode (ValueOf d) pc at = PlaceCode d pc at × Has (end_place sc.program d pc) (plain op.Load)
    ExprCode (ProcedureValue q signature) pc at = HasProcedure pc q op.Proc op.ProcX
    ExprCode (Monadic o e p) pc at = ExprCode e pc at × UnaryCode (unary_code o) (end_expr sc.program e pc) p
    ExprCode (Dyadic o a b p) pc at = ExprCode a pc at × (ExprCode b (end_expr sc.program a pc) (at + et a) × HasAt (end_expr sc.program b (end_expr sc.program a pc)) (binary_code o) p)
    ExprCode (Logical connective.And a b) pc at =
        let p1 = end_expr sc.program a pc in
        let p2 = end_expr sc.program b (suc p1) in
        ExprCode a pc at × (Has p1 (with_a op.JumpF (suc p2)) × (ExprCode b (suc p1) (at + et a) × (Has p2 (with_a op.Jump (suc (suc p2))) × (Has (suc p2) (plain op.Int) × Inside (suc (suc p2))))))
    ExprCode (Logical connective.Or a b) pc at =
        let p1 = end_expr sc.program a pc in
        let p2 = suc (suc (suc p1)) in
        ExprCode a pc at × (Has p1 (with_a op.JumpF p2) × (Has (suc p1) (with_a op.Int 1) × (Has (suc (suc p1)) (with_a op.Jump (end_expr sc.program b p2)) × (ExprCode b p2 (at + et a) × Inside (end_expr sc.program b p2)))))
    ExprCode (CompareTexts r a b p) pc at = ArrayCode a pc at × (ArrayCode b (end_array sc.program a pc) (at + et a) × HasAt (end_array sc.program b (end_array sc.program a pc)) (with_a op.StrRel (comparison_number r)) p)
    ExprCode (IsPointer e q) pc at = ExprCode e pc at × HasType (end_expr sc.program e pc) op.IsP q
    ExprCode (IsRecord d q) pc at = TagCode d pc × HasType (end_tag sc.program d pc) op.IsR q
    ExprCode (Length d) pc at = LengthCode d pc at
    ExprCode (Call c es p t) pc at = ActualsCode es pc at × CallCode c es (end_actuals sc.program es pc) p
    ExprCode (CallVariable d es p t) pc at = PlaceCode d pc at × (Has (end_place sc.program d pc) (plain op.Load) × (ActualsCode es (suc (end_place sc.program d pc)) (at + dt d) × HasAt (end_actuals sc.program es (suc (end_place sc.program d pc))) (with_a op.CallV (operands_of es)) p))

    pub TagCode : Desig → ℕ → Type 0
    TagCode (OfVariable v t) pc = SecondCode (variable_name v) pc
    TagCode (Guard d g q p t) pc = TagCode d pc × HasTypeAt (end_tag sc.program d pc) op.GuardR q p
    TagCode d pc = ⊥

    pub LengthCode : Desig → ℕ → ℕ → Type 0
    LengthCode (OfVariable v t) pc at = SecondCode (variable_name v) pc
    LengthCode (Deref d p t) pc at =
        let p1 = end_place sc.program d pc in
        PlaceCode d pc at × (Has p1 (plain op.Load) × (HasAt (suc p1) (plain op.Deref) p × (Has (suc (suc p1)) (instr op.Offset (negsuc 0) (pos 0)) × Has (suc (suc (suc p1))) (plain op.Load))))
    LengthCode d pc at = ⊥

    -- a(e), g(e) and l(e) of a variable or a string
    pub AddressCode : Expr → ℕ → ℕ → Type 0
    AddressCode (ValueOf d) pc at = PlaceCode d pc at
    AddressCode (Constant c) pc at = string_at pc at × LiteralStands c at
    AddressCode e pc at = ⊥

    -- a record or an array by value, a string being filled to its words
    pub StructureCode : Expr → ℕ → ℕ → ℕ → Type 0
    StructureCode (ValueOf d) n pc at = PlaceCode d pc at
    StructureCode (Constant c) n pc at = string_at pc at × LiteralFilled c n at
    StructureCode e n pc at = ⊥

    pub RecordCode : Expr → ℕ → ℕ → Type 0
    RecordCode (ValueOf d) pc at = TaggedCode d pc at
    RecordCode e pc at = ⊥

    pub ArrayCode : Expr → ℕ → ℕ → Type 0
    ArrayCode (ValueOf d) pc at = Form2 (form_of d) (OpenCode d pc at) (PlaceCode d pc at × Has (end_place sc.program d pc) (with_a op.Int (fixed_length (form_of d))))
    ArrayCode (Constant c) pc at = string_at pc at × (LiteralStands c at × Has (suc pc) (with_a op.Int (suc (text_length c))))
    ArrayCode e pc at = ⊥

    pub ActualsCode : Actuals → ℕ → ℕ → Type 0
    ActualsCode NoActual pc at = Unit {0}
    ActualsCode (AnActual passing.Scalar t e rest) pc at = ExprCode e pc at × ActualsCode rest (end_expr sc.program e pc) (at + et e)
    ActualsCode (AnActual passing.Structure t e rest) pc at = StructureCode e (words (form_in sc.program t)) pc at × ActualsCode rest (end_address sc.program e pc) (at + passed_before passing.Structure t e)
    ActualsCode (AnActual passing.Variable t e rest) pc at = AddressCode e pc at × ActualsCode rest (end_address sc.program e pc) (at + et e)
    ActualsCode (AnActual passing.VariableRecord t e rest) pc at = RecordCode e pc at × ActualsCode rest (end_record sc.program e pc) (at + et e)
    ActualsCode (AnActual passing.OpenArray t e rest) pc at = ArrayCode e pc at × ActualsCode rest (end_array sc.program e pc) (at + et e)
    ActualsCode (AnActual passing.VariableOpenArray t e rest) pc at = ArrayCode e pc at × ActualsCode rest (end_array sc.program e pc) (at + et e)

  -- ASSIGNMENTS

  abbrev pub text_words_of : Expr → ℕ
  text_words_of (Constant (literal.Str text)) = suc (length text)
  text_words_of e = 0

  -- whether a record's target may have another dynamic type than its static one
  abbrev pub may_differ : Desig → Bool
  may_differ (OfVariable (variable.Parameter passing.VariableRecord x) t) = true
  may_differ (Deref d p t) = true
  may_differ (Guard d g q p t) = true
  may_differ d = false

  pub record HasCopyRec (pc n : ℕ) (q : QName) (at : Pos) : Type 0 where
    pub number : ℕ
    pub has : HasAt pc (instr op.CopyRec (pos n) (pos number)) at
    pub is : slice_get sc.u.types number ≡ Some (type_number sc.img.types q)

  abbrev pub AssignedCode : Assigned → Desig → Expr → Pos → ℕ → ℕ → Type 0
  AssignedCode assigned.Scalar d e p pc at = PlaceCode d pc at × (ExprCode e (end_place sc.program d pc) (at + dt d) × Has (end_expr sc.program e (end_place sc.program d pc)) (plain op.Store))
  AssignedCode assigned.Text d e p pc at = PlaceCode d pc at × (AddressCode e (end_place sc.program d pc) (at + dt d) × Has (end_address sc.program e (end_place sc.program d pc)) (with_a op.Copy (text_words_of e)))
  AssignedCode assigned.Array d e p pc at = PlaceCode d pc at × (AddressCode e (end_place sc.program d pc) (at + dt d) × Has (end_address sc.program e (end_place sc.program d pc)) (with_a op.Copy (words (form_of d))))
  AssignedCode (assigned.Record q) d e p pc at =
      OrElse (may_differ d)
      (TaggedCode d pc at × (AddressCode e (end_tagged sc.program d pc) (at + dt d) × HasCopyRec (end_address sc.program e (end_tagged sc.program d pc)) (words (form_of d)) q p))
      (PlaceCode d pc at × (AddressCode e (end_place sc.program d pc) (at + dt d) × Has (end_address sc.program e (end_place sc.program d pc)) (with_a op.Copy (words (form_of d)))))

  abbrev pub MadeCode : Made → ℕ → Pos → Type 0
  MadeCode (made.Record q) pc p = HasTypeAt pc op.NewR q p
  MadeCode (made.Array t) pc p = HasAt pc (with_a op.NewA (words (form_in sc.program t))) p

  -- STATEMENTS

  -- the hidden variable of FOR or CASE
  abbrev pub hidden_slot : Pos → ℕ
  hidden_slot p = local_slot (hidden p)

  -- per label: back to the next one unless within, else on to the body
  abbrev pub LabelsCode : List Label → Pos → ℕ → ℕ → ℕ → Type 0
  LabelsCode [] p pc body next = Has pc (with_a op.Jump next) × Inside next
  LabelsCode (l ∷ ls) p pc body next =
      let a = suc (suc (suc (suc (suc (suc (suc (suc (suc (suc (suc pc)))))))))) in
      (Has pc (with_a op.Local (hidden_slot p)) × (Has (suc pc) (plain op.Load) × (Has (suc (suc pc)) (instr op.Int l.low (pos 0)) × (Has (suc (suc (suc pc))) (plain op.Ge) × Has (suc (suc (suc (suc pc)))) (with_a op.JumpF a)))))
      × ((let pd = suc (suc (suc (suc (suc pc)))) in Has pd (with_a op.Local (hidden_slot p)) × (Has (suc pd) (plain op.Load) × (Has (suc (suc pd)) (instr op.Int l.high (pos 0)) × (Has (suc (suc (suc pd))) (plain op.Le) × (Has (suc (suc (suc (suc pd)))) (with_a op.JumpF a) × Has (suc (suc (suc (suc (suc pd))))) (with_a op.Jump body))))))
      × (Inside a × (Inside body × LabelsCode ls p a body next)))

  abbrev pub OptionalCode : Option Expr → ℕ → ℕ → Type 0
  OptionalCode None pc at = Has pc (plain op.Ret)
  OptionalCode (Some e) pc at = ExprCode e pc at × Has (end_expr sc.program e pc) (plain op.RetV)

  abbrev pub st : Stmt → ℕ
  st s = texts_of (form_in sc.program) s

  abbrev pub sst : Stmts → ℕ
  sst s = texts_of_all (form_in sc.program) s

  -- FOR tests upward or downward
  abbrev pub for_code : ℤ → Opcode
  for_code step = if is_positive step then op.Le else op.Ge

  -- the code of a statement at pc, inside a LOOP that ends at exit
  abbrev mutual
    pub StmtCode : Stmt → ℕ → ℕ → ℕ → Type 0
    StmtCode (Assign d how e p) exit pc at = AssignedCode how d e p pc at
    StmtCode (CallProper e) exit pc at = ExprCode e pc at
    StmtCode (Updated o d e p) exit pc at = PlaceCode d pc at × (ExprCode e (end_place sc.program d pc) (at + dt d) × HasAt (end_expr sc.program e (end_place sc.program d pc)) (update_code o) p)
    StmtCode (Copy e d p) exit pc at = ArrayCode e pc at × (ArrayCode (ValueOf d) (end_array sc.program e pc) (at + et e) × HasAt (end_array sc.program (ValueOf d) (end_array sc.program e pc)) (plain op.StrCopy) p)
    StmtCode (New d what p) exit pc at = PlaceCode d pc at × MadeCode what (end_place sc.program d pc) p
    StmtCode (NewOpenArray d t n p) exit pc at = PlaceCode d pc at × (ExprCode n (end_place sc.program d pc) (at + dt d) × HasAt (end_expr sc.program n (end_place sc.program d pc)) (with_a op.NewO (words (form_in sc.program t))) p)
    StmtCode (Assert e number p) exit pc at = ExprCode e pc at × HasAt (end_expr sc.program e pc) (instr op.Assert number (pos 0)) p
    StmtCode (Halt number p) exit pc at = HasAt pc (instr op.Trap (pos (trap_number trap.Halted)) number) p
    StmtCode (If branches otherwise) exit pc at =
        let p1 = end_branches sc.program branches pc in
        BranchesCode branches (end_stmts sc.program otherwise p1) exit pc at × StmtsCode otherwise exit p1 (at + texts_of_branches (form_in sc.program) branches)
    StmtCode (Case e cases otherwise p) exit pc at =
        let p1 = end_expr sc.program e (suc pc) in
        let p2 = end_cases sc.program cases (suc p1) in
        Has pc (with_a op.Local (hidden_slot p)) × (ExprCode e (suc pc) at × (Has p1 (plain op.Store) × (CasesCode cases p (end_else sc.program otherwise p2) exit (suc p1) (at + et e) × ElseCode otherwise (HasAt p2 (with_a op.Trap (trap_number trap.NoCase)) p) exit p2 (at + et e + texts_of_cases (form_in sc.program) cases))))
    StmtCode (While e body p) exit pc at =
        let p1 = end_expr sc.program e pc in
        let p2 = end_stmts sc.program body (suc p1) in
        ExprCode e pc at × (Has p1 (with_a op.JumpF (suc p2)) × (StmtsCode body exit (suc p1) (at + et e) × (HasAt p2 (with_a op.Jump pc) p × Inside (suc p2))))
    StmtCode (Repeat body e p) exit pc at =
        let p1 = end_stmts sc.program body pc in
        let p2 = end_expr sc.program e p1 in
        StmtsCode body exit pc at × (ExprCode e p1 (at + sst body) × (HasAt p2 (with_a op.JumpF pc) p × Inside p2))
    StmtCode (For v w start end step body p) exit pc at =
        let p1 = end_expr sc.program end (suc pc) in
        let p2 = end_variable v (suc p1) in
        let p3 = end_expr sc.program start p2 in
        let l = suc p3 in
        let l1 = end_variable v l in
        let b = suc (end_test v l) in
        let p4 = end_stmts sc.program body b in
        let p5 = end_variable v p4 in
        Has pc (with_a op.Local (hidden_slot p)) × (ExprCode end (suc pc) at × (Has p1 (plain op.Store)
        × (VariableCode v (suc p1) × (ExprCode start p2 (at + et end) × (Has p3 (plain op.Store)
        × ((VariableCode v l × (Has l1 (plain op.Load) × (Has (suc l1) (with_a op.Local (hidden_slot p)) × (Has (suc (suc l1)) (plain op.Load) × (Has (suc (suc (suc l1))) (plain (for_code step)) × Has (end_test v l) (with_a op.JumpF (suc (end_step v p4))))))))
        × (StmtsCode body exit b (at + et end + et start)
        × (VariableCode v p4 × (Has p5 (instr op.Int step (pos 0)) × (HasAt (suc p5) (with_a op.Inc (bytes w)) p × (HasAt (end_step v p4) (with_a op.Jump l) p × Inside (suc (end_step v p4)))))))))))))
    StmtCode (Loop body p) exit pc at =
        let p1 = end_stmts sc.program body pc in
        StmtsCode body (suc p1) pc at × (HasAt p1 (with_a op.Jump pc) p × Inside (suc p1))
    StmtCode Exit exit pc at = Has pc (with_a op.Jump exit)
    StmtCode (Return e) exit pc at = OptionalCode e pc at
    StmtCode (With branches otherwise p) exit pc at =
        let p1 = end_branches sc.program branches pc in
        BranchesCode branches (end_else sc.program otherwise p1) exit pc at × ElseCode otherwise (HasAt p1 (with_a op.Trap (trap_number trap.NoMatch)) p) exit p1 (at + texts_of_branches (form_in sc.program) branches)

    pub StmtsCode : Stmts → ℕ → ℕ → ℕ → Type 0
    StmtsCode Nothing exit pc at = Unit {0}
    StmtsCode (Then s rest) exit pc at = StmtCode s exit pc at × StmtsCode rest exit (end_stmt sc.program s pc) (at + st s)

    pub BranchesCode : Branches → ℕ → ℕ → ℕ → ℕ → Type 0
    BranchesCode NoBranch end exit pc at = Unit {0}
    BranchesCode (Branch test body rest) end exit pc at =
        let p1 = end_expr sc.program test pc in
        let p2 = end_stmts sc.program body (suc p1) in
        ExprCode test pc at × (Has p1 (with_a op.JumpF (suc p2)) × (StmtsCode body exit (suc p1) (at + et test) × (Has p2 (with_a op.Jump end) × (Inside (suc p2) × (Inside end × BranchesCode rest end exit (suc p2) (at + et test + sst body))))))

    pub CasesCode : Cases → Pos → ℕ → ℕ → ℕ → ℕ → Type 0
    CasesCode NoCase p end exit pc at = Unit {0}
    CasesCode (OneCase labels body rest) p end exit pc at =
        let p1 = end_labels sc.program labels pc in
        let p2 = end_stmts sc.program body p1 in
        LabelsCode labels p pc p1 (suc p2) × (StmtsCode body exit p1 at × (Has p2 (with_a op.Jump end) × (Inside end × CasesCode rest p end exit (suc p2) (at + sst body))))

    pub ElseCode : Otherwise → Type 0 → ℕ → ℕ → ℕ → Type 0
    ElseCode NoElse trapping exit pc at = trapping
    ElseCode (Else body) trapping exit pc at = StmtsCode body exit pc at
