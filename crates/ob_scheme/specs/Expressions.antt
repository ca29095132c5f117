-- The code of designators, expressions and actual parameters: where it ends, and what it is, of a tree and the index at which its
-- code begins.
use Rattle.std.specs.Prelude.{ℕ, suc, ◌+◌, List, [], ◌∷◌, ◌++◌, length, negsuc, Option, Some, None, if◌then◌else◌}
use Rattle.ob_tree.specs.declared.pos.Pos.{Pos}
use Rattle.ob_tree.specs.declared.names.QName.{QName}
use Rattle.ob_types.specs.declared.types.TypeRef.{TypeRef}
use Rattle.ob_types.specs.declared.value.Value.{Value}
use Rattle.ob_types.specs.declared.value.Value.TheVariants as literal
use Rattle.ob_types.specs.declared.desc.Receiver.TheVariants as receiver
use Rattle.ob_types.specs.declared.typed.Passing.{Passing}
use Rattle.ob_types.specs.declared.typed.Passing.TheVariants as passing
use Rattle.ob_types.specs.declared.typed.Variable.{Variable}
use Rattle.ob_types.specs.declared.typed.Variable.TheVariants as variable
use Rattle.ob_types.specs.declared.typed.Guarded.{Guarded}
use Rattle.ob_types.specs.declared.typed.Guarded.TheVariants as guarded
use Rattle.ob_types.specs.declared.typed.Connective.TheVariants as connective
use Rattle.ob_types.specs.declared.typed.Family.{Family}
use Rattle.ob_types.specs.declared.typed.Callee.{Callee}
use Rattle.ob_types.specs.declared.typed.Callee.TheVariants as callee
use Rattle.ob_types.specs.TypedSyntax.{Desig, OfVariable, Field, Index, Deref, Guard, Expr, Constant, ValueOf, ProcedureValue, Monadic, Dyadic, Logical, CompareTexts, IsPointer, IsRecord, Length, Call, CallVariable, Actuals, NoActual, AnActual}
use Rattle.ob_instr.specs.declared.opcode.Opcode.TheVariants as op
use Rattle.ob_layout.specs.Room.{slots}
use Rattle.ob_scheme.specs.declared.want.Want.{Want}
use Rattle.ob_scheme.specs.declared.want.Want.TheVariants as want
use Rattle.ob_scheme.specs.Lines.{Operand, Number, StringHere, OtherVariable, OtherProcedure, Line, plain, placed, placed_two, count, bare, bare_at, jump, jump_if_false, behind}
use Rattle.ob_scheme.specs.Descriptions.{elements_of, field_place, method_number}
use Rattle.ob_scheme.specs.Context.{Context, words, is_own, variable_place, parameter_slot, local_slot, procedure_index, type_operand, record_operand}
use Rattle.ob_scheme.specs.Operations.{word_of, unary_code, binary_line, relation_number, out_number}

-- A scalar is passed by its value; a structure, and a variable by VAR, by its place; a record by VAR by place and tag; an open array
-- by place and length.
abbrev pub wanted : (TypeRef → ℕ) → Passing → TypeRef → Want
wanted words passing.Scalar t = want.Value
wanted words passing.Structure t = want.Room (words t)
wanted words passing.OpenArray t = want.PlaceAndLength
wanted words passing.Variable t = want.Place
wanted words passing.VariableRecord t = want.PlaceAndTag
wanted words passing.VariableOpenArray t = want.PlaceAndLength

-- ---- small pieces

-- the two words of a parameter: the value or the address, and behind it the tag or the length
abbrev pub first_word : ℕ → List Line
first_word k = plain op.Local (count k) ∷ bare op.Load ∷ []

abbrev pub both_words : ℕ → List Line
both_words k = plain op.Local (count k) ∷ bare op.Load ∷ plain op.Local (count (suc k)) ∷ bare op.Load ∷ []

abbrev pub second_word : ℕ → List Line
second_word k = plain op.Local (count (suc k)) ∷ bare op.Load ∷ []

abbrev pub string_line : List ℕ → ℕ → Line
string_line text n = plain op.Global (StringHere text n)

-- a string is laid down where it is used
abbrev pub text_code : Want → List ℕ → List Line
text_code (want.Room n) text = string_line text n ∷ []
text_code want.PlaceAndLength text = string_line text (suc (length text)) ∷ plain op.Int (count (suc (length text))) ∷ []
text_code w text = string_line text (suc (length text)) ∷ []

-- a constant: its word, or its string
abbrev pub constant_code : Want → Value → List Line
constant_code w (literal.Str text) = text_code w text
constant_code w v = plain op.Int (Number (word_of v)) ∷ []

-- for a guard on a VAR record its tag is tested; where the place is wanted, the tag is dropped behind
abbrev pub under_guard : Want → Want
under_guard want.Tag = want.Tag
under_guard w = want.PlaceAndTag

abbrev pub behind_guard : Want → List Line
behind_guard want.Place = bare op.Drop ∷ []
behind_guard (want.Room n) = bare op.Drop ∷ []
behind_guard w = []

-- a parameter of two words
abbrev pub pair_code : ℕ → Want → List Line
pair_code k want.PlaceAndTag = both_words k
pair_code k want.PlaceAndLength = both_words k
pair_code k want.Tag = second_word k
pair_code k want.Length = second_word k
pair_code k w = first_word k

abbrev pub length_operand : Option ℕ → Operand
length_operand None = count 0
length_operand (Some n) = count n

-- behind the value of a pointer to a variable of a type; an open array has its length one word before it
abbrev pub measured_behind : Option ℕ → Pos → List Line
measured_behind None at = bare_at op.Lenned at ∷ []
measured_behind (Some n) at = bare_at op.Deref at ∷ plain op.Int (count n) ∷ []

-- an element's array is wanted with its length where that is open
abbrev pub index_want : Option ℕ → Want
index_want None = want.PlaceAndLength
index_want (Some n) = want.Place

-- a guard stands on the place of a pointer, or on a VAR record
abbrev pub guard_want : Guarded → Want → Want
guard_want guarded.Pointer w = want.Place
guard_want guarded.Record w = under_guard w

-- how many words the actual parameters have on the operand stack
abbrev pub words_of_actuals : Actuals → ℕ
words_of_actuals NoActual = 0
words_of_actuals (AnActual passing t e rest) = slots passing + words_of_actuals rest

abbrev pub words_behind_receiver : Actuals → ℕ
words_behind_receiver NoActual = 0
words_behind_receiver (AnActual passing t e rest) = words_of_actuals rest

module _ (c : Context) where
  -- behind the place of a variable of a type
  abbrev pub from_place : Want → TypeRef → List Line
  from_place want.Value t = bare op.Load ∷ []
  from_place want.Place t = []
  from_place (want.Room n) t = []
  from_place want.PlaceAndTag t = plain op.Tag (record_operand c t) ∷ []
  from_place want.Tag t = []
  from_place want.PlaceAndLength t = plain op.Int (length_operand (elements_of c.types t)) ∷ []
  from_place want.Length t = []

  abbrev pub from_pointer : Want → TypeRef → Pos → List Line
  from_pointer want.Value t at = bare_at op.Deref at ∷ bare op.Load ∷ []
  from_pointer want.Place t at = bare_at op.Deref at ∷ []
  from_pointer (want.Room n) t at = bare_at op.Deref at ∷ []
  from_pointer want.PlaceAndTag t at = bare_at op.Tagged at ∷ []
  from_pointer want.Tag t at = []
  from_pointer want.PlaceAndLength t at = measured_behind (elements_of c.types t) at
  from_pointer want.Length t at = bare_at op.Deref at ∷ plain op.Offset (Number (negsuc 0)) ∷ bare op.Load ∷ []

  -- the index, and what is wanted of the element behind it
  abbrev pub index_line : Option ℕ → TypeRef → Pos → Line
  index_line None t at = placed op.IndexO (count (words c t)) at
  index_line (Some n) t at = placed_two op.Index (count n) (count (words c t)) at

  -- the guard, and what is wanted behind it
  abbrev pub guard_line : Guarded → QName → Pos → Line
  guard_line guarded.Pointer target at = placed op.GuardAt (type_operand c target) at
  guard_line guarded.Record target at = placed op.GuardR (type_operand c target) at

  abbrev pub from_guard : Guarded → Want → TypeRef → List Line
  from_guard guarded.Pointer w t = from_place w t
  from_guard guarded.Record w t = behind_guard w

  -- the place of an own variable; the address of a VAR parameter, and of the copy of a structured value
  abbrev pub own_place : ℕ → Want → TypeRef → List Line
  own_place k w t = plain op.Local (count k) ∷ from_place w t

  abbrev pub held_place : ℕ → Want → TypeRef → List Line
  held_place k w t = plain op.Local (count k) ∷ bare op.Load ∷ from_place w t

  abbrev pub parameter_code : Passing → ℕ → Want → TypeRef → List Line
  parameter_code passing.Scalar k w t = own_place k w t
  parameter_code passing.Structure k w t = held_place k w t
  parameter_code passing.OpenArray k w t = pair_code k w
  parameter_code passing.Variable k w t = held_place k w t
  parameter_code passing.VariableRecord k w t = pair_code k w
  parameter_code passing.VariableOpenArray k w t = pair_code k w

  abbrev pub module_line : List ℕ → List ℕ → Line
  module_line m x = if is_own c m then plain op.Global (count (variable_place c x)) else plain op.ExtVar (OtherVariable m x)

  abbrev pub variable_code : Want → Variable → TypeRef → List Line
  variable_code w (variable.Module m x) t = module_line m x ∷ from_place w t
  variable_code w (variable.Local x) t = own_place (local_slot c x) w t
  variable_code w (variable.Parameter how x) t = parameter_code how (parameter_slot c x) w t

  abbrev pub procedure_line : QName → Line
  procedure_line q = if is_own c q.module then plain op.Proc (count (procedure_index c q.object)) else plain op.ProcX (OtherProcedure q.module q.object)

  abbrev pub declared_line : QName → Pos → Line
  declared_line q at = if is_own c q.module then placed op.Call (count (procedure_index c q.object)) at else placed op.CallX (OtherProcedure q.module q.object) at

  abbrev pub family_number : Family → Operand
  family_number f = count (method_number c.types f.owner f.name)

  -- the call itself, behind its actual parameters, the receiver being the first of them
  abbrev pub call_line : Callee → Actuals → Pos → Line
  call_line (callee.Declared q) es at = declared_line q at
  call_line (callee.Bound f receiver.Pointer) es at = placed_two op.CallP (family_number f) (count (words_behind_receiver es)) at
  call_line (callee.Bound f receiver.Record) es at = placed_two op.CallR (family_number f) (count (words_behind_receiver es)) at
  call_line (callee.Super base f r) es at = placed_two op.CallS (type_operand c base) (family_number f) at
  call_line (callee.Out p) es at = placed op.Out (count (out_number p)) at

  -- ---- WHERE THE CODE ENDS

  abbrev mutual
    pub end_desig : Want → Desig → ℕ → ℕ
    end_desig w (OfVariable v t) pc = behind (variable_code w v t) pc
    end_desig w (Field d owner name t) pc = behind (from_place w t) (suc (end_desig want.Place d pc))
    end_desig w (Index d n i at t) pc = behind (from_place w t) (suc (end_expr want.Value i (end_desig (index_want n) d pc)))
    end_desig w (Deref d at t) pc = behind (from_pointer w t at) (end_desig want.Value d pc)
    end_desig w (Guard d g target at t) pc = behind (from_guard g w t) (suc (end_desig (guard_want g w) d pc))

    pub end_expr : Want → Expr → ℕ → ℕ
    end_expr w (Constant v) pc = behind (constant_code w v) pc
    end_expr w (ValueOf d) pc = end_desig w d pc
    end_expr w (ProcedureValue q signature) pc = suc pc
    end_expr w (Monadic o e at) pc = behind (unary_code o at) (end_expr want.Value e pc)
    end_expr w (Dyadic o a b at) pc = suc (end_expr want.Value b (end_expr want.Value a pc))
    end_expr w (Logical connective.And a b) pc = suc (suc (end_expr want.Value b (suc (end_expr want.Value a pc))))
    end_expr w (Logical connective.Or a b) pc = end_expr want.Value b (suc (suc (suc (end_expr want.Value a pc))))
    end_expr w (CompareTexts r a b at) pc = suc (end_expr want.PlaceAndLength b (end_expr want.PlaceAndLength a pc))
    end_expr w (IsPointer e target) pc = suc (end_expr want.Value e pc)
    end_expr w (IsRecord d target) pc = suc (end_desig want.Tag d pc)
    end_expr w (Length d) pc = end_desig want.Length d pc
    end_expr w (Call callee es at t) pc = suc (end_actuals es pc)
    end_expr w (CallVariable d es at t) pc = suc (end_actuals es (end_desig want.Value d pc))

    pub end_actuals : Actuals → ℕ → ℕ
    end_actuals NoActual pc = pc
    end_actuals (AnActual how t e rest) pc = end_actuals rest (end_expr (wanted (words c) how t) e pc)

  -- ---- THE CODE

  abbrev mutual
    pub desig_code : Want → Desig → ℕ → List Line
    desig_code w (OfVariable v t) pc = variable_code w v t
    desig_code w (Field d owner name t) pc = desig_code want.Place d pc ++ (plain op.Offset (count (field_place c.types owner name)) ∷ from_place w t)
    desig_code w (Index d n i at t) pc = desig_code (index_want n) d pc ++ (expr_code want.Value i (end_desig (index_want n) d pc) ++ (index_line n t at ∷ from_place w t))
    desig_code w (Deref d at t) pc = desig_code want.Value d pc ++ from_pointer w t at
    desig_code w (Guard d g target at t) pc = desig_code (guard_want g w) d pc ++ (guard_line g target at ∷ from_guard g w t)

    pub expr_code : Want → Expr → ℕ → List Line
    expr_code w (Constant v) pc = constant_code w v
    expr_code w (ValueOf d) pc = desig_code w d pc
    expr_code w (ProcedureValue q signature) pc = procedure_line q ∷ []
    expr_code w (Monadic o e at) pc = expr_code want.Value e pc ++ unary_code o at
    expr_code w (Dyadic o a b at) pc = expr_code want.Value a pc ++ (expr_code want.Value b (end_expr want.Value a pc) ++ binary_line o at ∷ [])
    expr_code w (Logical connective.And a b) pc =
        let p1 = end_expr want.Value a pc in
        let p2 = end_expr want.Value b (suc p1) in
        expr_code want.Value a pc ++ (jump_if_false (suc p2) ∷ (expr_code want.Value b (suc p1) ++ jump (suc (suc p2)) ∷ plain op.Int (count 0) ∷ []))
    expr_code w (Logical connective.Or a b) pc =
        let p1 = end_expr want.Value a pc in
        let p2 = suc (suc (suc p1)) in
        expr_code want.Value a pc ++ (jump_if_false p2 ∷ plain op.Int (count 1) ∷ jump (end_expr want.Value b p2) ∷ expr_code want.Value b p2)
    expr_code w (CompareTexts r a b at) pc = expr_code want.PlaceAndLength a pc ++ (expr_code want.PlaceAndLength b (end_expr want.PlaceAndLength a pc) ++ placed op.StrRel (count (relation_number r)) at ∷ [])
    expr_code w (IsPointer e target) pc = expr_code want.Value e pc ++ plain op.IsP (type_operand c target) ∷ []
    expr_code w (IsRecord d target) pc = desig_code want.Tag d pc ++ plain op.IsR (type_operand c target) ∷ []
    expr_code w (Length d) pc = desig_code want.Length d pc
    expr_code w (Call callee es at t) pc = actuals_code es pc ++ call_line callee es at ∷ []
    expr_code w (CallVariable d es at t) pc = desig_code want.Value d pc ++ (actuals_code es (end_desig want.Value d pc) ++ placed op.CallV (count (words_of_actuals es)) at ∷ [])

    pub actuals_code : Actuals → ℕ → List Line
    actuals_code NoActual pc = []
    actuals_code (AnActual how t e rest) pc = expr_code (wanted (words c) how t) e pc ++ actuals_code rest (end_expr (wanted (words c) how t) e pc)
