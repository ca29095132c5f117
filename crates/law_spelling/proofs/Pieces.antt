-- The small pieces of code have a spelling.
use Rattle.std.proofs.Common.{◌≡◌, ℕ, suc, ◌-◌, ◌<◌, ◌≤◌, ◌^◌, Bool, true, false, List, length, Option, Some, None, refl, arith}
use Rattle.std.specs.Prelude.{ℤ, pos, negsuc, nat_lt, if◌then◌else◌, IfSome, FitsSigned}
use Rattle.std.specs.Int.{w32}
use Rattle.ob_tree.specs.declared.pos.Pos.{Pos}
use Rattle.ob_tree.specs.declared.names.QName.{QName}
use Rattle.ob_types.specs.declared.types.TypeRef.{TypeRef}
use Rattle.ob_types.specs.declared.value.Value.{Value}
use Rattle.ob_types.specs.declared.value.Value.TheVariants as literal
use Rattle.ob_types.specs.declared.desc.Receiver.TheVariants as receiver
use Rattle.ob_types.specs.declared.typed.Width.{Width}
use Rattle.ob_types.specs.declared.typed.Width.TheVariants as width
use Rattle.ob_types.specs.declared.typed.Comparison.{Comparison}
use Rattle.ob_types.specs.declared.typed.Comparison.TheVariants as comparison
use Rattle.ob_types.specs.declared.typed.Unary.{Unary}
use Rattle.ob_types.specs.declared.typed.Unary.TheVariants as unary
use Rattle.ob_types.specs.declared.typed.Binary.{Binary}
use Rattle.ob_types.specs.declared.typed.Binary.TheVariants as binary
use Rattle.ob_types.specs.declared.typed.OutProcedure.{OutProcedure}
use Rattle.ob_types.specs.declared.typed.OutProcedure.TheVariants as out
use Rattle.ob_types.specs.declared.typed.Update.{Update}
use Rattle.ob_types.specs.declared.typed.Update.TheVariants as update
use Rattle.ob_types.specs.declared.typed.Passing.{Passing}
use Rattle.ob_types.specs.declared.typed.Passing.TheVariants as passing
use Rattle.ob_types.specs.declared.typed.Variable.{Variable}
use Rattle.ob_types.specs.declared.typed.Variable.TheVariants as variable
use Rattle.ob_types.specs.declared.typed.Guarded.{Guarded}
use Rattle.ob_types.specs.declared.typed.Guarded.TheVariants as guarded
use Rattle.ob_types.specs.declared.typed.Callee.{Callee}
use Rattle.ob_types.specs.declared.typed.Callee.TheVariants as callee
use Rattle.ob_types.specs.TypedSyntax.{Constant, Actuals, NoActual, AnActual}
use Rattle.ob_instr.specs.declared.opcode.Opcode.TheVariants as op
use Rattle.ob_scheme.specs.declared.want.Want.{Want}
use Rattle.ob_scheme.specs.declared.want.Want.TheVariants as want
use Rattle.ob_scheme.specs.Lines.{Number, StringHere, OtherVariable, OtherProcedure, OtherType, none, plain, placed, count, bare, bare_at}
use Rattle.ob_scheme.specs.Context.{Context, words, is_own, variable_place, parameter_slot, local_slot, procedure_index, type_index, own_types, type_operand, named_operand, record_operand}
use Rattle.ob_scheme.specs.Descriptions.{own_name, elements_of}
use Rattle.ob_scheme.specs.Operations.{bytes_of, set_word, truth_word, unary_code, comparison_code, binary_line, relation_number, out_number, update_line}
use Rattle.ob_scheme.specs.Expressions.{string_line, text_code, constant_code, behind_guard, pair_code, length_operand, measured_behind, words_of_actuals, words_behind_receiver, from_place, from_pointer, index_line, guard_line, from_guard, own_place, held_place, parameter_code, module_line, variable_code, procedure_line, declared_line, call_line}
use Rattle.law_spelling.specs.Coded.{PosFits, ConstantIsCoded, OtherNames, ProcedureIsCoded, VariableIsCoded, RecordIsCoded, TypeIsCoded, CalleeIsCoded}
use Rattle.law_spelling.specs.Lines.{OperandFits, LineFits, LinesFit, HasRoom, RoomFits}
use Rattle.law_spelling.proofs.Lines.{word_fits, count_fits, none_fits, names_one, plain_fits, placed_fits, two_fit}

-- ---- one line

load : (pc : ℕ) → LineFits pc (bare op.Load)
load pc = plain_fits pc op.Load none refl refl (λ l. refl) none_fits

pub store_fits : (pc : ℕ) → LineFits pc (bare op.Store)
store_fits pc = plain_fits pc op.Store none refl refl (λ l. refl) none_fits

pub load_fits : (pc : ℕ) → LineFits pc (bare op.Load)
load_fits pc = load pc

pub local_fits : (pc k : ℕ) → k < 2 ^ 31 → LineFits pc (plain op.Local (count k))
local_fits pc k h = plain_fits pc op.Local (count k) refl refl (names_one op.Local (count k) refl) (count_fits k h)

pub int_fits : (pc : ℕ) (z : ℤ) → FitsSigned w32 z → LineFits pc (plain op.Int (Number z))
int_fits pc z h = plain_fits pc op.Int (Number z) refl refl (names_one op.Int (Number z) refl) h

deref : (pc : ℕ) (at : Pos) → PosFits at → LineFits pc (bare_at op.Deref at)
deref pc at p = placed_fits pc op.Deref none at refl (λ l. refl) none_fits p

string_fits : (pc : ℕ) (text : List ℕ) (n : ℕ) → length text < n → LineFits pc (string_line text n)
string_fits pc text n h = plain_fits pc op.Global (StringHere text n) refl refl (names_one op.Global (StringHere text n) refl) h

-- ---- constants

set_fits : (n : ℕ) → n < 2 ^ 32 → FitsSigned w32 (set_word n)
set_fits n h = go (nat_lt n (2 ^ 31)) refl
  where
    go : (b : Bool) → nat_lt n (2 ^ 31) ≡ b → FitsSigned w32 (if b then pos n else negsuc (2 ^ 32 - suc n))
    go true e = let l : n < 2 ^ 31 = grind arith in word_fits n l
    go false e = let l : 2 ^ 31 ≤ n = grind arith in record { sfits = omega (arith, l, h) }

truth_fits : (b : Bool) → FitsSigned w32 (truth_word b)
truth_fits true = word_fits 1 (omega arith)
truth_fits false = word_fits 0 (omega arith)

text_fits : (w : Want) (text : List ℕ) (pc : ℕ) → suc (length text) < 2 ^ 31 → RoomFits w (Constant (literal.Str text)) → LinesFit pc (text_code w text)
text_fits want.Value text pc h r = (string_fits pc text _ (omega arith), tt)
text_fits want.Place text pc h r = (string_fits pc text _ (omega arith), tt)
text_fits (want.Room n) text pc h r = (string_fits pc text n r, tt)
text_fits want.PlaceAndTag text pc h r = (string_fits pc text _ (omega arith), tt)
text_fits want.Tag text pc h r = (string_fits pc text _ (omega arith), tt)
text_fits want.PlaceAndLength text pc h r = (string_fits pc text _ (omega arith), (int_fits (suc pc) _ (word_fits _ h), tt))
text_fits want.Length text pc h r = (string_fits pc text _ (omega arith), tt)

pub constant_fits : (w : Want) (v : Value) (pc : ℕ) → ConstantIsCoded v → RoomFits w (Constant v) → LinesFit pc (constant_code w v)
constant_fits w (literal.Bool b) pc h r = (int_fits pc _ (truth_fits b), tt)
constant_fits w (literal.Char n) pc h r = (int_fits pc _ (word_fits n (omega (arith, h))), tt)
constant_fits w (literal.Int z) pc h r = (int_fits pc z h, tt)
constant_fits w (literal.Set n) pc h r = (int_fits pc _ (set_fits n h), tt)
constant_fits w (literal.Str text) pc h r = text_fits w text pc h r
constant_fits w literal.Nil pc h r = (int_fits pc _ (word_fits 0 (omega arith)), tt)

-- ---- operations

bytes_fit : (w : Width) → OperandFits (count (bytes_of w))
bytes_fit width.ShortInt = count_fits 1 (omega arith)
bytes_fit width.Integer = count_fits 2 (omega arith)
bytes_fit width.LongInt = count_fits 4 (omega arith)

pub inc_fits : (pc : ℕ) (w : Width) (at : Pos) → PosFits at → LineFits pc (placed op.Inc (count (bytes_of w)) at)
inc_fits pc w at p = placed_fits pc op.Inc (count (bytes_of w)) at refl (names_one op.Inc (count (bytes_of w)) refl) (bytes_fit w) p

pub unary_fits : (o : Unary) (at : Pos) (pc : ℕ) → PosFits at → LinesFit pc (unary_code o at)
unary_fits (unary.Negate w) at pc p = (placed_fits pc op.Neg (count (bytes_of w)) at refl (names_one op.Neg (count (bytes_of w)) refl) (bytes_fit w) p, tt)
unary_fits unary.Not at pc p = (plain_fits pc op.Not none refl refl (λ l. refl) none_fits, tt)
unary_fits unary.Complement at pc p = (plain_fits pc op.Compl none refl refl (λ l. refl) none_fits, tt)
unary_fits (unary.Abs w) at pc p = (placed_fits pc op.Abs (count (bytes_of w)) at refl (names_one op.Abs (count (bytes_of w)) refl) (bytes_fit w) p, tt)
unary_fits unary.Cap at pc p = (plain_fits pc op.Cap none refl refl (λ l. refl) none_fits, tt)
unary_fits unary.Chr at pc p = (placed_fits pc op.Chr none at refl (λ l. refl) none_fits p, tt)
unary_fits (unary.Long w) at pc p = tt
unary_fits unary.Odd at pc p = (plain_fits pc op.Odd none refl refl (λ l. refl) none_fits, tt)
unary_fits unary.Ord at pc p = tt
unary_fits (unary.Short w) at pc p = (placed_fits pc op.Range (count (bytes_of w)) at refl (names_one op.Range (count (bytes_of w)) refl) (bytes_fit w) p, tt)
unary_fits unary.Element at pc p = (placed_fits pc op.Bit none at refl (λ l. refl) none_fits p, tt)

comparison_fits : (r : Comparison) (pc : ℕ) → LineFits pc (bare (comparison_code r))
comparison_fits comparison.Equal pc = plain_fits pc op.Eq none refl refl (λ l. refl) none_fits
comparison_fits comparison.NotEqual pc = plain_fits pc op.Ne none refl refl (λ l. refl) none_fits
comparison_fits comparison.Less pc = plain_fits pc op.Lt none refl refl (λ l. refl) none_fits
comparison_fits comparison.LessEqual pc = plain_fits pc op.Le none refl refl (λ l. refl) none_fits
comparison_fits comparison.Greater pc = plain_fits pc op.Gt none refl refl (λ l. refl) none_fits
comparison_fits comparison.GreaterEqual pc = plain_fits pc op.Ge none refl refl (λ l. refl) none_fits

pub binary_fits : (o : Binary) (at : Pos) (pc : ℕ) → PosFits at → LineFits pc (binary_line o at)
binary_fits (binary.Add w) at pc p = placed_fits pc op.Add (count (bytes_of w)) at refl (names_one op.Add (count (bytes_of w)) refl) (bytes_fit w) p
binary_fits (binary.Subtract w) at pc p = placed_fits pc op.Sub (count (bytes_of w)) at refl (names_one op.Sub (count (bytes_of w)) refl) (bytes_fit w) p
binary_fits (binary.Multiply w) at pc p = placed_fits pc op.Mul (count (bytes_of w)) at refl (names_one op.Mul (count (bytes_of w)) refl) (bytes_fit w) p
binary_fits (binary.Quotient w) at pc p = placed_fits pc op.Div none at refl (λ l. refl) none_fits p
binary_fits (binary.Remainder w) at pc p = placed_fits pc op.Mod none at refl (λ l. refl) none_fits p
binary_fits binary.Union at pc p = plain_fits pc op.Union none refl refl (λ l. refl) none_fits
binary_fits binary.Difference at pc p = plain_fits pc op.Minus none refl refl (λ l. refl) none_fits
binary_fits binary.Intersection at pc p = plain_fits pc op.Meet none refl refl (λ l. refl) none_fits
binary_fits binary.SymmetricDifference at pc p = plain_fits pc op.Xor none refl refl (λ l. refl) none_fits
binary_fits binary.Range at pc p = placed_fits pc op.Bits none at refl (λ l. refl) none_fits p
binary_fits binary.In at pc p = placed_fits pc op.In none at refl (λ l. refl) none_fits p
binary_fits binary.Ash at pc p = placed_fits pc op.Ash none at refl (λ l. refl) none_fits p
binary_fits (binary.Compare r compared) at pc p = comparison_fits r pc

relation_few : (r : Comparison) → relation_number r < 2 ^ 31
relation_few comparison.Equal = omega arith
relation_few comparison.NotEqual = omega arith
relation_few comparison.Less = omega arith
relation_few comparison.LessEqual = omega arith
relation_few comparison.Greater = omega arith
relation_few comparison.GreaterEqual = omega arith

pub relation_fits : (r : Comparison) (at : Pos) (pc : ℕ) → PosFits at → LineFits pc (placed op.StrRel (count (relation_number r)) at)
relation_fits r at pc p = placed_fits pc op.StrRel (count (relation_number r)) at refl (names_one op.StrRel (count (relation_number r)) refl) (count_fits (relation_number r) (relation_few r)) p

pub update_fits : (o : Update) (at : Pos) (pc : ℕ) → PosFits at → LineFits pc (update_line o at)
update_fits (update.Inc w) at pc p = inc_fits pc w at p
update_fits (update.Dec w) at pc p = placed_fits pc op.Dec (count (bytes_of w)) at refl (names_one op.Dec (count (bytes_of w)) refl) (bytes_fit w) p
update_fits update.Incl at pc p = placed_fits pc op.Incl none at refl (λ l. refl) none_fits p
update_fits update.Excl at pc p = placed_fits pc op.Excl none at refl (λ l. refl) none_fits p

out_few : (p : OutProcedure) → out_number p < 2 ^ 31
out_few out.Char = omega arith
out_few out.Str = omega arith
out_few out.Int = omega arith
out_few out.Ln = omega arith

-- ---- parameters of two words

pair_fits : (k : ℕ) (w : Want) (pc : ℕ) → suc k < 2 ^ 31 → LinesFit pc (pair_code k w)
pair_fits k want.Value pc h = (local_fits pc k (omega (arith, h)), (load (suc pc), tt))
pair_fits k want.Place pc h = (local_fits pc k (omega (arith, h)), (load (suc pc), tt))
pair_fits k (want.Room n) pc h = (local_fits pc k (omega (arith, h)), (load (suc pc), tt))
pair_fits k want.PlaceAndTag pc h = (local_fits pc k (omega (arith, h)), (load (suc pc), (local_fits (suc (suc pc)) (suc k) h, (load (suc (suc (suc pc))), tt))))
pair_fits k want.Tag pc h = (local_fits pc (suc k) h, (load (suc pc), tt))
pair_fits k want.PlaceAndLength pc h = (local_fits pc k (omega (arith, h)), (load (suc pc), (local_fits (suc (suc pc)) (suc k) h, (load (suc (suc (suc pc))), tt))))
pair_fits k want.Length pc h = (local_fits pc (suc k) h, (load (suc pc), tt))

drop_fits : (pc : ℕ) → LineFits pc (bare op.Drop)
drop_fits pc = plain_fits pc op.Drop none refl refl (λ l. refl) none_fits

behind_guard_fits : (w : Want) (pc : ℕ) → LinesFit pc (behind_guard w)
behind_guard_fits want.Value pc = tt
behind_guard_fits want.Place pc = (drop_fits pc, tt)
behind_guard_fits (want.Room n) pc = (drop_fits pc, tt)
behind_guard_fits want.PlaceAndTag pc = tt
behind_guard_fits want.Tag pc = tt
behind_guard_fits want.PlaceAndLength pc = tt
behind_guard_fits want.Length pc = tt

module _ (c : Context) (room : HasRoom c) where
  pub type_fits : (q : QName) → RecordIsCoded c q → OperandFits (type_operand c q)
  type_fits q h = go (is_own c q.module) refl
    where
      go : (b : Bool) → is_own c q.module ≡ b → OperandFits (if b then count (type_index c q.object) else OtherType (own_types c) q)
      go true e = count_fits (type_index c q.object) (room.types q.object)
      go false e = (room.own, h e)

  named_fits : (o : Option QName) → IfSome o (RecordIsCoded c) → OperandFits (named_operand c o)
  named_fits None h = none_fits
  named_fits (Some q) h = type_fits q h

  record_fits : (t : TypeRef) → TypeIsCoded c t → OperandFits (record_operand c t)
  record_fits t h = go (own_name c.types t) refl
    where
      go : (o : Option QName) → own_name c.types t ≡ o → OperandFits (named_operand c o)
      go None e = none_fits
      go (Some q) e = type_fits q (h q e)

  length_fits : (t : TypeRef) → OperandFits (length_operand (elements_of c.types t))
  length_fits t = go (elements_of c.types t) refl
    where
      go : (o : Option ℕ) → elements_of c.types t ≡ o → OperandFits (length_operand o)
      go None e = none_fits
      go (Some n) e = count_fits n (room.elements t n e)

  from_place_fits : (w : Want) (t : TypeRef) (pc : ℕ) → TypeIsCoded c t → LinesFit pc (from_place c w t)
  from_place_fits want.Value t pc h = (load pc, tt)
  from_place_fits want.Place t pc h = tt
  from_place_fits (want.Room n) t pc h = tt
  from_place_fits want.PlaceAndTag t pc h = (plain_fits pc op.Tag (record_operand c t) refl refl (names_one op.Tag (record_operand c t) refl) (record_fits t h), tt)
  from_place_fits want.Tag t pc h = tt
  from_place_fits want.PlaceAndLength t pc h = (plain_fits pc op.Int (length_operand (elements_of c.types t)) refl refl (names_one op.Int (length_operand (elements_of c.types t)) refl) (length_fits t), tt)
  from_place_fits want.Length t pc h = tt

  pub place_fits : (w : Want) (t : TypeRef) (pc : ℕ) → TypeIsCoded c t → LinesFit pc (from_place c w t)
  place_fits w t pc h = from_place_fits w t pc h

  measured_fits : (t : TypeRef) (at : Pos) (pc : ℕ) → PosFits at → LinesFit pc (measured_behind (elements_of c.types t) at)
  measured_fits t at pc p = go (elements_of c.types t) refl
    where
      go : (o : Option ℕ) → elements_of c.types t ≡ o → LinesFit pc (measured_behind o at)
      go None e = (placed_fits pc op.Lenned none at refl (λ l. refl) none_fits p, tt)
      go (Some n) e = (deref pc at p, (int_fits (suc pc) (pos n) (word_fits n (room.elements t n e)), tt))

  pub pointer_fits : (w : Want) (t : TypeRef) (at : Pos) (pc : ℕ) → PosFits at → LinesFit pc (from_pointer c w t at)
  pointer_fits want.Value t at pc p = (deref pc at p, (load (suc pc), tt))
  pointer_fits want.Place t at pc p = (deref pc at p, tt)
  pointer_fits (want.Room n) t at pc p = (deref pc at p, tt)
  pointer_fits want.PlaceAndTag t at pc p = (placed_fits pc op.Tagged none at refl (λ l. refl) none_fits p, tt)
  pointer_fits want.Tag t at pc p = tt
  pointer_fits want.PlaceAndLength t at pc p = measured_fits t at pc p
  pointer_fits want.Length t at pc p = (deref pc at p, (plain_fits (suc pc) op.Offset (Number (negsuc 0)) refl refl (names_one op.Offset (Number (negsuc 0)) refl) (record { sfits = omega arith }), (load (suc (suc pc)), tt)))

  pub index_fits : (n : Option ℕ) (t : TypeRef) (at : Pos) (pc : ℕ) → IfSome n (λ k. k < 2 ^ 31) → PosFits at → LineFits pc (index_line c n t at)
  index_fits None t at pc h p = placed_fits pc op.IndexO (count (words c t)) at refl (names_one op.IndexO (count (words c t)) refl) (count_fits (words c t) (room.words t)) p
  index_fits (Some n) t at pc h p = two_fit pc op.Index (count n) (count (words c t)) at refl refl (count_fits n h) (count_fits (words c t) (room.words t)) p

  pub guard_fits : (g : Guarded) (q : QName) (at : Pos) (pc : ℕ) → RecordIsCoded c q → PosFits at → LineFits pc (guard_line c g q at)
  guard_fits guarded.Pointer q at pc h p = placed_fits pc op.GuardAt (type_operand c q) at refl (names_one op.GuardAt (type_operand c q) refl) (type_fits q h) p
  guard_fits guarded.Record q at pc h p = placed_fits pc op.GuardR (type_operand c q) at refl (names_one op.GuardR (type_operand c q) refl) (type_fits q h) p

  pub behind_fits : (g : Guarded) (w : Want) (t : TypeRef) (pc : ℕ) → TypeIsCoded c t → LinesFit pc (from_guard c g w t)
  behind_fits guarded.Pointer w t pc h = from_place_fits w t pc h
  behind_fits guarded.Record w t pc h = behind_guard_fits w pc

  own_fits : (k : ℕ) (w : Want) (t : TypeRef) (pc : ℕ) → k < 2 ^ 31 → TypeIsCoded c t → LinesFit pc (own_place c k w t)
  own_fits k w t pc l h = (local_fits pc k l, from_place_fits w t (suc pc) h)

  held_fits : (k : ℕ) (w : Want) (t : TypeRef) (pc : ℕ) → k < 2 ^ 31 → TypeIsCoded c t → LinesFit pc (held_place c k w t)
  held_fits k w t pc l h = (local_fits pc k l, (load (suc pc), from_place_fits w t (suc (suc pc)) h))

  parameter_fits : (how : Passing) (k : ℕ) (w : Want) (t : TypeRef) (pc : ℕ) → suc k < 2 ^ 31 → TypeIsCoded c t → LinesFit pc (parameter_code c how k w t)
  parameter_fits passing.Scalar k w t pc l h = own_fits k w t pc (omega (arith, l)) h
  parameter_fits passing.Structure k w t pc l h = held_fits k w t pc (omega (arith, l)) h
  parameter_fits passing.OpenArray k w t pc l h = pair_fits k w pc l
  parameter_fits passing.Variable k w t pc l h = held_fits k w t pc (omega (arith, l)) h
  parameter_fits passing.VariableRecord k w t pc l h = pair_fits k w pc l
  parameter_fits passing.VariableOpenArray k w t pc l h = pair_fits k w pc l

  module_fits : (m x : List ℕ) (pc : ℕ) → OtherNames c m x → LineFits pc (module_line c m x)
  module_fits m x pc h = go (is_own c m) refl
    where
      go : (b : Bool) → is_own c m ≡ b → LineFits pc (if b then plain op.Global (count (variable_place c x)) else plain op.ExtVar (OtherVariable m x))
      go true e = plain_fits pc op.Global (count (variable_place c x)) refl refl (names_one op.Global (count (variable_place c x)) refl) (count_fits (variable_place c x) (room.variables x))
      go false e = plain_fits pc op.ExtVar (OtherVariable m x) refl refl (names_one op.ExtVar (OtherVariable m x) refl) (h e)

  pub variable_fits : (w : Want) (v : Variable) (t : TypeRef) (pc : ℕ) → VariableIsCoded c v → TypeIsCoded c t → LinesFit pc (variable_code c w v t)
  variable_fits w (variable.Module m x) t pc n h = (module_fits m x pc n, from_place_fits w t (suc pc) h)
  variable_fits w (variable.Local x) t pc n h = own_fits (local_slot c x) w t pc (room.locals x) h
  variable_fits w (variable.Parameter how x) t pc n h = parameter_fits how (parameter_slot c x) w t pc (room.parameters x) h

  pub procedure_fits : (q : QName) (pc : ℕ) → ProcedureIsCoded c q → LineFits pc (procedure_line c q)
  procedure_fits q pc h = go (is_own c q.module) refl
    where
      go : (b : Bool) → is_own c q.module ≡ b → LineFits pc (if b then plain op.Proc (count (procedure_index c q.object)) else plain op.ProcX (OtherProcedure q.module q.object))
      go true e = plain_fits pc op.Proc (count (procedure_index c q.object)) refl refl (names_one op.Proc (count (procedure_index c q.object)) refl) (count_fits (procedure_index c q.object) (room.procedures q.object))
      go false e = plain_fits pc op.ProcX (OtherProcedure q.module q.object) refl refl (names_one op.ProcX (OtherProcedure q.module q.object) refl) (h e)

  declared_fits : (q : QName) (at : Pos) (pc : ℕ) → ProcedureIsCoded c q → PosFits at → LineFits pc (declared_line c q at)
  declared_fits q at pc h p = go (is_own c q.module) refl
    where
      go : (b : Bool) → is_own c q.module ≡ b → LineFits pc (if b then placed op.Call (count (procedure_index c q.object)) at else placed op.CallX (OtherProcedure q.module q.object) at)
      go true e = placed_fits pc op.Call (count (procedure_index c q.object)) at refl (names_one op.Call (count (procedure_index c q.object)) refl) (count_fits (procedure_index c q.object) (room.procedures q.object)) p
      go false e = placed_fits pc op.CallX (OtherProcedure q.module q.object) at refl (names_one op.CallX (OtherProcedure q.module q.object) refl) (h e) p

  behind_few : (es : Actuals) → words_of_actuals es < 2 ^ 31 → words_behind_receiver es < 2 ^ 31
  behind_few NoActual h = omega arith
  behind_few (AnActual how t e rest) h = omega (arith, h)

  pub call_fits : (f : Callee) (es : Actuals) (at : Pos) (pc : ℕ) → CalleeIsCoded c f → PosFits at → words_of_actuals es < 2 ^ 31 → LineFits pc (call_line c f es at)
  call_fits (callee.Declared q) es at pc h p l = declared_fits q at pc h p
  call_fits (callee.Bound f receiver.Pointer) es at pc h p l = two_fit pc op.CallP _ _ at refl refl (count_fits _ (room.numbers f.owner f.name)) (count_fits (words_behind_receiver es) (behind_few es l)) p
  call_fits (callee.Bound f receiver.Record) es at pc h p l = two_fit pc op.CallR _ _ at refl refl (count_fits _ (room.numbers f.owner f.name)) (count_fits (words_behind_receiver es) (behind_few es l)) p
  call_fits (callee.Super base f r) es at pc h p l = two_fit pc op.CallS (type_operand c base) _ at refl refl (type_fits base h) (count_fits _ (room.numbers f.owner f.name)) p
  call_fits (callee.Out o) es at pc h p l = placed_fits pc op.Out (count (out_number o)) at refl (names_one op.Out (count (out_number o)) refl) (count_fits (out_number o) (out_few o)) p
