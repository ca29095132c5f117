-- The words of the strings that code lays down are those of the strings that its tree uses as arrays: expressions.
use Rattle.std.proofs.Common.{◌≡◌, ℕ, suc, ◌+◌, Bool, true, false, List, [], ◌∷◌, ◌++◌, length, Option, Some, None, refl, ◌∙◌, arith}
use Rattle.std.specs.Prelude.{if◌then◌else◌}
use Rattle.ob_tree.specs.declared.pos.Pos.{Pos}
use Rattle.ob_tree.specs.declared.names.QName.{QName}
use Rattle.ob_types.specs.declared.types.TypeRef.{TypeRef}
use Rattle.ob_types.specs.declared.value.Value.{Value}
use Rattle.ob_types.specs.declared.value.Value.TheVariants as literal
use Rattle.ob_types.specs.declared.desc.Receiver.TheVariants as receiver
use Rattle.ob_types.specs.declared.typed.Passing.{Passing}
use Rattle.ob_types.specs.declared.typed.Passing.TheVariants as passing
use Rattle.ob_types.specs.declared.typed.Variable.{Variable}
use Rattle.ob_types.specs.declared.typed.Variable.TheVariants as variable
use Rattle.ob_types.specs.declared.typed.Guarded.{Guarded}
use Rattle.ob_types.specs.declared.typed.Guarded.TheVariants as guarded
use Rattle.ob_types.specs.declared.typed.Connective.TheVariants as connective
use Rattle.ob_types.specs.declared.typed.Callee.{Callee}
use Rattle.ob_types.specs.declared.typed.Callee.TheVariants as callee
use Rattle.ob_types.specs.declared.typed.Unary.{Unary}
use Rattle.ob_types.specs.declared.typed.Unary.TheVariants as unary
use Rattle.ob_types.specs.declared.typed.Binary.{Binary}
use Rattle.ob_types.specs.declared.typed.Binary.TheVariants as binary
use Rattle.ob_types.specs.TypedSyntax.{Desig, OfVariable, Field, Index, Deref, Guard, Expr, Constant, ValueOf, ProcedureValue, Monadic, Dyadic, Logical, CompareTexts, IsPointer, IsRecord, Length, Call, CallVariable, Actuals, NoActual, AnActual}
use Rattle.ob_instr.specs.declared.opcode.Opcode.TheVariants as op
use Rattle.ob_layout.specs.Lists.{sum_of}
use Rattle.ob_layout.specs.Texts.{AText, texts_of_value, passed_texts, texts_of_designator, texts_of_expr, texts_of_actuals}
use Rattle.ob_scheme.specs.declared.want.Want.{Want}
use Rattle.ob_scheme.specs.declared.want.Want.TheVariants as want
use Rattle.ob_scheme.specs.Lines.{Operand, StringHere, OtherVariable, OtherProcedure, OtherType, Line, plain, placed, count, jump, jump_if_false}
use Rattle.ob_scheme.specs.Operations.{unary_code, binary_line, relation_number}
use Rattle.ob_scheme.specs.Context.{Context, words, is_own, variable_place, procedure_index, type_index, own_types, type_operand, named_operand, parameter_slot}
use Rattle.ob_scheme.specs.Descriptions.{own_name, elements_of}
use Rattle.ob_scheme.specs.Expressions.{wanted, length_operand, words_of_actuals, constant_code, text_code, pair_code, behind_guard, measured_behind, index_want, guard_want, from_place, from_pointer, index_line, guard_line, from_guard, parameter_code, module_line, variable_code, procedure_line, call_line, end_desig, end_expr, desig_code, expr_code, actuals_code}

-- ---- the words of strings

abbrev pub operand_words : Operand → ℕ
operand_words (StringHere text words) = words
operand_words o = 0

abbrev pub line_words : Line → ℕ
line_words l = operand_words l.a + operand_words l.b

-- of lines
abbrev pub laid : List Line → ℕ
laid [] = 0
laid (l ∷ ls) = line_words l + laid ls

-- of the strings of a tree
abbrev pub used : List AText → ℕ
used ts = sum_of (λ t. t.words) ts

pub laid_both : (a b : List Line) → laid (a ++ b) ≡ laid a + laid b
laid_both [] b = omega arith
laid_both (x ∷ a) b = let e = laid_both a b in omega (arith, e)

pub used_both : (a b : List AText) → used (a ++ b) ≡ used a + used b
used_both [] b = omega arith
used_both (x ∷ a) b = let e = used_both a b in omega (arith, e)

-- a part, and lines behind it with no string
pub laid_one : (a r : List Line) (n : ℕ) → laid a ≡ n → laid r ≡ 0 → laid (a ++ r) ≡ n
laid_one a r n e f = omega (arith, e, f, laid_both a r)

-- two parts, and lines behind them
pub laid_two : (a b r : List Line) (s t : List AText) → laid a ≡ used s → laid b ≡ used t → laid r ≡ 0 → laid (a ++ (b ++ r)) ≡ used (s ++ t)
laid_two a b r s t e f g = omega (arith, e, f, g, laid_both a (b ++ r), laid_both b r, used_both s t)

-- ---- what is expected of an expression: a string fills the room that is wanted

abbrev pub expected_text : ℕ → Want → ℕ
expected_text n (want.Room k) = k
expected_text n w = suc n

abbrev pub expected_constant : Value → Want → ℕ
expected_constant (literal.Str t) w = expected_text (length t) w
expected_constant v w = 0

abbrev pub is_room : Want → Bool
is_room (want.Room k) = true
is_room w = false

plain_text : (w : Want) → is_room w ≡ false → (n : ℕ) → expected_text n w ≡ suc n + 0
plain_text want.Value h n = omega arith
plain_text want.Place h n = omega arith
plain_text (want.Room k) h n = absurd cc
plain_text want.PlaceAndTag h n = omega arith
plain_text want.Tag h n = omega arith
plain_text want.PlaceAndLength h n = omega arith
plain_text want.Length h n = omega arith

plain_value : (w : Want) → is_room w ≡ false → (v : Value) → expected_constant v w ≡ used (texts_of_value v)
plain_value w h (literal.Bool b) = refl
plain_value w h (literal.Char n) = refl
plain_value w h (literal.Int z) = refl
plain_value w h (literal.Set n) = refl
plain_value w h (literal.Str t) = plain_text w h (length t)
plain_value w h literal.Nil = refl

text_laid : (w : Want) (t : List ℕ) → laid (text_code w t) ≡ expected_text (length t) w
text_laid want.Value t = omega arith
text_laid want.Place t = omega arith
text_laid (want.Room k) t = omega arith
text_laid want.PlaceAndTag t = omega arith
text_laid want.Tag t = omega arith
text_laid want.PlaceAndLength t = omega arith
text_laid want.Length t = omega arith

constant_laid : (w : Want) (v : Value) → laid (constant_code w v) ≡ expected_constant v w
constant_laid w (literal.Bool b) = refl
constant_laid w (literal.Char n) = refl
constant_laid w (literal.Int z) = refl
constant_laid w (literal.Set n) = refl
constant_laid w (literal.Str t) = text_laid w t
constant_laid w literal.Nil = refl

-- ---- lines without strings

unary_laid : (o : Unary) (at : Pos) → laid (unary_code o at) ≡ 0
unary_laid (unary.Negate w) at = refl
unary_laid unary.Not at = refl
unary_laid unary.Complement at = refl
unary_laid (unary.Abs w) at = refl
unary_laid unary.Cap at = refl
unary_laid unary.Chr at = refl
unary_laid (unary.Long w) at = refl
unary_laid unary.Odd at = refl
unary_laid unary.Ord at = refl
unary_laid (unary.Short w) at = refl
unary_laid unary.Element at = refl

binary_laid : (o : Binary) (at : Pos) → laid (binary_line o at ∷ []) ≡ 0
binary_laid (binary.Add w) at = refl
binary_laid (binary.Subtract w) at = refl
binary_laid (binary.Multiply w) at = refl
binary_laid (binary.Quotient w) at = refl
binary_laid (binary.Remainder w) at = refl
binary_laid binary.Union at = refl
binary_laid binary.Difference at = refl
binary_laid binary.Intersection at = refl
binary_laid binary.SymmetricDifference at = refl
binary_laid binary.Range at = refl
binary_laid binary.In at = refl
binary_laid binary.Ash at = refl
binary_laid (binary.Compare r compared) at = refl

pair_laid : (k : ℕ) (w : Want) → laid (pair_code k w) ≡ 0
pair_laid k want.Value = refl
pair_laid k want.Place = refl
pair_laid k (want.Room n) = refl
pair_laid k want.PlaceAndTag = refl
pair_laid k want.Tag = refl
pair_laid k want.PlaceAndLength = refl
pair_laid k want.Length = refl

behind_guard_laid : (w : Want) → laid (behind_guard w) ≡ 0
behind_guard_laid want.Value = refl
behind_guard_laid want.Place = refl
behind_guard_laid (want.Room n) = refl
behind_guard_laid want.PlaceAndTag = refl
behind_guard_laid want.Tag = refl
behind_guard_laid want.PlaceAndLength = refl
behind_guard_laid want.Length = refl

measured_laid : (n : Option ℕ) (at : Pos) → laid (measured_behind n at) ≡ 0
measured_laid None at = refl
measured_laid (Some n) at = refl

length_laid : (n : Option ℕ) → operand_words (length_operand n) ≡ 0
length_laid None = refl
length_laid (Some n) = refl

operand_if : (b : Bool) (x y : Operand) → operand_words x ≡ 0 → operand_words y ≡ 0 → operand_words (if b then x else y) ≡ 0
operand_if true x y e f = e
operand_if false x y e f = f

pub line_if : (b : Bool) (x y : Line) → line_words x ≡ 0 → line_words y ≡ 0 → line_words (if b then x else y) ≡ 0
line_if true x y e f = e
line_if false x y e f = f

module _ (c : Context) where
  pub type_laid : (q : QName) → operand_words (type_operand c q) ≡ 0
  type_laid q = operand_if (is_own c q.module) (count (type_index c q.object)) (OtherType (own_types c) q) refl refl

  named_laid : (o : Option QName) → operand_words (named_operand c o) ≡ 0
  named_laid None = refl
  named_laid (Some q) = type_laid q

  from_place_laid : (w : Want) (t : TypeRef) → laid (from_place c w t) ≡ 0
  from_place_laid want.Value t = refl
  from_place_laid want.Place t = refl
  from_place_laid (want.Room n) t = refl
  from_place_laid want.PlaceAndTag t = let e = named_laid (own_name c.types t) in omega (arith, e)
  from_place_laid want.Tag t = refl
  from_place_laid want.PlaceAndLength t = let e = length_laid (elements_of c.types t) in omega (arith, e)
  from_place_laid want.Length t = refl

  from_pointer_laid : (w : Want) (t : TypeRef) (at : Pos) → laid (from_pointer c w t at) ≡ 0
  from_pointer_laid want.Value t at = refl
  from_pointer_laid want.Place t at = refl
  from_pointer_laid (want.Room n) t at = refl
  from_pointer_laid want.PlaceAndTag t at = refl
  from_pointer_laid want.Tag t at = refl
  from_pointer_laid want.PlaceAndLength t at = measured_laid (elements_of c.types t) at
  from_pointer_laid want.Length t at = refl

  index_laid : (n : Option ℕ) (t : TypeRef) (at : Pos) (w : Want) (u : TypeRef) → laid (index_line c n t at ∷ from_place c w u) ≡ 0
  index_laid None t at w u = let e = from_place_laid w u in omega (arith, e)
  index_laid (Some n) t at w u = let e = from_place_laid w u in omega (arith, e)

  guard_laid : (g : Guarded) (q : QName) (at : Pos) (w : Want) (t : TypeRef) → laid (guard_line c g q at ∷ from_guard c g w t) ≡ 0
  guard_laid guarded.Pointer q at w t = let e = from_place_laid w t in let f = type_laid q in omega (arith, e, f)
  guard_laid guarded.Record q at w t = let e = behind_guard_laid w in let f = type_laid q in omega (arith, e, f)

  parameter_laid : (how : Passing) (k : ℕ) (w : Want) (t : TypeRef) → laid (parameter_code c how k w t) ≡ 0
  parameter_laid passing.Scalar k w t = let e = from_place_laid w t in omega (arith, e)
  parameter_laid passing.Structure k w t = let e = from_place_laid w t in omega (arith, e)
  parameter_laid passing.OpenArray k w t = pair_laid k w
  parameter_laid passing.Variable k w t = let e = from_place_laid w t in omega (arith, e)
  parameter_laid passing.VariableRecord k w t = pair_laid k w
  parameter_laid passing.VariableOpenArray k w t = pair_laid k w

  module_laid : (m x : List ℕ) → line_words (module_line c m x) ≡ 0
  module_laid m x = line_if (is_own c m) (plain op.Global (count (variable_place c x))) (plain op.ExtVar (OtherVariable m x)) refl refl

  pub variable_laid : (w : Want) (v : Variable) (t : TypeRef) → laid (variable_code c w v t) ≡ 0
  variable_laid w (variable.Module m x) t = let e = from_place_laid w t in let f = module_laid m x in omega (arith, e, f)
  variable_laid w (variable.Local x) t = let e = from_place_laid w t in omega (arith, e)
  variable_laid w (variable.Parameter how x) t = parameter_laid how (parameter_slot c x) w t

  procedure_laid : (q : QName) → laid (procedure_line c q ∷ []) ≡ 0
  procedure_laid q = let e = line_if (is_own c q.module) (plain op.Proc (count (procedure_index c q.object))) (plain op.ProcX (OtherProcedure q.module q.object)) refl refl in omega (arith, e)

  call_laid : (f : Callee) (es : Actuals) (at : Pos) → line_words (call_line c f es at) ≡ 0
  call_laid (callee.Declared q) es at = line_if (is_own c q.module) (placed op.Call (count (procedure_index c q.object)) at) (placed op.CallX (OtherProcedure q.module q.object) at) refl refl
  call_laid (callee.Bound f receiver.Pointer) es at = refl
  call_laid (callee.Bound f receiver.Record) es at = refl
  call_laid (callee.Super base f r) es at = let e = type_laid base in omega (arith, e)
  call_laid (callee.Out p) es at = refl

  -- ---- expressions

  abbrev pub expected : Want → Expr → ℕ
  expected w (Constant v) = expected_constant v w
  expected w e = used (texts_of_expr (words c) e)

  pub plain_expr : (w : Want) → is_room w ≡ false → (e : Expr) → expected w e ≡ used (texts_of_expr (words c) e)
  plain_expr w h (Constant v) = plain_value w h v
  plain_expr w h (ValueOf d) = refl
  plain_expr w h (ProcedureValue q signature) = refl
  plain_expr w h (Monadic o e at) = refl
  plain_expr w h (Dyadic o a b at) = refl
  plain_expr w h (Logical o a b) = refl
  plain_expr w h (CompareTexts r a b at) = refl
  plain_expr w h (IsPointer e target) = refl
  plain_expr w h (IsRecord d target) = refl
  plain_expr w h (Length d) = refl
  plain_expr w h (Call f es at t) = refl
  plain_expr w h (CallVariable d es at t) = refl

  -- one that is passed by value fills the words of its parameter
  structure_is : (t : TypeRef) (e : Expr) → expected (want.Room (words c t)) e ≡ used (passed_texts passing.Structure e (words c t) (texts_of_expr (words c) e))
  structure_is t (Constant (literal.Bool b)) = refl
  structure_is t (Constant (literal.Char n)) = refl
  structure_is t (Constant (literal.Int z)) = refl
  structure_is t (Constant (literal.Set n)) = refl
  structure_is t (Constant (literal.Str s)) = omega arith
  structure_is t (Constant literal.Nil) = refl
  structure_is t (ValueOf d) = refl
  structure_is t (ProcedureValue q signature) = refl
  structure_is t (Monadic o e at) = refl
  structure_is t (Dyadic o a b at) = refl
  structure_is t (Logical o a b) = refl
  structure_is t (CompareTexts r a b at) = refl
  structure_is t (IsPointer e target) = refl
  structure_is t (IsRecord d target) = refl
  structure_is t (Length d) = refl
  structure_is t (Call f es at u) = refl
  structure_is t (CallVariable d es at u) = refl

  passed_is : (how : Passing) (t : TypeRef) (e : Expr) → expected (wanted (words c) how t) e ≡ used (passed_texts how e (words c t) (texts_of_expr (words c) e))
  passed_is passing.Scalar t e = plain_expr want.Value refl e
  passed_is passing.Structure t e = structure_is t e
  passed_is passing.OpenArray t e = plain_expr want.PlaceAndLength refl e
  passed_is passing.Variable t e = plain_expr want.Place refl e
  passed_is passing.VariableRecord t e = plain_expr want.PlaceAndTag refl e
  passed_is passing.VariableOpenArray t e = plain_expr want.PlaceAndLength refl e

  -- THE STRINGS of designators, expressions and actual parameters
  mutual
    pub desig_laid : (w : Want) (d : Desig) (pc : ℕ) → laid (desig_code c w d pc) ≡ used (texts_of_designator (words c) d)
    desig_laid w (OfVariable v t) pc = variable_laid w v t
    desig_laid w (Field d owner name t) pc = let e = from_place_laid w t in laid_one (desig_code c want.Place d pc) (_ ∷ from_place c w t) (used (texts_of_designator (words c) d)) (desig_laid want.Place d pc) (omega (arith, e))
    desig_laid w (Index d n i at t) pc =
        let p1 = end_desig c (index_want n) d pc in
        laid_two (desig_code c (index_want n) d pc) (expr_code c want.Value i p1) (index_line c n t at ∷ from_place c w t) (texts_of_designator (words c) d) (texts_of_expr (words c) i) (desig_laid (index_want n) d pc) (expr_laid want.Value i p1 ∙ plain_expr want.Value refl i) (index_laid n t at w t)
    desig_laid w (Deref d at t) pc = laid_one (desig_code c want.Value d pc) (from_pointer c w t at) (used (texts_of_designator (words c) d)) (desig_laid want.Value d pc) (from_pointer_laid w t at)
    desig_laid w (Guard d g target at t) pc = laid_one (desig_code c (guard_want g w) d pc) (guard_line c g target at ∷ from_guard c g w t) (used (texts_of_designator (words c) d)) (desig_laid (guard_want g w) d pc) (guard_laid g target at w t)

    pub expr_laid : (w : Want) (e : Expr) (pc : ℕ) → laid (expr_code c w e pc) ≡ expected w e
    expr_laid w (Constant v) pc = constant_laid w v
    expr_laid w (ValueOf d) pc = desig_laid w d pc
    expr_laid w (ProcedureValue q signature) pc = procedure_laid q
    expr_laid w (Monadic o e at) pc = laid_one (expr_code c want.Value e pc) (unary_code o at) (used (texts_of_expr (words c) e)) (expr_laid want.Value e pc ∙ plain_expr want.Value refl e) (unary_laid o at)
    expr_laid w (Dyadic o a b at) pc =
        let p1 = end_expr c want.Value a pc in
        laid_two (expr_code c want.Value a pc) (expr_code c want.Value b p1) (binary_line o at ∷ []) (texts_of_expr (words c) a) (texts_of_expr (words c) b) (expr_laid want.Value a pc ∙ plain_expr want.Value refl a) (expr_laid want.Value b p1 ∙ plain_expr want.Value refl b) (binary_laid o at)
    expr_laid w (Logical connective.And a b) pc =
        let p1 = end_expr c want.Value a pc in
        let p2 = end_expr c want.Value b (suc p1) in
        let r = jump (suc (suc p2)) ∷ plain op.Int (count 0) ∷ [] in
        omega (arith, expr_laid want.Value a pc ∙ plain_expr want.Value refl a, expr_laid want.Value b (suc p1) ∙ plain_expr want.Value refl b, laid_both (expr_code c want.Value a pc) (jump_if_false (suc p2) ∷ (expr_code c want.Value b (suc p1) ++ r)), laid_both (expr_code c want.Value b (suc p1)) r, used_both (texts_of_expr (words c) a) (texts_of_expr (words c) b))
    expr_laid w (Logical connective.Or a b) pc =
        let p1 = end_expr c want.Value a pc in
        let p2 = suc (suc (suc p1)) in
        omega (arith, expr_laid want.Value a pc ∙ plain_expr want.Value refl a, expr_laid want.Value b p2 ∙ plain_expr want.Value refl b, laid_both (expr_code c want.Value a pc) (jump_if_false p2 ∷ plain op.Int (count 1) ∷ jump (end_expr c want.Value b p2) ∷ expr_code c want.Value b p2), used_both (texts_of_expr (words c) a) (texts_of_expr (words c) b))
    expr_laid w (CompareTexts r a b at) pc =
        let p1 = end_expr c want.PlaceAndLength a pc in
        laid_two (expr_code c want.PlaceAndLength a pc) (expr_code c want.PlaceAndLength b p1) (placed op.StrRel (count (relation_number r)) at ∷ []) (texts_of_expr (words c) a) (texts_of_expr (words c) b) (expr_laid want.PlaceAndLength a pc ∙ plain_expr want.PlaceAndLength refl a) (expr_laid want.PlaceAndLength b p1 ∙ plain_expr want.PlaceAndLength refl b) refl
    expr_laid w (IsPointer e target) pc = let f = type_laid target in laid_one (expr_code c want.Value e pc) (plain op.IsP (type_operand c target) ∷ []) (used (texts_of_expr (words c) e)) (expr_laid want.Value e pc ∙ plain_expr want.Value refl e) (omega (arith, f))
    expr_laid w (IsRecord d target) pc = let f = type_laid target in laid_one (desig_code c want.Tag d pc) (plain op.IsR (type_operand c target) ∷ []) (used (texts_of_designator (words c) d)) (desig_laid want.Tag d pc) (omega (arith, f))
    expr_laid w (Length d) pc = desig_laid want.Length d pc
    expr_laid w (Call f es at t) pc = let e = call_laid f es at in laid_one (actuals_code c es pc) (call_line c f es at ∷ []) (used (texts_of_actuals (words c) es)) (actuals_laid es pc) (omega (arith, e))
    expr_laid w (CallVariable d es at t) pc =
        let p1 = end_desig c want.Value d pc in
        laid_two (desig_code c want.Value d pc) (actuals_code c es p1) (placed op.CallV (count (words_of_actuals es)) at ∷ []) (texts_of_designator (words c) d) (texts_of_actuals (words c) es) (desig_laid want.Value d pc) (actuals_laid es p1) refl

    pub actuals_laid : (es : Actuals) (pc : ℕ) → laid (actuals_code c es pc) ≡ used (texts_of_actuals (words c) es)
    actuals_laid NoActual pc = refl
    actuals_laid (AnActual how t e rest) pc =
        let w = wanted (words c) how t in
        let p = end_expr c w e pc in
        omega (arith, expr_laid w e pc, passed_is how t e, actuals_laid rest p, laid_both (expr_code c w e pc) (actuals_code c rest p), used_both (passed_texts how e (words c t) (texts_of_expr (words c) e)) (texts_of_actuals (words c) rest))

  pub value_laid : (w : Want) → is_room w ≡ false → (e : Expr) (pc : ℕ) → laid (expr_code c w e pc) ≡ used (texts_of_expr (words c) e)
  value_laid w h e pc = expr_laid w e pc ∙ plain_expr w h e
