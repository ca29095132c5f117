-- The strings of the code of designators, expressions and actual parameters are those that the meaning counts, in the same order.
use Rattle.std.proofs.Common.{◌≡◌, ℕ, suc, ◌+◌, List, [], ◌∷◌, length, refl, ap, ◌∙◌, arith, append-nil, Option, Some, None}
use Rattle.std.specs.Prelude.{ℤ, Bool, true, false, if◌then◌else◌}
use Rattle.ob_tree.specs.declared.pos.Pos.{Pos}
use Rattle.ob_tree.specs.declared.names.QName.{QName}
use Rattle.ob_types.specs.declared.types.TypeRef.{TypeRef}
use Rattle.ob_types.specs.declared.value.Value.{Value as Literal}
use Rattle.ob_types.specs.declared.value.Value.TheVariants as literal
use Rattle.ob_types.specs.declared.desc.Receiver.TheVariants as receiver
use Rattle.ob_types.specs.declared.typed.Passing.{Passing}
use Rattle.ob_types.specs.declared.typed.Passing.TheVariants as passing
use Rattle.ob_types.specs.declared.typed.Variable.{Variable}
use Rattle.ob_types.specs.declared.typed.Variable.TheVariants as variable
use Rattle.ob_types.specs.declared.typed.Guarded.{Guarded}
use Rattle.ob_types.specs.declared.typed.Guarded.TheVariants as guarded
use Rattle.ob_types.specs.declared.typed.Connective.TheVariants as connective
use Rattle.ob_types.specs.declared.typed.Unary.{Unary}
use Rattle.ob_types.specs.declared.typed.Unary.TheVariants as unary
use Rattle.ob_types.specs.declared.typed.Binary.{Binary}
use Rattle.ob_types.specs.declared.typed.Binary.TheVariants as binary
use Rattle.ob_types.specs.declared.typed.Callee.{Callee}
use Rattle.ob_types.specs.declared.typed.Callee.TheVariants as callee
use Rattle.ob_types.specs.TypedSyntax.{Desig, OfVariable, Field, Index, Deref, Guard, Expr, Constant, ValueOf, ProcedureValue, Monadic, Dyadic, Logical, CompareTexts, IsPointer, IsRecord, Length, Call, CallVariable, Actuals, NoActual, AnActual}
use Rattle.ob_instr.specs.declared.opcode.Opcode.TheVariants as op
use Rattle.ob_meaning.specs.Values.{Program, form_in, words as words_in}
use Rattle.ob_scheme.specs.declared.want.Want.{Want}
use Rattle.ob_scheme.specs.declared.want.Want.TheVariants as want
use Rattle.ob_scheme.specs.Lines.{OtherVariable, OtherProcedure, OtherType, Line, plain, placed, count}
use Rattle.ob_scheme.specs.Descriptions.{own_name, elements_of}
use Rattle.ob_scheme.specs.Context.{Context, words, is_own, variable_place, parameter_slot, procedure_index, type_index, own_types, type_operand, named_operand, record_operand}
use Rattle.ob_scheme.specs.Operations.{unary_code, binary_line}
use Rattle.ob_scheme.specs.Expressions.{wanted, text_code, constant_code, behind_guard, pair_code, length_operand, measured_behind, index_want, guard_want, from_place, from_pointer, index_line, guard_line, from_guard, parameter_code, module_line, variable_code, procedure_line, declared_line, call_line, end_desig, end_expr, desig_code, expr_code, actuals_code}
use Rattle.law_simulation_relation.specs.Texts.{text_words, literal_text, passed_text, designator_texts, expr_texts, actuals_texts}
use Rattle.law_image_links.proofs.Lines.{operand_words, lines_words, two, then_none, no_string}

-- CONSTANTS

abbrev pub constant_words : Literal → Want → List ℤ
constant_words (literal.Str text) (want.Room n) = text_words text n
constant_words v w = literal_text v

abbrev pub NotRoom : Want → Type 0
NotRoom (want.Room n) = ⊥
NotRoom w = Unit {0}

text_is : (w : Want) (text : List ℕ) → lines_words (text_code w text) ≡ constant_words (literal.Str text) w
text_is want.Value text = append-nil _ ∙ ap (λ n. text_words text n) (let e : suc (length text) ≡ length text + 1 = omega arith in e)
text_is want.Place text = append-nil _ ∙ ap (λ n. text_words text n) (let e : suc (length text) ≡ length text + 1 = omega arith in e)
text_is (want.Room n) text = append-nil _
text_is want.PlaceAndTag text = append-nil _ ∙ ap (λ n. text_words text n) (let e : suc (length text) ≡ length text + 1 = omega arith in e)
text_is want.Tag text = append-nil _ ∙ ap (λ n. text_words text n) (let e : suc (length text) ≡ length text + 1 = omega arith in e)
text_is want.PlaceAndLength text = append-nil _ ∙ ap (λ n. text_words text n) (let e : suc (length text) ≡ length text + 1 = omega arith in e)
text_is want.Length text = append-nil _ ∙ ap (λ n. text_words text n) (let e : suc (length text) ≡ length text + 1 = omega arith in e)

constant_is : (w : Want) (v : Literal) → lines_words (constant_code w v) ≡ constant_words v w
constant_is w (literal.Bool b) = refl
constant_is w (literal.Char n) = refl
constant_is w (literal.Int z) = refl
constant_is w (literal.Set n) = refl
constant_is w (literal.Str text) = text_is w text
constant_is w literal.Nil = refl

text_whole : (w : Want) (text : List ℕ) → NotRoom w → constant_words (literal.Str text) w ≡ literal_text (literal.Str text)
text_whole want.Value text n = refl
text_whole want.Place text n = refl
text_whole (want.Room k) text n = absurd n
text_whole want.PlaceAndTag text n = refl
text_whole want.Tag text n = refl
text_whole want.PlaceAndLength text n = refl
text_whole want.Length text n = refl

constant_whole : (w : Want) (v : Literal) → NotRoom w → constant_words v w ≡ literal_text v
constant_whole w (literal.Bool b) n = refl
constant_whole w (literal.Char c) n = refl
constant_whole w (literal.Int z) n = refl
constant_whole w (literal.Set k) n = refl
constant_whole w (literal.Str text) n = text_whole w text n
constant_whole w literal.Nil n = refl

-- SMALL PIECES

length_none : (o : Option ℕ) → operand_words (length_operand o) ≡ []
length_none None = refl
length_none (Some n) = refl

measured_none : (o : Option ℕ) (at : Pos) → lines_words (measured_behind o at) ≡ []
measured_none None at = refl
measured_none (Some n) at = refl

guard_behind_none : (w : Want) → lines_words (behind_guard w) ≡ []
guard_behind_none want.Value = refl
guard_behind_none want.Place = refl
guard_behind_none (want.Room n) = refl
guard_behind_none want.PlaceAndTag = refl
guard_behind_none want.Tag = refl
guard_behind_none want.PlaceAndLength = refl
guard_behind_none want.Length = refl

pair_none : (k : ℕ) (w : Want) → lines_words (pair_code k w) ≡ []
pair_none k want.Value = refl
pair_none k want.Place = refl
pair_none k (want.Room n) = refl
pair_none k want.PlaceAndTag = refl
pair_none k want.Tag = refl
pair_none k want.PlaceAndLength = refl
pair_none k want.Length = refl

unary_none : (o : Unary) (at : Pos) → lines_words (unary_code o at) ≡ []
unary_none (unary.Negate w) at = refl
unary_none unary.Not at = refl
unary_none unary.Complement at = refl
unary_none (unary.Abs w) at = refl
unary_none unary.Cap at = refl
unary_none unary.Chr at = refl
unary_none (unary.Long w) at = refl
unary_none unary.Odd at = refl
unary_none unary.Ord at = refl
unary_none (unary.Short w) at = refl
unary_none unary.Element at = refl

binary_none : (o : Binary) (at : Pos) → lines_words (binary_line o at ∷ []) ≡ []
binary_none (binary.Add w) at = refl
binary_none (binary.Subtract w) at = refl
binary_none (binary.Multiply w) at = refl
binary_none (binary.Quotient w) at = refl
binary_none (binary.Remainder w) at = refl
binary_none binary.Union at = refl
binary_none binary.Difference at = refl
binary_none binary.Intersection at = refl
binary_none binary.SymmetricDifference at = refl
binary_none binary.Range at = refl
binary_none binary.In at = refl
binary_none binary.Ash at = refl
binary_none (binary.Compare r compared) at = refl

module _ (c : Context) where
  pub type_none : (q : QName) → operand_words (type_operand c q) ≡ []
  type_none q = go (is_own c q.module)
    where
      go : (b : Bool) → operand_words (if b then count (type_index c q.object) else OtherType (own_types c) q) ≡ []
      go true = refl
      go false = refl

  named_none : (o : Option QName) → operand_words (named_operand c o) ≡ []
  named_none None = refl
  named_none (Some q) = type_none q

  place_none : (w : Want) (t : TypeRef) → lines_words (from_place c w t) ≡ []
  place_none want.Value t = refl
  place_none want.Place t = refl
  place_none (want.Room n) t = refl
  place_none want.PlaceAndTag t = no_string (plain op.Tag (record_operand c t)) [] (named_none (own_name c.types t)) refl
  place_none want.Tag t = refl
  place_none want.PlaceAndLength t = no_string (plain op.Int (length_operand (elements_of c.types t))) [] (length_none (elements_of c.types t)) refl
  place_none want.Length t = refl

  pointer_none : (w : Want) (t : TypeRef) (at : Pos) → lines_words (from_pointer c w t at) ≡ []
  pointer_none want.Value t at = refl
  pointer_none want.Place t at = refl
  pointer_none (want.Room n) t at = refl
  pointer_none want.PlaceAndTag t at = refl
  pointer_none want.Tag t at = refl
  pointer_none want.PlaceAndLength t at = measured_none (elements_of c.types t) at
  pointer_none want.Length t at = refl

  index_none : (n : Option ℕ) (w : Want) (t : TypeRef) (at : Pos) → lines_words (index_line c n t at ∷ from_place c w t) ≡ []
  index_none None w t at = place_none w t
  index_none (Some n) w t at = place_none w t

  guard_none : (g : Guarded) (q : QName) (w : Want) (t : TypeRef) (at : Pos) → lines_words (guard_line c g q at ∷ from_guard c g w t) ≡ []
  guard_none guarded.Pointer q w t at = no_string (guard_line c guarded.Pointer q at) (from_place c w t) (type_none q) refl ∙ place_none w t
  guard_none guarded.Record q w t at = no_string (guard_line c guarded.Record q at) (behind_guard w) (type_none q) refl ∙ guard_behind_none w

  parameter_none : (how : Passing) (k : ℕ) (w : Want) (t : TypeRef) → lines_words (parameter_code c how k w t) ≡ []
  parameter_none passing.Scalar k w t = place_none w t
  parameter_none passing.Structure k w t = place_none w t
  parameter_none passing.OpenArray k w t = pair_none k w
  parameter_none passing.Variable k w t = place_none w t
  parameter_none passing.VariableRecord k w t = pair_none k w
  parameter_none passing.VariableOpenArray k w t = pair_none k w

  module_none : (m x : List ℕ) (ls : List Line) → lines_words (module_line c m x ∷ ls) ≡ lines_words ls
  module_none m x ls = go (is_own c m)
    where
      go : (b : Bool) → lines_words ((if b then plain op.Global (count (variable_place c x)) else plain op.ExtVar (OtherVariable m x)) ∷ ls) ≡ lines_words ls
      go true = refl
      go false = refl

  pub variable_none : (w : Want) (v : Variable) (t : TypeRef) → lines_words (variable_code c w v t) ≡ []
  variable_none w (variable.Module m x) t = module_none m x (from_place c w t) ∙ place_none w t
  variable_none w (variable.Local x) t = place_none w t
  variable_none w (variable.Parameter how x) t = parameter_none how (parameter_slot c x) w t

  procedure_none : (q : QName) → lines_words (procedure_line c q ∷ []) ≡ []
  procedure_none q = go (is_own c q.module)
    where
      go : (b : Bool) → lines_words ((if b then plain op.Proc (count (procedure_index c q.object)) else plain op.ProcX (OtherProcedure q.module q.object)) ∷ []) ≡ []
      go true = refl
      go false = refl

  declared_none : (q : QName) (at : Pos) → lines_words (declared_line c q at ∷ []) ≡ []
  declared_none q at = go (is_own c q.module)
    where
      go : (b : Bool) → lines_words ((if b then placed op.Call (count (procedure_index c q.object)) at else placed op.CallX (OtherProcedure q.module q.object) at) ∷ []) ≡ []
      go true = refl
      go false = refl

  call_none : (k : Callee) (es : Actuals) (at : Pos) → lines_words (call_line c k es at ∷ []) ≡ []
  call_none (callee.Declared q) es at = declared_none q at
  call_none (callee.Bound f receiver.Pointer) es at = refl
  call_none (callee.Bound f receiver.Record) es at = refl
  call_none (callee.Super base f r) es at = no_string (call_line c (callee.Super base f r) es at) [] (type_none base) refl
  call_none (callee.Out p) es at = refl

  module _ (program : Program) (sizes : (t : TypeRef) → words c t ≡ words_in (form_in program t)) where
    abbrev dt : Desig → List ℤ
    dt d = designator_texts (form_in program) d

    abbrev et : Expr → List ℤ
    et e = expr_texts (form_in program) e

    abbrev at : Actuals → List ℤ
    at es = actuals_texts (form_in program) es

    -- what an expression lays down where something is wanted of it
    abbrev pub wanted_words : Expr → Want → List ℤ
    wanted_words (Constant v) w = constant_words v w
    wanted_words e w = et e

    whole : (e : Expr) (w : Want) → NotRoom w → wanted_words e w ≡ et e
    whole (Constant v) w n = constant_whole w v n
    whole (ValueOf d) w n = refl
    whole (ProcedureValue q signature) w n = refl
    whole (Monadic o e p) w n = refl
    whole (Dyadic o a b p) w n = refl
    whole (Logical o a b) w n = refl
    whole (CompareTexts r a b p) w n = refl
    whole (IsPointer e q) w n = refl
    whole (IsRecord d q) w n = refl
    whole (Length d) w n = refl
    whole (Call k es p t) w n = refl
    whole (CallVariable d es p t) w n = refl

    pub as_whole : (e : Expr) (w : Want) (pc : ℕ) → NotRoom w → lines_words (expr_code c w e pc) ≡ wanted_words e w → lines_words (expr_code c w e pc) ≡ et e
    as_whole e w pc n h = h ∙ whole e w n

    filled : (e : Expr) (t : TypeRef) → wanted_words e (want.Room (words c t)) ≡ passed_text passing.Structure e (words_in (form_in program t)) (et e)
    filled (Constant (literal.Bool b)) t = refl
    filled (Constant (literal.Char n)) t = refl
    filled (Constant (literal.Int z)) t = refl
    filled (Constant (literal.Set n)) t = refl
    filled (Constant (literal.Str text)) t = ap (λ n. text_words text n) (sizes t)
    filled (Constant literal.Nil) t = refl
    filled (ValueOf d) t = refl
    filled (ProcedureValue q signature) t = refl
    filled (Monadic o e p) t = refl
    filled (Dyadic o a b p) t = refl
    filled (Logical o a b) t = refl
    filled (CompareTexts r a b p) t = refl
    filled (IsPointer e q) t = refl
    filled (IsRecord d q) t = refl
    filled (Length d) t = refl
    filled (Call k es p u) t = refl
    filled (CallVariable d es p u) t = refl

    passed : (how : Passing) (e : Expr) (t : TypeRef) → wanted_words e (wanted (words c) how t) ≡ passed_text how e (words_in (form_in program t)) (et e)
    passed passing.Scalar e t = whole e want.Value tt
    passed passing.Structure e t = filled e t
    passed passing.OpenArray e t = whole e want.PlaceAndLength tt
    passed passing.Variable e t = whole e want.Place tt
    passed passing.VariableRecord e t = whole e want.PlaceAndTag tt
    passed passing.VariableOpenArray e t = whole e want.PlaceAndLength tt

    mutual
      pub desig_words : (w : Want) (d : Desig) (pc : ℕ) → lines_words (desig_code c w d pc) ≡ dt d
      desig_words w (OfVariable v t) pc = variable_none w v t
      desig_words w (Field d owner name t) pc = then_none (desig_code c want.Place d pc) _ (dt d) (desig_words want.Place d pc) (place_none w t)
      desig_words w (Index d n i p t) pc =
          let q = end_desig c (index_want n) d pc in
          two (desig_code c (index_want n) d pc) _ (dt d) (et i) (desig_words (index_want n) d pc) (then_none (expr_code c want.Value i q) (index_line c n t p ∷ from_place c w t) (et i) (as_whole i want.Value q tt (expr_words want.Value i q)) (index_none n w t p))
      desig_words w (Deref d p t) pc = then_none (desig_code c want.Value d pc) (from_pointer c w t p) (dt d) (desig_words want.Value d pc) (pointer_none w t p)
      desig_words w (Guard d g q p t) pc = then_none (desig_code c (guard_want g w) d pc) (guard_line c g q p ∷ from_guard c g w t) (dt d) (desig_words (guard_want g w) d pc) (guard_none g q w t p)

      pub expr_words : (w : Want) (e : Expr) (pc : ℕ) → lines_words (expr_code c w e pc) ≡ wanted_words e w
      expr_words w (Constant v) pc = constant_is w v
      expr_words w (ValueOf d) pc = desig_words w d pc
      expr_words w (ProcedureValue q signature) pc = procedure_none q
      expr_words w (Monadic o e p) pc = then_none (expr_code c want.Value e pc) (unary_code o p) (et e) (as_whole e want.Value pc tt (expr_words want.Value e pc)) (unary_none o p)
      expr_words w (Dyadic o a b p) pc =
          let q = end_expr c want.Value a pc in
          two (expr_code c want.Value a pc) _ (et a) (et b) (as_whole a want.Value pc tt (expr_words want.Value a pc)) (then_none (expr_code c want.Value b q) (binary_line o p ∷ []) (et b) (as_whole b want.Value q tt (expr_words want.Value b q)) (binary_none o p))
      expr_words w (Logical connective.And a b) pc =
          let q = suc (end_expr c want.Value a pc) in
          two (expr_code c want.Value a pc) _ (et a) (et b) (as_whole a want.Value pc tt (expr_words want.Value a pc)) (then_none (expr_code c want.Value b q) _ (et b) (as_whole b want.Value q tt (expr_words want.Value b q)) refl)
      expr_words w (Logical connective.Or a b) pc =
          let q = suc (suc (suc (end_expr c want.Value a pc))) in
          two (expr_code c want.Value a pc) _ (et a) (et b) (as_whole a want.Value pc tt (expr_words want.Value a pc)) (as_whole b want.Value q tt (expr_words want.Value b q))
      expr_words w (CompareTexts r a b p) pc =
          let q = end_expr c want.PlaceAndLength a pc in
          two (expr_code c want.PlaceAndLength a pc) _ (et a) (et b) (as_whole a want.PlaceAndLength pc tt (expr_words want.PlaceAndLength a pc)) (then_none (expr_code c want.PlaceAndLength b q) _ (et b) (as_whole b want.PlaceAndLength q tt (expr_words want.PlaceAndLength b q)) refl)
      expr_words w (IsPointer e q) pc = then_none (expr_code c want.Value e pc) (plain op.IsP (type_operand c q) ∷ []) (et e) (as_whole e want.Value pc tt (expr_words want.Value e pc)) (no_string (plain op.IsP (type_operand c q)) [] (type_none q) refl)
      expr_words w (IsRecord d q) pc = then_none (desig_code c want.Tag d pc) (plain op.IsR (type_operand c q) ∷ []) (dt d) (desig_words want.Tag d pc) (no_string (plain op.IsR (type_operand c q)) [] (type_none q) refl)
      expr_words w (Length d) pc = desig_words want.Length d pc
      expr_words w (Call k es p t) pc = then_none (actuals_code c es pc) (call_line c k es p ∷ []) (at es) (actuals_words es pc) (call_none k es p)
      expr_words w (CallVariable d es p t) pc =
          let q = end_desig c want.Value d pc in
          two (desig_code c want.Value d pc) _ (dt d) (at es) (desig_words want.Value d pc) (then_none (actuals_code c es q) _ (at es) (actuals_words es q) refl)

      pub actuals_words : (es : Actuals) (pc : ℕ) → lines_words (actuals_code c es pc) ≡ at es
      actuals_words NoActual pc = refl
      actuals_words (AnActual how t e rest) pc =
          let v = wanted (words c) how t in
          two (expr_code c v e pc) (actuals_code c rest (end_expr c v e pc)) (passed_text how e (words_in (form_in program t)) (et e)) (at rest) (expr_words v e pc ∙ passed how e t) (actuals_words rest (end_expr c v e pc))
