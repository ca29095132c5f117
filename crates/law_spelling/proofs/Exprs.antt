-- The code of designators, expressions and actual parameters has a spelling.
use Rattle.std.proofs.Common.{◌≡◌, ℕ, suc, ◌+◌, ◌≤◌, Bool, List, [], ◌∷◌, ◌++◌, length, refl, arith}
use Rattle.ob_tree.specs.declared.names.QName.{QName}
use Rattle.ob_types.specs.declared.types.TypeRef.{TypeRef}
use Rattle.ob_types.specs.declared.value.Value.{Value}
use Rattle.ob_types.specs.declared.value.Value.TheVariants as literal
use Rattle.ob_types.specs.declared.typed.Passing.{Passing}
use Rattle.ob_types.specs.declared.typed.Passing.TheVariants as passing
use Rattle.ob_types.specs.declared.typed.Connective.TheVariants as connective
use Rattle.ob_types.specs.TypedSyntax.{Desig, OfVariable, Field, Index, Deref, Guard, Expr, Constant, ValueOf, ProcedureValue, Monadic, Dyadic, Logical, CompareTexts, IsPointer, IsRecord, Length, Call, CallVariable, Actuals, NoActual, AnActual}
use Rattle.ob_instr.specs.declared.opcode.Opcode.TheVariants as op
use Rattle.ob_scheme.specs.declared.want.Want.{Want}
use Rattle.ob_scheme.specs.declared.want.Want.TheVariants as want
use Rattle.ob_scheme.specs.Lines.{Line, count, plain, placed, jump, jump_if_false, behind}
use Rattle.ob_scheme.specs.Context.{Context, words, type_operand}
use Rattle.ob_scheme.specs.Descriptions.{field_place}
use Rattle.ob_scheme.specs.Operations.{unary_code, binary_line, relation_number}
use Rattle.ob_scheme.specs.Expressions.{wanted, index_want, guard_want, words_of_actuals, from_place, from_pointer, index_line, guard_line, from_guard, call_line, end_desig, end_expr, end_actuals, desig_code, expr_code, actuals_code}
use Rattle.ob_scheme.specs.Needs.{need_desig, need_expr, need_actuals}
use Rattle.ob_scheme.proofs.Ends.{behind_is, desig_ends, expr_ends, actuals_end}
use Rattle.law_spelling.specs.Coded.{PassedIsCoded, DesigIsCoded, ExprIsCoded, ActualsAreCoded, RecordIsCoded}
use Rattle.law_spelling.specs.Lines.{LineFits, LinesFit, HasRoom, RoomFits}
use Rattle.law_spelling.proofs.Lines.{word_fits, count_fits, names_one, plain_fits, placed_fits, jump_fits, jump_if_fits, lines_both}
use Rattle.law_spelling.proofs.Pieces.{int_fits, constant_fits, unary_fits, binary_fits, relation_fits, type_fits, place_fits, pointer_fits, index_fits, guard_fits, behind_fits, variable_fits, procedure_fits, call_fits}

-- more than any code has
abbrev pub top : ℕ
top = 1073741824

-- a string is wanted with room where it is passed with room
passed_room : (c : Context) (how : Passing) (t : TypeRef) (e : Expr) → PassedIsCoded c how t e → RoomFits (wanted (words c) how t) e
passed_room c passing.Scalar t e h = tt
passed_room c passing.Structure t (Constant (literal.Bool b)) h = tt
passed_room c passing.Structure t (Constant (literal.Char n)) h = tt
passed_room c passing.Structure t (Constant (literal.Int z)) h = tt
passed_room c passing.Structure t (Constant (literal.Set n)) h = tt
passed_room c passing.Structure t (Constant (literal.Str s)) h = h
passed_room c passing.Structure t (Constant literal.Nil) h = tt
passed_room c passing.Structure t (ValueOf d) h = tt
passed_room c passing.Structure t (ProcedureValue q signature) h = tt
passed_room c passing.Structure t (Monadic o e at) h = tt
passed_room c passing.Structure t (Dyadic o a b at) h = tt
passed_room c passing.Structure t (Logical o a b) h = tt
passed_room c passing.Structure t (CompareTexts r a b at) h = tt
passed_room c passing.Structure t (IsPointer e target) h = tt
passed_room c passing.Structure t (IsRecord d target) h = tt
passed_room c passing.Structure t (Length d) h = tt
passed_room c passing.Structure t (Call f es at u) h = tt
passed_room c passing.Structure t (CallVariable d es at u) h = tt
passed_room c passing.OpenArray t e h = tt
passed_room c passing.Variable t e h = tt
passed_room c passing.VariableRecord t e h = tt
passed_room c passing.VariableOpenArray t e h = tt

module _ (c : Context) (room : HasRoom c) where
  -- as many words as operands
  few_words : (es : Actuals) → words_of_actuals es ≤ need_actuals c es
  few_words NoActual = omega arith
  few_words (AnActual passing.Scalar t e rest) = let f = few_words rest in omega (arith, f)
  few_words (AnActual passing.Structure t e rest) = let f = few_words rest in omega (arith, f)
  few_words (AnActual passing.OpenArray t e rest) = let f = few_words rest in omega (arith, f)
  few_words (AnActual passing.Variable t e rest) = let f = few_words rest in omega (arith, f)
  few_words (AnActual passing.VariableRecord t e rest) = let f = few_words rest in omega (arith, f)
  few_words (AnActual passing.VariableOpenArray t e rest) = let f = few_words rest in omega (arith, f)

  -- a part, and lines behind it
  part_then : (pc p : ℕ) (a r : List Line) → p ≡ pc + length a → behind r p ≤ top → (p ≤ top → LinesFit pc a) → LinesFit p r → LinesFit pc (a ++ r)
  part_then pc p a r e l h k = lines_both pc p a r e (h (let b = behind_is r p in omega (arith, b, l))) k

  test_fits : (pc : ℕ) (q : QName) → RecordIsCoded c q → LineFits pc (plain op.IsP (type_operand c q))
  test_fits pc q h = plain_fits pc op.IsP (type_operand c q) refl refl (names_one op.IsP (type_operand c q) refl) (type_fits c room q h)

  record_test_fits : (pc : ℕ) (q : QName) → RecordIsCoded c q → LineFits pc (plain op.IsR (type_operand c q))
  record_test_fits pc q h = plain_fits pc op.IsR (type_operand c q) refl refl (names_one op.IsR (type_operand c q) refl) (type_fits c room q h)

  offset_fits : (pc : ℕ) (owner : QName) (x : List ℕ) → LineFits pc (plain op.Offset (count (field_place c.types owner x)))
  offset_fits pc owner x = plain_fits pc op.Offset (count (field_place c.types owner x)) refl refl (names_one op.Offset (count (field_place c.types owner x)) refl) (count_fits _ (room.places owner x))

  mutual
    pub desig_lines : (w : Want) (d : Desig) (pc : ℕ) → DesigIsCoded c d → need_desig c w d ≤ 256 → end_desig c w d pc ≤ top → LinesFit pc (desig_code c w d pc)
    desig_lines w (OfVariable v t) pc h n l = variable_fits c room w v t pc h.0 h.1
    desig_lines w (Field d owner name t) pc h n l =
        let p = end_desig c want.Place d pc in
        part_then pc p (desig_code c want.Place d pc) (plain op.Offset (count (field_place c.types owner name)) ∷ from_place c w t) (desig_ends c want.Place d pc) l
        (λ m. desig_lines want.Place d pc h.0 (omega (arith, n)) m)
        (offset_fits p owner name, place_fits c room w t (suc p) h.1)
    desig_lines w (Index d n i at t) pc h k l =
        let p = end_desig c (index_want n) d pc in
        let q = end_expr c want.Value i p in
        let r = index_line c n t at ∷ from_place c w t in
        let e = expr_ends c want.Value i p in
        let b = behind_is r q in
        lines_both pc p (desig_code c (index_want n) d pc) (expr_code c want.Value i p ++ r) (desig_ends c (index_want n) d pc)
        (desig_lines (index_want n) d pc h.0 (omega (arith, k)) (omega (arith, l, b, e)))
        (part_then p q (expr_code c want.Value i p) r e l
        (λ m. expr_lines want.Value i p h.1.0 tt (omega (arith, k)) m)
        (index_fits c room n t at q h.1.1.1.1 h.1.1.0, place_fits c room w t (suc q) h.1.1.1.0))
    desig_lines w (Deref d at t) pc h n l =
        let p = end_desig c want.Value d pc in
        part_then pc p (desig_code c want.Value d pc) (from_pointer c w t at) (desig_ends c want.Value d pc) l
        (λ m. desig_lines want.Value d pc h.0 (omega (arith, n)) m)
        (pointer_fits c room w t at p h.1)
    desig_lines w (Guard d g target at t) pc h n l =
        let p = end_desig c (guard_want g w) d pc in
        part_then pc p (desig_code c (guard_want g w) d pc) (guard_line c g target at ∷ from_guard c g w t) (desig_ends c (guard_want g w) d pc) l
        (λ m. desig_lines (guard_want g w) d pc h.0 (omega (arith, n)) m)
        (guard_fits c room g target at p h.1.0 h.1.1.0, behind_fits c room g w t (suc p) h.1.1.1)

    pub expr_lines : (w : Want) (e : Expr) (pc : ℕ) → ExprIsCoded c e → RoomFits w e → need_expr c w e ≤ 256 → end_expr c w e pc ≤ top → LinesFit pc (expr_code c w e pc)
    expr_lines w (Constant v) pc h r n l = constant_fits w v pc h r
    expr_lines w (ValueOf d) pc h r n l = desig_lines w d pc h n l
    expr_lines w (ProcedureValue q signature) pc h r n l = (procedure_fits c room q pc h, tt)
    expr_lines w (Monadic o e at) pc h r n l =
        let p = end_expr c want.Value e pc in
        part_then pc p (expr_code c want.Value e pc) (unary_code o at) (expr_ends c want.Value e pc) l
        (λ m. expr_lines want.Value e pc h.0 tt n m)
        (unary_fits o at p h.1)
    expr_lines w (Dyadic o a b at) pc h r n l =
        let p = end_expr c want.Value a pc in
        let q = end_expr c want.Value b p in
        let e = expr_ends c want.Value b p in
        lines_both pc p (expr_code c want.Value a pc) (expr_code c want.Value b p ++ binary_line o at ∷ []) (expr_ends c want.Value a pc)
        (expr_lines want.Value a pc h.0 tt (omega (arith, n)) (omega (arith, l, e)))
        (lines_both p q (expr_code c want.Value b p) (binary_line o at ∷ []) e
        (expr_lines want.Value b p h.1.0 tt (omega (arith, n)) (omega (arith, l)))
        (binary_fits o at q h.1.1, tt))
    expr_lines w (Logical connective.And a b) pc h r n l =
        let p1 = end_expr c want.Value a pc in
        let p2 = end_expr c want.Value b (suc p1) in
        let e = expr_ends c want.Value b (suc p1) in
        lines_both pc p1 (expr_code c want.Value a pc) (jump_if_false (suc p2) ∷ (expr_code c want.Value b (suc p1) ++ jump (suc (suc p2)) ∷ plain op.Int (count 0) ∷ [])) (expr_ends c want.Value a pc)
        (expr_lines want.Value a pc h.0 tt (omega (arith, n)) (omega (arith, l, e))) (
          jump_if_fits p1 (suc p2) (omega (arith, e)) (omega (arith, l)),
          lines_both (suc p1) p2 (expr_code c want.Value b (suc p1)) (jump (suc (suc p2)) ∷ plain op.Int (count 0) ∷ []) e
              (expr_lines want.Value b (suc p1) h.1 tt (omega (arith, n)) (omega (arith, l)))
              (jump_fits p2 (suc (suc p2)) (omega arith) (omega (arith, l)), (int_fits (suc p2) _ (word_fits 0 (omega arith)), tt)),
        )
    expr_lines w (Logical connective.Or a b) pc h r n l =
        let p1 = end_expr c want.Value a pc in
        let p2 = suc (suc (suc p1)) in
        let p3 = end_expr c want.Value b p2 in
        let e = expr_ends c want.Value b p2 in
        lines_both pc p1 (expr_code c want.Value a pc) (jump_if_false p2 ∷ plain op.Int (count 1) ∷ jump p3 ∷ expr_code c want.Value b p2) (expr_ends c want.Value a pc)
        (expr_lines want.Value a pc h.0 tt (omega (arith, n)) (omega (arith, l, e))) (
          jump_if_fits p1 p2 (omega arith) (omega (arith, l, e)),
          (
            int_fits (suc p1) _ (word_fits 1 (omega arith)),
            (
              jump_fits (suc (suc p1)) p3 (omega (arith, e)) (omega (arith, l)),
              expr_lines want.Value b p2 h.1 tt (omega (arith, n)) l,
            ),
          ),
        )
    expr_lines w (CompareTexts r a b at) pc h k n l =
        let p = end_expr c want.PlaceAndLength a pc in
        let q = end_expr c want.PlaceAndLength b p in
        let e = expr_ends c want.PlaceAndLength b p in
        lines_both pc p (expr_code c want.PlaceAndLength a pc) (expr_code c want.PlaceAndLength b p ++ placed op.StrRel (count (relation_number r)) at ∷ []) (expr_ends c want.PlaceAndLength a pc)
        (expr_lines want.PlaceAndLength a pc h.0 tt (omega (arith, n)) (omega (arith, l, e)))
        (lines_both p q (expr_code c want.PlaceAndLength b p) (placed op.StrRel (count (relation_number r)) at ∷ []) e
        (expr_lines want.PlaceAndLength b p h.1.0 tt (omega (arith, n)) (omega (arith, l)))
        (relation_fits r at q h.1.1, tt))
    expr_lines w (IsPointer e target) pc h r n l =
        let p = end_expr c want.Value e pc in
        part_then pc p (expr_code c want.Value e pc) (plain op.IsP (type_operand c target) ∷ []) (expr_ends c want.Value e pc) l
        (λ m. expr_lines want.Value e pc h.0 tt n m)
        (test_fits p target h.1, tt)
    expr_lines w (IsRecord d target) pc h r n l =
        let p = end_desig c want.Tag d pc in
        part_then pc p (desig_code c want.Tag d pc) (plain op.IsR (type_operand c target) ∷ []) (desig_ends c want.Tag d pc) l
        (λ m. desig_lines want.Tag d pc h.0 n m)
        (record_test_fits p target h.1, tt)
    expr_lines w (Length d) pc h r n l = desig_lines want.Length d pc h n l
    expr_lines w (Call f es at t) pc h r n l =
        let p = end_actuals c es pc in
        let k = few_words es in
        part_then pc p (actuals_code c es pc) (call_line c f es at ∷ []) (actuals_end c es pc) l
        (λ m. actuals_lines es pc h.0 (omega (arith, n)) m)
        (call_fits c room f es at p h.1.0 h.1.1 (omega (arith, n, k)), tt)
    expr_lines w (CallVariable d es at t) pc h r n l =
        let p = end_desig c want.Value d pc in
        let q = end_actuals c es p in
        let e = actuals_end c es p in
        let k = few_words es in
        lines_both pc p (desig_code c want.Value d pc) (actuals_code c es p ++ placed op.CallV (count (words_of_actuals es)) at ∷ []) (desig_ends c want.Value d pc)
        (desig_lines want.Value d pc h.0 (omega (arith, n)) (omega (arith, l, e)))
        (lines_both p q (actuals_code c es p) (placed op.CallV (count (words_of_actuals es)) at ∷ []) e
        (actuals_lines es p h.1.0 (omega (arith, n)) (omega (arith, l)))
        (placed_fits q op.CallV (count (words_of_actuals es)) at refl (names_one op.CallV (count (words_of_actuals es)) refl) (count_fits (words_of_actuals es) (omega (arith, n, k))) h.1.1, tt))

    pub actuals_lines : (es : Actuals) (pc : ℕ) → ActualsAreCoded c es → need_actuals c es ≤ 256 → end_actuals c es pc ≤ top → LinesFit pc (actuals_code c es pc)
    actuals_lines NoActual pc h n l = tt
    actuals_lines (AnActual how t e rest) pc h n l =
        let w = wanted (words c) how t in
        let p = end_expr c w e pc in
        let k = actuals_end c rest p in
        lines_both pc p (expr_code c w e pc) (actuals_code c rest p) (expr_ends c w e pc)
        (expr_lines w e pc h.0 (passed_room c how t e h.1.0) (omega (arith, n)) (omega (arith, l, k)))
        (actuals_lines rest p h.1.1 (omega (arith, n)) l)
