-- The code of designators, expressions and actual parameters stands as the law of simulation asks.
use Rattle.std.proofs.Common.{◌≡◌, ℕ, suc, ◌+◌, List, [], ◌∷◌, ◌++◌, refl, ap, ◌∙◌, subst, Some, None}
use Rattle.std.specs.Prelude.{pos}
use Rattle.ob_tree.specs.declared.pos.Pos.{Pos}
use Rattle.ob_types.specs.declared.types.TypeRef.{TypeRef}
use Rattle.ob_types.specs.declared.value.Value.TheVariants as literal
use Rattle.ob_types.specs.declared.typed.Passing.TheVariants as passing
use Rattle.ob_types.specs.declared.typed.Connective.TheVariants as connective
use Rattle.ob_types.specs.TypedSyntax.{Desig, OfVariable, Field, Index, Deref, Guard, Expr, Constant, ValueOf, ProcedureValue, Monadic, Dyadic, Logical, CompareTexts, IsPointer, IsRecord, Length, Call, CallVariable, Actuals, NoActual, AnActual}
use Rattle.ob_types.specs.TypedKinds.{variable_type}
use Rattle.ob_instr.specs.declared.opcode.Opcode.{Opcode}
use Rattle.ob_instr.specs.declared.opcode.Opcode.TheVariants as op
use Rattle.ob_meaning.specs.Values.{form_in, words as words_in}
use Rattle.ob_meaning.specs.Globals.{passed_words, texts_of_actuals}
use Rattle.ob_scheme.specs.Lines.{Line, count, plain, placed, jump, jump_if_false}
use Rattle.ob_scheme.specs.Context.{Context, words, type_operand}
use Rattle.ob_scheme.specs.Operations.{unary_code, binary_line, relation_number}
use Rattle.ob_scheme.specs.declared.want.Want.{Want}
use Rattle.ob_scheme.specs.declared.want.Want.TheVariants as want
use Rattle.ob_scheme.specs.Expressions as scheme
use Rattle.ob_scheme.specs.Expressions.{index_line, guard_line, guard_want, from_place, from_pointer, from_guard, call_line, words_of_actuals}
use Rattle.ob_scheme.specs.Descriptions.{field_place}
use Rattle.law_simulation_relation.specs.Ends.{end_place, end_open, end_expr, end_actuals}
use Rattle.law_simulation_relation.specs.Stands as code
use Rattle.law_simulation_relation.specs.Stands.{Scope, Has, HasAt, PlaceCode, OpenCode, ActualsCode, with_a, instr, fixed_length, form_of, dt, et}
use Rattle.law_image_code.specs.Standing.{Behind}
use Rattle.law_image_code.specs.Fits.{DesigFits, ExprFits, ActualsFit}
use Rattle.law_image_code.specs.Agrees.{Agrees}
use Rattle.law_image_code.specs.Wanted.{desig_end, expr_end, DesigStands, ExprStands, texts_wanted}
use Rattle.law_image_code.proofs.Ends.{desig_ends, expr_ends, whole_end, open_end}
use Rattle.law_image_code.proofs.Lines.{apart, apart_two, next, moved, texts_on, no_texts, inside, has_line, has_at, has_type, next_type, procedure_stands}
use Rattle.law_image_code.proofs.Pieces.{relation_same, operands_same, unary_stands, binary_stands, constant_stands, variable_stands, from_place_stands, placed_stands, opened_form, pointer_stands, guard_stands, whole_stands, call_stands}

module _ (sc : Scope) (c : Context) (ag : Agrees sc c) where
  -- the scheme's code
  abbrev pub D : Want → Desig → ℕ → List Line
  D w d pc = scheme.desig_code c w d pc

  abbrev pub E : Want → Expr → ℕ → List Line
  E w e pc = scheme.expr_code c w e pc

  abbrev pub A : Actuals → ℕ → List Line
  A es pc = scheme.actuals_code c es pc

  -- the strings of what is wanted are those that are counted
  pub value_texts : (e : Expr) → texts_wanted sc want.Value e ≡ et sc e
  value_texts (Constant v) = refl
  value_texts e = refl

  pub place_texts : (e : Expr) → texts_wanted sc want.Place e ≡ et sc e
  place_texts (Constant v) = refl
  place_texts e = refl

  tagged_texts : (e : Expr) → texts_wanted sc want.PlaceAndTag e ≡ et sc e
  tagged_texts (Constant v) = refl
  tagged_texts e = refl

  pub array_texts : (e : Expr) → texts_wanted sc want.PlaceAndLength e ≡ et sc e
  array_texts (Constant v) = refl
  array_texts e = refl

  room_texts : (n : ℕ) (e : Expr) → texts_wanted sc (want.Room n) e ≡ passed_words passing.Structure e n (et sc e)
  room_texts n (Constant (literal.Bool b)) = refl
  room_texts n (Constant (literal.Char b)) = refl
  room_texts n (Constant (literal.Int b)) = refl
  room_texts n (Constant (literal.Set b)) = refl
  room_texts n (Constant (literal.Str b)) = refl
  room_texts n (Constant literal.Nil) = refl
  room_texts n e = refl

  structure_texts : (t : TypeRef) (e : Expr) → texts_wanted sc (want.Room (words c t)) e ≡ code.passed_before sc passing.Structure t e
  structure_texts t e = room_texts (words c t) e ∙ ap (λ n. passed_words passing.Structure e n (et sc e)) (ag.described.sizes t)

  pub on_expr : (w : Want) (e : Expr) (p q k r : ℕ) (rest : List Line) → p ≡ q → k ≡ r → Behind sc (E w e p ++ rest) q k → Behind sc (E w e q ++ rest) q r
  on_expr w e p q k r rest h i b = subst (λ n. Behind sc (E w e n ++ rest) q r) h (moved sc _ _ refl i b)

  on_actuals : (es : Actuals) (p q k r : ℕ) (rest : List Line) → p ≡ q → k ≡ r → Behind sc (A es p ++ rest) q k → Behind sc (A es q ++ rest) q r
  on_actuals es p q k r rest h i b = subst (λ n. Behind sc (A es n ++ rest) q r) h (moved sc _ _ refl i b)

  -- a jump of the scheme to where the law says
  pub jump_stands : (o : Opcode) (t u pc at : ℕ) → t ≡ u → code.Has sc pc (instr o (pos t) (pos 0)) → Has sc pc (with_a o u)
  jump_stands o t u pc at e h = subst (λ n. Has sc pc (with_a o n)) e h

  -- the index of an element
  index_stands : (n : ℕ) (t : TypeRef) (p : Pos) (pc at : ℕ) (rest : List Line) → Behind sc (index_line c (Some n) t p ∷ rest) pc at → HasAt sc pc (instr op.Index (pos n) (pos (words_in (form_in sc.program t)))) p × Behind sc rest (suc pc) at
  index_stands n t p pc at rest h = (subst (λ k. HasAt sc pc (instr op.Index (pos n) (pos k)) p) (ag.described.sizes t) (has_at sc op.Index (pos n) (pos (words c t)) p pc at h.lines.0), next sc h)

  open_index_stands : (t : TypeRef) (p : Pos) (pc at : ℕ) (rest : List Line) → Behind sc (index_line c None t p ∷ rest) pc at → HasAt sc pc (with_a op.IndexO (words_in (form_in sc.program t))) p × Behind sc rest (suc pc) at
  open_index_stands t p pc at rest h = (subst (λ k. HasAt sc pc (with_a op.IndexO k) p) (ag.described.sizes t) (has_at sc op.IndexO (pos (words c t)) (pos 0) p pc at h.lines.0), next sc h)

  mutual
    pub desig_stands : (w : Want) (d : Desig) (pc at : ℕ) (rest : List Line) → DesigFits sc.program c w d → Behind sc (D w d pc ++ rest) pc at → DesigStands sc w d pc at × Behind sc rest (desig_end sc.program w d pc) (at + dt sc d)
    desig_stands w (OfVariable v t) pc at rest f h =
        let r = variable_stands sc c ag v w t pc at rest f.0 f.1 h in
        (r.0, no_texts sc r.1)
    desig_stands w (Field d o x t) pc at rest f h =
        let r = desig_stands want.Place d pc at (plain op.Offset (count (field_place c.types o x)) ∷ (from_place c w t ++ rest)) f.0 (apart sc (D want.Place d pc) _ rest pc at h) in
        let p1 = end_place sc.program d pc in
        let has = subst (λ n. Has sc p1 (with_a op.Offset n)) (ag.described.fields o x f.1.0) (has_line sc op.Offset (pos (field_place c.types o x)) (pos 0) None p1 (at + dt sc d) r.1.lines.0) in
        placed_stands sc c ag w (Field d o x t) pc at (at + dt sc d) rest f.1.1 (λ k. (r.0, (has, k))) refl (r.0, has) (from_place_stands sc c ag w t (suc p1) (at + dt sc d) rest f.1.1 (next sc r.1))
    desig_stands w (Index d (Some n) i p t) pc at rest f h =
        let q = scheme.end_desig c want.Place d pc in
        let p1 = end_place sc.program d pc in
        let r = desig_stands want.Place d pc at (E want.Value i q ++ (index_line c (Some n) t p ∷ (from_place c w t ++ rest))) f.0 (apart_two sc (D want.Place d pc) (E want.Value i q) _ rest pc at h) in
        let s = expr_stands want.Value i p1 (at + dt sc d) (index_line c (Some n) t p ∷ (from_place c w t ++ rest)) f.1.0 (on_expr want.Value i q p1 _ _ _ (desig_ends c sc.program ag.described want.Place d pc f.0) refl r.1) in
        let x = index_stands n t p (end_expr sc.program i p1) _ (from_place c w t ++ rest) s.1 in
        let k = from_place_stands sc c ag w t (suc (end_expr sc.program i p1)) _ rest f.1.1 x.1 in
        let y = placed_stands sc c ag w (Index d (Some n) i p t) pc at _ rest f.1.1 (λ z. (r.0, (s.0, (x.0, z)))) refl (r.0, (s.0, x.0)) k in
        (y.0, texts_on sc at (dt sc d) (et sc i) (moved sc _ _ refl (ap (λ m. at + dt sc d + m) (value_texts i)) y.1))
    desig_stands w (Index d None i p t) pc at rest f h =
        let q = scheme.end_desig c want.PlaceAndLength d pc in
        let p1 = end_open sc.program d pc in
        let e = open_end c sc.program (variable_type d) p1 (suc (end_place sc.program d pc)) f.1.0 in
        let r = desig_stands want.PlaceAndLength d pc at (E want.Value i q ++ (index_line c None t p ∷ (from_place c w t ++ rest))) f.0 (apart_two sc (D want.PlaceAndLength d pc) (E want.Value i q) _ rest pc at h) in
        let o = opened_form sc c ag (variable_type d) (OpenCode sc d pc at) (PlaceCode sc d pc at × Has sc (end_place sc.program d pc) (with_a op.Int (fixed_length sc (form_of sc d)))) f.1.0 r.0 in
        let s = expr_stands want.Value i p1 (at + dt sc d) (index_line c None t p ∷ (from_place c w t ++ rest)) f.1.1.0 (on_expr want.Value i q p1 _ _ _ (desig_ends c sc.program ag.described want.PlaceAndLength d pc f.0 ∙ e) refl (moved sc _ _ e refl r.1)) in
        let x = open_index_stands t p (end_expr sc.program i p1) _ (from_place c w t ++ rest) s.1 in
        let k = from_place_stands sc c ag w t (suc (end_expr sc.program i p1)) _ rest f.1.1.1 x.1 in
        let y = placed_stands sc c ag w (Index d None i p t) pc at _ rest f.1.1.1 (λ z. (o, (s.0, (x.0, z)))) refl (o, (s.0, x.0)) k in
        (y.0, texts_on sc at (dt sc d) (et sc i) (moved sc _ _ refl (ap (λ m. at + dt sc d + m) (value_texts i)) y.1))
    desig_stands w (Deref d p t) pc at rest f h =
        let r = desig_stands want.Value d pc at (from_pointer c w t p ++ rest) f.0 (apart sc (D want.Value d pc) _ rest pc at h) in
        pointer_stands sc c ag w d p t pc at (at + dt sc d) rest f.1 r.0 r.1
    desig_stands w (Guard d g q p t) pc at rest f h =
        let r = desig_stands (guard_want g w) d pc at (guard_line c g q p ∷ (from_guard c g w t ++ rest)) f.0 (apart sc (D (guard_want g w) d pc) _ rest pc at h) in
        guard_stands sc c ag w g d q p t pc at (at + dt sc d) rest f.1.0 f.1.1 r.0 r.1

    pub expr_stands : (w : Want) (e : Expr) (pc at : ℕ) (rest : List Line) → ExprFits sc.program c w e → Behind sc (E w e pc ++ rest) pc at → ExprStands sc w e pc at × Behind sc rest (expr_end sc.program w e pc) (at + texts_wanted sc w e)
    expr_stands w (Constant v) pc at rest f h = constant_stands sc w v pc at rest f h
    expr_stands w (ValueOf d) pc at rest f h =
        let r = desig_stands w d pc at rest f.1 h in
        (whole_stands sc c ag w d pc at f.0 r.0, moved sc _ _ (whole_end c sc.program w d pc f.0) refl r.1)
    expr_stands want.Value (ProcedureValue q signature) pc at rest f h =
        let r = procedure_stands sc c ag q rest pc at f.1 h in
        (r.0, no_texts sc r.1)
    expr_stands want.Value (Monadic o e p) pc at rest f h =
        let r = expr_stands want.Value e pc at (unary_code o p ++ rest) f.1 (apart sc (E want.Value e pc) _ rest pc at h) in
        let u = unary_stands sc o p (end_expr sc.program e pc) _ rest r.1 in
        ((r.0, u.0), moved sc _ _ refl (ap (λ m. at + m) (value_texts e)) u.1)
    expr_stands want.Value (Dyadic o a b p) pc at rest f h =
        let q = scheme.end_expr c want.Value a pc in
        let p1 = end_expr sc.program a pc in
        let r = expr_stands want.Value a pc at (E want.Value b q ++ (binary_line o p ∷ rest)) f.1.0 (apart_two sc (E want.Value a pc) (E want.Value b q) _ rest pc at h) in
        let s = expr_stands want.Value b p1 (at + et sc a) (binary_line o p ∷ rest) f.1.1 (on_expr want.Value b q p1 _ _ _ (expr_ends c sc.program ag.described want.Value a pc f.1.0) (ap (λ m. at + m) (value_texts a)) r.1) in
        let y = binary_stands sc o p (end_expr sc.program b p1) _ rest s.1 in
        ((r.0, (s.0, y.0)), texts_on sc at (et sc a) (et sc b) (moved sc _ _ refl (ap (λ m. at + et sc a + m) (value_texts b)) y.1))
    expr_stands want.Value (Logical connective.And a b) pc at rest f h =
        let q = scheme.end_expr c want.Value a pc in
        let q2 = scheme.end_expr c want.Value b (suc q) in
        let p1 = end_expr sc.program a pc in
        let p2 = end_expr sc.program b (suc p1) in
        let e1 = expr_ends c sc.program ag.described want.Value a pc f.1.0 in
        let e2 = ap (λ n. scheme.end_expr c want.Value b (suc n)) e1 ∙ expr_ends c sc.program ag.described want.Value b (suc p1) f.1.1 in
        let r = expr_stands want.Value a pc at (jump_if_false (suc q2) ∷ ((E want.Value b (suc q) ++ jump (suc (suc q2)) ∷ plain op.Int (count 0) ∷ []) ++ rest)) f.1.0 (apart sc (E want.Value a pc) _ rest pc at h) in
        let s = expr_stands want.Value b (suc p1) (at + et sc a) (jump (suc (suc q2)) ∷ plain op.Int (count 0) ∷ rest) f.1.1
        (on_expr want.Value b (suc q) (suc p1) _ _ _ (ap suc e1) (ap (λ m. at + m) (value_texts a)) (apart sc (E want.Value b (suc q)) _ rest (suc p1) _ (next sc r.1))) in
        let last = next sc (next sc s.1) in (
          (
            r.0,
            (
              jump_stands op.JumpF (suc q2) (suc p2) p1 at (ap suc e2) (has_line sc op.JumpF (pos (suc q2)) (pos 0) None p1 _ r.1.lines.0),
              (
                s.0,
                (
                  jump_stands op.Jump (suc (suc q2)) (suc (suc p2)) p2 at (ap (λ n. suc (suc n)) e2) (has_line sc op.Jump (pos (suc (suc q2))) (pos 0) None p2 _ s.1.lines.0),
                  (has_line sc op.Int (pos 0) (pos 0) None (suc p2) _ s.1.lines.1.0, inside sc rest (suc (suc p2)) _ last),
                ),
              ),
            ),
          ),
          texts_on sc at (et sc a) (et sc b) (moved sc _ _ refl (ap (λ m. at + et sc a + m) (value_texts b)) last),
        )
    expr_stands want.Value (Logical connective.Or a b) pc at rest f h =
        let q = scheme.end_expr c want.Value a pc in
        let q2 = suc (suc (suc q)) in
        let p1 = end_expr sc.program a pc in
        let p2 = suc (suc (suc p1)) in
        let e1 = expr_ends c sc.program ag.described want.Value a pc f.1.0 in
        let e2 = ap (λ n. scheme.end_expr c want.Value b (suc (suc (suc n)))) e1 ∙ expr_ends c sc.program ag.described want.Value b p2 f.1.1 in
        let r = expr_stands want.Value a pc at (jump_if_false q2 ∷ plain op.Int (count 1) ∷ jump (scheme.end_expr c want.Value b q2) ∷ (E want.Value b q2 ++ rest)) f.1.0 (apart sc (E want.Value a pc) _ rest pc at h) in
        let s = expr_stands want.Value b p2 (at + et sc a) rest f.1.1 (on_expr want.Value b q2 p2 _ _ _ (ap (λ n. suc (suc (suc n))) e1) (ap (λ m. at + m) (value_texts a)) (next sc (next sc (next sc r.1)))) in (
          (
            r.0,
            (
              jump_stands op.JumpF q2 p2 p1 at (ap (λ n. suc (suc (suc n))) e1) (has_line sc op.JumpF (pos q2) (pos 0) None p1 _ r.1.lines.0),
              (
                has_line sc op.Int (pos 1) (pos 0) None (suc p1) _ r.1.lines.1.0,
                (
                  jump_stands op.Jump (scheme.end_expr c want.Value b q2) (end_expr sc.program b p2) (suc (suc p1)) at e2 (has_line sc op.Jump (pos (scheme.end_expr c want.Value b q2)) (pos 0) None (suc (suc p1)) _ r.1.lines.1.1.0),
                  (s.0, inside sc rest (end_expr sc.program b p2) _ s.1),
                ),
              ),
            ),
          ),
          texts_on sc at (et sc a) (et sc b) (moved sc _ _ refl (ap (λ m. at + et sc a + m) (value_texts b)) s.1),
        )
    expr_stands want.Value (CompareTexts r a b p) pc at rest f h =
        let q = scheme.end_expr c want.PlaceAndLength a pc in
        let p1 = expr_end sc.program want.PlaceAndLength a pc in
        let p2 = expr_end sc.program want.PlaceAndLength b p1 in
        let x = expr_stands want.PlaceAndLength a pc at (E want.PlaceAndLength b q ++ (placed op.StrRel (count (relation_number r)) p ∷ rest)) f.1.0 (apart_two sc (E want.PlaceAndLength a pc) (E want.PlaceAndLength b q) _ rest pc at h) in
        let y = expr_stands want.PlaceAndLength b p1 (at + et sc a) (placed op.StrRel (count (relation_number r)) p ∷ rest) f.1.1 (on_expr want.PlaceAndLength b q p1 _ _ _ (expr_ends c sc.program ag.described want.PlaceAndLength a pc f.1.0) (ap (λ m. at + m) (array_texts a)) x.1) in
        let z = subst (λ n. HasAt sc p2 (with_a op.StrRel n) p) (relation_same r) (has_at sc op.StrRel (pos (relation_number r)) (pos 0) p p2 _ y.1.lines.0) in
        ((x.0, (y.0, z)), texts_on sc at (et sc a) (et sc b) (moved sc _ _ refl (ap (λ m. at + et sc a + m) (array_texts b)) (next sc y.1)))
    expr_stands want.Value (IsPointer e q) pc at rest f h =
        let r = expr_stands want.Value e pc at (plain op.IsP (type_operand c q) ∷ rest) f.1.0 (apart sc (E want.Value e pc) _ rest pc at h) in
        ((r.0, has_type sc c ag op.IsP q None (end_expr sc.program e pc) _ f.1.1 r.1.lines.0), moved sc _ _ refl (ap (λ m. at + m) (value_texts e)) (next_type sc c ag q r.1))
    expr_stands want.Value (IsRecord d q) pc at rest f h =
        let r = desig_stands want.Tag d pc at (plain op.IsR (type_operand c q) ∷ rest) f.1.0 (apart sc (D want.Tag d pc) _ rest pc at h) in
        ((r.0, has_type sc c ag op.IsR q None (desig_end sc.program want.Tag d pc) _ f.1.1 r.1.lines.0), next_type sc c ag q r.1)
    expr_stands want.Value (Length d) pc at rest f h = desig_stands want.Length d pc at rest f.1 h
    expr_stands want.Value (Call callee es p t) pc at rest f h =
        let r = actuals_stand es pc at (call_line c callee es p ∷ rest) f.1.1.0 (apart sc (A es pc) _ rest pc at h) in
        let y = call_stands sc c ag callee es p (end_actuals sc.program es pc) _ rest f.1.1.1 r.1 in
        ((r.0, y.0), y.1)
    expr_stands want.Value (CallVariable d es p t) pc at rest f h =
        let q = scheme.end_desig c want.Value d pc in
        let p1 = suc (end_place sc.program d pc) in
        let r = desig_stands want.Value d pc at (A es q ++ (placed op.CallV (count (words_of_actuals es)) p ∷ rest)) f.1.0 (apart_two sc (D want.Value d pc) (A es q) _ rest pc at h) in
        let s = actuals_stand es p1 (at + dt sc d) (placed op.CallV (count (words_of_actuals es)) p ∷ rest) f.1.1 (on_actuals es q p1 _ _ _ (desig_ends c sc.program ag.described want.Value d pc f.1.0) refl r.1) in
        let z = subst (λ n. HasAt sc (end_actuals sc.program es p1) (with_a op.CallV n) p) (operands_same sc c ag es) (has_at sc op.CallV (pos (words_of_actuals es)) (pos 0) p (end_actuals sc.program es p1) _ s.1.lines.0) in
        ((r.0.0, (r.0.1, (s.0, z))), texts_on sc at (dt sc d) (texts_of_actuals (form_in sc.program) es) (next sc s.1))
    expr_stands w e pc at rest f h = absurd f.0

    pub actuals_stand : (es : Actuals) (pc at : ℕ) (rest : List Line) → ActualsFit sc.program c es → Behind sc (A es pc ++ rest) pc at → ActualsCode sc es pc at × Behind sc rest (end_actuals sc.program es pc) (at + texts_of_actuals (form_in sc.program) es)
    actuals_stand NoActual pc at rest f h = (tt, no_texts sc h)
    actuals_stand (AnActual passing.Scalar t e more) pc at rest f h =
        let q = scheme.end_expr c want.Value e pc in
        let r = expr_stands want.Value e pc at (A more q ++ rest) f.0 (apart sc (E want.Value e pc) (A more q) rest pc at h) in
        let s = actuals_stand more (expr_end sc.program want.Value e pc) (at + et sc e) rest f.1 (on_actuals more q _ _ _ _ (expr_ends c sc.program ag.described want.Value e pc f.0) (ap (λ m. at + m) (value_texts e)) r.1) in
        ((r.0, s.0), texts_on sc at (et sc e) (texts_of_actuals (form_in sc.program) more) s.1)
    actuals_stand (AnActual passing.Structure t e more) pc at rest f h =
        let w = want.Room (words c t) in
        let q = scheme.end_expr c w e pc in
        let r = expr_stands w e pc at (A more q ++ rest) f.0 (apart sc (E w e pc) (A more q) rest pc at h) in
        let s = actuals_stand more (expr_end sc.program w e pc) (at + code.passed_before sc passing.Structure t e) rest f.1 (on_actuals more q _ _ _ _ (expr_ends c sc.program ag.described w e pc f.0) (ap (λ m. at + m) (structure_texts t e)) r.1) in
        ((subst (λ n. code.StructureCode sc e n pc at) (ag.described.sizes t) r.0, s.0), texts_on sc at (code.passed_before sc passing.Structure t e) (texts_of_actuals (form_in sc.program) more) s.1)
    actuals_stand (AnActual passing.OpenArray t e more) pc at rest f h =
        let q = scheme.end_expr c want.PlaceAndLength e pc in
        let r = expr_stands want.PlaceAndLength e pc at (A more q ++ rest) f.0 (apart sc (E want.PlaceAndLength e pc) (A more q) rest pc at h) in
        let s = actuals_stand more (expr_end sc.program want.PlaceAndLength e pc) (at + et sc e) rest f.1 (on_actuals more q _ _ _ _ (expr_ends c sc.program ag.described want.PlaceAndLength e pc f.0) (ap (λ m. at + m) (array_texts e)) r.1) in
        ((r.0, s.0), texts_on sc at (et sc e) (texts_of_actuals (form_in sc.program) more) s.1)
    actuals_stand (AnActual passing.Variable t e more) pc at rest f h =
        let q = scheme.end_expr c want.Place e pc in
        let r = expr_stands want.Place e pc at (A more q ++ rest) f.0 (apart sc (E want.Place e pc) (A more q) rest pc at h) in
        let s = actuals_stand more (expr_end sc.program want.Place e pc) (at + et sc e) rest f.1 (on_actuals more q _ _ _ _ (expr_ends c sc.program ag.described want.Place e pc f.0) (ap (λ m. at + m) (place_texts e)) r.1) in
        ((r.0, s.0), texts_on sc at (et sc e) (texts_of_actuals (form_in sc.program) more) s.1)
    actuals_stand (AnActual passing.VariableRecord t e more) pc at rest f h =
        let q = scheme.end_expr c want.PlaceAndTag e pc in
        let r = expr_stands want.PlaceAndTag e pc at (A more q ++ rest) f.0 (apart sc (E want.PlaceAndTag e pc) (A more q) rest pc at h) in
        let s = actuals_stand more (expr_end sc.program want.PlaceAndTag e pc) (at + et sc e) rest f.1 (on_actuals more q _ _ _ _ (expr_ends c sc.program ag.described want.PlaceAndTag e pc f.0) (ap (λ m. at + m) (tagged_texts e)) r.1) in
        ((r.0, s.0), texts_on sc at (et sc e) (texts_of_actuals (form_in sc.program) more) s.1)
    actuals_stand (AnActual passing.VariableOpenArray t e more) pc at rest f h =
        let q = scheme.end_expr c want.PlaceAndLength e pc in
        let r = expr_stands want.PlaceAndLength e pc at (A more q ++ rest) f.0 (apart sc (E want.PlaceAndLength e pc) (A more q) rest pc at h) in
        let s = actuals_stand more (expr_end sc.program want.PlaceAndLength e pc) (at + et sc e) rest f.1 (on_actuals more q _ _ _ _ (expr_ends c sc.program ag.described want.PlaceAndLength e pc f.0) (ap (λ m. at + m) (array_texts e)) r.1) in
        ((r.0, s.0), texts_on sc at (et sc e) (texts_of_actuals (form_in sc.program) more) s.1)
