-- The code of expressions is the same by two maps that say the same of what they name.
use Rattle.std.proofs.Common.{◌≡◌, ℕ, suc, ◌+◌, List, [], ◌∷◌, ◌++◌, refl, ap, ◌∙◌, Option, Some, None}
use Rattle.std.specs.Prelude.{bytes_eq, if◌then◌else◌}
use Rattle.std.specs.List.{AllByRecursion}
use Rattle.ob_tree.specs.declared.pos.Pos.{Pos}
use Rattle.ob_tree.specs.declared.names.QName.{QName}
use Rattle.ob_types.specs.declared.types.TypeRef.{TypeRef}
use Rattle.ob_types.specs.declared.value.Value.TheVariants as literal
use Rattle.ob_types.specs.declared.desc.Desc.{Desc}
use Rattle.ob_types.specs.declared.desc.Receiver.TheVariants as receiver
use Rattle.ob_types.specs.declared.typed.Passing.{Passing}
use Rattle.ob_types.specs.declared.typed.Passing.TheVariants as passing
use Rattle.ob_types.specs.declared.typed.Variable.{Variable}
use Rattle.ob_types.specs.declared.typed.Variable.TheVariants as variable
use Rattle.ob_types.specs.declared.typed.Guarded.{Guarded}
use Rattle.ob_types.specs.declared.typed.Guarded.TheVariants as guarded
use Rattle.ob_types.specs.declared.typed.Connective.TheVariants as connective
use Rattle.ob_types.specs.declared.typed.Callee.{Callee}
use Rattle.ob_types.specs.declared.typed.Callee.TheVariants as callee
use Rattle.ob_types.specs.declared.typed.TypedVariable.{TypedVariable}
use Rattle.ob_types.specs.declared.typed.TypedParameter.{TypedParameter}
use Rattle.ob_types.specs.TypedSyntax.{Desig, OfVariable, Field, Index, Deref, Guard, Expr, Constant, ValueOf, ProcedureValue, Monadic, Dyadic, Logical, CompareTexts, IsPointer, IsRecord, Length, Call, CallVariable, Actuals, NoActual, AnActual, Module}
use Rattle.ob_instr.specs.declared.opcode.Opcode.TheVariants as op
use Rattle.ob_layout.specs.Lists.{sum_of}
use Rattle.ob_layout.specs.Words.{words_of}
use Rattle.ob_scheme.specs.declared.want.Want.{Want}
use Rattle.ob_scheme.specs.declared.want.Want.TheVariants as want
use Rattle.ob_scheme.specs.Lines.{OtherVariable, Line, plain, placed, placed_two, count, bare, jump, jump_if_false, behind}
use Rattle.ob_scheme.specs.Context.{Context, before, words, is_own, variable_place, local_slot, type_operand, named_operand, all_slots}
use Rattle.ob_scheme.specs.Operations.{unary_code, binary_line, relation_number}
use Rattle.ob_scheme.specs.Expressions.{wanted, length_operand, measured_behind, index_want, guard_want, from_place, from_pointer, index_line, guard_line, from_guard, parameter_code, module_line, variable_code, call_line, words_of_actuals, words_behind_receiver, end_desig, end_expr, end_actuals, desig_code, expr_code, actuals_code}
use Rattle.law_image_links.specs.Same.{IsSame, IsSameSize, PassedSame, CalleeSame, DesigSame, ExprSame, ActualsSame}

-- WORDS BEFORE A NAME

pub before_same : (f g : TypedVariable → ℕ) (vs : List TypedVariable) (x : List ℕ) → AllByRecursion (λ v. f v ≡ g v) vs → before (λ v. v.name) f vs x ≡ before (λ v. v.name) g vs x
before_same f g [] x h = refl
before_same f g (v ∷ vs) x h = ap (λ n. if bytes_eq x v.name then 0 else n + before (λ u. u.name) f vs x) h.0 ∙ ap (λ n. if bytes_eq x v.name then 0 else g v + n) (before_same f g vs x h.1)

pub sum_same : (f g : TypedVariable → ℕ) (vs : List TypedVariable) → AllByRecursion (λ v. f v ≡ g v) vs → sum_of f vs ≡ sum_of g vs
sum_same f g [] h = refl
sum_same f g (v ∷ vs) h = ap (λ n. n + sum_of f vs) h.0 ∙ ap (λ n. g v + n) (sum_same f g vs h.1)

module _ (a b : QName → Option Desc) where
  module _ (m : Module) (ps : List TypedParameter) (ls : List TypedVariable) (vs_same : AllByRecursion (λ v. IsSameSize a b v.of) m.variables) (ls_same : AllByRecursion (λ v. IsSameSize a b v.of) ls) where
    abbrev pub first : Context
    first = record { types = a; unit = m; parameters = ps; locals = ls }

    abbrev pub second : Context
    second = record { types = b; unit = m; parameters = ps; locals = ls }

    pub place_same : (x : List ℕ) → variable_place first x ≡ variable_place second x
    place_same x = before_same (λ v. words_of a v.of) (λ v. words_of b v.of) m.variables x vs_same

    pub slot_same : (x : List ℕ) → local_slot first x ≡ local_slot second x
    slot_same x = ap (λ n. all_slots first + n) (before_same (λ v. words_of a v.of) (λ v. words_of b v.of) ls x ls_same)

    -- SMALL PIECES

    pub from_place_same : (w : Want) (t : TypeRef) → IsSame a b t → from_place first w t ≡ from_place second w t
    from_place_same want.Value t s = refl
    from_place_same want.Place t s = refl
    from_place_same (want.Room n) t s = refl
    from_place_same want.PlaceAndTag t s = ap (λ o. plain op.Tag (named_operand second o) ∷ []) s.name
    from_place_same want.Tag t s = refl
    from_place_same want.PlaceAndLength t s = ap (λ o. plain op.Int (length_operand o) ∷ []) s.elements
    from_place_same want.Length t s = refl

    from_pointer_same : (w : Want) (t : TypeRef) (p : Pos) → IsSame a b t → from_pointer first w t p ≡ from_pointer second w t p
    from_pointer_same want.Value t p s = refl
    from_pointer_same want.Place t p s = refl
    from_pointer_same (want.Room n) t p s = refl
    from_pointer_same want.PlaceAndTag t p s = refl
    from_pointer_same want.Tag t p s = refl
    from_pointer_same want.PlaceAndLength t p s = ap (λ o. measured_behind o p) s.elements
    from_pointer_same want.Length t p s = refl

    index_same : (n : Option ℕ) (t : TypeRef) (p : Pos) → IsSameSize a b t → index_line first n t p ≡ index_line second n t p
    index_same None t p s = ap (λ k. placed op.IndexO (count k) p) s
    index_same (Some n) t p s = ap (λ k. placed_two op.Index (count n) (count k) p) s

    guard_same : (g : Guarded) (q : QName) (p : Pos) → guard_line first g q p ≡ guard_line second g q p
    guard_same guarded.Pointer q p = refl
    guard_same guarded.Record q p = refl

    from_guard_same : (g : Guarded) (w : Want) (t : TypeRef) → IsSame a b t → from_guard first g w t ≡ from_guard second g w t
    from_guard_same guarded.Pointer w t s = from_place_same w t s
    from_guard_same guarded.Record w t s = refl

    parameter_same : (how : Passing) (k : ℕ) (w : Want) (t : TypeRef) → IsSame a b t → parameter_code first how k w t ≡ parameter_code second how k w t
    parameter_same passing.Scalar k w t s = ap (λ l. plain op.Local (count k) ∷ l) (from_place_same w t s)
    parameter_same passing.Structure k w t s = ap (λ l. plain op.Local (count k) ∷ bare op.Load ∷ l) (from_place_same w t s)
    parameter_same passing.OpenArray k w t s = refl
    parameter_same passing.Variable k w t s = ap (λ l. plain op.Local (count k) ∷ bare op.Load ∷ l) (from_place_same w t s)
    parameter_same passing.VariableRecord k w t s = refl
    parameter_same passing.VariableOpenArray k w t s = refl

    module_same : (n x : List ℕ) → module_line first n x ≡ module_line second n x
    module_same n x = ap (λ k. if is_own first n then plain op.Global (count k) else plain op.ExtVar (OtherVariable n x)) (place_same x)

    pub variable_same : (w : Want) (v : Variable) (t : TypeRef) → IsSame a b t → variable_code first w v t ≡ variable_code second w v t
    variable_same w (variable.Module n x) t s = ap (λ l. l ∷ from_place first w t) (module_same n x) ∙ ap (λ l. module_line second n x ∷ l) (from_place_same w t s)
    variable_same w (variable.Local x) t s = ap (λ k. plain op.Local (count k) ∷ from_place first w t) (slot_same x) ∙ ap (λ l. plain op.Local (count (local_slot second x)) ∷ l) (from_place_same w t s)
    variable_same w (variable.Parameter how x) t s = parameter_same how _ w t s

    call_same : (k : Callee) (es : Actuals) (p : Pos) → CalleeSame a b k → call_line first k es p ≡ call_line second k es p
    call_same (callee.Declared q) es p s = refl
    call_same (callee.Bound f receiver.Pointer) es p s = ap (λ n. placed_two op.CallP (count n) (count (words_behind_receiver es)) p) s
    call_same (callee.Bound f receiver.Record) es p s = ap (λ n. placed_two op.CallR (count n) (count (words_behind_receiver es)) p) s
    call_same (callee.Super base f r) es p s = ap (λ n. placed_two op.CallS (type_operand second base) (count n) p) s
    call_same (callee.Out o) es p s = refl

    -- how many words there are room for is taken by strings alone
    room_end : (k l : ℕ) (d : Desig) (pc : ℕ) → end_desig second (want.Room k) d pc ≡ end_desig second (want.Room l) d pc
    room_end k l (OfVariable (variable.Module m x) t) pc = refl
    room_end k l (OfVariable (variable.Local x) t) pc = refl
    room_end k l (OfVariable (variable.Parameter passing.Scalar x) t) pc = refl
    room_end k l (OfVariable (variable.Parameter passing.Structure x) t) pc = refl
    room_end k l (OfVariable (variable.Parameter passing.OpenArray x) t) pc = refl
    room_end k l (OfVariable (variable.Parameter passing.Variable x) t) pc = refl
    room_end k l (OfVariable (variable.Parameter passing.VariableRecord x) t) pc = refl
    room_end k l (OfVariable (variable.Parameter passing.VariableOpenArray x) t) pc = refl
    room_end k l (Field d owner name t) pc = refl
    room_end k l (Index d i e at t) pc = refl
    room_end k l (Deref d at t) pc = refl
    room_end k l (Guard d guarded.Pointer target at t) pc = refl
    room_end k l (Guard d guarded.Record target at t) pc = refl

    room_code : (k l : ℕ) (d : Desig) (pc : ℕ) → desig_code second (want.Room k) d pc ≡ desig_code second (want.Room l) d pc
    room_code k l (OfVariable (variable.Module m x) t) pc = refl
    room_code k l (OfVariable (variable.Local x) t) pc = refl
    room_code k l (OfVariable (variable.Parameter passing.Scalar x) t) pc = refl
    room_code k l (OfVariable (variable.Parameter passing.Structure x) t) pc = refl
    room_code k l (OfVariable (variable.Parameter passing.OpenArray x) t) pc = refl
    room_code k l (OfVariable (variable.Parameter passing.Variable x) t) pc = refl
    room_code k l (OfVariable (variable.Parameter passing.VariableRecord x) t) pc = refl
    room_code k l (OfVariable (variable.Parameter passing.VariableOpenArray x) t) pc = refl
    room_code k l (Field d owner name t) pc = refl
    room_code k l (Index d i e at t) pc = refl
    room_code k l (Deref d at t) pc = refl
    room_code k l (Guard d guarded.Pointer target at t) pc = refl
    room_code k l (Guard d guarded.Record target at t) pc = refl

    wanted_end : (how : Passing) (e : Expr) (t : TypeRef) (pc : ℕ) → PassedSame a b how e t → end_expr second (wanted (words first) how t) e pc ≡ end_expr second (wanted (words second) how t) e pc
    wanted_end passing.Scalar e t pc s = refl
    wanted_end passing.OpenArray e t pc s = refl
    wanted_end passing.Variable e t pc s = refl
    wanted_end passing.VariableRecord e t pc s = refl
    wanted_end passing.VariableOpenArray e t pc s = refl
    wanted_end passing.Structure (Constant (literal.Str text)) t pc s = refl
    wanted_end passing.Structure (Constant (literal.Bool b)) t pc s = refl
    wanted_end passing.Structure (Constant (literal.Char b)) t pc s = refl
    wanted_end passing.Structure (Constant (literal.Int b)) t pc s = refl
    wanted_end passing.Structure (Constant (literal.Set b)) t pc s = refl
    wanted_end passing.Structure (Constant literal.Nil) t pc s = refl
    wanted_end passing.Structure (ValueOf d) t pc s = room_end (words first t) (words second t) d pc
    wanted_end passing.Structure (ProcedureValue q sg) t pc s = refl
    wanted_end passing.Structure (Monadic o x at) t pc s = refl
    wanted_end passing.Structure (Dyadic o x y at) t pc s = refl
    wanted_end passing.Structure (Logical connective.And x y) t pc s = refl
    wanted_end passing.Structure (Logical connective.Or x y) t pc s = refl
    wanted_end passing.Structure (CompareTexts r x y at) t pc s = refl
    wanted_end passing.Structure (IsPointer x q) t pc s = refl
    wanted_end passing.Structure (IsRecord d q) t pc s = refl
    wanted_end passing.Structure (Length d) t pc s = refl
    wanted_end passing.Structure (Call x es at r) t pc s = refl
    wanted_end passing.Structure (CallVariable d es at r) t pc s = refl

    wanted_code : (how : Passing) (e : Expr) (t : TypeRef) (pc : ℕ) → PassedSame a b how e t → expr_code second (wanted (words first) how t) e pc ≡ expr_code second (wanted (words second) how t) e pc
    wanted_code passing.Scalar e t pc s = refl
    wanted_code passing.OpenArray e t pc s = refl
    wanted_code passing.Variable e t pc s = refl
    wanted_code passing.VariableRecord e t pc s = refl
    wanted_code passing.VariableOpenArray e t pc s = refl
    wanted_code passing.Structure (Constant (literal.Str text)) t pc s = ap (λ n. expr_code second (want.Room n) (Constant (literal.Str text)) pc) s
    wanted_code passing.Structure (Constant (literal.Bool b)) t pc s = refl
    wanted_code passing.Structure (Constant (literal.Char b)) t pc s = refl
    wanted_code passing.Structure (Constant (literal.Int b)) t pc s = refl
    wanted_code passing.Structure (Constant (literal.Set b)) t pc s = refl
    wanted_code passing.Structure (Constant literal.Nil) t pc s = refl
    wanted_code passing.Structure (ValueOf d) t pc s = room_code (words first t) (words second t) d pc
    wanted_code passing.Structure (ProcedureValue q sg) t pc s = refl
    wanted_code passing.Structure (Monadic o x at) t pc s = refl
    wanted_code passing.Structure (Dyadic o x y at) t pc s = refl
    wanted_code passing.Structure (Logical connective.And x y) t pc s = refl
    wanted_code passing.Structure (Logical connective.Or x y) t pc s = refl
    wanted_code passing.Structure (CompareTexts r x y at) t pc s = refl
    wanted_code passing.Structure (IsPointer x q) t pc s = refl
    wanted_code passing.Structure (IsRecord d q) t pc s = refl
    wanted_code passing.Structure (Length d) t pc s = refl
    wanted_code passing.Structure (Call x es at r) t pc s = refl
    wanted_code passing.Structure (CallVariable d es at r) t pc s = refl

    -- ENDS

    mutual
      pub desig_end : (w : Want) (d : Desig) (pc : ℕ) → DesigSame a b d → end_desig first w d pc ≡ end_desig second w d pc
      desig_end w (OfVariable v t) pc s = ap (λ l. behind l pc) (variable_same w v t s)
      desig_end w (Field d o x t) pc s = ap (λ l. behind l (suc (end_desig first want.Place d pc))) (from_place_same w t s.1.1) ∙ ap (λ p. behind (from_place second w t) (suc p)) (desig_end want.Place d pc s.0)
      desig_end w (Index d n i at t) pc s =
          ap (λ l. behind l (suc (end_expr first want.Value i (end_desig first (index_want n) d pc)))) (from_place_same w t s.1.1)
          ∙ ap (λ p. behind (from_place second w t) (suc p)) (expr_end want.Value i (end_desig first (index_want n) d pc) s.1.0 ∙ ap (end_expr second want.Value i) (desig_end (index_want n) d pc s.0))
      desig_end w (Deref d at t) pc s = ap (λ l. behind l (end_desig first want.Value d pc)) (from_pointer_same w t at s.1) ∙ ap (behind (from_pointer second w t at)) (desig_end want.Value d pc s.0)
      desig_end w (Guard d g q at t) pc s = ap (λ l. behind l (suc (end_desig first (guard_want g w) d pc))) (from_guard_same g w t s.1) ∙ ap (λ p. behind (from_guard second g w t) (suc p)) (desig_end (guard_want g w) d pc s.0)

      pub expr_end : (w : Want) (e : Expr) (pc : ℕ) → ExprSame a b e → end_expr first w e pc ≡ end_expr second w e pc
      expr_end w (Constant v) pc s = refl
      expr_end w (ValueOf d) pc s = desig_end w d pc s
      expr_end w (ProcedureValue q signature) pc s = refl
      expr_end w (Monadic o e at) pc s = ap (behind (unary_code o at)) (expr_end want.Value e pc s)
      expr_end w (Dyadic o x y at) pc s = ap suc (expr_end want.Value y (end_expr first want.Value x pc) s.1 ∙ ap (end_expr second want.Value y) (expr_end want.Value x pc s.0))
      expr_end w (Logical connective.And x y) pc s = ap (λ p. suc (suc p)) (expr_end want.Value y (suc (end_expr first want.Value x pc)) s.1 ∙ ap (λ p. end_expr second want.Value y (suc p)) (expr_end want.Value x pc s.0))
      expr_end w (Logical connective.Or x y) pc s = expr_end want.Value y (suc (suc (suc (end_expr first want.Value x pc)))) s.1 ∙ ap (λ p. end_expr second want.Value y (suc (suc (suc p)))) (expr_end want.Value x pc s.0)
      expr_end w (CompareTexts r x y at) pc s = ap suc (expr_end want.PlaceAndLength y (end_expr first want.PlaceAndLength x pc) s.1 ∙ ap (end_expr second want.PlaceAndLength y) (expr_end want.PlaceAndLength x pc s.0))
      expr_end w (IsPointer e q) pc s = ap suc (expr_end want.Value e pc s)
      expr_end w (IsRecord d q) pc s = ap suc (desig_end want.Tag d pc s)
      expr_end w (Length d) pc s = desig_end want.Length d pc s
      expr_end w (Call k es at t) pc s = ap suc (actuals_end es pc s.0)
      expr_end w (CallVariable d es at t) pc s = ap suc (actuals_end es (end_desig first want.Value d pc) s.1 ∙ ap (end_actuals second es) (desig_end want.Value d pc s.0))

      pub actuals_end : (es : Actuals) (pc : ℕ) → ActualsSame a b es → end_actuals first es pc ≡ end_actuals second es pc
      actuals_end NoActual pc s = refl
      actuals_end (AnActual how t e rest) pc s = actuals_end rest (end_expr first (wanted (words first) how t) e pc) s.1.1 ∙ ap (end_actuals second rest) (expr_end (wanted (words first) how t) e pc s.1.0 ∙ wanted_end how e t pc s.0)

    -- CODE

    pub both : (x y u v : List Line) → x ≡ u → y ≡ v → x ++ y ≡ u ++ v
    both x y u v e f = ap (λ l. l ++ y) e ∙ ap (λ l. u ++ l) f

    pub lines_two : (x y : Line) (u v : List Line) → x ≡ y → u ≡ v → x ∷ u ≡ y ∷ v
    lines_two x y u v e f = ap (λ l. l ∷ u) e ∙ ap (λ l. y ∷ l) f

    -- an expression whose code begins where other code ends
    pub after : (w : Want) (e : Expr) (p q : ℕ) → p ≡ q → ((k : ℕ) → expr_code first w e k ≡ expr_code second w e k) → expr_code first w e p ≡ expr_code second w e q
    after w e p q i f = f p ∙ ap (expr_code second w e) i

    mutual
      pub desig_same : (w : Want) (d : Desig) (pc : ℕ) → DesigSame a b d → desig_code first w d pc ≡ desig_code second w d pc
      desig_same w (OfVariable v t) pc s = variable_same w v t s
      desig_same w (Field d o x t) pc s = both _ _ _ _ (desig_same want.Place d pc s.0) (lines_two _ _ _ _ (ap (λ n. plain op.Offset (count n)) s.1.0) (from_place_same w t s.1.1))
      desig_same w (Index d n i at t) pc s = both _ _ _ _ (desig_same (index_want n) d pc s.0) (both _ _ _ _ (after want.Value i _ _ (desig_end (index_want n) d pc s.0) (λ p. expr_same want.Value i p s.1.0)) (lines_two _ _ _ _ (index_same n t at s.1.2) (from_place_same w t s.1.1)))
      desig_same w (Deref d at t) pc s = both _ _ _ _ (desig_same want.Value d pc s.0) (from_pointer_same w t at s.1)
      desig_same w (Guard d g q at t) pc s = both _ _ _ _ (desig_same (guard_want g w) d pc s.0) (lines_two _ _ _ _ (guard_same g q at) (from_guard_same g w t s.1))

      pub expr_same : (w : Want) (e : Expr) (pc : ℕ) → ExprSame a b e → expr_code first w e pc ≡ expr_code second w e pc
      expr_same w (Constant v) pc s = refl
      expr_same w (ValueOf d) pc s = desig_same w d pc s
      expr_same w (ProcedureValue q signature) pc s = refl
      expr_same w (Monadic o e at) pc s = ap (λ l. l ++ unary_code o at) (expr_same want.Value e pc s)
      expr_same w (Dyadic o x y at) pc s = both _ _ _ _ (expr_same want.Value x pc s.0) (ap (λ l. l ++ binary_line o at ∷ []) (after want.Value y _ _ (expr_end want.Value x pc s.0) (λ p. expr_same want.Value y p s.1)))
      expr_same w (Logical connective.And x y) pc s =
          let e1 = expr_end want.Value x pc s.0 in
          let e2 : end_expr first want.Value y (suc (end_expr first want.Value x pc)) ≡ end_expr second want.Value y (suc (end_expr second want.Value x pc)) = expr_end want.Value y _ s.1 ∙ ap (λ p. end_expr second want.Value y (suc p)) e1 in
          both _ _ _ _ (expr_same want.Value x pc s.0) (lines_two _ _ _ _ (ap (λ p. jump_if_false (suc p)) e2) (both _ _ _ _ (after want.Value y _ _ (ap suc e1) (λ p. expr_same want.Value y p s.1)) (ap (λ p. jump (suc (suc p)) ∷ plain op.Int (count 0) ∷ []) e2)))
      expr_same w (Logical connective.Or x y) pc s =
          let e1 = expr_end want.Value x pc s.0 in
          let e3 = ap (λ p. suc (suc (suc p))) e1 in
          let e2 : end_expr first want.Value y (suc (suc (suc (end_expr first want.Value x pc)))) ≡ end_expr second want.Value y (suc (suc (suc (end_expr second want.Value x pc)))) = expr_end want.Value y _ s.1 ∙ ap (end_expr second want.Value y) e3 in
          both _ _ _ _ (expr_same want.Value x pc s.0) (lines_two _ _ _ _ (ap jump_if_false e3) (ap (λ l. plain op.Int (count 1) ∷ l) (lines_two _ _ _ _ (ap jump e2) (after want.Value y _ _ e3 (λ p. expr_same want.Value y p s.1)))))
      expr_same w (CompareTexts r x y at) pc s = both _ _ _ _ (expr_same want.PlaceAndLength x pc s.0) (ap (λ l. l ++ placed op.StrRel (count (relation_number r)) at ∷ []) (after want.PlaceAndLength y _ _ (expr_end want.PlaceAndLength x pc s.0) (λ p. expr_same want.PlaceAndLength y p s.1)))
      expr_same w (IsPointer e q) pc s = ap (λ l. l ++ plain op.IsP (type_operand second q) ∷ []) (expr_same want.Value e pc s)
      expr_same w (IsRecord d q) pc s = ap (λ l. l ++ plain op.IsR (type_operand second q) ∷ []) (desig_same want.Tag d pc s)
      expr_same w (Length d) pc s = desig_same want.Length d pc s
      expr_same w (Call k es at t) pc s = both _ _ _ _ (actuals_same es pc s.0) (ap (λ l. l ∷ []) (call_same k es at s.1))
      expr_same w (CallVariable d es at t) pc s = both _ _ _ _ (desig_same want.Value d pc s.0) (ap (λ l. l ++ placed op.CallV (count (words_of_actuals es)) at ∷ []) (actuals_same es _ s.1 ∙ ap (actuals_code second es) (desig_end want.Value d pc s.0)))

      pub actuals_same : (es : Actuals) (pc : ℕ) → ActualsSame a b es → actuals_code first es pc ≡ actuals_code second es pc
      actuals_same NoActual pc s = refl
      actuals_same (AnActual how t e rest) pc s = both _ _ _ _ (expr_same (wanted (words first) how t) e pc s.1.0 ∙ wanted_code how e t pc s.0) (actuals_same rest _ s.1.1 ∙ ap (actuals_code second rest) (expr_end (wanted (words first) how t) e pc s.1.0 ∙ wanted_end how e t pc s.0))
