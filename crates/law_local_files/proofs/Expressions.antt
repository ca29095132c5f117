-- The code of designators, expressions and actual parameters is the same by maps that agree on what it reads.
use Rattle.std.proofs.Common.{◌≡◌, ℕ, suc, List, refl, ap, ◌∙◌}
use Rattle.std.specs.List.{AllByRecursion}
use Rattle.ob_tree.specs.declared.names.QName.{QName}
use Rattle.ob_types.specs.declared.types.TypeRef.{TypeRef}
use Rattle.ob_types.specs.declared.value.Value.TheVariants as literal
use Rattle.ob_types.specs.declared.typed.Passing.{Passing}
use Rattle.ob_types.specs.declared.typed.Passing.TheVariants as passing
use Rattle.ob_types.specs.declared.typed.Variable.TheVariants as variable
use Rattle.ob_types.specs.declared.typed.Guarded.{Guarded}
use Rattle.ob_types.specs.declared.typed.Guarded.TheVariants as guarded
use Rattle.ob_tree.specs.declared.pos.Pos.{Pos}
use Rattle.ob_types.specs.declared.typed.Connective.TheVariants as connective
use Rattle.ob_types.specs.declared.typed.TypedParameter.{TypedParameter}
use Rattle.ob_types.specs.declared.typed.TypedVariable.{TypedVariable}
use Rattle.ob_types.specs.TypedSyntax.{Desig, OfVariable, Field, Index, Deref, Guard, Expr, Constant, ValueOf, ProcedureValue, Monadic, Dyadic, Logical, CompareTexts, IsPointer, IsRecord, Length, Call, CallVariable, Actuals, NoActual, AnActual, Module}
use Rattle.ob_instr.specs.declared.opcode.Opcode.TheVariants as op
use Rattle.ob_scheme.specs.declared.want.Want.{Want}
use Rattle.ob_scheme.specs.declared.want.Want.TheVariants as want
use Rattle.ob_scheme.specs.Lines.{plain, count, jump, jump_if_false, behind}
use Rattle.ob_scheme.specs.Context.{Context, words}
use Rattle.ob_scheme.specs.Operations.{unary_code}
use Rattle.ob_scheme.specs.Expressions.{wanted, index_want, guard_want, guard_line, from_place, end_desig, end_expr, end_actuals, desig_code, expr_code, actuals_code}
use Rattle.law_local_files.specs.Agreeing.{Map, On, Agree}
use Rattle.law_local_files.specs.Read.{RoomRead, DesigRead, ExprRead, ActualsRead}
use Rattle.law_local_files.proofs.Joined.{after, join, cons}
use Rattle.law_local_files.proofs.Told.{field_place_told}
use Rattle.law_local_files.proofs.Places.{with_map, sizes_told, from_place_told, from_pointer_told, from_guard_told, index_line_told, variable_told, call_told}

-- ---- of a structure by value the words are written down with a string alone

module _ (c : Context) (a b : ℕ) where
  room_end_desig : (d : Desig) (pc : ℕ) → end_desig c (want.Room a) d pc ≡ end_desig c (want.Room b) d pc
  room_end_desig (OfVariable (variable.Module m x) t) pc = refl
  room_end_desig (OfVariable (variable.Local x) t) pc = refl
  room_end_desig (OfVariable (variable.Parameter passing.Scalar x) t) pc = refl
  room_end_desig (OfVariable (variable.Parameter passing.Structure x) t) pc = refl
  room_end_desig (OfVariable (variable.Parameter passing.OpenArray x) t) pc = refl
  room_end_desig (OfVariable (variable.Parameter passing.Variable x) t) pc = refl
  room_end_desig (OfVariable (variable.Parameter passing.VariableRecord x) t) pc = refl
  room_end_desig (OfVariable (variable.Parameter passing.VariableOpenArray x) t) pc = refl
  room_end_desig (Field d owner name t) pc = refl
  room_end_desig (Index d n i at t) pc = refl
  room_end_desig (Deref d at t) pc = refl
  room_end_desig (Guard d guarded.Pointer target at t) pc = refl
  room_end_desig (Guard d guarded.Record target at t) pc = refl

  room_desig : (d : Desig) (pc : ℕ) → desig_code c (want.Room a) d pc ≡ desig_code c (want.Room b) d pc
  room_desig (OfVariable (variable.Module m x) t) pc = refl
  room_desig (OfVariable (variable.Local x) t) pc = refl
  room_desig (OfVariable (variable.Parameter passing.Scalar x) t) pc = refl
  room_desig (OfVariable (variable.Parameter passing.Structure x) t) pc = refl
  room_desig (OfVariable (variable.Parameter passing.OpenArray x) t) pc = refl
  room_desig (OfVariable (variable.Parameter passing.Variable x) t) pc = refl
  room_desig (OfVariable (variable.Parameter passing.VariableRecord x) t) pc = refl
  room_desig (OfVariable (variable.Parameter passing.VariableOpenArray x) t) pc = refl
  room_desig (Field d owner name t) pc = refl
  room_desig (Index d n i at t) pc = refl
  room_desig (Deref d at t) pc = refl
  room_desig (Guard d guarded.Pointer target at t) pc = refl
  room_desig (Guard d guarded.Record target at t) pc = refl

-- the value that a parameter wants, of the words that one map says and the words that the other says
module _ (c : Context) (f g : TypeRef → ℕ) (Shapes Layouts : QName → Type 0) (same : (t : TypeRef) → On Layouts t → f t ≡ g t) where
  pub wanted_end : (how : Passing) (e : Expr) (t : TypeRef) (pc : ℕ) → RoomRead Shapes Layouts how e t → end_expr c (wanted f how t) e pc ≡ end_expr c (wanted g how t) e pc
  wanted_end passing.Scalar e t pc on = refl
  wanted_end passing.OpenArray e t pc on = refl
  wanted_end passing.Variable e t pc on = refl
  wanted_end passing.VariableRecord e t pc on = refl
  wanted_end passing.VariableOpenArray e t pc on = refl
  wanted_end passing.Structure (Constant (literal.Str text)) t pc on = refl
  wanted_end passing.Structure (Constant (literal.Bool b)) t pc on = refl
  wanted_end passing.Structure (Constant (literal.Char b)) t pc on = refl
  wanted_end passing.Structure (Constant (literal.Int b)) t pc on = refl
  wanted_end passing.Structure (Constant (literal.Set b)) t pc on = refl
  wanted_end passing.Structure (Constant literal.Nil) t pc on = refl
  wanted_end passing.Structure (ValueOf d) t pc on = room_end_desig c (f t) (g t) d pc
  wanted_end passing.Structure (ProcedureValue q s) t pc on = refl
  wanted_end passing.Structure (Monadic o x at) t pc on = refl
  wanted_end passing.Structure (Dyadic o x y at) t pc on = refl
  wanted_end passing.Structure (Logical connective.And x y) t pc on = refl
  wanted_end passing.Structure (Logical connective.Or x y) t pc on = refl
  wanted_end passing.Structure (CompareTexts r x y at) t pc on = refl
  wanted_end passing.Structure (IsPointer x q) t pc on = refl
  wanted_end passing.Structure (IsRecord d q) t pc on = refl
  wanted_end passing.Structure (Length d) t pc on = refl
  wanted_end passing.Structure (Call x es at r) t pc on = refl
  wanted_end passing.Structure (CallVariable d es at r) t pc on = refl

  pub wanted_code : (how : Passing) (e : Expr) (t : TypeRef) (pc : ℕ) → RoomRead Shapes Layouts how e t → expr_code c (wanted f how t) e pc ≡ expr_code c (wanted g how t) e pc
  wanted_code passing.Scalar e t pc on = refl
  wanted_code passing.OpenArray e t pc on = refl
  wanted_code passing.Variable e t pc on = refl
  wanted_code passing.VariableRecord e t pc on = refl
  wanted_code passing.VariableOpenArray e t pc on = refl
  wanted_code passing.Structure (Constant (literal.Str text)) t pc on = ap (λ n. expr_code c (want.Room n) (Constant (literal.Str text)) pc) (same t on)
  wanted_code passing.Structure (Constant (literal.Bool b)) t pc on = refl
  wanted_code passing.Structure (Constant (literal.Char b)) t pc on = refl
  wanted_code passing.Structure (Constant (literal.Int b)) t pc on = refl
  wanted_code passing.Structure (Constant (literal.Set b)) t pc on = refl
  wanted_code passing.Structure (Constant literal.Nil) t pc on = refl
  wanted_code passing.Structure (ValueOf d) t pc on = room_desig c (f t) (g t) d pc
  wanted_code passing.Structure (ProcedureValue q s) t pc on = refl
  wanted_code passing.Structure (Monadic o x at) t pc on = refl
  wanted_code passing.Structure (Dyadic o x y at) t pc on = refl
  wanted_code passing.Structure (Logical connective.And x y) t pc on = refl
  wanted_code passing.Structure (Logical connective.Or x y) t pc on = refl
  wanted_code passing.Structure (CompareTexts r x y at) t pc on = refl
  wanted_code passing.Structure (IsPointer x q) t pc on = refl
  wanted_code passing.Structure (IsRecord d q) t pc on = refl
  wanted_code passing.Structure (Length d) t pc on = refl
  wanted_code passing.Structure (Call x es at r) t pc on = refl
  wanted_code passing.Structure (CallVariable d es at r) t pc on = refl

module _ (map other : Map) (m : Module) (Shapes Layouts : QName → Type 0) (agree : Agree map other m.name Shapes Layouts) (globals : AllByRecursion (λ v. On Layouts v.of) m.variables) (ps : List TypedParameter) (vs : List TypedVariable) (locals : AllByRecursion (λ v. On Layouts v.of) vs) where
  abbrev here : Context
  here = with_map map m ps vs

  abbrev there : Context
  there = with_map other m ps vs

  abbrev place : (w : Want) (t : TypeRef) → On Shapes t → from_place here w t ≡ from_place there w t
  place = from_place_told map other m Shapes Layouts agree globals ps vs locals

  abbrev size : (t : TypeRef) → On Layouts t → words here t ≡ words there t
  size = sizes_told map other m Shapes Layouts agree globals ps vs locals

  guard_told : (g : Guarded) (target : QName) (at : Pos) → guard_line here g target at ≡ guard_line there g target at
  guard_told guarded.Pointer target at = refl
  guard_told guarded.Record target at = refl

  -- WHERE THE CODE ENDS
  mutual
    pub desig_end : (w : Want) (d : Desig) (pc : ℕ) → DesigRead Shapes Layouts d → end_desig (with_map map m ps vs) w d pc ≡ end_desig (with_map other m ps vs) w d pc
    desig_end w (OfVariable v t) pc on = ap (λ l. behind l pc) (variable_told map other m Shapes Layouts agree globals ps vs locals w v t on)
    desig_end w (Field d owner name t) pc on = after (λ k. ap (λ l. behind l (suc k)) (place w t on.2)) (desig_end want.Place d pc on.0)
    desig_end w (Index d n i at t) pc on = after (λ k. ap (λ l. behind l (suc k)) (place w t on.2)) (after (λ k. expr_end want.Value i k on.1) (desig_end (index_want n) d pc on.0))
    desig_end w (Deref d at t) pc on = after (λ k. ap (λ l. behind l k) (from_pointer_told map other m Shapes Layouts agree globals ps vs locals w t at on.1)) (desig_end want.Value d pc on.0)
    desig_end w (Guard d g target at t) pc on = after (λ k. ap (λ l. behind l (suc k)) (from_guard_told map other m Shapes Layouts agree globals ps vs locals g w t on.1)) (desig_end (guard_want g w) d pc on.0)

    pub expr_end : (w : Want) (e : Expr) (pc : ℕ) → ExprRead Shapes Layouts e → end_expr (with_map map m ps vs) w e pc ≡ end_expr (with_map other m ps vs) w e pc
    expr_end w (Constant v) pc on = refl
    expr_end w (ValueOf d) pc on = desig_end w d pc on
    expr_end w (ProcedureValue q signature) pc on = refl
    expr_end w (Monadic o e at) pc on = ap (behind (unary_code o at)) (expr_end want.Value e pc on)
    expr_end w (Dyadic o a b at) pc on = ap suc (after (λ k. expr_end want.Value b k on.1) (expr_end want.Value a pc on.0))
    expr_end w (Logical connective.And a b) pc on = ap (λ k. suc (suc k)) (after (λ k. expr_end want.Value b (suc k) on.1) (expr_end want.Value a pc on.0))
    expr_end w (Logical connective.Or a b) pc on = after (λ k. expr_end want.Value b (suc (suc (suc k))) on.1) (expr_end want.Value a pc on.0)
    expr_end w (CompareTexts r a b at) pc on = ap suc (after (λ k. expr_end want.PlaceAndLength b k on.1) (expr_end want.PlaceAndLength a pc on.0))
    expr_end w (IsPointer e target) pc on = ap suc (expr_end want.Value e pc on)
    expr_end w (IsRecord d target) pc on = ap suc (desig_end want.Tag d pc on)
    expr_end w (Length d) pc on = desig_end want.Length d pc on
    expr_end w (Call callee es at t) pc on = ap suc (actuals_end es pc on.0)
    expr_end w (CallVariable d es at t) pc on = ap suc (after (λ k. actuals_end es k on.1) (desig_end want.Value d pc on.0))

    pub actuals_end : (es : Actuals) (pc : ℕ) → ActualsRead Shapes Layouts es → end_actuals (with_map map m ps vs) es pc ≡ end_actuals (with_map other m ps vs) es pc
    actuals_end NoActual pc on = refl
    actuals_end (AnActual how t e rest) pc on =
        after (λ k. actuals_end rest k on.2)
        (expr_end (wanted (words here) how t) e pc on.0 ∙ wanted_end there (words here) (words there) Shapes Layouts size how e t pc on.1)

  -- THE CODE
  mutual
    pub desig_is : (w : Want) (d : Desig) (pc : ℕ) → DesigRead Shapes Layouts d → desig_code (with_map map m ps vs) w d pc ≡ desig_code (with_map other m ps vs) w d pc
    desig_is w (OfVariable v t) pc on = variable_told map other m Shapes Layouts agree globals ps vs locals w v t on
    desig_is w (Field d owner name t) pc on = join (desig_is want.Place d pc on.0) (cons (ap (λ k. plain op.Offset (count k)) (field_place_told map other m.name Shapes Layouts agree owner name on.1)) (place w t on.2))
    desig_is w (Index d n i at t) pc on =
        join (desig_is (index_want n) d pc on.0)
        (join (after (λ k. expr_is want.Value i k on.1) (desig_end (index_want n) d pc on.0))
        (cons (index_line_told map other m Shapes Layouts agree globals ps vs locals n t at on.3) (place w t on.2)))
    desig_is w (Deref d at t) pc on = join (desig_is want.Value d pc on.0) (from_pointer_told map other m Shapes Layouts agree globals ps vs locals w t at on.1)
    desig_is w (Guard d g target at t) pc on = join (desig_is (guard_want g w) d pc on.0) (cons (guard_told g target at) (from_guard_told map other m Shapes Layouts agree globals ps vs locals g w t on.1))

    pub expr_is : (w : Want) (e : Expr) (pc : ℕ) → ExprRead Shapes Layouts e → expr_code (with_map map m ps vs) w e pc ≡ expr_code (with_map other m ps vs) w e pc
    expr_is w (Constant v) pc on = refl
    expr_is w (ValueOf d) pc on = desig_is w d pc on
    expr_is w (ProcedureValue q signature) pc on = refl
    expr_is w (Monadic o e at) pc on = join (expr_is want.Value e pc on) refl
    expr_is w (Dyadic o a b at) pc on = join (expr_is want.Value a pc on.0) (join (after (λ k. expr_is want.Value b k on.1) (expr_end want.Value a pc on.0)) refl)
    expr_is w (Logical connective.And a b) pc on =
        let e1 = expr_end want.Value a pc on.0 in
        let e2 = after (λ k. expr_end want.Value b (suc k) on.1) e1 in
        join (expr_is want.Value a pc on.0)
        (cons (ap (λ k. jump_if_false (suc k)) e2) (join (after (λ k. expr_is want.Value b (suc k) on.1) e1) (cons (ap (λ k. jump (suc (suc k))) e2) refl)))
    expr_is w (Logical connective.Or a b) pc on =
        let e1 = expr_end want.Value a pc on.0 in
        let e2 = after (λ k. expr_end want.Value b (suc (suc (suc k))) on.1) e1 in
        join (expr_is want.Value a pc on.0)
        (cons (ap (λ k. jump_if_false (suc (suc (suc k)))) e1) (cons refl (cons (ap jump e2) (after (λ k. expr_is want.Value b (suc (suc (suc k))) on.1) e1))))
    expr_is w (CompareTexts r a b at) pc on = join (expr_is want.PlaceAndLength a pc on.0) (join (after (λ k. expr_is want.PlaceAndLength b k on.1) (expr_end want.PlaceAndLength a pc on.0)) refl)
    expr_is w (IsPointer e target) pc on = join (expr_is want.Value e pc on) refl
    expr_is w (IsRecord d target) pc on = join (desig_is want.Tag d pc on) refl
    expr_is w (Length d) pc on = desig_is want.Length d pc on
    expr_is w (Call callee es at t) pc on = join (actuals_is es pc on.0) (cons (call_told map other m Shapes Layouts agree globals ps vs locals callee es at on.1) refl)
    expr_is w (CallVariable d es at t) pc on = join (desig_is want.Value d pc on.0) (join (after (λ k. actuals_is es k on.1) (desig_end want.Value d pc on.0)) refl)

    pub actuals_is : (es : Actuals) (pc : ℕ) → ActualsRead Shapes Layouts es → actuals_code (with_map map m ps vs) es pc ≡ actuals_code (with_map other m ps vs) es pc
    actuals_is NoActual pc on = refl
    actuals_is (AnActual how t e rest) pc on =
        join (expr_is (wanted (words here) how t) e pc on.0 ∙ wanted_code there (words here) (words there) Shapes Layouts size how e t pc on.1)
        (after (λ k. actuals_is rest k on.2) (expr_end (wanted (words here) how t) e pc on.0 ∙ wanted_end there (words here) (words there) Shapes Layouts size how e t pc on.1))
