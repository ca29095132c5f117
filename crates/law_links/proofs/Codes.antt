-- The code of a tree names what the tree names.
use Rattle.std.proofs.Common.{◌≡◌, ℕ, suc, Bool, true, false, List, [], pos, Option, Some, None, refl}
use Rattle.std.specs.Prelude.{if◌then◌else◌, bytes_eq}
use Rattle.std.specs.List.{AllByRecursion}
use Rattle.ob_tree.specs.declared.pos.Pos.{Pos}
use Rattle.ob_tree.specs.declared.names.QName.{QName}
use Rattle.ob_types.specs.declared.types.TypeRef.{TypeRef}
use Rattle.ob_types.specs.declared.desc.Receiver.TheVariants as receiver
use Rattle.ob_types.specs.declared.value.Value.{Value}
use Rattle.ob_types.specs.declared.value.Value.TheVariants as literal
use Rattle.ob_types.specs.declared.typed.Unary.{Unary}
use Rattle.ob_types.specs.declared.typed.Unary.TheVariants as unary
use Rattle.ob_types.specs.declared.typed.Binary.{Binary}
use Rattle.ob_types.specs.declared.typed.Binary.TheVariants as binary
use Rattle.ob_types.specs.declared.typed.Connective.TheVariants as connective
use Rattle.ob_types.specs.declared.typed.Passing.{Passing}
use Rattle.ob_types.specs.declared.typed.Passing.TheVariants as passing
use Rattle.ob_types.specs.declared.typed.Variable.{Variable}
use Rattle.ob_types.specs.declared.typed.Variable.TheVariants as variable
use Rattle.ob_types.specs.declared.typed.Guarded.{Guarded}
use Rattle.ob_types.specs.declared.typed.Guarded.TheVariants as guarded
use Rattle.ob_types.specs.declared.typed.Callee.{Callee}
use Rattle.ob_types.specs.declared.typed.Callee.TheVariants as callee
use Rattle.ob_types.specs.TypedSyntax.{Desig, OfVariable, Field, Index, Deref, Guard, Expr, Constant, ValueOf, ProcedureValue, Monadic, Dyadic, Logical, CompareTexts, IsPointer, IsRecord, Length, Call, CallVariable, Actuals, NoActual, AnActual}
use Rattle.ob_scheme.specs.declared.want.Want.{Want}
use Rattle.ob_scheme.specs.declared.want.Want.TheVariants as want
use Rattle.ob_scheme.specs.Lines.{Operand, Number, StringHere, OtherVariable, OtherProcedure, OtherType, Line}
use Rattle.ob_scheme.specs.Descriptions.{elements_of, own_name}
use Rattle.ob_scheme.specs.Context.{Context, words, type_operand, named_operand, record_operand, parameter_slot, own_types, type_index}
use Rattle.ob_scheme.specs.Operations.{unary_code, binary_line}
use Rattle.ob_scheme.specs.Expressions.{wanted, text_code, constant_code, behind_guard, pair_code, measured_behind, length_operand, index_want, guard_want, from_place, from_pointer, index_line, guard_line, from_guard, parameter_code, module_line, variable_code, procedure_line, declared_line, call_line, end_desig, end_expr, desig_code, expr_code, actuals_code}
use Rattle.ob_scheme.specs.Statements.{is_passed_with_tag, is_tagged_variable}
use Rattle.law_links_names.specs.Trees.{IfOther, VariableNamed, NameNamed, TypeNamed, TagNamed, GuardNamed, CalleeNamed, PassedNamed, DesigNamed, ExprNamed, ActualsNamed}
use Rattle.law_lists.proofs.Lists.{all_both}

module _ (x : Context) (Var Proc Rec : QName → Type 0) where
  abbrev pub OperandOk : Operand → Type 0
  OperandOk (Number z) = Unit {0}
  OperandOk (StringHere text n) = Unit {0}
  OperandOk (OtherVariable m y) = Var (record { «module» = m; object = y })
  OperandOk (OtherProcedure m y) = Proc (record { «module» = m; object = y })
  OperandOk (OtherType own q) = Rec q

  abbrev pub LineOk : Line → Type 0
  LineOk l = OperandOk l.a × OperandOk l.b

  abbrev pub AreOk : List Line → Type 0
  AreOk ls = AllByRecursion LineOk ls

  abbrev Other : (QName → Type 0) → QName → Type 0
  Other P q = IfOther x.types x.unit.name Var Proc Rec P q

  type_if : (b : Bool) (q : QName) (o : Operand) → OperandOk o → (b ≡ false → Rec q) → OperandOk (if b then o else OtherType (own_types x) q)
  type_if true q o h k = h
  type_if false q o h k = k refl

  pub type_ok : (q : QName) → Other Rec q → OperandOk (type_operand x q)
  type_ok q h = type_if (bytes_eq q.«module» x.unit.name) q (Number (pos (type_index x q.object))) tt h

  name_ok : (o : Option QName) → NameNamed x.types x.unit.name Var Proc Rec o → OperandOk (named_operand x o)
  name_ok None h = tt
  name_ok (Some q) h = type_ok q h

  record_ok : (t : TypeRef) → TypeNamed x.types x.unit.name Var Proc Rec t → OperandOk (record_operand x t)
  record_ok t h = name_ok (own_name x.types t) h

  -- ---- small pieces

  -- what is asked where a place is wanted with its tag
  abbrev pub WantOk : Want → Type 0 → Type 0
  WantOk want.PlaceAndTag P = P
  WantOk w P = Unit {0}

  place_ok : (w : Want) (t : TypeRef) → WantOk w (TypeNamed x.types x.unit.name Var Proc Rec t) → AreOk (from_place x w t)
  place_ok want.Value t h = ((tt, tt), tt)
  place_ok want.Place t h = tt
  place_ok (want.Room n) t h = tt
  place_ok want.PlaceAndTag t h = ((record_ok t h, tt), tt)
  place_ok want.Tag t h = tt
  place_ok want.PlaceAndLength t h = ((length_ok (elements_of x.types t), tt), tt)
    where
      length_ok : (o : Option ℕ) → OperandOk (length_operand o)
      length_ok None = tt
      length_ok (Some n) = tt
  place_ok want.Length t h = tt

  measured_ok : (o : Option ℕ) (at : Pos) → AreOk (measured_behind o at)
  measured_ok None at = ((tt, tt), tt)
  measured_ok (Some n) at = ((tt, tt), ((tt, tt), tt))

  pointer_ok : (w : Want) (t : TypeRef) (at : Pos) → AreOk (from_pointer x w t at)
  pointer_ok want.Value t at = ((tt, tt), ((tt, tt), tt))
  pointer_ok want.Place t at = ((tt, tt), tt)
  pointer_ok (want.Room n) t at = ((tt, tt), tt)
  pointer_ok want.PlaceAndTag t at = ((tt, tt), tt)
  pointer_ok want.Tag t at = tt
  pointer_ok want.PlaceAndLength t at = measured_ok (elements_of x.types t) at
  pointer_ok want.Length t at = ((tt, tt), ((tt, tt), ((tt, tt), tt)))

  pair_ok : (k : ℕ) (w : Want) → AreOk (pair_code k w)
  pair_ok k want.Value = ((tt, tt), ((tt, tt), tt))
  pair_ok k want.Place = ((tt, tt), ((tt, tt), tt))
  pair_ok k (want.Room n) = ((tt, tt), ((tt, tt), tt))
  pair_ok k want.PlaceAndTag = ((tt, tt), ((tt, tt), ((tt, tt), ((tt, tt), tt))))
  pair_ok k want.Tag = ((tt, tt), ((tt, tt), tt))
  pair_ok k want.PlaceAndLength = ((tt, tt), ((tt, tt), ((tt, tt), ((tt, tt), tt))))
  pair_ok k want.Length = ((tt, tt), ((tt, tt), tt))

  text_ok : (w : Want) (text : List ℕ) → AreOk (text_code w text)
  text_ok want.Value text = ((tt, tt), tt)
  text_ok want.Place text = ((tt, tt), tt)
  text_ok (want.Room n) text = ((tt, tt), tt)
  text_ok want.PlaceAndTag text = ((tt, tt), tt)
  text_ok want.Tag text = ((tt, tt), tt)
  text_ok want.PlaceAndLength text = ((tt, tt), ((tt, tt), tt))
  text_ok want.Length text = ((tt, tt), tt)

  constant_ok : (w : Want) (v : Value) → AreOk (constant_code w v)
  constant_ok w (literal.Str text) = text_ok w text
  constant_ok w (literal.Bool b) = ((tt, tt), tt)
  constant_ok w (literal.Char c) = ((tt, tt), tt)
  constant_ok w (literal.Int z) = ((tt, tt), tt)
  constant_ok w (literal.Set n) = ((tt, tt), tt)
  constant_ok w literal.Nil = ((tt, tt), tt)

  behind_ok : (w : Want) → AreOk (behind_guard w)
  behind_ok want.Value = tt
  behind_ok want.Place = ((tt, tt), tt)
  behind_ok (want.Room n) = ((tt, tt), tt)
  behind_ok want.PlaceAndTag = tt
  behind_ok want.Tag = tt
  behind_ok want.PlaceAndLength = tt
  behind_ok want.Length = tt

  index_ok : (o : Option ℕ) (t : TypeRef) (at : Pos) → LineOk (index_line x o t at)
  index_ok None t at = (tt, tt)
  index_ok (Some n) t at = (tt, tt)

  unary_ok : (o : Unary) (at : Pos) → AreOk (unary_code o at)
  unary_ok (unary.Negate w) at = ((tt, tt), tt)
  unary_ok unary.Not at = ((tt, tt), tt)
  unary_ok unary.Complement at = ((tt, tt), tt)
  unary_ok (unary.Abs w) at = ((tt, tt), tt)
  unary_ok unary.Cap at = ((tt, tt), tt)
  unary_ok unary.Chr at = ((tt, tt), tt)
  unary_ok (unary.Long w) at = tt
  unary_ok unary.Odd at = ((tt, tt), tt)
  unary_ok unary.Ord at = tt
  unary_ok (unary.Short w) at = ((tt, tt), tt)
  unary_ok unary.Element at = ((tt, tt), tt)

  binary_ok : (o : Binary) (at : Pos) → LineOk (binary_line o at)
  binary_ok (binary.Add w) at = (tt, tt)
  binary_ok (binary.Subtract w) at = (tt, tt)
  binary_ok (binary.Multiply w) at = (tt, tt)
  binary_ok (binary.Quotient w) at = (tt, tt)
  binary_ok (binary.Remainder w) at = (tt, tt)
  binary_ok binary.Union at = (tt, tt)
  binary_ok binary.Difference at = (tt, tt)
  binary_ok binary.Intersection at = (tt, tt)
  binary_ok binary.SymmetricDifference at = (tt, tt)
  binary_ok binary.Range at = (tt, tt)
  binary_ok binary.In at = (tt, tt)
  binary_ok binary.Ash at = (tt, tt)
  binary_ok (binary.Compare r c) at = (tt, tt)

  -- ---- variables and procedures

  line_if : (b : Bool) (l m : Line) → LineOk l → (b ≡ false → LineOk m) → LineOk (if b then l else m)
  line_if true l m h k = h
  line_if false l m h k = k refl

  module_ok : (m y : List ℕ) → Other Var (record { «module» = m; object = y }) → LineOk (module_line x m y)
  module_ok m y h = line_if (bytes_eq m x.unit.name) _ _ (tt, tt) (λ e. (h e, tt))

  procedure_ok : (q : QName) → Other Proc q → LineOk (procedure_line x q)
  procedure_ok q h = line_if (bytes_eq q.«module» x.unit.name) _ _ (tt, tt) (λ e. (h e, tt))

  declared_ok : (q : QName) (at : Pos) → Other Proc q → LineOk (declared_line x q at)
  declared_ok q at h = line_if (bytes_eq q.«module» x.unit.name) _ _ (tt, tt) (λ e. (h e, tt))

  -- a place with its tag, where none is there
  abbrev Untagged : Bool → TypeRef → Type 0
  Untagged b t = b ≡ false → TypeNamed x.types x.unit.name Var Proc Rec t

  plain_want : (w : Want) (t : TypeRef) → WantOk w (Untagged false t) → WantOk w (TypeNamed x.types x.unit.name Var Proc Rec t)
  plain_want want.Value t h = tt
  plain_want want.Place t h = tt
  plain_want (want.Room n) t h = tt
  plain_want want.PlaceAndTag t h = h refl
  plain_want want.Tag t h = tt
  plain_want want.PlaceAndLength t h = tt
  plain_want want.Length t h = tt

  parameter_ok : (how : Passing) (k : ℕ) (w : Want) (t : TypeRef) → WantOk w (Untagged (is_passed_with_tag how) t) → AreOk (parameter_code x how k w t)
  parameter_ok passing.Scalar k w t h = ((tt, tt), place_ok w t (plain_want w t h))
  parameter_ok passing.Structure k w t h = ((tt, tt), ((tt, tt), place_ok w t (plain_want w t h)))
  parameter_ok passing.OpenArray k w t h = pair_ok k w
  parameter_ok passing.Variable k w t h = ((tt, tt), ((tt, tt), place_ok w t (plain_want w t h)))
  parameter_ok passing.VariableRecord k w t h = pair_ok k w
  parameter_ok passing.VariableOpenArray k w t h = pair_ok k w

  pub variable_ok : (w : Want) (v : Variable) (t : TypeRef) → VariableNamed x.types x.unit.name Var Proc Rec v → WantOk w (Untagged (is_tagged_variable v) t) → AreOk (variable_code x w v t)
  variable_ok w (variable.Module m y) t h k = (module_ok m y h, place_ok w t (plain_want w t k))
  variable_ok w (variable.Local y) t h k = ((tt, tt), place_ok w t (plain_want w t k))
  variable_ok w (variable.Parameter how y) t h k = parameter_ok how (parameter_slot x y) w t k

  call_ok : (f : Callee) (es : Actuals) (at : Pos) → CalleeNamed x.types x.unit.name Var Proc Rec f → LineOk (call_line x f es at)
  call_ok (callee.Declared q) es at h = declared_ok q at h
  call_ok (callee.Bound f receiver.Pointer) es at h = (tt, tt)
  call_ok (callee.Bound f receiver.Record) es at h = (tt, tt)
  call_ok (callee.Super base f r) es at h = (type_ok base h, tt)
  call_ok (callee.Out p) es at h = (tt, tt)

  guard_ok : (g : Guarded) (q : QName) (at : Pos) → Other Rec q → LineOk (guard_line x g q at)
  guard_ok guarded.Pointer q at h = (type_ok q h, tt)
  guard_ok guarded.Record q at h = (type_ok q h, tt)

  -- ---- designators and expressions

  abbrev Tag : Desig → Type 0
  Tag d = TagNamed x.types x.unit.name Var Proc Rec d

  -- what a guard wants of what it stands on
  inner_want : (g : Guarded) (w : Want) (d : Desig) → GuardNamed x.types x.unit.name Var Proc Rec g d → WantOk (guard_want g w) (Tag d)
  inner_want guarded.Pointer w d h = tt
  inner_want guarded.Record want.Value d h = h
  inner_want guarded.Record want.Place d h = h
  inner_want guarded.Record (want.Room n) d h = h
  inner_want guarded.Record want.PlaceAndTag d h = h
  inner_want guarded.Record want.Tag d h = tt
  inner_want guarded.Record want.PlaceAndLength d h = h
  inner_want guarded.Record want.Length d h = h

  index_none : (o : Option ℕ) (P : Type 0) → WantOk (index_want o) P
  index_none None P = tt
  index_none (Some n) P = tt

  from_ok : (g : Guarded) (w : Want) (d : Desig) (q : QName) (at : Pos) (t : TypeRef) → WantOk w (Tag (Guard d g q at t)) → AreOk (from_guard x g w t)
  from_ok guarded.Pointer w d q at t h = place_ok w t (plain_want w t h)
  from_ok guarded.Record w d q at t h = behind_ok w

  passed_want : (how : Passing) (t : TypeRef) (d : Desig) → PassedNamed x.types x.unit.name Var Proc Rec how (ValueOf d) → WantOk (wanted (words x) how t) (Tag d)
  passed_want passing.Scalar t d h = tt
  passed_want passing.Structure t d h = tt
  passed_want passing.OpenArray t d h = tt
  passed_want passing.Variable t d h = tt
  passed_want passing.VariableRecord t d h = h
  passed_want passing.VariableOpenArray t d h = tt

  -- a designator where its place is wanted with a tag
  abbrev ValueWant : Want → Expr → Type 0
  ValueWant w (ValueOf d) = WantOk w (Tag d)
  ValueWant w e = Unit {0}

  actual_want : (how : Passing) (t : TypeRef) (e : Expr) → PassedNamed x.types x.unit.name Var Proc Rec how e → ValueWant (wanted (words x) how t) e
  actual_want how t (ValueOf d) h = passed_want how t d h
  actual_want how t (Constant v) h = tt
  actual_want how t (ProcedureValue q s) h = tt
  actual_want how t (Monadic o e at) h = tt
  actual_want how t (Dyadic o a b at) h = tt
  actual_want how t (Logical o a b) h = tt
  actual_want how t (CompareTexts r a b at) h = tt
  actual_want how t (IsPointer e q) h = tt
  actual_want how t (IsRecord d q) h = tt
  actual_want how t (Length d) h = tt
  actual_want how t (Call f es at r) h = tt
  actual_want how t (CallVariable d es at r) h = tt

  pub value_none : (w : Want) (e : Expr) → ((P : Type 0) → WantOk w P) → ValueWant w e
  value_none w (ValueOf d) h = h (Tag d)
  value_none w (Constant v) h = tt
  value_none w (ProcedureValue q s) h = tt
  value_none w (Monadic o e at) h = tt
  value_none w (Dyadic o a b at) h = tt
  value_none w (Logical o a b) h = tt
  value_none w (CompareTexts r a b at) h = tt
  value_none w (IsPointer e q) h = tt
  value_none w (IsRecord d q) h = tt
  value_none w (Length d) h = tt
  value_none w (Call f es at r) h = tt
  value_none w (CallVariable d es at r) h = tt

  mutual
    pub desig_ok : (w : Want) (d : Desig) (pc : ℕ) → DesigNamed x.types x.unit.name Var Proc Rec d → WantOk w (Tag d) → AreOk (desig_code x w d pc)
    desig_ok w (OfVariable v t) pc h k = variable_ok w v t h k
    desig_ok w (Field d owner name t) pc h k = all_both LineOk (desig_code x want.Place d pc) _ (desig_ok want.Place d pc h tt) ((tt, tt), place_ok w t (plain_want w t k))
    desig_ok w (Index d n i at t) pc h k =
        all_both LineOk (desig_code x (index_want n) d pc) _ (desig_ok (index_want n) d pc h.0 (index_none n (Tag d)))
        (all_both LineOk (expr_code x want.Value i (end_desig x (index_want n) d pc)) _ (expr_ok want.Value i (end_desig x (index_want n) d pc) h.1 (value_none want.Value i (λ P. tt))) (index_ok n t at, place_ok w t (plain_want w t k)))
    desig_ok w (Deref d at t) pc h k = all_both LineOk (desig_code x want.Value d pc) _ (desig_ok want.Value d pc h tt) (pointer_ok w t at)
    desig_ok w (Guard d g q at t) pc h k = all_both LineOk (desig_code x (guard_want g w) d pc) _ (desig_ok (guard_want g w) d pc h.0 (inner_want g w d h.2)) (guard_ok g q at h.1, from_ok g w d q at t k)

    pub expr_ok : (w : Want) (e : Expr) (pc : ℕ) → ExprNamed x.types x.unit.name Var Proc Rec e → ValueWant w e → AreOk (expr_code x w e pc)
    expr_ok w (Constant v) pc h k = constant_ok w v
    expr_ok w (ValueOf d) pc h k = desig_ok w d pc h k
    expr_ok w (ProcedureValue q s) pc h k = (procedure_ok q h, tt)
    expr_ok w (Monadic o e at) pc h k = all_both LineOk (expr_code x want.Value e pc) _ (expr_ok want.Value e pc h (value_none want.Value e (λ P. tt))) (unary_ok o at)
    expr_ok w (Dyadic o a b at) pc h k =
        all_both LineOk (expr_code x want.Value a pc) _ (expr_ok want.Value a pc h.0 (value_none want.Value a (λ P. tt)))
        (all_both LineOk (expr_code x want.Value b (end_expr x want.Value a pc)) _ (expr_ok want.Value b (end_expr x want.Value a pc) h.1 (value_none want.Value b (λ P. tt))) (binary_ok o at, tt))
    expr_ok w (Logical connective.And a b) pc h k =
        all_both LineOk (expr_code x want.Value a pc) _ (expr_ok want.Value a pc h.0 (value_none want.Value a (λ P. tt)))
        ((tt, tt), all_both LineOk (expr_code x want.Value b (suc (end_expr x want.Value a pc))) _ (expr_ok want.Value b (suc (end_expr x want.Value a pc)) h.1 (value_none want.Value b (λ P. tt))) ((tt, tt), ((tt, tt), tt)))
    expr_ok w (Logical connective.Or a b) pc h k =
        all_both LineOk (expr_code x want.Value a pc) _ (expr_ok want.Value a pc h.0 (value_none want.Value a (λ P. tt)))
        ((tt, tt), ((tt, tt), ((tt, tt), expr_ok want.Value b (suc (suc (suc (end_expr x want.Value a pc)))) h.1 (value_none want.Value b (λ P. tt)))))
    expr_ok w (CompareTexts r a b at) pc h k =
        all_both LineOk (expr_code x want.PlaceAndLength a pc) _ (expr_ok want.PlaceAndLength a pc h.0 (value_none want.PlaceAndLength a (λ P. tt)))
        (all_both LineOk (expr_code x want.PlaceAndLength b (end_expr x want.PlaceAndLength a pc)) _ (expr_ok want.PlaceAndLength b (end_expr x want.PlaceAndLength a pc) h.1 (value_none want.PlaceAndLength b (λ P. tt))) ((tt, tt), tt))
    expr_ok w (IsPointer e q) pc h k = all_both LineOk (expr_code x want.Value e pc) _ (expr_ok want.Value e pc h.0 (value_none want.Value e (λ P. tt))) ((type_ok q h.1, tt), tt)
    expr_ok w (IsRecord d q) pc h k = all_both LineOk (desig_code x want.Tag d pc) _ (desig_ok want.Tag d pc h.0 tt) ((type_ok q h.1, tt), tt)
    expr_ok w (Length d) pc h k = desig_ok want.Length d pc h tt
    expr_ok w (Call f es at r) pc h k = all_both LineOk (actuals_code x es pc) _ (actuals_ok es pc h.1) (call_ok f es at h.0, tt)
    expr_ok w (CallVariable d es at r) pc h k =
        all_both LineOk (desig_code x want.Value d pc) _ (desig_ok want.Value d pc h.0 tt)
        (all_both LineOk (actuals_code x es (end_desig x want.Value d pc)) _ (actuals_ok es (end_desig x want.Value d pc) h.1) ((tt, tt), tt))

    pub actuals_ok : (es : Actuals) (pc : ℕ) → ActualsNamed x.types x.unit.name Var Proc Rec es → AreOk (actuals_code x es pc)
    actuals_ok NoActual pc h = tt
    actuals_ok (AnActual how t e rest) pc h =
        all_both LineOk (expr_code x (wanted (words x) how t) e pc) _ (expr_ok (wanted (words x) how t) e pc h.0 (actual_want how t e h.1)) (actuals_ok rest (end_expr x (wanted (words x) how t) e pc) h.2)
