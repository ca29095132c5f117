-- Well typed designators, expressions and actual parameters are in the slice.
use Rattle.std.proofs.Common.{◌≡◌, ◌⊎◌, ⊎_elim, refl, sym, ap, ◌∙◌, subst, ℕ, List, [], ◌∷◌, Option, Some, None}
use Rattle.ob_tree.specs.declared.names.QName.{QName}
use Rattle.ob_types.specs.declared.types.Mode.{Mode}
use Rattle.ob_types.specs.declared.types.TypeRef.{TypeRef}
use Rattle.ob_types.specs.declared.value.Value.TheVariants as literal
use Rattle.ob_types.specs.declared.typed.Passing.{Passing}
use Rattle.ob_types.specs.declared.typed.Passing.TheVariants as passing
use Rattle.ob_types.specs.declared.typed.Guarded.TheVariants as guarded
use Rattle.ob_types.specs.declared.typed.Callee.TheVariants as callee
use Rattle.ob_types.specs.declared.typed.TypedParameter.{TypedParameter}
use Rattle.ob_types.specs.TypedSyntax.{Desig, OfVariable, Field, Index, Deref, Guard, Expr, Constant, ValueOf, ProcedureValue, Monadic, Dyadic, Logical, CompareTexts, IsPointer, IsRecord, Length, Call, CallVariable, Actuals, NoActual, AnActual}
use Rattle.ob_types.specs.TypedKinds.{variable_type}
use Rattle.ob_meaning.specs.Values.{Program, Form, BasicForm, PointerForm, ProcedureForm, ArrayForm, OpenForm, RecordForm, form_in, record_in, Held, Formals, formals_in}
use Rattle.law_simulation_relation.specs.Relation.{Scalar, IsStructure}
use Rattle.law_simulation_relation.specs.Passed.{passing_for, IsClosed, IsUnguarded}
use Rattle.law_simulation_relation.specs.Typed as typed
use Rattle.law_simulation_relation.specs.Typed.{boolean, longint, IsRecordForm, IsRecordType, TestOk, IsArrayOf}
use Rattle.law_simulation_relation.proofs.Passings.{structure_is}
use Rattle.law_simulation.specs.Slice.{InDesig, InHolder, InTagged, InOpen, InArray, InExpr, InText, InActuals}
use Rattle.law_simulation.proofs.Forms.{IsArrayForm, IsPointerForm, tagged_variable, array_variable, open_variable, record_above, no_pointer, structure_no_pointer}

module _ (program : Program) (Has : Formals → QName → Type 0) (unit : List ℕ) (held : List Held) (result : Option TypeRef) where
  abbrev pub Ok : Desig → Type 0
  Ok d = typed.DesigOk program Has unit held result d

  abbrev pub T : Desig → Form
  T d = form_in program (variable_type d)

  -- GUARDS

  -- what is no pointer is no guarded pointer
  pub unguarded : (d : Desig) → Ok d → (IsPointerForm (T d) → ⊥) → IsUnguarded d
  unguarded (OfVariable v t) h n = tt
  unguarded (Field d o x t) h n = tt
  unguarded (Index d l i at t) h n = tt
  unguarded (Deref d at t) h n = tt
  unguarded (Guard d guarded.Record q at t) h n = tt
  unguarded (Guard d guarded.Pointer q at t) h n = absurd (n (subst IsPointerForm (sym h.1.0.1) tt))

  same_base : (r s : TypeRef) → PointerForm r ≡ PointerForm s → r ≡ s
  same_base r s e = cc

  array_no_record : (t : Form) → IsArrayForm t → IsRecordForm t → ⊥
  array_no_record (ArrayForm n t) a r = absurd cc
  array_no_record (OpenForm t) a r = absurd cc
  array_no_record (BasicForm b) a r = a
  array_no_record (PointerForm t) a r = a
  array_no_record (ProcedureForm s) a r = a
  array_no_record (RecordForm line fs) a r = a

  record_of : (q : QName) → IsRecordType program q → IsRecordForm (record_in program q)
  record_of q h = (q ∷ h.0, h.1)

  -- a guarded pointer points to a record
  pub unguarded_base : (d : Desig) (r : TypeRef) → Ok d → T d ≡ PointerForm r → IsArrayForm (form_in program r) → IsUnguarded d
  unguarded_base (OfVariable v t) r h e a = tt
  unguarded_base (Field d o x t) r h e a = tt
  unguarded_base (Index d l i at t) r h e a = tt
  unguarded_base (Deref d at t) r h e a = tt
  unguarded_base (Guard d guarded.Record q at t) r h e a = tt
  unguarded_base (Guard d guarded.Pointer q at t) r h e a =
      let same : r ≡ h.1.0.0 = same_base r h.1.0.0 (sym e ∙ h.1.0.1) in
      let is : form_in program r ≡ record_in program q = ap (form_in program) same ∙ h.1.0.2 in
      absurd (array_no_record (record_in program q) (subst IsArrayForm is a) (record_of q h.1.1.2.0))

  tested : (q : QName) (t : Form) → TestOk program q t → IsRecordForm t
  tested q t h = record_above (record_in program q) t h.1 (record_of q h.0)

  -- KINDS OF FORMS

  pub array_no_pointer : (t : Form) → IsArrayForm t → IsPointerForm t → ⊥
  array_no_pointer (PointerForm t) a p = a
  array_no_pointer (BasicForm b) a p = p
  array_no_pointer (ProcedureForm s) a p = p
  array_no_pointer (ArrayForm n t) a p = p
  array_no_pointer (OpenForm t) a p = p
  array_no_pointer (RecordForm line fs) a p = p

  pub record_no_pointer : (t : Form) → IsRecordForm t → IsPointerForm t → ⊥
  record_no_pointer (PointerForm t) r p = absurd cc
  record_no_pointer (BasicForm b) r p = p
  record_no_pointer (ProcedureForm s) r p = p
  record_no_pointer (ArrayForm n t) r p = p
  record_no_pointer (OpenForm t) r p = p
  record_no_pointer (RecordForm line fs) r p = p

  record_no_scalar : (t : Form) → IsRecordForm t → Scalar t → ⊥
  record_no_scalar (BasicForm b) r s = absurd cc
  record_no_scalar (PointerForm t) r s = absurd cc
  record_no_scalar (ProcedureForm g) r s = absurd cc
  record_no_scalar (ArrayForm n t) r s = s
  record_no_scalar (OpenForm t) r s = s
  record_no_scalar (RecordForm line fs) r s = s

  -- of an array
  pub of_length : (t : Form) (n : ℕ) (u : Form) → t ≡ ArrayForm n u → IsArrayForm t
  of_length t n u e = subst IsArrayForm (sym e) tt

  pub of_any : (t u : Form) → t ≡ OpenForm u → IsArrayForm t
  of_any t u e = subst IsArrayForm (sym e) tt

  pub array_of : (t u : Form) → IsArrayOf t u → IsArrayForm t
  array_of t u h = ⊎_elim (λ e. of_any t u e) (λ k. of_length t k.0 u k.1) h

  pub text_array : (t : Form) → typed.IsText program Has unit held result t → IsArrayForm t
  text_array (ArrayForm n t) h = tt
  text_array (OpenForm t) h = tt
  text_array (BasicForm b) h = absurd h
  text_array (PointerForm t) h = absurd h
  text_array (ProcedureForm s) h = absurd h
  text_array (RecordForm line fs) h = absurd h

  pub of_pointer : (t : Form) (r : TypeRef) → t ≡ PointerForm r → Scalar t
  of_pointer t r e = subst Scalar (sym e) tt

  pub of_procedure : (t : Form) (fs : Formals) → t ≡ ProcedureForm fs → Scalar t
  of_procedure t s e = subst Scalar (sym e) tt

  of_record : (d : Desig) → Ok d → IsRecordForm (T d) → IsUnguarded d
  of_record d h r = unguarded d h (record_no_pointer (T d) r)

  pub of_array : (d : Desig) (n : ℕ) (u : Form) → Ok d → T d ≡ ArrayForm n u → IsUnguarded d
  of_array d n u h e = unguarded d h (array_no_pointer (T d) (of_length (T d) n u e))

  -- PARAMETERS

  abbrev Passes : Passing → Expr → Form → Type 0
  Passes how x u = typed.ByPassing how (typed.ExprOk program Has unit held result x u × Scalar u) (typed.StructureOk program Has unit held result x u) (typed.ArrayOk program Has unit held result x u) (typed.ReferredOk program Has unit held result x u) (typed.RecordOk program Has unit held result x u) (typed.VariableArrayOk program Has unit held result x u)

  -- each fits a form, which is that of a structure where it is passed as one
  abbrev pub AreFormed : Actuals → Type 0
  AreFormed NoActual = Unit {0}
  AreFormed (AnActual how t x rest) = (u : Form) × (how ≡ passing.Structure → IsStructure u) × Passes how x u × AreFormed rest

  formal_structure : (how : Passing) (t u : TypeRef) → how ≡ passing.Structure → typed.IsFormal program how t u → IsStructure (form_in program u)
  formal_structure passing.Structure t u e h = h.1
  formal_structure passing.Scalar t u e h = absurd cc
  formal_structure passing.OpenArray t u e h = absurd cc
  formal_structure passing.Variable t u e h = absurd cc
  formal_structure passing.VariableRecord t u e h = absurd cc
  formal_structure passing.VariableOpenArray t u e h = absurd cc

  passed_structure : (m : Mode) (t u : Form) → passing.Structure ≡ passing_for m u → t ≡ u → IsStructure t
  passed_structure m t u e f = subst IsStructure (sym f) (structure_is m u e)

  pub formed_actuals : (es : Actuals) (ps : List TypedParameter) → typed.ActualsOk program Has unit held result es ps → AreFormed es
  formed_actuals NoActual ps h = tt
  formed_actuals (AnActual how t x rest) [] h = absurd h
  formed_actuals (AnActual how t x rest) (p ∷ ps) h = (form_in program p.of, λ e. formal_structure how t p.of e h.1.0, h.1.1.0, formed_actuals rest ps h.1.1.1)

  pub formed_signature : (es : Actuals) (ps : List (Mode × TypeRef)) → typed.SignatureOk program Has unit held result es ps → AreFormed es
  formed_signature NoActual ps h = tt
  formed_signature (AnActual how t x rest) [] h = absurd h
  formed_signature (AnActual how t x rest) (p ∷ ps) h = (form_in program t, λ e. passed_structure p.0 (form_in program t) (form_in program p.1) (sym e ∙ h.0) h.1.0, h.1.1.0, formed_signature rest ps h.1.1.1)

  mutual
    pub in_desig : (d : Desig) → Ok d → IsUnguarded d → InDesig d
    in_desig (OfVariable v t) h g = tt
    in_desig (Field d o x t) h g = in_desig d h.0 (of_record d h.0 (h.1.0, h.1.1))
    in_desig (Index d (Some n) i at t) h g = (in_desig d h.0 (of_array d n (form_in program t) h.0 h.1.1), in_expr i longint h.1.0)
    in_desig (Index d None i at t) h g = (in_open d (form_in program t) h.0 h.1.1, in_expr i longint h.1.0)
    in_desig (Deref d at t) h g = in_holder d h.0 (of_pointer (T d) h.1.0 h.1.1)
    in_desig (Guard d guarded.Pointer q at t) h g = absurd g
    in_desig (Guard d guarded.Record q at t) h g = in_tagged d h.0 (tested q (T d) h.1.1)

    pub in_holder : (d : Desig) → Ok d → Scalar (T d) → InHolder d
    in_holder (OfVariable v t) h s = tt
    in_holder (Field d o x t) h s = in_desig d h.0 (of_record d h.0 (h.1.0, h.1.1))
    in_holder (Index d (Some n) i at t) h s = (in_desig d h.0 (of_array d n (form_in program t) h.0 h.1.1), in_expr i longint h.1.0)
    in_holder (Index d None i at t) h s = (in_open d (form_in program t) h.0 h.1.1, in_expr i longint h.1.0)
    in_holder (Deref d at t) h s = in_holder d h.0 (of_pointer (T d) h.1.0 h.1.1)
    in_holder (Guard d guarded.Pointer q at t) h s = in_holder d h.0 (of_pointer (T d) h.1.1.0 h.1.1.1)
    in_holder (Guard d guarded.Record q at t) h s = absurd (record_no_scalar (record_in program q) (record_of q h.1.1.0) (subst Scalar h.1.0 s))

    pub in_tagged : (d : Desig) → Ok d → IsRecordForm (T d) → InTagged d
    in_tagged (OfVariable v t) h r = tagged_variable v (form_in program t) h.1 r
    in_tagged (Field d o x t) h r = in_desig d h.0 (of_record d h.0 (h.1.0, h.1.1))
    in_tagged (Index d (Some n) i at t) h r = (in_desig d h.0 (of_array d n (form_in program t) h.0 h.1.1), in_expr i longint h.1.0)
    in_tagged (Index d None i at t) h r = (in_open d (form_in program t) h.0 h.1.1, in_expr i longint h.1.0)
    in_tagged (Deref d at t) h r = in_holder d h.0 (of_pointer (T d) h.1.0 h.1.1)
    in_tagged (Guard d guarded.Pointer q at t) h r = absurd (record_no_pointer (form_in program t) r (subst IsPointerForm (sym h.1.0.1) tt))
    in_tagged (Guard d guarded.Record q at t) h r = in_tagged d h.0 (tested q (T d) h.1.1)

    pub in_open : (d : Desig) (u : Form) → Ok d → T d ≡ OpenForm u → InOpen d
    in_open (OfVariable v t) u h e = open_variable v t (form_in program t) u h.1 e
    in_open (Field d o x t) u h e = absurd (subst IsClosed e h.2)
    in_open (Index d (Some n) i at t) u h e = absurd (subst IsClosed e h.1.2)
    in_open (Index d None i at t) u h e = absurd (subst IsClosed e h.1.2)
    in_open (Deref d at t) u h e = in_desig d h.0 (unguarded_base d h.1.0 h.0 h.1.1 (of_any (form_in program h.1.0) u (h.1.2 ∙ e)))
    in_open (Guard d guarded.Pointer q at t) u h e = absurd (array_no_pointer (form_in program t) (of_any (form_in program t) u e) (subst IsPointerForm (sym h.1.0.1) tt))
    in_open (Guard d guarded.Record q at t) u h e = absurd (array_no_record (form_in program t) (of_any (form_in program t) u e) (subst IsRecordForm (sym h.1.0) (record_of q h.1.1.0)))

    pub in_array : (d : Desig) → Ok d → IsArrayForm (T d) → InArray d
    in_array (OfVariable v t) h a = array_variable v (form_in program t) h.1 a
    in_array (Field d o x t) h a = in_desig d h.0 (of_record d h.0 (h.1.0, h.1.1))
    in_array (Index d (Some n) i at t) h a = (in_desig d h.0 (of_array d n (form_in program t) h.0 h.1.1), in_expr i longint h.1.0)
    in_array (Index d None i at t) h a = (in_open d (form_in program t) h.0 h.1.1, in_expr i longint h.1.0)
    in_array (Deref d at t) h a = in_desig d h.0 (unguarded_base d h.1.0 h.0 h.1.1 (subst IsArrayForm (sym h.1.2) a))
    in_array (Guard d guarded.Pointer q at t) h a = absurd (array_no_pointer (form_in program t) a (subst IsPointerForm (sym h.1.0.1) tt))
    in_array (Guard d guarded.Record q at t) h a = absurd (array_no_record (form_in program t) a (subst IsRecordForm (sym h.1.0) (record_of q h.1.1.0)))

    pub in_expr : (x : Expr) (t : Form) → typed.ExprOk program Has unit held result x t → InExpr x
    in_expr (Constant c) t h = tt
    in_expr (ValueOf d) t h = in_holder d h.0 h.1.0
    in_expr (ProcedureValue q s) t h = tt
    in_expr (Monadic o x at) t h = in_expr x _ h.0
    in_expr (Dyadic o x y at) t h = (in_expr x h.0 h.4, in_expr y h.1 h.5)
    in_expr (Logical o x y) t h = (in_expr x boolean h.0, in_expr y boolean h.1.0)
    in_expr (CompareTexts r x y at) t h = (in_text x h.0, in_text y h.1.0)
    in_expr (IsPointer x q) t h = in_expr x (PointerForm h.0.0) h.0.1
    in_expr (IsRecord d q) t h = tt
    in_expr (Length d) t h = in_open d h.1.0.0 h.0 h.1.0.1
    in_expr (Call (callee.Declared q) es at r) t h = in_formed es (formed_actuals es h.0.0.parameters h.0.3)
    in_expr (Call (callee.Bound f k) es at r) t h = in_formed es (formed_actuals es h.0.2.parameters h.0.8)
    in_expr (Call (callee.Super base f k) es at r) t h = in_formed es (formed_actuals es h.0.1.parameters h.0.6)
    in_expr (Call (callee.Out o) es at r) t h = absurd (subst (λ z. typed.ResultOk program Has unit held result z t) h.0.0 h.1)
    in_expr (CallVariable d es at r) t h = (in_holder d h.0.0 (of_procedure (T d) (formals_in program h.0.1.0) h.0.1.1), in_formed es (formed_signature es h.0.1.0.params h.0.1.3))

    pub in_text : (x : Expr) → typed.TextOk program Has unit held result x → InText x
    in_text (Constant (literal.Str text)) h = tt
    in_text (ValueOf d) h = in_array d h.0 (text_array (T d) h.1)
    in_text (Constant (literal.Bool b)) h = absurd h
    in_text (Constant (literal.Char c)) h = absurd h
    in_text (Constant (literal.Int z)) h = absurd h
    in_text (Constant (literal.Set n)) h = absurd h
    in_text (Constant literal.Nil) h = absurd h
    in_text (ProcedureValue q s) h = absurd h
    in_text (Monadic o x at) h = absurd h
    in_text (Dyadic o x y at) h = absurd h
    in_text (Logical o x y) h = absurd h
    in_text (CompareTexts r x y at) h = absurd h
    in_text (IsPointer x q) h = absurd h
    in_text (IsRecord d q) h = absurd h
    in_text (Length d) h = absurd h
    in_text (Call f es at r) h = absurd h
    in_text (CallVariable d es at r) h = absurd h

    pub in_formed : (es : Actuals) → AreFormed es → InActuals es
    in_formed NoActual h = tt
    in_formed (AnActual passing.Scalar t x rest) h = (in_expr x h.0 h.2.0, in_formed rest h.3)
    in_formed (AnActual passing.Structure t (ValueOf d) rest) h = (in_desig d h.2.0 (unguarded d h.2.0 (no_pointer (T d) h.0 h.2.1 (structure_no_pointer h.0 (h.1 refl)))), in_formed rest h.3)
    in_formed (AnActual passing.Structure t (Constant (literal.Str text)) rest) h = in_formed rest h.3
    in_formed (AnActual passing.OpenArray t (ValueOf d) rest) h = (in_array d h.2.0 (array_of (T d) h.2.1.0 h.2.1.2), in_formed rest h.3)
    in_formed (AnActual passing.OpenArray t (Constant (literal.Str text)) rest) h = in_formed rest h.3
    in_formed (AnActual passing.Variable t (ValueOf d) rest) h = (in_desig d h.2.0 h.2.2, in_formed rest h.3)
    in_formed (AnActual passing.VariableRecord t (ValueOf d) rest) h = (in_tagged d h.2.0 h.2.1.0, in_formed rest h.3)
    in_formed (AnActual passing.VariableOpenArray t (ValueOf d) rest) h = (in_array d h.2.0 (array_of (T d) h.2.1.0 h.2.1.2), in_formed rest h.3)
    in_formed (AnActual how t x rest) h = absurd h.2
