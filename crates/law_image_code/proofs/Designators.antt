-- Well typed designators, expressions and actual parameters give what is wanted of them.
use Rattle.std.proofs.Common.{◌≡◌, sym, subst, ℕ, List, ◌∷◌, Option, Some, None, Bool}
use Rattle.ob_tree.specs.declared.names.QName.{QName}
use Rattle.ob_types.specs.declared.types.TypeRef.{TypeRef}
use Rattle.ob_types.specs.declared.value.Value.{Value as Literal}
use Rattle.ob_types.specs.declared.value.Value.TheVariants as literal
use Rattle.ob_types.specs.declared.typed.Passing.TheVariants as passing
use Rattle.ob_types.specs.declared.typed.Guarded.TheVariants as guarded
use Rattle.ob_types.specs.declared.typed.Callee.TheVariants as callee
use Rattle.ob_types.specs.TypedSyntax.{Desig, OfVariable, Field, Index, Deref, Guard, Expr, Constant, ValueOf, ProcedureValue, Monadic, Dyadic, Logical, CompareTexts, IsPointer, IsRecord, Length, Call, CallVariable, Actuals, NoActual, AnActual}
use Rattle.ob_types.specs.TypedKinds.{variable_type}
use Rattle.ob_meaning.specs.Values.{Program, Form, OpenForm, record_in, form_in, Held, Formals, formals_in}
use Rattle.ob_scheme.specs.declared.want.Want.{Want}
use Rattle.ob_scheme.specs.declared.want.Want.TheVariants as want
use Rattle.ob_scheme.specs.Context.{Context, words}
use Rattle.ob_scheme.specs.Expressions.{under_guard}
use Rattle.law_simulation_relation.specs.Passed.{IsOpen}
use Rattle.law_simulation_relation.specs.Typed as typed
use Rattle.law_simulation_relation.specs.Typed.{boolean, longint, IsRecordForm, IsRecordType, TestOk}
use Rattle.law_image_code.specs.Fits.{HasResult, ConstantGives, DesigFits, ExprFits, ActualsFit}
use Rattle.law_simulation.proofs.Forms.{IsPointerForm, record_above}
use Rattle.law_simulation.proofs.Designators.{Ok, AreFormed, formed_actuals, formed_signature, array_of, text_array, of_pointer, of_procedure, of_any}
use Rattle.law_image_code.specs.There.{DesigThere, ExprThere, ActualsThere}
use Rattle.law_image_code.specs.Laws.{Having, NamesStand}
use Rattle.law_image_code.proofs.Wants.{Need, plain_need, place_gives, pointer_gives, variable_gives, pointer_guard_gives, record_guard_gives, below_guard}

module _ (program : Program) (has : Formals → QName → Bool) (c : Context) (names : NamesStand program has c) (unit : List ℕ) (held : List Held) (result : Option TypeRef) where
  abbrev pub Fine : Desig → Type 0
  Fine d = Ok program (Having has) unit held result d

  abbrev pub F : Desig → Form
  F d = form_in program (variable_type d)

  abbrev N : Want → Desig → Type 0
  N w d = Need program w d

  tested : (q : QName) (t : Form) → TestOk program q t → IsRecordForm t
  tested q t h = record_above (record_in program q) t h.1 (q ∷ h.0.0, h.0.1)

  built : (q : QName) (t : Form) → t ≡ record_in program q → IsRecordType program q → IsRecordForm t
  built q t e r = subst IsRecordForm (sym e) (q ∷ r.0, r.1)

  constant_gives : (v : Literal) (t : Form) → typed.ConstantOk program (Having has) unit held result v t → ConstantGives want.Value v
  constant_gives (literal.Str text) t h = h
  constant_gives (literal.Set n) t h = h.0
  constant_gives (literal.Bool b) t h = tt
  constant_gives (literal.Char z) t h = tt
  constant_gives (literal.Int z) t h = tt
  constant_gives literal.Nil t h = tt

  has_result : (r : Option TypeRef) (t : Form) → typed.ResultOk program (Having has) unit held result r t → HasResult r
  has_result None t h = h
  has_result (Some u) t h = tt

  is_open : (t u : Form) → t ≡ OpenForm u → IsOpen t
  is_open t u e = subst IsOpen (sym e) tt

  mutual
    pub fit_desig : (w : Want) (d : Desig) → Fine d → DesigThere c d → N w d → DesigFits program c w d
    fit_desig w (OfVariable v t) h k n = (k, variable_gives program c names.named w v t h.1 n)
    fit_desig w (Field d o x t) h k n = (fit_desig want.Place d h.0 k tt, (names.fields (variable_type d) o x h.1.2, place_gives program c names.named w t h.2 (plain_need program w (Field d o x t) (λ z. z) n)))
    fit_desig w (Index d (Some l) i at t) h k n = (fit_desig want.Place d h.0 k.0 tt, (fit_expr i longint h.1.0 k.1, place_gives program c names.named w t h.1.2 (plain_need program w (Index d (Some l) i at t) (λ z. z) n)))
    fit_desig w (Index d None i at t) h k n = (fit_desig want.PlaceAndLength d h.0 k.0 (of_any program (Having has) unit held result (F d) (form_in program t) h.1.1), ((form_in program t, h.1.1), (fit_expr i longint h.1.0 k.1, place_gives program c names.named w t h.1.2 (plain_need program w (Index d None i at t) (λ z. z) n))))
    fit_desig w (Deref d at t) h k n = (fit_desig want.Value d h.0 k (of_pointer program (Having has) unit held result (F d) h.1.0 h.1.1), pointer_gives program c names.named w t (plain_need program w (Deref d at t) (λ z. z) n))
    fit_desig w (Guard d guarded.Pointer q at t) h k n = (fit_desig want.Place d h.0 k tt, (names.known q h.1.1.2.0, pointer_guard_gives program c names.named w d q at t (subst IsPointerForm (sym h.1.0.1) tt) n))
    fit_desig w (Guard d guarded.Record q at t) h k n = (fit_desig (under_guard w) d h.0 k (below_guard program c names.named w d q at t (tested q (F d) h.1.1) n), (names.known q h.1.1.0, record_guard_gives program c names.named w d q at t (built q (form_in program t) h.1.0 h.1.1.0) n))

    pub fit_expr : (x : Expr) (t : Form) → typed.ExprOk program (Having has) unit held result x t → ExprThere c x → ExprFits program c want.Value x
    fit_expr (Constant v) t h k = constant_gives v t h
    fit_expr (ValueOf d) t h k = (tt, fit_desig want.Value d h.0 k h.1.0)
    fit_expr (ProcedureValue q s) t h k = (tt, names.values h.0 q h.2)
    fit_expr (Monadic o x at) t h k = (tt, fit_expr x _ h.0 k)
    fit_expr (Dyadic o x y at) t h k = (tt, (fit_expr x h.0 h.4 k.0, fit_expr y h.1 h.5 k.1))
    fit_expr (Logical o x y) t h k = (tt, (fit_expr x boolean h.0 k.0, fit_expr y boolean h.1.0 k.1))
    fit_expr (CompareTexts r x y at) t h k = (tt, (fit_text x h.0 k.0, fit_text y h.1.0 k.1))
    fit_expr (IsPointer x q) t h k = (tt, (fit_expr x _ h.0.1 k, names.known q h.0.2.0))
    fit_expr (IsRecord d q) t h k = (tt, (fit_desig want.Tag d h.0 k h.1.0, names.known q h.1.1.0.0))
    fit_expr (Length d) t h k = (tt, fit_desig want.Length d h.0 k (is_open (F d) h.1.0.0 h.1.0.1))
    fit_expr (Call (callee.Declared q) es at r) t h k = (tt, (has_result r t h.1, (fit_formed es (formed_actuals program (Having has) unit held result es h.0.0.parameters h.0.3) k, names.procedures q h.0.0 h.0.1)))
    fit_expr (Call (callee.Bound f g) es at r) t h k = (tt, (has_result r t h.1, (fit_formed es (formed_actuals program (Having has) unit held result es h.0.2.parameters h.0.8) k, tt)))
    fit_expr (Call (callee.Super base f g) es at r) t h k = (tt, (has_result r t h.1, (fit_formed es (formed_actuals program (Having has) unit held result es h.0.1.parameters h.0.6) k, names.known base h.0.2)))
    fit_expr (Call (callee.Out o) es at r) t h k = absurd (subst (λ z. typed.ResultOk program (Having has) unit held result z t) h.0.0 h.1)
    fit_expr (CallVariable d es at r) t h k = (tt, (fit_desig want.Value d h.0.0 k.0 (of_procedure program (Having has) unit held result (F d) (formals_in program h.0.1.0) h.0.1.1), fit_formed es (formed_signature program (Having has) unit held result es h.0.1.0.params h.0.1.3) k.1))

    pub fit_text : (x : Expr) → typed.TextOk program (Having has) unit held result x → ExprThere c x → ExprFits program c want.PlaceAndLength x
    fit_text (Constant (literal.Str text)) h k = tt
    fit_text (ValueOf d) h k = (tt, fit_desig want.PlaceAndLength d h.0 k (text_array program (Having has) unit held result (F d) h.1))
    fit_text (Constant (literal.Bool b)) h k = absurd h
    fit_text (Constant (literal.Char z)) h k = absurd h
    fit_text (Constant (literal.Int z)) h k = absurd h
    fit_text (Constant (literal.Set n)) h k = absurd h
    fit_text (Constant literal.Nil) h k = absurd h
    fit_text (ProcedureValue q s) h k = absurd h
    fit_text (Monadic o x at) h k = absurd h
    fit_text (Dyadic o x y at) h k = absurd h
    fit_text (Logical o x y) h k = absurd h
    fit_text (CompareTexts r x y at) h k = absurd h
    fit_text (IsPointer x q) h k = absurd h
    fit_text (IsRecord d q) h k = absurd h
    fit_text (Length d) h k = absurd h
    fit_text (Call f es at r) h k = absurd h
    fit_text (CallVariable d es at r) h k = absurd h

    pub fit_formed : (es : Actuals) → AreFormed program (Having has) unit held result es → ActualsThere c es → ActualsFit program c es
    fit_formed NoActual h k = tt
    fit_formed (AnActual passing.Scalar t x rest) h k = (fit_expr x h.0 h.2.0 k.0, fit_formed rest h.3 k.1)
    fit_formed (AnActual passing.Structure t (ValueOf d) rest) h k = ((tt, fit_desig (want.Room (words c t)) d h.2.0 k.0 tt), fit_formed rest h.3 k.1)
    fit_formed (AnActual passing.Structure t (Constant (literal.Str text)) rest) h k = (tt, fit_formed rest h.3 k.1)
    fit_formed (AnActual passing.OpenArray t (ValueOf d) rest) h k = ((tt, fit_desig want.PlaceAndLength d h.2.0 k.0 (array_of program (Having has) unit held result (F d) h.2.1.0 h.2.1.2)), fit_formed rest h.3 k.1)
    fit_formed (AnActual passing.OpenArray t (Constant (literal.Str text)) rest) h k = (tt, fit_formed rest h.3 k.1)
    fit_formed (AnActual passing.Variable t (ValueOf d) rest) h k = ((tt, fit_desig want.Place d h.2.0 k.0 tt), fit_formed rest h.3 k.1)
    fit_formed (AnActual passing.VariableRecord t (ValueOf d) rest) h k = ((tt, fit_desig want.PlaceAndTag d h.2.0 k.0 h.2.1.0), fit_formed rest h.3 k.1)
    fit_formed (AnActual passing.VariableOpenArray t (ValueOf d) rest) h k = ((tt, fit_desig want.PlaceAndLength d h.2.0 k.0 (array_of program (Having has) unit held result (F d) h.2.1.0 h.2.1.2)), fit_formed rest h.3 k.1)
    fit_formed (AnActual how t x rest) h k = absurd h.2

  pub fit_out : (es : Actuals) → typed.OutOk program (Having has) unit held result es → ActualsThere c es → ActualsFit program c es
  fit_out NoActual h k = tt
  fit_out (AnActual passing.Scalar t x rest) h k = (fit_expr x (form_in program t) h.0 k.0, fit_out rest h.1 k.1)
  fit_out (AnActual passing.OpenArray t x rest) h k = (fit_text x h.0 k.0, fit_out rest h.1 k.1)
  fit_out (AnActual passing.Structure t x rest) h k = absurd h
  fit_out (AnActual passing.Variable t x rest) h k = absurd h
  fit_out (AnActual passing.VariableRecord t x rest) h k = absurd h
  fit_out (AnActual passing.VariableOpenArray t x rest) h k = absurd h
