-- Actual parameters that keep the rules fit their formal ones.
use Rattle.std.proofs.Common.{◌≡◌, inl, inr, ⊎_elim, refl, sym, ap, ◌∙◌, subst, ℕ, suc, List, [], ◌∷◌, length, Option, Some, None, Bool, true, false, not, arith}
use Rattle.std.specs.Prelude.{◌&&◌, is_some}
use Rattle.ob_tree.specs.declared.pos.Pos.{Pos}
use Rattle.ob_tree.specs.declared.names.QName.{QName}
use Rattle.ob_types.specs.declared.types.Basic.TheVariants as basic
use Rattle.ob_types.specs.declared.types.Mode.{Mode}
use Rattle.ob_types.specs.declared.types.Mode.TheVariants as mode
use Rattle.ob_types.specs.declared.types.TypeRef.{TypeRef}
use Rattle.ob_types.specs.declared.types.TypeRef.TheVariants as ref
use Rattle.ob_types.specs.declared.desc.Desc.{Desc}
use Rattle.ob_types.specs.declared.desc.Desc.TheVariants as desc
use Rattle.ob_types.specs.declared.value.Value.TheVariants as literal
use Rattle.ob_types.specs.declared.typed.Passing.{Passing}
use Rattle.ob_types.specs.declared.typed.Passing.TheVariants as passing
use Rattle.ob_types.specs.declared.typed.Actual.{Actual}
use Rattle.ob_types.specs.declared.typed.TypedExpr.{TypedExpr}
use Rattle.ob_types.specs.declared.typed.TypedExpr.TheVariants as e
use Rattle.ob_types.specs.declared.typed.ExprType.{ExprType}
use Rattle.ob_types.specs.declared.typed.ExprType.TheVariants as kind
use Rattle.ob_types.specs.declared.typed.Designator.TheFolds.{fold-roll-Actual}
use Rattle.ob_types.specs.Tests.{same_at}
use Rattle.ob_types.specs.TypedSyntax.{Desig, Expr, ValueOf, Actuals, NoActual, AnActual}
use Rattle.ob_types.specs.TypedKinds.{variable_type}
use Rattle.ob_types.specs.TypedView.{OneActual, designator_layer, expr_layer, actual_layer, designator_view, expr_view, actual_view, actuals_view}
use Rattle.ob_types.proofs.TypedViews.{view_constant, view_value_of}
use Rattle.ob_meaning.specs.Values.{Program, Form, BasicForm, PointerForm, ProcedureForm, ArrayForm, OpenForm, RecordForm, fields_of, form_in, Formals, Held}
use Rattle.law_simulation_relation.specs.Relation.{Scalar, Sub}
use Rattle.law_simulation_relation.specs.Passed.{IsUnguarded}
use Rattle.law_simulation_relation.specs.Typed as typed
use Rattle.law_simulation_relation.specs.Typed.{ByPassing, passing_for, char, IsArrayOf, IsRecordForm, IsRecordType}
use Rattle.law_simulation_relation.proofs.Actuals.{sub_on}
use Rattle.ob_rules.specs.declared.entity.Received.{Received}
use Rattle.ob_rules.specs.declared.meant.Meant.{Meant}
use Rattle.ob_rules.specs.declared.meant.Meant.TheVariants as means
use Rattle.ob_rules.specs.declared.meant.Where.TheVariants.{InExpression}
use Rattle.ob_rules.specs.declared.values.Place.{Place}
use Rattle.ob_rules.specs.declared.values.Valued.{Valued}
use Rattle.ob_rules.specs.declared.values.Valued.TheVariants as valued
use Rattle.ob_rules.specs.declared.broken.Rule.TheVariants as rule
use Rattle.ob_rules.specs.Judged.{Judged, sound, breaks, both}
use Rattle.ob_rules.specs.Shapes.{Map, shape, array_of, array_at, open_element, open_at, is_array, is_open, is_structured, record_of, element_is, by_value, by_var, passing_of}
use Rattle.ob_rules.specs.Names.{Around, map_of}
use Rattle.ob_rules.specs.Values.{tree, type, type_in, text_of, fits}
use Rattle.ob_rules.specs.Calls.{actual_of, both_records, takes_variable, unless_guarded, unless_read_only, variable_actual, meant_actual, var_actual, array_takes, takes_value, tree_for, value_actual, actual, actuals}
use Rattle.ob_rules.specs.Phrases.{Phrase}
use Rattle.law_typing.specs.Makes.{IfThere, Makes}
use Rattle.law_typing.specs.Forms.{IsDeclared, IsKnown, AreKnown, ArrayIs, Forms}
use Rattle.law_typing.specs.Known.{IsScoped}
use Rattle.law_typing.specs.Kept.{PlaceIs, NodeIs, ValuedIs}
use Rattle.law_typing.specs.Meant.{GuardIs, MeantIs, MeantBy, PhraseIs, ArePhrases}
use Rattle.law_typing.proofs.Makes.{makes_then, makes_both, makes_wants, makes_also}
use Rattle.law_typing.proofs.Basics.{form_basic, not_true}
use Rattle.law_typing.proofs.Values.{Fits}
use Rattle.law_typing.proofs.Operators.{and_is}
use Rattle.law_typing.proofs.Designators.{form_is, some_true}
use Rattle.law_typing.proofs.Relations.{or_is, some_of, array_basic, constant_of_basic}
use Rattle.law_typing.proofs.Assignable.{scalar_fits, structure_fits, tree_of_place}
use Rattle.law_lists.proofs.Lists.{none_some, some_same}

pub actual_seen : (how : Passing) (t : TypeRef) (x : TypedExpr) → actual_view (actual_of how t x) ≡ record { passing = how; formal = t; e = expr_view x }
actual_seen how t x = fold-roll-Actual Desig Expr OneActual designator_layer expr_layer actual_layer (record { passing = how; formal = t; value = x })

-- an open array, as an array
pub open_array : (map : Map) (t u : TypeRef) → open_element map t ≡ Some u → array_of map t ≡ Some (None, u)
open_array map t u e = go (shape map t) refl e
  where
    go : (o : Option Desc) → shape map t ≡ o → open_at o ≡ Some u → array_of map t ≡ Some (None, u)
    go (Some (desc.OpenArray m v)) f h = ap array_at f ∙ ap (λ w. Some (None, w)) (some_same h)
    go None f h = none_some h
    go (Some (desc.Const c)) f h = none_some h
    go (Some (desc.Var m v)) f h = none_some h
    go (Some (desc.Proc s)) f h = none_some h
    go (Some (desc.Alias m v)) f h = none_some h
    go (Some (desc.Array m n v)) f h = none_some h
    go (Some (desc.Pointer m v)) f h = none_some h
    go (Some (desc.ProcType m s)) f h = none_some h
    go (Some (desc.Record r)) f h = none_some h

pub not_false : (b : Bool) → not b ≡ false → b ≡ true
not_false true e = refl
not_false false e = not_true (sym e)

not_open_value : (b : Bool) → by_value false b ≡ passing.OpenArray → ⊥
not_open_value true e = absurd cc
not_open_value false e = absurd cc

not_open_var : (b : Bool) → by_var false b ≡ passing.VariableOpenArray → ⊥
not_open_var true e = absurd cc
not_open_var false e = absurd cc

open_by_value : (a b : Bool) → by_value a b ≡ passing.OpenArray → a ≡ true
open_by_value true b e = refl
open_by_value false b e = absurd (not_open_value b e)

open_by_var : (a b : Bool) → by_var a b ≡ passing.VariableOpenArray → a ≡ true
open_by_var true b e = refl
open_by_var false b e = absurd (not_open_var b e)

-- the types of parameters as they are named
abbrev pub AreFormals : Actuals → List (Mode × TypeRef) → Type 0
AreFormals NoActual [] = Unit {0}
AreFormals NoActual (p ∷ ps) = ⊥
AreFormals (AnActual how t x rest) [] = ⊥
AreFormals (AnActual how t x rest) (p ∷ ps) = (t ≡ p.1) × AreFormals rest ps

module _ (program : Program) (Has : Formals → QName → Type 0) (unit : List ℕ) (held : List Held) (result : Option TypeRef) where
  abbrev Ex : Expr → Form → Type 0
  Ex x t = Fits program Has unit held result x t

  -- what is passed so fits the type
  abbrev pub Passes : Passing → Expr → Form → Type 0
  Passes how x t = ByPassing how (Ex x t × Scalar t) (typed.StructureOk program Has unit held result x t) (typed.ArrayOk program Has unit held result x t) (typed.ReferredOk program Has unit held result x t) (typed.RecordOk program Has unit held result x t) (typed.VariableArrayOk program Has unit held result x t)

  -- an actual parameter fits a formal one
  pub record ActualIs (m : Mode) (t : TypeRef) (x : OneActual) : Type 0 where
    pub how : x.passing ≡ passing_for m (form_in program t)
    pub formal : x.formal ≡ t
    pub passes : Passes x.passing x.e (form_in program t)

  module _ (map : Map) (forms : Forms program Has unit held result map) where
    abbrev Is : Valued → Type 0
    Is x = ValuedIs program Has unit held result map x

    abbrev P : Place → Type 0
    P p = PlaceIs program Has unit held result map p

    passed_so : (m : Mode) (t : TypeRef) (x : TypedExpr) → IsKnown map t → Passes (passing_for m (form_in program t)) (expr_view x) (form_in program t) → ActualIs m t (actual_view (actual_of (passing_of map m t) t x))
    passed_so m t x d h = subst (ActualIs m t) (sym (actual_seen (passing_of map m t) t x)) (record { how = forms.passings m t d; formal = refl; passes = subst (λ w. Passes w (expr_view x) (form_in program t)) (sym (forms.passings m t d)) h })

    element_form : (t u : TypeRef) → IsDeclared t → open_element map t ≡ Some u → form_in program t ≡ OpenForm (form_in program u)
    element_form t u d e = (forms.arrays t u None d (open_array map t u e)).0

    not_open_form : (t : TypeRef) (f : Form) (o : Option TypeRef) → IsDeclared t → form_in program t ≡ f → ((u : Form) → f ≡ OpenForm u → ⊥) → open_element map t ≡ o → o ≡ None
    not_open_form t f None d e n g = refl
    not_open_form t f (Some u) d e n g = absurd (n (form_in program u) (sym e ∙ element_form t u d g))

    is_open_by : (t : TypeRef) (u : Form) → IsKnown map t → form_in program t ≡ OpenForm u → is_open map t ≡ true
    is_open_by t u d e = open_by_value (is_open map t) (is_structured map t) (forms.passings mode.Value t d ∙ ap (passing_for mode.Value) e)

    -- what has elements of that type
    array_by : (s el : TypeRef) → IsDeclared s → element_is map el (array_of map s) ≡ true → IsArrayOf (form_in program s) (form_in program el)
    array_by s el d e = go (array_of map s) refl e
      where
        by : (n : Option ℕ) (v : TypeRef) → ArrayIs program map (form_in program s) n v → form_in program v ≡ form_in program el → IsArrayOf (form_in program s) (form_in program el)
        by None v a f = inl (a.0 ∙ ap (λ x. OpenForm x) f)
        by (Some n) v a f = inr (n, a.0 ∙ ap (λ x. ArrayForm n x) f)

        go : (o : Option (Option ℕ × TypeRef)) → array_of map s ≡ o → element_is map el o ≡ true → IsArrayOf (form_in program s) (form_in program el)
        go None f g = not_true g
        go (Some a) f g = by a.0 a.1 (forms.arrays s a.1 a.0 d f) (forms.same a.1 el g)

    -- BY VALUE

    no_array_scalar : (t u : Form) → Scalar t → IsArrayOf t u → ⊥
    no_array_scalar t u s a = ⊎_elim (λ e. subst Scalar e s) (λ k. subst Scalar k.1 s) a

    abbrev Arrays : Expr → Form → Type 0
    Arrays x t = typed.ArrayOk program Has unit held result x t

    array_value : (t el s : TypeRef) (x : Valued) (b : Bool) → Is x → form_in program t ≡ OpenForm (form_in program el) → type_in (type x) ≡ Some s → element_is map el (array_of map s) ≡ true → Arrays (expr_view (tree_for b x)) (form_in program t)
    array_value t el s (valued.Constant c) b h e f g = let k = constant_of_basic c s f in not_true (sym (ap (element_is map el) (ap (array_of map) k.1 ∙ array_basic map k.0)) ∙ g)
    array_value t el s (valued.Place p) b h e f g =
        let d = designator_view p.designator.inner in
        let i : form_in program (variable_type d) ≡ form_in program s = form_is program Has unit held result map forms d p.of p.var_record h ∙ ap (form_in program) (some_same f) in
        let a : IsArrayOf (form_in program (variable_type d)) (form_in program el) = subst (λ y. IsArrayOf y (form_in program el)) (sym i) (array_by s el (subst IsDeclared (some_same f) h.declared.0) g) in
        subst (λ y. Arrays (expr_view y) (form_in program t)) (sym (tree_of_place program Has unit held result map forms b p)) (subst (λ y. Arrays y (form_in program t)) (sym (view_value_of p.designator.inner)) (h.fits, (form_in program el, e, a)))
    array_value t el s (valued.Node n) b h e f g = by n.of h f
      where
        by : (k : ExprType) → NodeIs program Has unit held result map (expr_view n.tree.inner) k → type_in k ≡ Some s → Arrays (expr_view (tree_for b (valued.Node n))) (form_in program t)
        by (kind.Of r) h f = absurd (no_array_scalar (form_in program r) (form_in program el) h.1 (array_by r el h.0 (subst (λ y. element_is map el (array_of map y) ≡ true) (sym (some_same f)) g)))
        by (kind.Procedure q) h f = none_some f
        by kind.Str h f = none_some f
        by kind.Nil h f = none_some f
        by kind.Nothing h f = none_some f

    text_value : (t el : TypeRef) (x : Valued) → Is x → form_in program t ≡ OpenForm (form_in program el) → same_at map el (ref.Basic basic.Char) ≡ true → is_some (text_of x) ≡ true → Arrays (expr_view (tree_for true x)) (form_in program t)
    text_value t el x h e f g =
        let c : form_in program t ≡ OpenForm char = e ∙ ap (λ y. OpenForm y) (forms.same el (ref.Basic basic.Char) f ∙ form_basic program basic.Char) in
        by x h c g
      where
        by : (x : Valued) → Is x → form_in program t ≡ OpenForm char → is_some (text_of x) ≡ true → Arrays (expr_view (tree_for true x)) (form_in program t)
        by (valued.Constant (literal.Str text)) h c g = subst (λ y. Arrays y (form_in program t)) (sym (view_constant (literal.Str text))) (c, h.0)
        by (valued.Constant (literal.Char k)) h c g = subst (λ y. Arrays y (form_in program t)) (sym (view_constant (literal.Str (k ∷ [])))) (c, (h, tt))
        by (valued.Constant (literal.Bool b)) h c g = not_true g
        by (valued.Constant (literal.Int z)) h c g = not_true g
        by (valued.Constant (literal.Set n)) h c g = not_true g
        by (valued.Constant literal.Nil) h c g = not_true g
        by (valued.Place p) h c g = not_true g
        by (valued.Node n) h c g = not_true g

    open_value : (t : TypeRef) (o : Option TypeRef) (x : Valued) → IsDeclared t → Is x → open_element map t ≡ o → is_some o ≡ true → takes_value map o t x ≡ true → Arrays (expr_view (tree_for (is_array map t) x)) (form_in program t)
    open_value t None x d h e i f = not_true i
    open_value t (Some el) x d h e i f =
        ⊎_elim (λ g. typed_by (type_in (type x)) refl g)
        (λ g. let p = and_is (same_at map el (ref.Basic basic.Char)) (is_some (text_of x)) g in subst (λ b. Arrays (expr_view (tree_for b x)) (form_in program t)) (sym (some_true (open_array map t el e))) (text_value t el x h (element_form t el d e) p.0 p.1))
        (or_is (array_takes map el (type_in (type x))) (same_at map el (ref.Basic basic.Char) && is_some (text_of x)) f)
      where
        typed_by : (s : Option TypeRef) → type_in (type x) ≡ s → array_takes map el s ≡ true → Arrays (expr_view (tree_for (is_array map t) x)) (form_in program t)
        typed_by None j g = not_true g
        typed_by (Some s) j g = array_value t el s x (is_array map t) h (element_form t el d e) j g

    scalar_tree : (t : TypeRef) (x : Valued) (b : Bool) → is_array map t ≡ b → IsDeclared t → Scalar (form_in program t) → Ex (expr_view (tree x)) (form_in program t) → Ex (expr_view (tree_for b x)) (form_in program t)
    scalar_tree t x false e d s h = h
    scalar_tree t x true e d s h = let a = some_of (array_of map t) e in absurd (no_array a.0.0 a.0.1 (forms.arrays t a.0.1 a.0.0 d a.1))
      where
        no_array : (n : Option ℕ) (u : TypeRef) → ArrayIs program map (form_in program t) n u → ⊥
        no_array None u a = subst Scalar a.0 s
        no_array (Some n) u a = subst Scalar a.0 s

    value_passes : (t : TypeRef) (x : Valued) → IsKnown map t → Is x → takes_value map (open_element map t) t x ≡ true → Passes (passing_for mode.Value (form_in program t)) (expr_view (tree_for (is_array map t) x)) (form_in program t)
    value_passes t x d h e = by (form_in program t) refl
      where
        y : Expr
        y = expr_view (tree_for (is_array map t) x)

        taken : (f : Form) → form_in program t ≡ f → ((u : Form) → f ≡ OpenForm u → ⊥) → fits map t x ≡ true
        taken f g n = subst (λ o. takes_value map o t x ≡ true) (not_open_form t f (open_element map t) d.0 g n refl) e

        scalar : (f : Form) → form_in program t ≡ f → ((u : Form) → f ≡ OpenForm u → ⊥) → Scalar f → Ex y (form_in program t) × Scalar (form_in program t)
        scalar f g n s =
            let k = subst Scalar (sym g) s in
            (scalar_tree t x (is_array map t) refl d.0 k (scalar_fits program Has unit held result map forms t x d.0 h (taken f g n) k), k)

        structure : (f : Form) → form_in program t ≡ f → ((u : Form) → f ≡ OpenForm u → ⊥) → (Scalar f → ⊥) → typed.StructureOk program Has unit held result y (form_in program t)
        structure f g n s = structure_fits program Has unit held result map forms t x d.0 h (taken f g n) (λ k. s (subst Scalar g k))

        by : (f : Form) → form_in program t ≡ f → Passes (passing_for mode.Value f) y (form_in program t)
        by (BasicForm b) g = scalar (BasicForm b) g (λ u q. absurd cc) tt
        by (PointerForm r) g = scalar (PointerForm r) g (λ u q. absurd cc) tt
        by (ProcedureForm r) g = scalar (ProcedureForm r) g (λ u q. absurd cc) tt
        by (ArrayForm n r) g = structure (ArrayForm n r) g (λ u q. absurd cc) (λ k. k)
        by (RecordForm line fs) g = structure (RecordForm line fs) g (λ u q. absurd cc) (λ k. k)
        by (OpenForm r) g = open_value t (open_element map t) x d.0 h refl (is_open_by t r d g) e

    value_actual_is : (t : TypeRef) (start : Pos) (x : Valued) → IsKnown map t → Is x → Makes (λ a. ActualIs mode.Value t (actual_view a)) (value_actual map t start x)
    value_actual_is t start x d h = makes_wants _ (takes_value map (open_element map t) t x) rule.UnfitParameter start (actual_of (passing_of map mode.Value t) t (tree_for (is_array map t) x)) (λ e. passed_so mode.Value t (tree_for (is_array map t) x) d (value_passes t x d h e))

    -- BY VAR

    abbrev Closed : Form → Form → Type 0
    Closed s t = (a : Form) → Sub a s → Sub a t

    records_related : (t s : TypeRef) (o q : Option QName) → record_of map s ≡ o → record_of map t ≡ q → both_records map o q ≡ true → Closed (form_in program s) (form_in program t)
    records_related t s None q f g e = not_true e
    records_related t s (Some a) None f g e = not_true e
    records_related t s (Some a) (Some b) f g e = λ x h. subst (Sub x) (sym (forms.records t b g).0) (sub_on (subst (Sub x) (forms.records s a f).0 h) (forms.extensions a b t g e))

    closed_by : (t s : TypeRef) → takes_variable map None t s ≡ true → Closed (form_in program s) (form_in program t)
    closed_by t s e = ⊎_elim (λ f. λ a h. subst (Sub a) (forms.same s t f) h) (λ f. records_related t s (record_of map s) (record_of map t) refl refl f) (or_is (same_at map s t) (both_records map (record_of map s) (record_of map t)) e)

    -- a record type, as its form
    record_by : (t : TypeRef) (q : QName) → record_of map t ≡ Some q → IsRecordForm (form_in program t)
    record_by t q e = let r = forms.records t q e in (q ∷ r.1.0, r.0 ∙ r.1.1 ∙ ap (λ f. RecordForm (q ∷ r.1.0) (fields_of f)) (sym r.0))

    record_side : (s t : TypeRef) → IsRecordForm (form_in program t) → takes_variable map None t s ≡ true → IsRecordForm (form_in program s)
    record_side s t r e = ⊎_elim (λ f. subst IsRecordForm (sym (forms.same s t f)) r) (λ f. by (record_of map s) refl f) (or_is (same_at map s t) (both_records map (record_of map s) (record_of map t)) e)
      where
        by : (o : Option QName) → record_of map s ≡ o → both_records map o (record_of map t) ≡ true → IsRecordForm (form_in program s)
        by None f g = not_true g
        by (Some a) f g = record_by s a f

    variable_passes : (t : TypeRef) (p : Place) → IsKnown map t → P p → IsUnguarded (designator_view p.designator.inner) → takes_variable map (open_element map t) t p.of ≡ true → Passes (passing_for mode.Var (form_in program t)) (expr_view (e.Designator p.designator.inner)) (form_in program t)
    variable_passes t p d h un e = subst (λ y. Passes (passing_for mode.Var (form_in program t)) y (form_in program t)) (sym (view_value_of p.designator.inner)) (by (form_in program t) refl)
      where
        dd : Desig
        dd = designator_view p.designator.inner

        i : form_in program (variable_type dd) ≡ form_in program p.of
        i = form_is program Has unit held result map forms dd p.of p.var_record h

        taken : (f : Form) → form_in program t ≡ f → ((u : Form) → f ≡ OpenForm u → ⊥) → takes_variable map None t p.of ≡ true
        taken f g n = subst (λ o. takes_variable map o t p.of ≡ true) (not_open_form t f (open_element map t) d.0 g n refl) e

        closed : (f : Form) → form_in program t ≡ f → ((u : Form) → f ≡ OpenForm u → ⊥) → Closed (form_in program (variable_type dd)) (form_in program t)
        closed f g n = subst (λ y. Closed y (form_in program t)) (sym i) (closed_by t p.of (taken f g n))

        open_by : (o : Option TypeRef) → open_element map t ≡ o → is_some o ≡ true → takes_variable map o t p.of ≡ true → typed.VariableArrayOk program Has unit held result (ValueOf dd) (form_in program t)
        open_by None f g k = not_true g
        open_by (Some el) f g k = (h.fits, (form_in program el, element_form t el d.0 f, subst (λ y. IsArrayOf y (form_in program el)) (sym i) (array_by p.of el h.declared.0 k)))

        by : (f : Form) → form_in program t ≡ f → Passes (passing_for mode.Var f) (ValueOf dd) (form_in program t)
        by (BasicForm b) g = (h.fits, closed (BasicForm b) g (λ u q. absurd cc), un)
        by (PointerForm r) g = (h.fits, closed (PointerForm r) g (λ u q. absurd cc), un)
        by (ProcedureForm r) g = (h.fits, closed (ProcedureForm r) g (λ u q. absurd cc), un)
        by (ArrayForm n r) g = (h.fits, closed (ArrayForm n r) g (λ u q. absurd cc), un)
        by (RecordForm line fs) g =
            let r : IsRecordForm (form_in program t) = (line, g ∙ ap (λ f. RecordForm line (fields_of f)) (sym g)) in
            (h.fits, (subst IsRecordForm (sym i) (record_side p.of t r (taken (RecordForm line fs) g (λ u q. absurd cc))), closed (RecordForm line fs) g (λ u q. absurd cc)))
        by (OpenForm r) g = open_by (open_element map t) refl (is_open_by t r d g) e

    variable_actual_is : (t : TypeRef) (start : Pos) (p : Place) → IsKnown map t → P p → GuardIs p → Makes (λ a. ActualIs mode.Var t (actual_view a)) (variable_actual map t start p)
    variable_actual_is t start p d h un =
        makes_also _ (not (takes_variable map (open_element map t) t p.of)) rule.UnfitParameter start (unless_read_only map t start p) λ f.
        makes_also _ p.read_only rule.NotChangeable start (unless_guarded map t start p) λ g.
        makes_also _ p.guarded rule.GuardedVarParameter start (sound (actual_of (passing_of map mode.Var t) t (e.Designator p.designator.inner))) λ k.
        record { node = passed_so mode.Var t (e.Designator p.designator.inner) d (variable_passes t p d h (un k) (not_false (takes_variable map (open_element map t) t p.of) f)) }

    meant_actual_is : (o : Option Received) (t : TypeRef) (start : Pos) (m : Meant) → IsKnown map t → MeantIs program Has unit held result map o InExpression m → Makes (λ a. ActualIs mode.Var t (actual_view a)) (meant_actual map t start m)
    meant_actual_is z t start (means.Place p) d h = variable_actual_is t start p d h.0 h.2
    meant_actual_is z t start (means.Call x) d h = record { node = tt }
    meant_actual_is z t start (means.Constant v) d h = record { node = tt }
    meant_actual_is z t start (means.Procedure q s) d h = record { node = tt }
    meant_actual_is z t start (means.Bound c) d h = record { node = tt }
    meant_actual_is z t start (means.Out o) d h = record { node = tt }
    meant_actual_is z t start (means.Predeclared f) d h = record { node = tt }
    meant_actual_is z t start (means.Statement s) d h = record { node = tt }

  -- IN A ROW

  module _ (u : Around) (scoped : IsScoped program Has unit held result u) where
    var_is : (t : TypeRef) (p : Phrase) (o : Option (Around → Judged Meant)) → IsKnown (map_of u) t → PhraseIs program Has unit held result p → MeantBy program Has unit held result o u → Makes (λ a. ActualIs mode.Var t (actual_view a)) (var_actual u t p o)
    var_is t p None d h k = record { node = (makes_then (ValuedIs program Has unit held result (map_of u)) _ (p.value u) (λ x. breaks rule.UnfitParameter p.start) (h.value u scoped) (λ x l. record { node = tt })).node }
    var_is t p (Some f) d h k = makes_then (MeantIs program Has unit held result (map_of u) u.receiver InExpression) _ (f u) (meant_actual (map_of u) t p.start) k (λ m l. meant_actual_is (map_of u) scoped.forms u.receiver t p.start m d l)

    actual_is : (m : Mode) (t : TypeRef) (p : Phrase) → IsKnown (map_of u) t → PhraseIs program Has unit held result p → Makes (λ a. ActualIs m t (actual_view a)) (actual u m t p)
    actual_is mode.Var t p d h = var_is t p p.meant d h (h.meant u scoped)
    actual_is mode.Value t p d h = makes_then (ValuedIs program Has unit held result (map_of u)) _ (p.value u) (value_actual (map_of u) t p.start) (h.value u scoped) (λ x k. value_actual_is (map_of u) scoped.forms t p.start x d k)

    -- by a signature, and with the types that it names
    abbrev Signed : List Actual → List (Mode × TypeRef) → Type 0
    Signed xs fs = typed.SignatureOk program Has unit held result (actuals_view xs) fs × AreFormals (actuals_view xs) fs

    one_more : (f : Mode × TypeRef) (fs : List (Mode × TypeRef)) (a : Actual) (xs : List Actual) → ActualIs f.0 f.1 (actual_view a) → Signed xs fs → Signed (a ∷ xs) (f ∷ fs)
    one_more f fs a xs h k = ((h.how, (ap (form_in program) h.formal, (subst (λ t. Passes (actual_view a).passing (actual_view a).e (form_in program t)) (sym h.formal) h.passes, k.0))), (h.formal, k.1))

    -- each actual parameter fits, where there are as many as formal ones
    pub actuals_are : (fs : List (Mode × TypeRef)) (ps : List Phrase) → AreKnown (map_of u) fs → ArePhrases program Has unit held result ps → Makes (λ xs. length ps ≡ length fs → Signed xs fs) (actuals u fs ps)
    actuals_are [] [] d h = record { node = λ e. (tt, tt) }
    actuals_are (f ∷ fs) [] d h = record { node = λ e. absurd (none_of e) }
      where
        none_of : 0 ≡ suc (length fs) → ⊥
        none_of e = omega (arith, e)
    actuals_are [] (p ∷ ps) d h = makes_then (λ x. Unit {0}) _ (both (p.value u) (actuals u [] ps)) (λ r. sound r.1) (record { node = anything (both (p.value u) (actuals u [] ps)).node }) (λ r k. record { node = λ e. absurd (none_of e) })
      where
        anything : {A : Type 0} (o : Option A) → IfThere (λ x. Unit {0}) o
        anything None = tt
        anything (Some x) = tt

        none_of : suc (length ps) ≡ 0 → ⊥
        none_of e = omega (arith, e)
    actuals_are (f ∷ fs) (p ∷ ps) d h =
        makes_then (λ r. ActualIs f.0 f.1 (actual_view r.0) × (length ps ≡ length fs → Signed r.1 fs)) _ (both (actual u f.0 f.1 p) (actuals u fs ps)) (λ r. sound (r.0 ∷ r.1))
        (makes_both (λ a. ActualIs f.0 f.1 (actual_view a)) (λ xs. length ps ≡ length fs → Signed xs fs) (actual u f.0 f.1 p) (actuals u fs ps) (actual_is f.0 f.1 p d.0 h.0) (actuals_are fs ps d.1 h.1))
        (λ r k. record { node = λ e. one_more f fs r.0 r.1 k.0 (k.1 (one_less e)) })
      where
        one_less : suc (length ps) ≡ suc (length fs) → length ps ≡ length fs
        one_less e = omega (arith, e)
