-- Expressions that keep the rules fit the types that the rules ask for.
use Rattle.std.proofs.Common.{◌≡◌, refl, sym, ap, ◌∙◌, subst, ℕ, List, Option, Some, None, Bool, true, false}
use Rattle.ob_tree.specs.declared.names.QName.{QName}
use Rattle.ob_types.specs.declared.types.Basic.{Basic}
use Rattle.ob_types.specs.declared.types.Basic.TheVariants as basic
use Rattle.ob_types.specs.declared.types.TypeRef.{TypeRef}
use Rattle.ob_types.specs.declared.types.TypeRef.TheVariants as ref
use Rattle.ob_types.specs.declared.typed.Width.{Width}
use Rattle.ob_types.specs.declared.value.Value.{Value as Literal}
use Rattle.ob_types.specs.declared.value.Value.TheVariants as literal
use Rattle.ob_types.specs.declared.typed.TypedExpr.TheVariants as e
use Rattle.ob_types.specs.declared.typed.ExprType.{ExprType}
use Rattle.ob_types.specs.declared.typed.ExprType.TheVariants as kind
use Rattle.ob_types.specs.TypedSyntax.{Desig, Expr, ValueOf}
use Rattle.ob_types.specs.TypedKinds.{of_basic, constant_type, variable_type}
use Rattle.ob_types.specs.TypedView.{designator_view, expr_view}
use Rattle.ob_types.proofs.TypedViews.{view_constant, view_value_of}
use Rattle.ob_meaning.specs.Values.{Program, Form, BasicForm, form_in, Formals, Held}
use Rattle.law_simulation_relation.specs.Relation.{Scalar}
use Rattle.law_simulation_relation.specs.Typed as typed
use Rattle.law_simulation_relation.specs.Typed.{Within, integer}
use Rattle.ob_rules.specs.declared.values.Place.{Place}
use Rattle.ob_rules.specs.declared.values.Computed.{Computed}
use Rattle.ob_rules.specs.declared.values.Valued.{Valued}
use Rattle.ob_rules.specs.declared.values.Valued.TheVariants as valued
use Rattle.ob_rules.specs.Shapes.{Map, basic_of, is_basic, width_of}
use Rattle.ob_rules.specs.Values.{is, width_in, width as width_at, tree}
use Rattle.law_typing.specs.Forms.{Widens, Forms}
use Rattle.law_typing.specs.Known.{ConstantIs}
use Rattle.law_typing.specs.Kept.{DesignatorIs, NodeIs, ValuedIs}
use Rattle.law_typing.proofs.Basics.{form_basic, basic_is, not_true, is_basic_is, width_basic, width_back, smallest_of, number_fits, number_type}
use Rattle.law_lists.proofs.Lists.{none_some, some_same}

module _ (program : Program) (Has : Formals → QName → Type 0) (unit : List ℕ) (held : List Held) (result : Option TypeRef) where
  abbrev pub Fits : Expr → Form → Type 0
  Fits x t = typed.ExprOk program Has unit held result x t

  abbrev pub W : Form → Form → Type 0
  W t u = Widens program Has unit held result t u

  module _ (map : Map) (forms : Forms program Has unit held result map) where
    abbrev pub V : Valued → Type 0
    V x = ValuedIs program Has unit held result map x

    -- a variable by its type
    pub place_fits : (d : Desig) (t : TypeRef) (r : Bool) (f v : Form) → DesignatorIs program Has unit held result map d t r → form_in program t ≡ f → Scalar f → W f v → Fits (ValueOf d) v
    place_fits d t r f v h e s k =
        let g : form_in program (variable_type d) ≡ f = ap (form_in program) h.of_type ∙ e in
        (h.fits, (subst Scalar (sym g) s, subst (λ x. W x v) (sym g) k))

    pub shown_place : (p : Place) (f : Form) → Fits (ValueOf (designator_view p.designator.inner)) f → Fits (expr_view (e.Designator p.designator.inner)) f
    shown_place p f h = subst (λ x. Fits x f) (sym (view_value_of p.designator.inner)) h

    pub shown_constant : (c : Literal) (f : Form) → typed.ConstantOk program Has unit held result c f → Fits (expr_view (e.Constant c)) f
    shown_constant c f h = subst (λ x. Fits x f) (sym (view_constant c)) h

    -- INTEGERS

    constant_width : (c : Literal) (w v : Width) → ConstantIs c → width_in map (constant_type c) ≡ Some w → Within w v → typed.ConstantOk program Has unit held result c (integer v)
    constant_width (literal.Int z) w v h e k =
        let b : Some (smallest_of z) ≡ Some w = sym (ap (width_in map) (number_type z) ∙ ap width_of (basic_is map (typed.basic_of (smallest_of z))) ∙ width_back (smallest_of z)) ∙ e in
        (v, number_fits z v h (subst (λ x. Within x v) (sym (some_same b)) k), refl)
    constant_width (literal.Bool b) w v h e k = none_some (sym (ap width_of (basic_is map basic.Boolean)) ∙ e)
    constant_width (literal.Char c) w v h e k = none_some (sym (ap width_of (basic_is map basic.Char)) ∙ e)
    constant_width (literal.Set n) w v h e k = none_some (sym (ap width_of (basic_is map basic.Set)) ∙ e)
    constant_width (literal.Str text) w v h e k = none_some e
    constant_width literal.Nil w v h e k = none_some e

    pub integer_form : (t : TypeRef) (w : Width) → width_of (basic_of map t) ≡ Some w → form_in program t ≡ integer w
    integer_form t w e = forms.basics t (typed.basic_of w) (width_basic (basic_of map t) w e)

    node_width : (x : Expr) (k : ExprType) (w v : Width) → NodeIs program Has unit held result map x k → width_in map k ≡ Some w → Within w v → Fits x (integer v)
    node_width x (kind.Of t) w v h e k = h.2 (integer v) (subst (λ f. W f (integer v)) (sym (integer_form t w e)) (typed.integers w v k))
    node_width x (kind.Procedure s) w v h e k = none_some e
    node_width x kind.Str w v h e k = none_some e
    node_width x kind.Nil w v h e k = none_some e
    node_width x kind.Nothing w v h e k = none_some e

    -- an integer fits each type that includes its own
    pub width_fits : (x : Valued) (w v : Width) → V x → width_at map x ≡ Some w → Within w v → Fits (expr_view (tree x)) (integer v)
    width_fits (valued.Constant c) w v h e k = shown_constant c (integer v) (constant_width c w v h e k)
    width_fits (valued.Place p) w v h e k = shown_place p (integer v) (place_fits (designator_view p.designator.inner) p.of p.var_record (integer w) (integer v) h (integer_form p.of w e) tt (typed.integers w v k))
    width_fits (valued.Node n) w v h e k = node_width (expr_view n.tree.inner) n.of w v h e k

    -- OTHER BASIC TYPES

    constant_basic : (c : Literal) (b : Basic) → width_of (Some b) ≡ None → ConstantIs c → is map b (valued.Constant c) ≡ true → typed.ConstantOk program Has unit held result c (BasicForm b)
    constant_basic (literal.Int z) b n h e =
        let f : Some (typed.basic_of (smallest_of z)) ≡ Some b = sym (basic_is map (typed.basic_of (smallest_of z))) ∙ is_basic_is map b (ref.Basic (typed.basic_of (smallest_of z))) (sym (ap (λ k. is_kind b k) (number_type z)) ∙ e) in
        none_some (sym n ∙ sym (ap width_of f) ∙ width_back (smallest_of z))
      where
        is_kind : Basic → ExprType → Bool
        is_kind b (kind.Of t) = is_basic map b t
        is_kind b k = false
    constant_basic (literal.Bool x) b n h e = ap (λ o. BasicForm o) (sym (some_same (sym (basic_is map basic.Boolean) ∙ is_basic_is map b (ref.Basic basic.Boolean) e)))
    constant_basic (literal.Char c) b n h e = (h, ap (λ o. BasicForm o) (sym (some_same (sym (basic_is map basic.Char) ∙ is_basic_is map b (ref.Basic basic.Char) e))))
    constant_basic (literal.Set s) b n h e = (h, ap (λ o. BasicForm o) (sym (some_same (sym (basic_is map basic.Set) ∙ is_basic_is map b (ref.Basic basic.Set) e))))
    constant_basic (literal.Str text) b n h e = not_true e
    constant_basic literal.Nil b n h e = not_true e

    pub basic_form : (t : TypeRef) (b : Basic) → is_basic map b t ≡ true → form_in program t ≡ BasicForm b
    basic_form t b e = forms.basics t b (is_basic_is map b t e)

    node_basic : (n : Computed) (b : Basic) → NodeIs program Has unit held result map (expr_view n.tree.inner) n.of → is map b (valued.Node n) ≡ true → Fits (expr_view n.tree.inner) (BasicForm b)
    node_basic n b h e = by n.of h e
      where
        by : (k : ExprType) → NodeIs program Has unit held result map (expr_view n.tree.inner) k → is map b (valued.Node (record n { of = k })) ≡ true → Fits (expr_view n.tree.inner) (BasicForm b)
        by (kind.Of t) h e = h.2 (BasicForm b) (subst (λ f. W f (BasicForm b)) (sym (basic_form t b e)) typed.itself)
        by (kind.Procedure s) h e = not_true e
        by kind.Str h e = not_true e
        by kind.Nil h e = not_true e
        by kind.Nothing h e = not_true e

    pub basic_fits : (x : Valued) (b : Basic) → width_of (Some b) ≡ None → V x → is map b x ≡ true → Fits (expr_view (tree x)) (BasicForm b)
    basic_fits (valued.Constant c) b n h e = shown_constant c (BasicForm b) (constant_basic c b n h e)
    basic_fits (valued.Place p) b n h e = shown_place p (BasicForm b) (place_fits (designator_view p.designator.inner) p.of p.var_record (BasicForm b) (BasicForm b) h (basic_form p.of b e) tt typed.itself)
    basic_fits (valued.Node x) b n h e = node_basic x b h e

    -- a node of a basic type
    pub basic_node : (x : Expr) (b : Basic) → ((v : Form) → W (BasicForm b) v → Fits x v) → NodeIs program Has unit held result map x (of_basic b)
    basic_node x b k = (tt, subst Scalar (sym (form_basic program b)) tt, λ v w. k v (subst (λ f. W f v) (form_basic program b) w))
