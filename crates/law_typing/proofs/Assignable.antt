-- A value that the rules find assignable to a type fits that type.
use Rattle.std.proofs.Common.{◌≡◌, inl, inr, ⊎_elim, refl, sym, ap, ◌∙◌, subst, ℕ, ◌<◌, List, [], ◌∷◌, length, Option, Some, None, Bool, true, false, arith}
use Rattle.std.proofs.lemmas.Bool.Decides.{nat_tests}
use Rattle.std.specs.Prelude.{◌&&◌, nat_eq, nat_lt}
use Rattle.ob_tree.specs.declared.names.QName.{QName}
use Rattle.ob_types.specs.declared.types.Basic.{Basic}
use Rattle.ob_types.specs.declared.types.Basic.TheVariants as basic
use Rattle.ob_types.specs.declared.types.TypeRef.{TypeRef}
use Rattle.ob_types.specs.declared.types.TypeRef.TheVariants as ref
use Rattle.ob_types.specs.declared.types.Signature.{Signature}
use Rattle.ob_types.specs.declared.desc.Desc.{Desc}
use Rattle.ob_types.specs.declared.desc.Desc.TheVariants as desc
use Rattle.ob_types.specs.declared.value.Value.{Value as Literal}
use Rattle.ob_types.specs.declared.value.Value.TheVariants as literal
use Rattle.ob_types.specs.declared.typed.Width.{Width}
use Rattle.ob_types.specs.declared.typed.TypedExpr.TheVariants as e
use Rattle.ob_types.specs.declared.typed.ExprType.{ExprType}
use Rattle.ob_types.specs.declared.typed.ExprType.TheVariants as kind
use Rattle.ob_types.specs.Assigning.{has_nil}
use Rattle.ob_types.specs.AssigningTests.{described, is_at, takes_type, takes_kind, takes_text, takes_constant, has_room, alike_to}
use Rattle.ob_types.specs.Tests.{same_at, pointer_of, signature_of}
use Rattle.ob_types.specs.TypedSyntax.{Expr}
use Rattle.ob_types.specs.TypedKinds.{variable_type}
use Rattle.ob_types.specs.TypedView.{designator_view, expr_view}
use Rattle.ob_types.proofs.TypedViews.{view_constant, view_value_of}
use Rattle.ob_meaning.specs.Values.{Program, Form, BasicForm, ProcedureForm, ArrayForm, form_in, Formals, formals_in, Held}
use Rattle.law_simulation_relation.specs.Relation.{Scalar, Sub}
use Rattle.law_simulation_relation.specs.Relation as relation
use Rattle.law_simulation_relation.specs.Typed as typed
use Rattle.law_simulation_relation.specs.Typed.{Within, integer, char, AreCharacters}
use Rattle.ob_rules.specs.declared.values.Place.{Place}
use Rattle.ob_rules.specs.declared.values.Valued.{Valued}
use Rattle.ob_rules.specs.declared.values.Valued.TheVariants as valued
use Rattle.ob_rules.specs.Shapes.{Map, shape, signature_at, array_of, array_at, is_array, width_of}
use Rattle.ob_rules.specs.Values.{tree, takes_value_of, fits}
use Rattle.ob_rules.specs.Calls.{tree_for}
use Rattle.law_typing.specs.Forms.{IsDeclared, Forms}
use Rattle.law_typing.specs.Known.{ConstantIs}
use Rattle.law_typing.specs.Kept.{NodeIs, ValuedIs}
use Rattle.law_typing.proofs.Basics.{form_basic, not_true, width_back, number_fits, number_type, smallest_of}
use Rattle.law_typing.proofs.Values.{Fits, W, place_fits, shown_place, shown_constant}
use Rattle.law_typing.proofs.Operators.{and_is}
use Rattle.law_typing.proofs.Designators.{form_is, some_true}
use Rattle.law_typing.proofs.Relations.{or_is}
use Rattle.law_typing.proofs.Sets.{widens_back}
use Rattle.law_lists.proofs.Lists.{none_some, some_same}

pub nat_is : (n m : ℕ) → nat_eq n m ≡ true → n ≡ m
nat_is n m e = grind (arith, nat_tests)

less_is : (n m : ℕ) → nat_lt n m ≡ true → n < m
less_is n m e = grind (arith, nat_tests)

abbrev pub basic_there : Form → Option Basic
basic_there (BasicForm b) = Some b
basic_there t = None

-- what stands for a scalar type is of that type
scalar_sub : (a t : Form) → Sub a t → Scalar a → Scalar t
scalar_sub _ _ relation.itself s = s
scalar_sub _ _ (relation.extended more gs) s = absurd s
scalar_sub _ _ (relation.opened n) s = absurd s

module _ (program : Program) (Has : Formals → QName → Type 0) (unit : List ℕ) (held : List Held) (result : Option TypeRef) where
  abbrev Ex : Expr → Form → Type 0
  Ex x t = Fits program Has unit held result x t

  -- an integer type widens to integer types that include it
  pub widens_integer : (t v : Form) (w : Width) → W program Has unit held result t v → t ≡ integer w → (x : Width) × (v ≡ integer x) × Within w x
  widens_integer _ _ w typed.itself e = (w, e, typed.same)
  widens_integer _ _ w (typed.integers k l m) e =
      let f : Some k ≡ Some w = sym (width_back k) ∙ ap width_of (ap basic_there e) ∙ width_back w in
      (l, refl, subst (λ x. Within x l) (some_same f) m)
  widens_integer _ _ w (typed.pointers s t f g) e = none_some (ap basic_there e)
  widens_integer _ _ w (typed.procedures s t f) e = none_some (ap basic_there e)

  module _ (map : Map) (forms : Forms program Has unit held result map) where
    abbrev Is : Valued → Type 0
    Is x = ValuedIs program Has unit held result map x

    -- an array of more characters
    pub text_room : (v : TypeRef) (k : ℕ) → IsDeclared v → takes_text map v k ≡ true → (n : ℕ) × (form_in program v ≡ ArrayForm n char) × (k < n) × (is_array map v ≡ true)
    unfolding takes_text
    text_room v k d e = go (shape map v) refl e
      where
        go : (o : Option Desc) → shape map v ≡ o → has_room map o k ≡ true → (n : ℕ) × (form_in program v ≡ ArrayForm n char) × (k < n) × (is_array map v ≡ true)
        go (Some (desc.Array m n t)) f h =
            let p = and_is (nat_lt k n) (same_at map t (ref.Basic basic.Char)) h in
            let a : array_of map v ≡ Some (Some n, t) = ap array_at f in
            (n, (forms.arrays v t (Some n) d a).0 ∙ ap (λ x. ArrayForm n x) (forms.same t (ref.Basic basic.Char) p.1 ∙ form_basic program basic.Char), less_is k n p.0, some_true a)
        go None f h = not_true h
        go (Some (desc.Const c)) f h = not_true h
        go (Some (desc.Var m t)) f h = not_true h
        go (Some (desc.Proc s)) f h = not_true h
        go (Some (desc.Alias m t)) f h = not_true h
        go (Some (desc.OpenArray m t)) f h = not_true h
        go (Some (desc.Pointer m t)) f h = not_true h
        go (Some (desc.ProcType m s)) f h = not_true h
        go (Some (desc.Record r)) f h = not_true h

    -- a type with NIL
    pub has_nil_is : (v : TypeRef) → is_at map has_nil v ≡ true → typed.ConstantOk program Has unit held result literal.Nil (form_in program v)
    has_nil_is v e = go (shape map v) refl e
      where
        go : (o : Option Desc) → shape map v ≡ o → described has_nil o ≡ true → typed.ConstantOk program Has unit held result literal.Nil (form_in program v)
        go (Some (desc.Pointer m t)) f h = inl (t, (forms.pointers v t (ap pointer_of f)).0)
        go (Some (desc.ProcType m s)) f h = inr (formals_in program s, (forms.procedures v s (ap signature_of f)).0)
        go None f h = not_true h
        go (Some (desc.Const c)) f h = not_true h
        go (Some (desc.Var m t)) f h = not_true h
        go (Some (desc.Proc s)) f h = not_true h
        go (Some (desc.Alias m t)) f h = not_true h
        go (Some (desc.Array m n t)) f h = not_true h
        go (Some (desc.OpenArray m t)) f h = not_true h
        go (Some (desc.Record r)) f h = not_true h

    nil_scalar : (t : Form) → typed.ConstantOk program Has unit held result literal.Nil t → Scalar t
    nil_scalar t h = ⊎_elim (λ k. subst Scalar (sym k.1) tt) (λ k. subst Scalar (sym k.1) tt) h

    not_scalar_array : (n : ℕ) (t u : Form) → t ≡ ArrayForm n u → Scalar t → ⊥
    not_scalar_array n t u e s = subst Scalar e s

    -- SCALAR TYPES

    basic_taken : (v : TypeRef) (b : Basic) → width_of (Some b) ≡ None → takes_type map v (ref.Basic b) ≡ true → Scalar (form_in program v) → form_in program v ≡ BasicForm b
    basic_taken v b n e s = widens_back program Has unit held result (form_in program (ref.Basic b)) (form_in program v) b (forms.scalars v (ref.Basic b) e s).1 (form_basic program b) n

    pub constant_scalar : (v : TypeRef) (c : Literal) → IsDeclared v → ConstantIs c → takes_constant map v c ≡ true → Scalar (form_in program v) → typed.ConstantOk program Has unit held result c (form_in program v)
    constant_scalar v (literal.Str text) d h e s =
        ⊎_elim (λ f. let r = text_room v (length text) d f in absurd (not_scalar_array r.0 (form_in program v) char r.1 s))
        (λ f. let p = and_is (nat_eq (length text) 1) (takes_type map v (ref.Basic basic.Char)) f in absurd (h.1 (nat_is (length text) 1 p.0))) (or_is (takes_text map v (length text)) (nat_eq (length text) 1 && takes_type map v (ref.Basic basic.Char)) e)
    constant_scalar v (literal.Char c) d h e s =
        ⊎_elim (λ f. let r = text_room v 1 d f in absurd (not_scalar_array r.0 (form_in program v) char r.1 s))
        (λ f. (h, basic_taken v basic.Char refl f s)) (or_is (takes_text map v 1) (takes_type map v (ref.Basic basic.Char)) e)
    constant_scalar v (literal.Int z) d h e s =
        let f : takes_type map v (ref.Basic (typed.basic_of (smallest_of z))) ≡ true = sym (ap (takes_kind map v) (number_type z)) ∙ e in
        let w = widens_integer (form_in program (ref.Basic (typed.basic_of (smallest_of z)))) (form_in program v) (smallest_of z) (forms.scalars v (ref.Basic (typed.basic_of (smallest_of z))) f s).1 (form_basic program (typed.basic_of (smallest_of z))) in
        (w.0, number_fits z w.0 h w.2, w.1)
    constant_scalar v (literal.Bool b) d h e s = basic_taken v basic.Boolean refl e s
    constant_scalar v (literal.Set n) d h e s = (h, basic_taken v basic.Set refl e s)
    constant_scalar v literal.Nil d h e s = has_nil_is v e

    pub procedure_taken : (x : Expr) (v : TypeRef) (s : Signature) → NodeIs program Has unit held result map x (kind.Procedure s) → alike_to map s (signature_at map v) ≡ true → (t : Formals) × (form_in program v ≡ ProcedureForm t) × Ex x (form_in program v)
    procedure_taken x v s h e = go (signature_at map v) refl e
      where
        go : (o : Option Signature) → signature_at map v ≡ o → alike_to map s o ≡ true → (t : Formals) × (form_in program v ≡ ProcedureForm t) × Ex x (form_in program v)
        go None f g = not_true g
        go (Some t) f g = let k = forms.procedures v t f in (formals_in program t, k.0, subst (λ y. Ex x y) (ap (λ y. ProcedureForm y) (forms.alike s t h.0 k.1 g) ∙ sym k.0) h.1)

    node_scalar : (x : Expr) (k : ExprType) (v : TypeRef) → NodeIs program Has unit held result map x k → takes_value_of map v k ≡ true → Scalar (form_in program v) → Ex x (form_in program v)
    node_scalar x (kind.Of t) v h e s = h.2 (form_in program v) (forms.scalars v t e s).1
    node_scalar x (kind.Procedure t) v h e s = (procedure_taken x v t h e).2
    node_scalar x kind.Str v h e s = absurd h
    node_scalar x kind.Nil v h e s = absurd h
    node_scalar x kind.Nothing v h e s = absurd h

    -- a value that is assignable to a scalar type is of that type
    pub scalar_fits : (v : TypeRef) (x : Valued) → IsDeclared v → Is x → fits map v x ≡ true → Scalar (form_in program v) → Ex (expr_view (tree x)) (form_in program v)
    scalar_fits v (valued.Constant c) d h e s = shown_constant program Has unit held result map forms c (form_in program v) (constant_scalar v c d h e s)
    scalar_fits v (valued.Place p) d h e s =
        let k = forms.scalars v p.of e s in
        shown_place program Has unit held result map forms p (form_in program v) (place_fits program Has unit held result map forms (designator_view p.designator.inner) p.of p.var_record (form_in program p.of) (form_in program v) h refl k.0 k.1)
    scalar_fits v (valued.Node n) d h e s = node_scalar (expr_view n.tree.inner) n.of v h e s

    -- ARRAYS AND RECORDS

    abbrev Structured : Form → Type 0
    Structured t = Scalar t → ⊥

    abbrev Stands : Expr → Form → Type 0
    Stands x t = typed.StructureOk program Has unit held result x t

    no_structure : {B : Type 0} (v t : TypeRef) → takes_type map v t ≡ true → Scalar (form_in program t) → Structured (form_in program v) → B
    no_structure {B} v t e s k = ⊎_elim (λ f. absurd (k (scalar_sub (form_in program t) (form_in program v) f s))) (λ f. absurd (k f)) (forms.structures v t e)

    no_basic : {B : Type 0} (v : TypeRef) (b : Basic) → takes_type map v (ref.Basic b) ≡ true → Structured (form_in program v) → B
    no_basic {B} v b e k = no_structure {B = B} v (ref.Basic b) e (subst Scalar (sym (form_basic program b)) tt) k

    text_stands : (v : TypeRef) (text : List ℕ) → IsDeclared v → AreCharacters text → takes_text map v (length text) ≡ true → Stands (expr_view (e.Constant (literal.Str text))) (form_in program v)
    text_stands v text d h e = let r = text_room v (length text) d e in subst (λ y. Stands y (form_in program v)) (sym (view_constant (literal.Str text))) (r.0, r.1, r.2, h)

    tree_of_string : (b : Bool) (text : List ℕ) → tree_for b (valued.Constant (literal.Str text)) ≡ e.Constant (literal.Str text)
    tree_of_string true text = refl
    tree_of_string false text = refl

    pub tree_of_place : (b : Bool) (p : Place) → tree_for b (valued.Place p) ≡ e.Designator p.designator.inner
    tree_of_place true p = refl
    tree_of_place false p = refl

    constant_structure : (v : TypeRef) (c : Literal) → IsDeclared v → ConstantIs c → takes_constant map v c ≡ true → Structured (form_in program v) → Stands (expr_view (tree_for (is_array map v) (valued.Constant c))) (form_in program v)
    constant_structure v (literal.Str text) d h e k =
        ⊎_elim (λ f. subst (λ t. Stands (expr_view t) (form_in program v)) (sym (tree_of_string (is_array map v) text)) (text_stands v text d h.0 f))
        (λ f. let p = and_is (nat_eq (length text) 1) (takes_type map v (ref.Basic basic.Char)) f in absurd (h.1 (nat_is (length text) 1 p.0))) (or_is (takes_text map v (length text)) (nat_eq (length text) 1 && takes_type map v (ref.Basic basic.Char)) e)
    constant_structure v (literal.Char c) d h e k =
        ⊎_elim (λ f. subst (λ b. Stands (expr_view (tree_for b (valued.Constant (literal.Char c)))) (form_in program v)) (sym (text_room v 1 d f).3) (text_stands v (c ∷ []) d (h, tt) f))
        (λ f. no_basic v basic.Char f k) (or_is (takes_text map v 1) (takes_type map v (ref.Basic basic.Char)) e)
    constant_structure v (literal.Int z) d h e k = no_basic v (typed.basic_of (smallest_of z)) (sym (ap (takes_kind map v) (number_type z)) ∙ e) k
    constant_structure v (literal.Bool b) d h e k = no_basic v basic.Boolean e k
    constant_structure v (literal.Set n) d h e k = no_basic v basic.Set e k
    constant_structure v literal.Nil d h e k = absurd (k (nil_scalar (form_in program v) (has_nil_is v e)))

    pub node_structure : {B : Type 0} (x : Expr) (k : ExprType) (v : TypeRef) → NodeIs program Has unit held result map x k → takes_value_of map v k ≡ true → Structured (form_in program v) → B
    node_structure {B} x (kind.Of t) v h e s = no_structure {B = B} v t e h.1 s
    node_structure {B} x (kind.Procedure t) v h e s = absurd (s (subst Scalar (sym (procedure_taken x v t h e).1) tt))
    node_structure {B} x kind.Str v h e s = absurd h
    node_structure {B} x kind.Nil v h e s = absurd h
    node_structure {B} x kind.Nothing v h e s = absurd h

    -- a value that is assignable to an array or record type stands for one
    pub structure_fits : (v : TypeRef) (x : Valued) → IsDeclared v → Is x → fits map v x ≡ true → Structured (form_in program v) → Stands (expr_view (tree_for (is_array map v) x)) (form_in program v)
    structure_fits v (valued.Constant c) d h e k = constant_structure v c d h e k
    structure_fits v (valued.Place p) d h e k =
        let dd = designator_view p.designator.inner in
        let s : Sub (form_in program (variable_type dd)) (form_in program v) = ⊎_elim (λ f. subst (λ t. Sub t (form_in program v)) (sym (form_is program Has unit held result map forms dd p.of p.var_record h)) f) (λ f. absurd (k f)) (forms.structures v p.of e) in
        subst (λ t. Stands (expr_view t) (form_in program v)) (sym (tree_of_place (is_array map v) p)) (subst (λ y. Stands y (form_in program v)) (sym (view_value_of p.designator.inner)) (h.fits, s))
    structure_fits v (valued.Node n) d h e k = node_structure (expr_view n.tree.inner) n.of v h e k
