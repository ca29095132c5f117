-- Sets of elements that are well typed.
use Rattle.std.proofs.Common.{◌≡◌, refl, sym, ap, ◌∙◌, subst, ℕ, List, [], ◌∷◌, Option, Some, None, Bool, true, false, arith}
use Rattle.std.specs.Prelude.{◌&&◌}
use Rattle.ob_tree.specs.declared.pos.Pos.{Pos}
use Rattle.ob_tree.specs.declared.names.QName.{QName}
use Rattle.ob_types.specs.declared.types.Basic.{Basic}
use Rattle.ob_types.specs.declared.types.Basic.TheVariants as basic
use Rattle.ob_types.specs.declared.types.TypeRef.{TypeRef}
use Rattle.ob_types.specs.declared.value.Value.{Value as Literal}
use Rattle.ob_types.specs.declared.value.Value.TheVariants as literal
use Rattle.ob_types.specs.declared.typed.Unary.TheVariants as unary
use Rattle.ob_types.specs.declared.typed.Binary.TheVariants as binary
use Rattle.ob_types.specs.declared.typed.TypedExpr.{TypedExpr}
use Rattle.ob_types.specs.declared.typed.TypedExpr.TheVariants as e
use Rattle.ob_types.specs.TypedSyntax.{Expr}
use Rattle.ob_types.specs.TypedKinds.{of_basic}
use Rattle.ob_types.specs.TypedView.{expr_view}
use Rattle.ob_types.proofs.TypedViews.{view_monadic, view_dyadic, view_constant}
use Rattle.ob_meaning.specs.Values.{Program, Form, BasicForm, Formals, Held}
use Rattle.law_simulation_relation.specs.Typed as typed
use Rattle.law_simulation_relation.specs.Typed.{longint, set, integer}
use Rattle.ob_rules.specs.declared.meant.ElementOf.{ElementOf}
use Rattle.ob_rules.specs.declared.values.Valued.{Valued}
use Rattle.ob_rules.specs.declared.values.Valued.TheVariants as valued
use Rattle.ob_rules.specs.Shapes.{Map, width_of}
use Rattle.ob_rules.specs.Constants.{fold_one, fold_two}
use Rattle.ob_rules.specs.Values.{is_integer, tree, constant_in}
use Rattle.ob_rules.specs.Operators.{element_folded, single, ranged, if_integer, if_integers, element, union_of, and_so, all_constant, set_from, set_of}
use Rattle.law_typing.specs.Makes.{IfThere, Makes}
use Rattle.law_typing.specs.Forms.{Forms}
use Rattle.law_typing.specs.Known.{ConstantIs}
use Rattle.law_typing.specs.Kept.{NodeIs, ValuedIs}
use Rattle.law_typing.proofs.Makes.{Each}
use Rattle.law_typing.proofs.Constants.{fold_one_is, fold_two_is}
use Rattle.law_typing.proofs.Basics.{width_back}
use Rattle.law_typing.proofs.Values.{Fits, W, basic_node}
use Rattle.law_typing.proofs.Operators.{and_is}
use Rattle.law_typing.proofs.Designators.{long_fits}
use Rattle.law_lists.proofs.Lists.{none_some}

form_basic_of : Form → Option Basic
form_basic_of (BasicForm b) = Some b
form_basic_of t = None

module _ (program : Program) (Has : Formals → QName → Type 0) (unit : List ℕ) (held : List Held) (result : Option TypeRef) where
  abbrev Ex : Expr → Form → Type 0
  Ex x t = Fits program Has unit held result x t

  -- a basic type that is no integer widens to itself alone
  pub widens_back : (t v : Form) (b : Basic) → W program Has unit held result t v → t ≡ BasicForm b → width_of (Some b) ≡ None → v ≡ BasicForm b
  unfolding form_basic_of
  widens_back _ _ b typed.itself e n = e
  widens_back _ _ b (typed.integers k w l) e n = none_some (sym n ∙ sym (ap width_of (ap form_basic_of e)) ∙ width_back k)
  widens_back _ _ b (typed.pointers s t f g) e n = none_some (ap form_basic_of e)
  widens_back _ _ b (typed.procedures s t f) e n = none_some (ap form_basic_of e)

  -- an element: its node is a set, and so is the constant that it is
  pub record ElementIs (x : ElementOf) : Type 0 where
    pub fits : Ex (expr_view x.node.inner) set
    pub constant : IfThere ConstantIs x.constant

  folded_is : (at : Pos) (t : TypedExpr) (o : Option Literal) → Ex (expr_view t) set → IfThere ConstantIs o → Makes ElementIs (element_folded at t o)
  folded_is at t None h k = record { node = tt }
  folded_is at t (Some v) h k = record { node = record { fits = h; constant = k } }

  single_is : (at : Pos) (t : TypedExpr) (o : Option Literal) → Ex (expr_view t) set → IfThere ConstantIs o → Makes ElementIs (single at t o)
  single_is at t None h k = record { node = record { fits = h; constant = tt } }
  single_is at t (Some v) h k = folded_is at t (fold_one unary.Element v) h (fold_one_is unary.Element v k)

  ranged_is : (at : Pos) (t : TypedExpr) (o p : Option Literal) → Ex (expr_view t) set → IfThere ConstantIs o → IfThere ConstantIs p → Makes ElementIs (ranged at t o p)
  ranged_is at t (Some v) (Some w) h k l = folded_is at t (fold_two binary.Range v w) h (fold_two_is binary.Range v w k l)
  ranged_is at t (Some v) None h k l = record { node = record { fits = h; constant = tt } }
  ranged_is at t None p h k l = record { node = record { fits = h; constant = tt } }

  module _ (map : Map) (forms : Forms program Has unit held result map) where
    abbrev Is : Valued → Type 0
    Is x = ValuedIs program Has unit held result map x

    constant_there : (x : Valued) → Is x → IfThere ConstantIs (constant_in x)
    constant_there (valued.Constant c) h = h
    constant_there (valued.Place p) h = tt
    constant_there (valued.Node n) h = tt

    if_integer_is : (b : Bool) (at : Pos) (a : Valued) → Is a → (b ≡ true → Ex (expr_view (tree a)) longint) → Makes ElementIs (if_integer b at a)
    if_integer_is true at a h f = single_is at (e.Unary unary.Element (tree a) at) (constant_in a) (subst (λ y. Ex y set) (sym (view_monadic unary.Element (tree a) at)) (f refl, typed.itself)) (constant_there a h)
    if_integer_is false at a h f = record { node = tt }

    if_integers_is : (x : Bool) (at : Pos) (a b : Valued) → Is a → Is b → (x ≡ true → Ex (expr_view (tree a)) longint × Ex (expr_view (tree b)) longint) → Makes ElementIs (if_integers x at a b)
    if_integers_is true at a b h k f =
        let p = f refl in
        ranged_is at (e.Binary binary.Range (tree a) (tree b) at) (constant_in a) (constant_in b) (subst (λ y. Ex y set) (sym (view_dyadic binary.Range (tree a) (tree b) at)) (longint, longint, set, typed.range, p.0, p.1, typed.itself)) (constant_there a h) (constant_there b k)
    if_integers_is false at a b h k f = record { node = tt }

    pub element_is : (at : Pos) (a : Valued) (o : Option Valued) → Is a → IfThere Is o → Makes ElementIs (element map at a o)
    element_is at a None h k = if_integer_is (is_integer map a) at a h (long_fits program Has unit held result map forms a h)
    element_is at a (Some b) h k = if_integers_is (is_integer map a && is_integer map b) at a b h k (λ q. let p = and_is (is_integer map a) (is_integer map b) q in (long_fits program Has unit held result map forms a h p.0, long_fits program Has unit held result map forms b k p.1))

    union_fits : (acc : TypedExpr) (xs : List ElementOf) → Ex (expr_view acc) set → Each ElementIs xs → Ex (expr_view (union_of acc xs)) set
    union_fits acc [] h k = h
    union_fits acc (x ∷ xs) h k = union_fits (e.Binary binary.Union acc x.node.inner x.at) xs (subst (λ y. Ex y set) (sym (view_dyadic binary.Union acc x.node.inner x.at)) (set, set, set, typed.union, h, k.0.fits, typed.itself)) k.1

    so_there : (o : Option Literal) (f : Literal → Option Literal) → IfThere ConstantIs o → ((v : Literal) → ConstantIs v → IfThere ConstantIs (f v)) → IfThere ConstantIs (and_so o f)
    so_there None f h k = tt
    so_there (Some v) f h k = k v h

    all_there : (acc : Literal) (xs : List ElementOf) → ConstantIs acc → Each ElementIs xs → IfThere ConstantIs (all_constant acc xs)
    all_there acc [] h k = h
    all_there acc (x ∷ xs) h k = so_there x.constant (λ v. and_so (fold_two binary.Union acc v) (λ w. all_constant w xs)) k.0.constant (λ v l. so_there (fold_two binary.Union acc v) (λ w. all_constant w xs) (fold_two_is binary.Union acc v h l) (λ w m. all_there w xs m k.1))

    empty_set : ConstantIs (literal.Set 0)
    empty_set = omega arith

    set_node : (xs : List ElementOf) → Each ElementIs xs → NodeIs program Has unit held result map (expr_view (union_of (e.Constant (literal.Set 0)) xs)) (of_basic basic.Set)
    set_node xs k =
        let f : Ex (expr_view (union_of (e.Constant (literal.Set 0)) xs)) set = union_fits (e.Constant (literal.Set 0)) xs (subst (λ y. Ex y set) (sym (view_constant (literal.Set 0))) (empty_set, refl)) k in
        basic_node program Has unit held result map forms (expr_view (union_of (e.Constant (literal.Set 0)) xs)) basic.Set (λ v w. subst (λ t. Ex (expr_view (union_of (e.Constant (literal.Set 0)) xs)) t) (sym (widens_back set v basic.Set w refl refl)) f)

    from_is : (xs : List ElementOf) (o : Option Literal) → Each ElementIs xs → IfThere ConstantIs o → Is (set_from xs o)
    from_is xs (Some v) k h = h
    from_is xs None k h = set_node xs k

    pub set_is : (xs : List ElementOf) → Each ElementIs xs → Is (set_of xs)
    set_is xs k = from_is xs (all_constant (literal.Set 0) xs) k (all_there (literal.Set 0) xs empty_set k)
