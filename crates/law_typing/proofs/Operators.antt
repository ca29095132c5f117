-- Operators of operands that are well typed.
use Rattle.std.proofs.Common.{◌≡◌, refl, sym, subst, ℕ, List, Option, Some, None, Bool, true, false}
use Rattle.std.specs.Prelude.{◌&&◌}
use Rattle.ob_tree.specs.declared.pos.Pos.{Pos}
use Rattle.ob_tree.specs.declared.expr.Operator.{Operator}
use Rattle.ob_tree.specs.declared.expr.Operator.TheVariants as op
use Rattle.ob_tree.specs.declared.expr.Sign.{Sign}
use Rattle.ob_tree.specs.declared.expr.Sign.TheVariants as sign
use Rattle.ob_tree.specs.declared.names.QName.{QName}
use Rattle.ob_types.specs.declared.types.Basic.{Basic}
use Rattle.ob_types.specs.declared.types.Basic.TheVariants as basic
use Rattle.ob_types.specs.declared.types.TypeRef.{TypeRef}
use Rattle.ob_types.specs.declared.typed.Width.{Width}
use Rattle.ob_types.specs.declared.value.Value.{Value as Literal}
use Rattle.ob_types.specs.declared.typed.Unary.{Unary}
use Rattle.ob_types.specs.declared.typed.Unary.TheVariants as unary
use Rattle.ob_types.specs.declared.typed.Binary.{Binary}
use Rattle.ob_types.specs.declared.typed.Binary.TheVariants as binary
use Rattle.ob_types.specs.declared.typed.Connective.{Connective}
use Rattle.ob_types.specs.declared.typed.Connective.TheVariants as connective
use Rattle.ob_types.specs.declared.typed.TypedExpr.{TypedExpr}
use Rattle.ob_types.specs.declared.typed.TypedExpr.TheVariants as e
use Rattle.ob_types.specs.declared.typed.ExprType.{ExprType}
use Rattle.ob_types.specs.TypedSyntax.{Expr, Monadic, Dyadic, Logical}
use Rattle.ob_types.specs.TypedKinds.{of_basic, unary_type, binary_type}
use Rattle.ob_types.specs.TypedView.{designator_view, expr_view}
use Rattle.ob_types.proofs.TypedViews.{view_monadic, view_dyadic, view_logical}
use Rattle.ob_meaning.specs.Values.{Program, Form, BasicForm, Formals, Held}
use Rattle.law_simulation_relation.specs.Relation.{Scalar}
use Rattle.law_simulation_relation.specs.Typed as typed
use Rattle.law_simulation_relation.specs.Typed.{integer, boolean, set}
use Rattle.ob_rules.specs.declared.values.Valued.{Valued}
use Rattle.ob_rules.specs.declared.values.Valued.TheVariants as valued
use Rattle.ob_rules.specs.Shapes.{Map, wider, width_of}
use Rattle.ob_rules.specs.Constants.{fold_one, fold_two, fold_logical}
use Rattle.ob_rules.specs.Values.{is, width as width_at, tree, computed, constant_in}
use Rattle.ob_rules.specs.Operators.{folded, monadic, two_of, dyadic, if_fit, wider_of, integers, are, if_are, integers_or_sets, of_integers, binary_of, connected, combined, negated, opposite, only_value, signed_as, signed}
use Rattle.law_typing.specs.Makes.{IfThere, Makes}
use Rattle.law_typing.specs.Forms.{Forms}
use Rattle.law_typing.specs.Known.{ConstantIs}
use Rattle.law_typing.specs.Kept.{NodeIs, ValuedIs}
use Rattle.law_typing.proofs.Constants.{fold_one_is, fold_two_is, fold_logical_is}
use Rattle.law_typing.proofs.Basics.{not_true, width_of_width, left_within, right_within}
use Rattle.law_typing.proofs.Values.{Fits, W, place_fits, shown_place, integer_form, width_fits, basic_fits, basic_node}

-- the type of what an operation gives
abbrev pub unary_basic : Unary → Basic
unary_basic (unary.Negate w) = typed.basic_of w
unary_basic unary.Not = basic.Boolean
unary_basic unary.Complement = basic.Set
unary_basic (unary.Abs w) = typed.basic_of w
unary_basic unary.Cap = basic.Char
unary_basic unary.Chr = basic.Char
unary_basic (unary.Long w) = typed.basic_of w
unary_basic unary.Odd = basic.Boolean
unary_basic unary.Ord = basic.Integer
unary_basic (unary.Short w) = typed.basic_of w
unary_basic unary.Element = basic.Set

abbrev pub binary_basic : Binary → Basic
binary_basic (binary.Add w) = typed.basic_of w
binary_basic (binary.Subtract w) = typed.basic_of w
binary_basic (binary.Multiply w) = typed.basic_of w
binary_basic (binary.Quotient w) = typed.basic_of w
binary_basic (binary.Remainder w) = typed.basic_of w
binary_basic binary.Union = basic.Set
binary_basic binary.Difference = basic.Set
binary_basic binary.Intersection = basic.Set
binary_basic binary.SymmetricDifference = basic.Set
binary_basic binary.Range = basic.Set
binary_basic binary.In = basic.Boolean
binary_basic binary.Ash = basic.LongInt
binary_basic (binary.Compare r c) = basic.Boolean

pub unary_type_is : (o : Unary) → unary_type o ≡ of_basic (unary_basic o)
unary_type_is (unary.Negate w) = width_of_width w
unary_type_is unary.Not = refl
unary_type_is unary.Complement = refl
unary_type_is (unary.Abs w) = width_of_width w
unary_type_is unary.Cap = refl
unary_type_is unary.Chr = refl
unary_type_is (unary.Long w) = width_of_width w
unary_type_is unary.Odd = refl
unary_type_is unary.Ord = refl
unary_type_is (unary.Short w) = width_of_width w
unary_type_is unary.Element = refl

pub binary_type_is : (o : Binary) → binary_type o ≡ of_basic (binary_basic o)
binary_type_is (binary.Add w) = width_of_width w
binary_type_is (binary.Subtract w) = width_of_width w
binary_type_is (binary.Multiply w) = width_of_width w
binary_type_is (binary.Quotient w) = width_of_width w
binary_type_is (binary.Remainder w) = width_of_width w
binary_type_is binary.Union = refl
binary_type_is binary.Difference = refl
binary_type_is binary.Intersection = refl
binary_type_is binary.SymmetricDifference = refl
binary_type_is binary.Range = refl
binary_type_is binary.In = refl
binary_type_is binary.Ash = refl
binary_type_is (binary.Compare r c) = refl

pub and_is : (a b : Bool) → a && b ≡ true → (a ≡ true) × (b ≡ true)
and_is true true e = (refl, refl)
and_is true false e = not_true e
and_is false b e = not_true e

module _ (program : Program) (Has : Formals → QName → Type 0) (unit : List ℕ) (held : List Held) (result : Option TypeRef) where
  unary_out_is : (o : Unary) → typed.unary_out program Has unit held result o ≡ BasicForm (unary_basic o)
  unary_out_is (unary.Negate w) = refl
  unary_out_is unary.Not = refl
  unary_out_is unary.Complement = refl
  unary_out_is (unary.Abs w) = refl
  unary_out_is unary.Cap = refl
  unary_out_is unary.Chr = refl
  unary_out_is (unary.Long w) = refl
  unary_out_is unary.Odd = refl
  unary_out_is unary.Ord = refl
  unary_out_is (unary.Short w) = refl
  unary_out_is unary.Element = refl

  abbrev Ex : Expr → Form → Type 0
  Ex x t = Fits program Has unit held result x t

  -- the operands of an operation
  pub record Operands (o : Binary) (a b : Valued) : Type 0 where
    pub u : Form
    pub v : Form
    pub ok : typed.BinaryOk program Has unit held result o u v (BasicForm (binary_basic o))
    pub left : Ex (expr_view (tree a)) u
    pub right : Ex (expr_view (tree b)) v

  module _ (map : Map) (forms : Forms program Has unit held result map) where
    abbrev Is : Valued → Type 0
    Is x = ValuedIs program Has unit held result map x

    abbrev Node : Expr → ExprType → Type 0
    Node x k = NodeIs program Has unit held result map x k

    pub makes_folded : (at : Pos) (o : Option Literal) → IfThere ConstantIs o → Makes Is (folded at o)
    makes_folded at None h = record { node = tt }
    makes_folded at (Some c) h = record { node = h }

    -- ONE OPERAND

    monadic_node : (o : Unary) (at : Pos) (x : TypedExpr) → Ex (expr_view x) (typed.unary_in program Has unit held result o) → Node (expr_view (e.Unary o x at)) (unary_type o)
    monadic_node o at x h =
        let n : Node (Monadic o (expr_view x) at) (of_basic (unary_basic o)) = basic_node program Has unit held result map forms (Monadic o (expr_view x) at) (unary_basic o) (λ v w. (h, subst (λ f. W program Has unit held result f v) (sym (unary_out_is o)) w)) in
        subst (λ y. Node y (unary_type o)) (sym (view_monadic o x at)) (subst (λ k. Node (Monadic o (expr_view x) at) k) (sym (unary_type_is o)) n)

    pub monadic_is : (o : Unary) (at : Pos) (x : Valued) → Is x → Ex (expr_view (tree x)) (typed.unary_in program Has unit held result o) → Makes Is (monadic o at x)
    monadic_is o at (valued.Constant c) h k = makes_folded at (fold_one o c) (fold_one_is o c h)
    monadic_is o at (valued.Place p) h k = record { node = monadic_node o at (tree (valued.Place p)) k }
    monadic_is o at (valued.Node n) h k = record { node = monadic_node o at (tree (valued.Node n)) k }

    -- TWO OPERANDS

    pub two_is : (f : Literal → Literal → Option Literal) (at : Pos) (a b x : Valued) → Is a → Is b → ((c d : Literal) → ConstantIs c → ConstantIs d → IfThere ConstantIs (f c d)) → Is x → Makes Is (two_of f at (constant_in a) (constant_in b) x)
    two_is f at (valued.Constant c) (valued.Constant d) x h k g n = makes_folded at (f c d) (g c d h k)
    two_is f at (valued.Constant c) (valued.Place p) x h k g n = record { node = n }
    two_is f at (valued.Constant c) (valued.Node m) x h k g n = record { node = n }
    two_is f at (valued.Place p) b x h k g n = record { node = n }
    two_is f at (valued.Node m) b x h k g n = record { node = n }

    dyadic_node : (o : Binary) (at : Pos) (a b : Valued) → Operands o a b → Node (expr_view (e.Binary o (tree a) (tree b) at)) (binary_type o)
    dyadic_node o at a b h =
        let y = Dyadic o (expr_view (tree a)) (expr_view (tree b)) at in
        let n : Node y (of_basic (binary_basic o)) = basic_node program Has unit held result map forms y (binary_basic o) (λ v w. (h.u, h.v, BasicForm (binary_basic o), h.ok, h.left, h.right, w)) in
        subst (λ y. Node y (binary_type o)) (sym (view_dyadic o (tree a) (tree b) at)) (subst (λ k. Node y k) (sym (binary_type_is o)) n)

    pub dyadic_is : (o : Binary) (at : Pos) (a b : Valued) → Is a → Is b → Operands o a b → Makes Is (dyadic o at a b)
    dyadic_is o at a b h k n = two_is (fold_two o) at a b (computed (e.Binary o (tree a) (tree b) at) (binary_type o)) h k (fold_two_is o) (dyadic_node o at a b n)

    logical_node : (o : Connective) (a b : Valued) → Ex (expr_view (tree a)) boolean → Ex (expr_view (tree b)) boolean → Node (expr_view (e.Logical o (tree a) (tree b))) (of_basic basic.Boolean)
    logical_node o a b h k =
        let y = Logical o (expr_view (tree a)) (expr_view (tree b)) in
        subst (λ y. Node y (of_basic basic.Boolean)) (sym (view_logical o (tree a) (tree b))) (basic_node program Has unit held result map forms y basic.Boolean (λ v w. (h, (k, w))))

    -- OPERATORS

    pub integers_is : (a b : Valued) → Is a → Is b → IfThere (λ w. Ex (expr_view (tree a)) (integer w) × Ex (expr_view (tree b)) (integer w)) (integers map a b)
    integers_is a b h k = go (width_at map a) (width_at map b) refl refl
      where
        go : (o p : Option Width) → width_at map a ≡ o → width_at map b ≡ p → IfThere (λ w. Ex (expr_view (tree a)) (integer w) × Ex (expr_view (tree b)) (integer w)) (wider_of o p)
        go None p e f = tt
        go (Some v) None e f = tt
        go (Some v) (Some w) e f = (width_fits program Has unit held result map forms a v (wider v w) h e (left_within v w), width_fits program Has unit held result map forms b w (wider v w) k f (right_within v w))

    pub both_are : (o : Basic) (a b : Valued) → width_of (Some o) ≡ None → Is a → Is b → are map o a b ≡ true → Ex (expr_view (tree a)) (BasicForm o) × Ex (expr_view (tree b)) (BasicForm o)
    both_are o a b n h k e = let f = and_is (is map o a) (is map o b) e in (basic_fits program Has unit held result map forms a o n h f.0, basic_fits program Has unit held result map forms b o n k f.1)

    either_there : (P : Binary → Type 0) (o : Option Width) (s : Bool) (f : Width → Binary) (g : Binary) → IfThere (λ w. P (f w)) o → (s ≡ true → P g) → IfThere P (integers_or_sets o s f g)
    either_there P (Some w) s f g h k = h
    either_there P None true f g h k = k refl
    either_there P None false f g h k = tt

    each_there : (P : Binary → Type 0) (o : Option Width) (f : Width → Binary) → IfThere (λ w. P (f w)) o → IfThere P (of_integers o f)
    each_there P (Some w) f h = h
    each_there P None f h = tt

    if_there : (P : Binary → Type 0) (s : Bool) (g : Binary) → (s ≡ true → P g) → IfThere P (if_are s g)
    if_there P true g k = k refl
    if_there P false g k = tt

    more_there : {A : Type 0} (P Q : A → Type 0) (o : Option A) → ((x : A) → P x → Q x) → IfThere P o → IfThere Q o
    more_there P Q None f h = tt
    more_there P Q (Some x) f h = f x h

    binary_is : (o : Operator) (a b : Valued) → Is a → Is b → IfThere (λ x. Operands x a b) (binary_of map o a b)
    binary_is op.Add a b h k = either_there (λ x. Operands x a b) (integers map a b) (are map basic.Set a b) binary.Add binary.Union (more_there _ _ (integers map a b) (λ w p. record { u = integer w; v = integer w; ok = typed.sum w; left = p.0; right = p.1 }) (integers_is a b h k)) (λ e. let p = both_are basic.Set a b refl h k e in record { u = set; v = set; ok = typed.union; left = p.0; right = p.1 })
    binary_is op.Subtract a b h k = either_there (λ x. Operands x a b) (integers map a b) (are map basic.Set a b) binary.Subtract binary.Difference (more_there _ _ (integers map a b) (λ w p. record { u = integer w; v = integer w; ok = typed.difference w; left = p.0; right = p.1 }) (integers_is a b h k)) (λ e. let p = both_are basic.Set a b refl h k e in record { u = set; v = set; ok = typed.without; left = p.0; right = p.1 })
    binary_is op.Multiply a b h k = either_there (λ x. Operands x a b) (integers map a b) (are map basic.Set a b) binary.Multiply binary.Intersection (more_there _ _ (integers map a b) (λ w p. record { u = integer w; v = integer w; ok = typed.product w; left = p.0; right = p.1 }) (integers_is a b h k)) (λ e. let p = both_are basic.Set a b refl h k e in record { u = set; v = set; ok = typed.meet; left = p.0; right = p.1 })
    binary_is op.Divide a b h k = if_there (λ x. Operands x a b) (are map basic.Set a b) binary.SymmetricDifference (λ e. let p = both_are basic.Set a b refl h k e in record { u = set; v = set; ok = typed.either; left = p.0; right = p.1 })
    binary_is op.Quotient a b h k = each_there (λ x. Operands x a b) (integers map a b) binary.Quotient (more_there _ _ (integers map a b) (λ w p. record { u = integer w; v = integer w; ok = typed.quotient w; left = p.0; right = p.1 }) (integers_is a b h k))
    binary_is op.Remainder a b h k = each_there (λ x. Operands x a b) (integers map a b) binary.Remainder (more_there _ _ (integers map a b) (λ w p. record { u = integer w; v = integer w; ok = typed.remainder w; left = p.0; right = p.1 }) (integers_is a b h k))
    binary_is op.Or a b h k = tt
    binary_is op.And a b h k = tt

    fit_is : (o : Option Binary) (at : Pos) (a b : Valued) → Is a → Is b → IfThere (λ x. Operands x a b) o → Makes Is (if_fit o at (λ x. dyadic x at a b))
    fit_is None at a b h k f = record { node = tt }
    fit_is (Some o) at a b h k f = dyadic_is o at a b h k f

    connected_is : (x : Bool) (o : Connective) (at : Pos) (a b : Valued) → Is a → Is b → (x ≡ true → Ex (expr_view (tree a)) boolean × Ex (expr_view (tree b)) boolean) → Makes Is (connected x o at a b)
    connected_is true o at a b h k f = let p = f refl in two_is (fold_logical o) at a b (computed (e.Logical o (tree a) (tree b)) (of_basic basic.Boolean)) h k (λ c d i j. fold_logical_is o c d) (logical_node o a b p.0 p.1)
    connected_is false o at a b h k f = record { node = tt }

    -- an operator between terms or factors
    pub combined_is : (o : Operator) (at : Pos) (a b : Valued) → Is a → Is b → Makes Is (combined map o at a b)
    combined_is op.Or at a b h k = connected_is (are map basic.Boolean a b) connective.Or at a b h k (both_are basic.Boolean a b refl h k)
    combined_is op.And at a b h k = connected_is (are map basic.Boolean a b) connective.And at a b h k (both_are basic.Boolean a b refl h k)
    combined_is op.Add at a b h k = fit_is (binary_of map op.Add a b) at a b h k (binary_is op.Add a b h k)
    combined_is op.Subtract at a b h k = fit_is (binary_of map op.Subtract a b) at a b h k (binary_is op.Subtract a b h k)
    combined_is op.Multiply at a b h k = fit_is (binary_of map op.Multiply a b) at a b h k (binary_is op.Multiply a b h k)
    combined_is op.Divide at a b h k = fit_is (binary_of map op.Divide a b) at a b h k (binary_is op.Divide a b h k)
    combined_is op.Quotient at a b h k = fit_is (binary_of map op.Quotient a b) at a b h k (binary_is op.Quotient a b h k)
    combined_is op.Remainder at a b h k = fit_is (binary_of map op.Remainder a b) at a b h k (binary_is op.Remainder a b h k)

    negated_is : (x : Bool) (at : Pos) (a : Valued) → Is a → (x ≡ true → Ex (expr_view (tree a)) boolean) → Makes Is (negated x at a)
    negated_is true at a h f = monadic_is unary.Not at a h (f refl)
    negated_is false at a h f = record { node = tt }

    -- `~`
    pub opposite_is : (at : Pos) (a : Valued) → Is a → Makes Is (opposite map at a)
    opposite_is at a h = negated_is (is map basic.Boolean a) at a h (basic_fits program Has unit held result map forms a basic.Boolean refl h)

    -- the value of an integer variable
    only_value_is : (a : Valued) (w : Width) → Is a → width_at map a ≡ Some w → Is (only_value a)
    only_value_is (valued.Constant c) w h f = h
    only_value_is (valued.Node n) w h f = h
    only_value_is (valued.Place p) w h f =
        let g = integer_form program Has unit held result map forms p.of w f in
        (h.declared.0, subst Scalar (sym g) tt, λ v k. shown_place program Has unit held result map forms p v (place_fits program Has unit held result map forms (designator_view p.designator.inner) p.of p.var_record (integer w) v h g tt (subst (λ f. W program Has unit held result f v) g k)))

    signed_as_is : (s : Sign) (o : Option Width) (x : Bool) (at : Pos) (a : Valued) → Is a → width_at map a ≡ o → (x ≡ true → Ex (expr_view (tree a)) set) → Makes Is (signed_as s o x at a)
    signed_as_is sign.Plus (Some w) x at a h f g = record { node = only_value_is a w h f }
    signed_as_is sign.Plus None x at a h f g = record { node = tt }
    signed_as_is sign.Minus (Some w) x at a h f g = monadic_is (unary.Negate w) at a h (width_fits program Has unit held result map forms a w w h f typed.same)
    signed_as_is sign.Minus None true at a h f g = monadic_is unary.Complement at a h (g refl)
    signed_as_is sign.Minus None false at a h f g = record { node = tt }

    -- a sign
    pub signed_is : (s : Sign) (at : Pos) (a : Valued) → Is a → Makes Is (signed map s at a)
    signed_is s at a h = signed_as_is s (width_at map a) (is map basic.Set a) at a h refl (basic_fits program Has unit held result map forms a basic.Set refl h)
