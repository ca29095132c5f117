-- Operators leave nothing for later.
use Rattle.std.proofs.Common.{refl, ℕ, Bool, true, false, List, Option, Some, None}
use Rattle.std.specs.Prelude.{◌&&◌}
use Rattle.ob_tree.specs.declared.pos.Pos.{Pos}
use Rattle.ob_tree.specs.declared.expr.Operator.{Operator}
use Rattle.ob_tree.specs.declared.expr.Operator.TheVariants as op
use Rattle.ob_tree.specs.declared.expr.Relation.{Relation}
use Rattle.ob_tree.specs.declared.expr.Sign.{Sign}
use Rattle.ob_tree.specs.declared.expr.Sign.TheVariants as sign
use Rattle.ob_types.specs.declared.types.Basic.TheVariants as basic
use Rattle.ob_types.specs.declared.value.Value.{Value}
use Rattle.ob_types.specs.declared.typed.TypedExpr.{TypedExpr}
use Rattle.ob_types.specs.declared.typed.TypedExpr.TheVariants as e
use Rattle.ob_types.specs.declared.typed.Width.{Width}
use Rattle.ob_types.specs.declared.typed.Unary.{Unary}
use Rattle.ob_types.specs.declared.typed.Unary.TheVariants as unary
use Rattle.ob_types.specs.declared.typed.Binary.{Binary}
use Rattle.ob_types.specs.declared.typed.Binary.TheVariants as binary
use Rattle.ob_types.specs.declared.typed.Connective.{Connective}
use Rattle.ob_types.specs.declared.typed.Connective.TheVariants as connective
use Rattle.ob_types.specs.declared.typed.Comparison.{Comparison}
use Rattle.ob_types.specs.declared.typed.Compared.{Compared}
use Rattle.ob_types.specs.TypedKinds.{of_basic, unary_type, binary_type}
use Rattle.ob_rules.specs.declared.meant.ElementOf.{ElementOf}
use Rattle.ob_rules.specs.declared.values.Valued.{Valued}
use Rattle.ob_rules.specs.Shapes.{Map}
use Rattle.ob_rules.specs.Constants.{fold_one, fold_two, fold_texts, fold_logical}
use Rattle.ob_rules.specs.Values.{computed, is, width as width_of, is_integer, text_tree, tree, constant_in}
use Rattle.ob_rules.specs.Operators.{folded, one_of, monadic, two_of, dyadic, logical, texts, if_fit, are, binary_of, connected, combined, negated, opposite, signed_as, signed, comparison_of, compared_as, is_equality, is_text, compare_as, contained, compare, related, element_folded, single, ranged, if_integer, if_integers, element}
use Rattle.law_local_module.proofs.Leaves.{Nil}

folded_nil : (at : Pos) (o : Option Value) → Nil (folded at o)
folded_nil at None = refl
folded_nil at (Some v) = refl

one_nil : (k : Unary) (at : Pos) (x : Valued) (o : Option Value) → Nil (one_of k at x o)
one_nil k at x None = refl
one_nil k at x (Some v) = folded_nil at (fold_one k v)

pub monadic_nil : (k : Unary) (at : Pos) (x : Valued) → Nil (monadic k at x)
monadic_nil k at x = one_nil k at x (constant_in x)

two_nil : (f : Value → Value → Option Value) (at : Pos) (a b : Option Value) (x : Valued) → Nil (two_of f at a b x)
two_nil f at (Some a) (Some b) x = folded_nil at (f a b)
two_nil f at (Some a) None x = refl
two_nil f at None b x = refl

pub dyadic_nil : (k : Binary) (at : Pos) (a b : Valued) → Nil (dyadic k at a b)
dyadic_nil k at a b = two_nil (fold_two k) at (constant_in a) (constant_in b) (computed (e.Binary k (tree a) (tree b) at) (binary_type k))

connected_nil : (f : Bool) (k : Connective) (at : Pos) (a b : Valued) → Nil (connected f k at a b)
connected_nil true k at a b = two_nil (fold_logical k) at (constant_in a) (constant_in b) (computed (e.Logical k (tree a) (tree b)) (of_basic basic.Boolean))
connected_nil false k at a b = refl

fit_nil : (o : Option Binary) (at : Pos) (a b : Valued) → Nil (if_fit o at (λ o. dyadic o at a b))
fit_nil None at a b = refl
fit_nil (Some k) at a b = dyadic_nil k at a b

pub combined_nil : (map : Map) (k : Operator) (at : Pos) (a b : Valued) → Nil (combined map k at a b)
combined_nil map op.Or at a b = connected_nil (are map basic.Boolean a b) connective.Or at a b
combined_nil map op.And at a b = connected_nil (are map basic.Boolean a b) connective.And at a b
combined_nil map op.Add at a b = fit_nil (binary_of map op.Add a b) at a b
combined_nil map op.Subtract at a b = fit_nil (binary_of map op.Subtract a b) at a b
combined_nil map op.Multiply at a b = fit_nil (binary_of map op.Multiply a b) at a b
combined_nil map op.Divide at a b = fit_nil (binary_of map op.Divide a b) at a b
combined_nil map op.Quotient at a b = fit_nil (binary_of map op.Quotient a b) at a b
combined_nil map op.Remainder at a b = fit_nil (binary_of map op.Remainder a b) at a b

negated_nil : (b : Bool) (at : Pos) (x : Valued) → Nil (negated b at x)
negated_nil true at x = monadic_nil unary.Not at x
negated_nil false at x = refl

pub opposite_nil : (map : Map) (at : Pos) (x : Valued) → Nil (opposite map at x)
opposite_nil map at x = negated_nil (is map basic.Boolean x) at x

signed_by : (s : Sign) (o : Option Width) (set : Bool) (at : Pos) (x : Valued) → Nil (signed_as s o set at x)
signed_by sign.Plus (Some w) set at x = refl
signed_by sign.Plus None set at x = refl
signed_by sign.Minus (Some w) set at x = monadic_nil (unary.Negate w) at x
signed_by sign.Minus None true at x = monadic_nil unary.Complement at x
signed_by sign.Minus None false at x = refl

pub signed_nil : (map : Map) (s : Sign) (at : Pos) (x : Valued) → Nil (signed map s at x)
signed_nil map s at x = signed_by s (width_of map x) (is map basic.Set x) at x

compared_nil : (o : Option Compared) (text : Bool) (r : Comparison) (at : Pos) (a b : Valued) → Nil (compare_as o text r at a b)
compared_nil (Some c) text r at a b = dyadic_nil (binary.Compare r c) at a b
compared_nil None true r at a b = two_nil (fold_texts r) at (constant_in a) (constant_in b) (computed (e.CompareTexts r (text_tree a) (text_tree b) at) (of_basic basic.Boolean))
compared_nil None false r at a b = refl

contained_nil : (f : Bool) (at : Pos) (a b : Valued) → Nil (contained f at a b)
contained_nil true at a b = dyadic_nil binary.In at a b
contained_nil false at a b = refl

compare_nil : (map : Map) (o : Option Comparison) (at : Pos) (a b : Valued) → Nil (compare map o at a b)
compare_nil map (Some r) at a b = compared_nil (compared_as map (is_equality r) a b) (is_text map a && is_text map b) r at a b
compare_nil map None at a b = contained_nil (is_integer map a && is map basic.Set b) at a b

pub related_nil : (map : Map) (r : Relation) (at : Pos) (a b : Valued) → Nil (related map r at a b)
related_nil map r at a b = compare_nil map (comparison_of r) at a b

-- ---- elements of sets

folded_element : (at : Pos) (t : TypedExpr) (o : Option Value) → Nil (element_folded at t o)
folded_element at t None = refl
folded_element at t (Some v) = refl

single_nil : (at : Pos) (t : TypedExpr) (o : Option Value) → Nil (single at t o)
single_nil at t None = refl
single_nil at t (Some v) = folded_element at t (fold_one unary.Element v)

ranged_nil : (at : Pos) (t : TypedExpr) (a b : Option Value) → Nil (ranged at t a b)
ranged_nil at t (Some a) (Some b) = folded_element at t (fold_two binary.Range a b)
ranged_nil at t (Some a) None = refl
ranged_nil at t None b = refl

one_element : (b : Bool) (at : Pos) (a : Valued) → Nil (if_integer b at a)
one_element true at a = single_nil at (e.Unary unary.Element (tree a) at) (constant_in a)
one_element false at a = refl

two_elements : (f : Bool) (at : Pos) (a b : Valued) → Nil (if_integers f at a b)
two_elements true at a b = ranged_nil at (e.Binary binary.Range (tree a) (tree b) at) (constant_in a) (constant_in b)
two_elements false at a b = refl

pub element_nil : (map : Map) (at : Pos) (a : Valued) (o : Option Valued) → Nil (element map at a o)
element_nil map at a None = one_element (is_integer map a) at a
element_nil map at a (Some b) = two_elements (is_integer map a && is_integer map b) at a b
