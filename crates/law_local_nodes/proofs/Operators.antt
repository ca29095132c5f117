-- Operators: what is applied to values has a node, or breaks a rule.
use Rattle.std.proofs.Common.{Bool, true, false, Option, Some, None}
use Rattle.ob_tree.specs.declared.pos.Pos.{Pos}
use Rattle.ob_tree.specs.declared.expr.Operator.{Operator}
use Rattle.ob_tree.specs.declared.expr.Operator.TheVariants as op
use Rattle.ob_tree.specs.declared.expr.Relation.{Relation}
use Rattle.ob_tree.specs.declared.expr.Sign.{Sign}
use Rattle.ob_tree.specs.declared.expr.Sign.TheVariants as sign
use Rattle.ob_types.specs.declared.types.Basic.TheVariants as basic
use Rattle.ob_types.specs.declared.value.Value.{Value}
use Rattle.ob_types.specs.declared.typed.TypedExpr.{TypedExpr}
use Rattle.ob_types.specs.declared.typed.TypedExpr.TheVariants as e
use Rattle.ob_types.specs.declared.typed.Width.{Width}
use Rattle.ob_types.specs.declared.typed.Unary.{Unary}
use Rattle.ob_types.specs.declared.typed.Unary.TheVariants as unary
use Rattle.ob_types.specs.declared.typed.Binary.{Binary}
use Rattle.ob_types.specs.declared.typed.Binary.TheVariants as binary
use Rattle.ob_types.specs.declared.typed.Connective.{Connective}
use Rattle.ob_types.specs.declared.typed.Connective.TheVariants as connective
use Rattle.ob_types.specs.declared.typed.Comparison.{Comparison}
use Rattle.ob_types.specs.declared.typed.Compared.{Compared}
use Rattle.ob_types.specs.TypedKinds.{of_basic, unary_type, binary_type}
use Rattle.ob_rules.specs.declared.meant.ElementOf.{ElementOf}
use Rattle.ob_rules.specs.declared.values.Valued.{Valued}
use Rattle.ob_rules.specs.declared.broken.Rule.TheVariants as rule
use Rattle.ob_rules.specs.Judged.{Judged}
use Rattle.ob_rules.specs.Shapes.{Map}
use Rattle.ob_rules.specs.Constants.{fold_one, fold_two, fold_texts, fold_logical}
use Rattle.ob_rules.specs.Values.{computed, is, width as width_of, is_integer, text_tree, tree, constant_in}
use Rattle.ob_rules.specs.Operators.{folded, one_of, monadic, two_of, dyadic, logical, texts, if_fit, are, binary_of, connected, combined, negated, opposite, signed_as, signed, comparison_of, compared_as, is_equality, is_text, compare_as, contained, compare, related, element_folded, single, ranged, if_integer, if_integers, element}
use Rattle.law_names_procedures.proofs.Judges.{Speaks, breaks_speaks}
use Rattle.std.specs.Prelude.{◌&&◌}
use Rattle.law_lists.proofs.Lists.{Anything}

-- where it breaks no rule it has a node
abbrev pub There : {A : Type 0} → Judged A → Type 0
There j = Speaks Anything j

folded_there : (at : Pos) (o : Option Value) → There (folded at o)
folded_there at None = breaks_speaks {A = Valued} Anything rule.ConstantOutOfRange at
folded_there at (Some v) = λ n. tt

one_there : (k : Unary) (at : Pos) (x : Valued) (o : Option Value) → There (one_of k at x o)
one_there k at x None = λ n. tt
one_there k at x (Some v) = folded_there at (fold_one k v)

pub monadic_there : (k : Unary) (at : Pos) (x : Valued) → There (monadic k at x)
monadic_there k at x = one_there k at x (constant_in x)

two_there : (f : Value → Value → Option Value) (at : Pos) (a b : Option Value) (x : Valued) → There (two_of f at a b x)
two_there f at (Some a) (Some b) x = folded_there at (f a b)
two_there f at (Some a) None x = λ n. tt
two_there f at None b x = λ n. tt

pub dyadic_there : (k : Binary) (at : Pos) (a b : Valued) → There (dyadic k at a b)
dyadic_there k at a b = two_there (fold_two k) at (constant_in a) (constant_in b) (computed (e.Binary k (tree a) (tree b) at) (binary_type k))

connected_there : (f : Bool) (k : Connective) (at : Pos) (a b : Valued) → There (connected f k at a b)
connected_there true k at a b = two_there (fold_logical k) at (constant_in a) (constant_in b) (computed (e.Logical k (tree a) (tree b)) (of_basic basic.Boolean))
connected_there false k at a b = breaks_speaks {A = Valued} Anything rule.UnfitOperands at

fit_there : (o : Option Binary) (at : Pos) (a b : Valued) → There (if_fit o at (λ o. dyadic o at a b))
fit_there None at a b = breaks_speaks {A = Valued} Anything rule.UnfitOperands at
fit_there (Some k) at a b = dyadic_there k at a b

pub combined_there : (map : Map) (k : Operator) (at : Pos) (a b : Valued) → There (combined map k at a b)
combined_there map op.Or at a b = connected_there (are map basic.Boolean a b) connective.Or at a b
combined_there map op.And at a b = connected_there (are map basic.Boolean a b) connective.And at a b
combined_there map op.Add at a b = fit_there (binary_of map op.Add a b) at a b
combined_there map op.Subtract at a b = fit_there (binary_of map op.Subtract a b) at a b
combined_there map op.Multiply at a b = fit_there (binary_of map op.Multiply a b) at a b
combined_there map op.Divide at a b = fit_there (binary_of map op.Divide a b) at a b
combined_there map op.Quotient at a b = fit_there (binary_of map op.Quotient a b) at a b
combined_there map op.Remainder at a b = fit_there (binary_of map op.Remainder a b) at a b

negated_there : (b : Bool) (at : Pos) (x : Valued) → There (negated b at x)
negated_there true at x = monadic_there unary.Not at x
negated_there false at x = breaks_speaks {A = Valued} Anything rule.UnfitOperands at

pub opposite_there : (map : Map) (at : Pos) (x : Valued) → There (opposite map at x)
opposite_there map at x = negated_there (is map basic.Boolean x) at x

signed_by : (s : Sign) (o : Option Width) (set : Bool) (at : Pos) (x : Valued) → There (signed_as s o set at x)
signed_by sign.Plus (Some w) set at x = λ n. tt
signed_by sign.Plus None set at x = breaks_speaks {A = Valued} Anything rule.UnfitOperands at
signed_by sign.Minus (Some w) set at x = monadic_there (unary.Negate w) at x
signed_by sign.Minus None true at x = monadic_there unary.Complement at x
signed_by sign.Minus None false at x = breaks_speaks {A = Valued} Anything rule.UnfitOperands at

pub signed_there : (map : Map) (s : Sign) (at : Pos) (x : Valued) → There (signed map s at x)
signed_there map s at x = signed_by s (width_of map x) (is map basic.Set x) at x

compared_there : (o : Option Compared) (text : Bool) (r : Comparison) (at : Pos) (a b : Valued) → There (compare_as o text r at a b)
compared_there (Some c) text r at a b = dyadic_there (binary.Compare r c) at a b
compared_there None true r at a b = two_there (fold_texts r) at (constant_in a) (constant_in b) (computed (e.CompareTexts r (text_tree a) (text_tree b) at) (of_basic basic.Boolean))
compared_there None false r at a b = breaks_speaks {A = Valued} Anything rule.UnfitOperands at

contained_there : (f : Bool) (at : Pos) (a b : Valued) → There (contained f at a b)
contained_there true at a b = dyadic_there binary.In at a b
contained_there false at a b = breaks_speaks {A = Valued} Anything rule.UnfitOperands at

compare_there : (map : Map) (o : Option Comparison) (at : Pos) (a b : Valued) → There (compare map o at a b)
compare_there map (Some r) at a b = compared_there (compared_as map (is_equality r) a b) (is_text map a && is_text map b) r at a b
compare_there map None at a b = contained_there (is_integer map a && is map basic.Set b) at a b

pub related_there : (map : Map) (r : Relation) (at : Pos) (a b : Valued) → There (related map r at a b)
related_there map r at a b = compare_there map (comparison_of r) at a b

-- ---- elements of sets

folded_element : (at : Pos) (t : TypedExpr) (o : Option Value) → There (element_folded at t o)
folded_element at t None = breaks_speaks {A = ElementOf} Anything rule.ConstantOutOfRange at
folded_element at t (Some v) = λ n. tt

single_there : (at : Pos) (t : TypedExpr) (o : Option Value) → There (single at t o)
single_there at t None = λ n. tt
single_there at t (Some v) = folded_element at t (fold_one unary.Element v)

ranged_there : (at : Pos) (t : TypedExpr) (a b : Option Value) → There (ranged at t a b)
ranged_there at t (Some a) (Some b) = folded_element at t (fold_two binary.Range a b)
ranged_there at t (Some a) None = λ n. tt
ranged_there at t None b = λ n. tt

one_element : (b : Bool) (at : Pos) (a : Valued) → There (if_integer b at a)
one_element true at a = single_there at (e.Unary unary.Element (tree a) at) (constant_in a)
one_element false at a = breaks_speaks {A = ElementOf} Anything rule.UnfitOperands at

two_elements : (f : Bool) (at : Pos) (a b : Valued) → There (if_integers f at a b)
two_elements true at a b = ranged_there at (e.Binary binary.Range (tree a) (tree b) at) (constant_in a) (constant_in b)
two_elements false at a b = breaks_speaks {A = ElementOf} Anything rule.UnfitOperands at

pub element_there : (map : Map) (at : Pos) (a : Valued) (o : Option Valued) → There (element map at a o)
element_there map at a None = one_element (is_integer map a) at a
element_there map at a (Some b) = two_elements (is_integer map a && is_integer map b) at a b
