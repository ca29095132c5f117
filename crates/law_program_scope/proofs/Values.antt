-- Operators, relations and sets name what their operands name.
use Rattle.std.proofs.Common.{Bool, true, false, List, [], ◌∷◌, Option, Some, None}
use Rattle.std.specs.List.{AllByRecursion}
use Rattle.ob_tree.specs.declared.pos.Pos.{Pos}
use Rattle.ob_tree.specs.declared.expr.Operator.{Operator}
use Rattle.ob_tree.specs.declared.expr.Operator.TheVariants as op
use Rattle.ob_tree.specs.declared.expr.Relation.{Relation}
use Rattle.ob_tree.specs.declared.expr.Sign.{Sign}
use Rattle.ob_tree.specs.declared.expr.Sign.TheVariants as sign
use Rattle.ob_types.specs.declared.value.Value.{Value}
use Rattle.ob_types.specs.declared.value.Value.TheVariants as literal
use Rattle.ob_types.specs.declared.typed.Width.{Width}
use Rattle.ob_types.specs.declared.typed.Unary.{Unary}
use Rattle.ob_types.specs.declared.typed.Unary.TheVariants as unary
use Rattle.ob_types.specs.declared.typed.Binary.{Binary}
use Rattle.ob_types.specs.declared.typed.Binary.TheVariants as binary
use Rattle.ob_types.specs.declared.typed.Connective.{Connective}
use Rattle.ob_types.specs.declared.typed.Connective.TheVariants as connective
use Rattle.ob_types.specs.declared.typed.Comparison.{Comparison}
use Rattle.ob_types.specs.declared.typed.Compared.{Compared}
use Rattle.ob_types.specs.declared.typed.TypedExpr.{TypedExpr}
use Rattle.ob_types.specs.declared.typed.TypedExpr.TheVariants as e
use Rattle.ob_types.specs.TypedKinds.{of_basic, binary_type}
use Rattle.ob_types.specs.declared.types.Basic.TheVariants as basic
use Rattle.ob_types.specs.TypedSyntax.{Constant, ValueOf, Monadic, Dyadic, Logical, CompareTexts}
use Rattle.ob_types.specs.TypedView.{expr_view, designator_view}
use Rattle.ob_types.proofs.TypedViews.{view_constant, view_value_of, view_monadic, view_dyadic, view_logical, view_compare_texts}
use Rattle.ob_scheme.specs.Context.{Context}
use Rattle.ob_rules.specs.declared.values.Valued.{Valued}
use Rattle.ob_rules.specs.declared.values.Valued.TheVariants as valued
use Rattle.ob_rules.specs.declared.meant.ElementOf.{ElementOf}
use Rattle.ob_rules.specs.Judged.{Judged}
use Rattle.ob_rules.specs.Shapes.{Map}
use Rattle.ob_rules.specs.Constants.{fold_one, fold_two, fold_texts, fold_logical}
use Rattle.ob_rules.specs.Values.{computed, is, width, is_integer, as_text, text_tree, tree, constant_in}
use Rattle.ob_rules.specs.Operators.{folded, one_of, monadic, two_of, dyadic, logical, texts, if_fit, are, binary_of, connected, combined, negated, opposite, only_value, signed_as, signed, comparison_of, is_equality, compared_as, compare_as, contained, compare, related, element_folded, single, ranged, if_integer, if_integers, element, union_of, all_constant, set_from, set_of}
use Rattle.law_program_scope.proofs.Setting.{E, ValuedOk, Keeps, named_e, tree_ok}
use Rattle.law_lists.proofs.Lists.{IfThere}

folded_keeps : (k : Context) (at : Pos) (o : Option Value) → Keeps (ValuedOk k) (folded at o)
folded_keeps k at None = tt
folded_keeps k at (Some v) = tt

monadic_e : (k : Context) (op : Unary) (x : TypedExpr) (at : Pos) → E k x → E k (e.Unary op x at)
monadic_e k op x at h = named_e k _ (Monadic op (expr_view x) at) (view_monadic op x at) h

dyadic_e : (k : Context) (op : Binary) (x y : TypedExpr) (at : Pos) → E k x → E k y → E k (e.Binary op x y at)
dyadic_e k op x y at h g = named_e k _ (Dyadic op (expr_view x) (expr_view y) at) (view_dyadic op x y at) (h, g)

one_keeps : (k : Context) (op : Unary) (at : Pos) (x : Valued) (o : Option Value) → ValuedOk k x → Keeps (ValuedOk k) (one_of op at x o)
one_keeps k op at x None h = monadic_e k op (tree x) at (tree_ok k x h)
one_keeps k op at x (Some v) h = folded_keeps k at (fold_one op v)

pub monadic_keeps : (k : Context) (op : Unary) (at : Pos) (x : Valued) → ValuedOk k x → Keeps (ValuedOk k) (monadic op at x)
monadic_keeps k op at x h = one_keeps k op at x (constant_in x) h

two_keeps : (k : Context) (f : Value → Value → Option Value) (at : Pos) (a b : Option Value) (x : Valued) → ValuedOk k x → Keeps (ValuedOk k) (two_of f at a b x)
two_keeps k f at (Some a) (Some b) x h = folded_keeps k at (f a b)
two_keeps k f at (Some a) None x h = h
two_keeps k f at None b x h = h

pub dyadic_keeps : (k : Context) (op : Binary) (at : Pos) (a b : Valued) → ValuedOk k a → ValuedOk k b → Keeps (ValuedOk k) (dyadic op at a b)
dyadic_keeps k op at a b h g = two_keeps k (fold_two op) at (constant_in a) (constant_in b) (computed (e.Binary op (tree a) (tree b) at) (binary_type op)) (dyadic_e k op (tree a) (tree b) at (tree_ok k a h) (tree_ok k b g))

logical_keeps : (k : Context) (op : Connective) (at : Pos) (a b : Valued) → ValuedOk k a → ValuedOk k b → Keeps (ValuedOk k) (logical op at a b)
logical_keeps k op at a b h g = two_keeps k (fold_logical op) at (constant_in a) (constant_in b) (computed (e.Logical op (tree a) (tree b)) (of_basic basic.Boolean)) (named_e k _ (Logical op (expr_view (tree a)) (expr_view (tree b))) (view_logical op (tree a) (tree b)) (tree_ok k a h, tree_ok k b g))

as_text_ok : (k : Context) (o : Option Value) (t : TypedExpr) → E k t → E k (as_text o t)
as_text_ok k (Some (literal.Char c)) t h = named_e k _ (Constant (literal.Str (c ∷ []))) (view_constant (literal.Str (c ∷ []))) tt
as_text_ok k (Some (literal.Bool b)) t h = h
as_text_ok k (Some (literal.Int z)) t h = h
as_text_ok k (Some (literal.Set n)) t h = h
as_text_ok k (Some (literal.Str s)) t h = h
as_text_ok k (Some literal.Nil) t h = h
as_text_ok k None t h = h

pub text_tree_ok : (k : Context) (x : Valued) → ValuedOk k x → E k (text_tree x)
text_tree_ok k x h = as_text_ok k (constant_in x) (tree x) (tree_ok k x h)

texts_keep : (k : Context) (r : Comparison) (at : Pos) (a b : Valued) → ValuedOk k a → ValuedOk k b → Keeps (ValuedOk k) (texts r at a b)
texts_keep k r at a b h g = two_keeps k (fold_texts r) at (constant_in a) (constant_in b) (computed (e.CompareTexts r (text_tree a) (text_tree b) at) (of_basic basic.Boolean)) (named_e k _ (CompareTexts r (expr_view (text_tree a)) (expr_view (text_tree b)) at) (view_compare_texts r (text_tree a) (text_tree b) at) (text_tree_ok k a h, text_tree_ok k b g))

fit_keeps : (k : Context) {A : Type 0} (o : Option A) (at : Pos) (f : A → Judged Valued) → ((x : A) → Keeps (ValuedOk k) (f x)) → Keeps (ValuedOk k) (if_fit o at f)
fit_keeps k None at f h = tt
fit_keeps k (Some x) at f h = h x

connected_keeps : (k : Context) (b : Bool) (o : Connective) (at : Pos) (x y : Valued) → ValuedOk k x → ValuedOk k y → Keeps (ValuedOk k) (connected b o at x y)
connected_keeps k true o at x y h g = logical_keeps k o at x y h g
connected_keeps k false o at x y h g = tt

pub combined_keeps : (k : Context) (map : Map) (o : Operator) (at : Pos) (x y : Valued) → ValuedOk k x → ValuedOk k y → Keeps (ValuedOk k) (combined map o at x y)
combined_keeps k map op.Or at x y h g = connected_keeps k (are map basic.Boolean x y) connective.Or at x y h g
combined_keeps k map op.And at x y h g = connected_keeps k (are map basic.Boolean x y) connective.And at x y h g
combined_keeps k map op.Add at x y h g = fit_keeps k (binary_of map op.Add x y) at (λ o. dyadic o at x y) (λ o. dyadic_keeps k o at x y h g)
combined_keeps k map op.Subtract at x y h g = fit_keeps k (binary_of map op.Subtract x y) at (λ o. dyadic o at x y) (λ o. dyadic_keeps k o at x y h g)
combined_keeps k map op.Multiply at x y h g = fit_keeps k (binary_of map op.Multiply x y) at (λ o. dyadic o at x y) (λ o. dyadic_keeps k o at x y h g)
combined_keeps k map op.Divide at x y h g = fit_keeps k (binary_of map op.Divide x y) at (λ o. dyadic o at x y) (λ o. dyadic_keeps k o at x y h g)
combined_keeps k map op.Quotient at x y h g = fit_keeps k (binary_of map op.Quotient x y) at (λ o. dyadic o at x y) (λ o. dyadic_keeps k o at x y h g)
combined_keeps k map op.Remainder at x y h g = fit_keeps k (binary_of map op.Remainder x y) at (λ o. dyadic o at x y) (λ o. dyadic_keeps k o at x y h g)

negated_keeps : (k : Context) (b : Bool) (at : Pos) (x : Valued) → ValuedOk k x → Keeps (ValuedOk k) (negated b at x)
negated_keeps k true at x h = monadic_keeps k unary.Not at x h
negated_keeps k false at x h = tt

pub opposite_keeps : (k : Context) (map : Map) (at : Pos) (x : Valued) → ValuedOk k x → Keeps (ValuedOk k) (opposite map at x)
opposite_keeps k map at x h = negated_keeps k (is map basic.Boolean x) at x h

pub only_ok : (k : Context) (x : Valued) → ValuedOk k x → ValuedOk k (only_value x)
only_ok k (valued.Place p) h = named_e k _ (ValueOf (designator_view p.designator.inner)) (view_value_of p.designator.inner) h.0
only_ok k (valued.Constant v) h = h
only_ok k (valued.Node n) h = h

signed_as_keeps : (k : Context) (s : Sign) (w : Option Width) (b : Bool) (at : Pos) (x : Valued) → ValuedOk k x → Keeps (ValuedOk k) (signed_as s w b at x)
signed_as_keeps k sign.Plus (Some w) b at x h = only_ok k x h
signed_as_keeps k sign.Plus None b at x h = tt
signed_as_keeps k sign.Minus (Some w) b at x h = monadic_keeps k (unary.Negate w) at x h
signed_as_keeps k sign.Minus None true at x h = monadic_keeps k unary.Complement at x h
signed_as_keeps k sign.Minus None false at x h = tt

pub signed_keeps : (k : Context) (map : Map) (s : Sign) (at : Pos) (x : Valued) → ValuedOk k x → Keeps (ValuedOk k) (signed map s at x)
signed_keeps k map s at x h = signed_as_keeps k s (width map x) (is map basic.Set x) at x h

compare_as_keeps : (k : Context) (o : Option Compared) (b : Bool) (r : Comparison) (at : Pos) (x y : Valued) → ValuedOk k x → ValuedOk k y → Keeps (ValuedOk k) (compare_as o b r at x y)
compare_as_keeps k (Some c) b r at x y h g = dyadic_keeps k (binary.Compare r c) at x y h g
compare_as_keeps k None true r at x y h g = texts_keep k r at x y h g
compare_as_keeps k None false r at x y h g = tt

contained_keeps : (k : Context) (b : Bool) (at : Pos) (x y : Valued) → ValuedOk k x → ValuedOk k y → Keeps (ValuedOk k) (contained b at x y)
contained_keeps k true at x y h g = dyadic_keeps k binary.In at x y h g
contained_keeps k false at x y h g = tt

compare_keeps : (k : Context) (map : Map) (o : Option Comparison) (at : Pos) (x y : Valued) → ValuedOk k x → ValuedOk k y → Keeps (ValuedOk k) (compare map o at x y)
compare_keeps k map (Some r) at x y h g = compare_as_keeps k (compared_as map (is_equality r) x y) _ r at x y h g
compare_keeps k map None at x y h g = contained_keeps k _ at x y h g

pub related_keeps : (k : Context) (map : Map) (r : Relation) (at : Pos) (x y : Valued) → ValuedOk k x → ValuedOk k y → Keeps (ValuedOk k) (related map r at x y)
related_keeps k map r at x y h g = compare_keeps k map (comparison_of r) at x y h g

-- ---- sets

abbrev pub ElementOk : Context → ElementOf → Type 0
ElementOk k x = E k x.node.inner

element_folds : (k : Context) (at : Pos) (t : TypedExpr) (o : Option Value) → E k t → Keeps (ElementOk k) (element_folded at t o)
element_folds k at t None h = tt
element_folds k at t (Some v) h = h

single_keeps : (k : Context) (at : Pos) (t : TypedExpr) (o : Option Value) → E k t → Keeps (ElementOk k) (single at t o)
single_keeps k at t None h = h
single_keeps k at t (Some v) h = element_folds k at t (fold_one unary.Element v) h

ranged_keeps : (k : Context) (at : Pos) (t : TypedExpr) (a b : Option Value) → E k t → Keeps (ElementOk k) (ranged at t a b)
ranged_keeps k at t (Some a) (Some b) h = element_folds k at t (fold_two binary.Range a b) h
ranged_keeps k at t (Some a) None h = h
ranged_keeps k at t None b h = h

integer_keeps : (k : Context) (b : Bool) (at : Pos) (x : Valued) → ValuedOk k x → Keeps (ElementOk k) (if_integer b at x)
integer_keeps k true at x h = single_keeps k at (e.Unary unary.Element (tree x) at) (constant_in x) (monadic_e k unary.Element (tree x) at (tree_ok k x h))
integer_keeps k false at x h = tt

integers_keep : (k : Context) (b : Bool) (at : Pos) (x y : Valued) → ValuedOk k x → ValuedOk k y → Keeps (ElementOk k) (if_integers b at x y)
integers_keep k true at x y h g = ranged_keeps k at (e.Binary binary.Range (tree x) (tree y) at) (constant_in x) (constant_in y) (dyadic_e k binary.Range (tree x) (tree y) at (tree_ok k x h) (tree_ok k y g))
integers_keep k false at x y h g = tt

pub element_keeps : (k : Context) (map : Map) (at : Pos) (x : Valued) (o : Option Valued) → ValuedOk k x → IfThere (ValuedOk k) o → Keeps (ElementOk k) (element map at x o)
element_keeps k map at x None h g = integer_keeps k (is_integer map x) at x h
element_keeps k map at x (Some y) h g = integers_keep k _ at x y h g

union_ok : (k : Context) (xs : List ElementOf) → AllByRecursion (ElementOk k) xs → (acc : TypedExpr) → E k acc → E k (union_of acc xs)
union_ok k [] h acc g = g
union_ok k (x ∷ xs) h acc g = union_ok k xs h.1 (e.Binary binary.Union acc x.node.inner x.at) (dyadic_e k binary.Union acc x.node.inner x.at g h.0)

set_ok : (k : Context) (xs : List ElementOf) (o : Option Value) → AllByRecursion (ElementOk k) xs → ValuedOk k (set_from xs o)
set_ok k xs (Some v) h = tt
set_ok k xs None h = union_ok k xs h (e.Constant (literal.Set 0)) (named_e k _ (Constant (literal.Set 0)) (view_constant (literal.Set 0)) tt)

pub set_keeps : (k : Context) (xs : List ElementOf) → AllByRecursion (ElementOk k) xs → ValuedOk k (set_of xs)
set_keeps k xs h = set_ok k xs (all_constant (literal.Set 0) xs) h
