-- Operators on constants come to constants.
use Rattle.std.proofs.Common.{◌<◌, List, [], ◌∷◌, Option, Some, None, Bool, true, false, arith}
use Rattle.std.specs.Prelude.{◌^◌, ◌&&◌}
use Rattle.std.specs.List.{AllByRecursion}
use Rattle.ob_tree.specs.declared.pos.Pos.{Pos}
use Rattle.ob_tree.specs.declared.expr.Operator.{Operator}
use Rattle.ob_tree.specs.declared.expr.Operator.TheVariants as op
use Rattle.ob_tree.specs.declared.expr.Relation.{Relation}
use Rattle.ob_tree.specs.declared.expr.Sign.{Sign}
use Rattle.ob_tree.specs.declared.expr.Sign.TheVariants as sign
use Rattle.ob_types.specs.declared.types.Basic.TheVariants as basic
use Rattle.ob_types.specs.declared.value.Value.{Value}
use Rattle.ob_types.specs.declared.value.Value.TheVariants as literal
use Rattle.ob_types.specs.declared.typed.Unary.{Unary}
use Rattle.ob_types.specs.declared.typed.Unary.TheVariants as unary
use Rattle.ob_types.specs.declared.typed.Binary.{Binary}
use Rattle.ob_types.specs.declared.typed.Binary.TheVariants as binary
use Rattle.ob_types.specs.declared.typed.Comparison.{Comparison}
use Rattle.ob_types.specs.declared.typed.Compared.{Compared}
use Rattle.ob_types.specs.declared.typed.Connective.{Connective}
use Rattle.ob_types.specs.declared.typed.Connective.TheVariants as connective
use Rattle.ob_types.specs.declared.typed.TypedExpr.{TypedExpr}
use Rattle.ob_types.specs.declared.typed.Width.{Width}
use Rattle.ob_rules.specs.declared.meant.ElementOf.{ElementOf}
use Rattle.ob_rules.specs.declared.values.Valued.{Valued}
use Rattle.ob_rules.specs.declared.values.Valued.TheVariants as valued
use Rattle.ob_rules.specs.Judged.{Judged, sound, both, each_sound}
use Rattle.ob_rules.specs.Shapes.{Map}
use Rattle.ob_rules.specs.Constants.{fold_one, fold_two, fold_texts, fold_logical}
use Rattle.ob_rules.specs.Values.{is, width, constant_in, is_integer}
use Rattle.ob_rules.specs.Operators.{folded, one_of, monadic, two_of, dyadic, logical, texts, if_fit, are, binary_of, connected, combined, negated, opposite, only_value, signed_as, signed, is_text, compared_as, compare_as, comparison_of, is_equality, contained, compare, related, element_folded, single, ranged, if_integer, if_integers, element, all_constant, set_from, set_of, and_so}
use Rattle.law_typing.specs.Known.{ConstantIs}
use Rattle.law_typing.proofs.Constants.{fold_one_is, fold_two_is, fold_texts_is, fold_logical_is}
use Rattle.law_methods_described.proofs.Nodes.{Has, then_has, both_have}
use Rattle.law_typing.specs.Makes.{IfThere}

-- where it is a constant, it is one
abbrev pub V : Valued → Type 0
V (valued.Constant v) = ConstantIs v
V (valued.Place p) = Unit {0}
V (valued.Node n) = Unit {0}

abbrev C : Option Value → Type 0
C o = IfThere ConstantIs o

pub constant_is : (x : Valued) → V x → C (constant_in x)
constant_is (valued.Constant v) h = h
constant_is (valued.Place p) h = tt
constant_is (valued.Node n) h = tt

folded_is : (at : Pos) (o : Option Value) → C o → Has V (folded at o)
folded_is at None h = tt
folded_is at (Some v) h = h

one_is : (o : Unary) (at : Pos) (x : Valued) (v : Option Value) → C v → Has V (one_of o at x v)
one_is o at x None h = tt
one_is o at x (Some v) h = folded_is at (fold_one o v) (fold_one_is o v h)

pub monadic_is : (o : Unary) (at : Pos) (x : Valued) → V x → Has V (monadic o at x)
monadic_is o at x h = one_is o at x (constant_in x) (constant_is x h)

two_is : (f : Value → Value → Option Value) → ((a b : Value) → ConstantIs a → ConstantIs b → C (f a b)) → (at : Pos) (a b : Option Value) (x : Valued) → V x → C a → C b → Has V (two_of f at a b x)
two_is f g at None b x h k l = h
two_is f g at (Some a) None x h k l = h
two_is f g at (Some a) (Some b) x h k l = folded_is at (f a b) (g a b k l)

pub dyadic_is : (o : Binary) (at : Pos) (a b : Valued) → V a → V b → Has V (dyadic o at a b)
dyadic_is o at a b h k = two_is (fold_two o) (fold_two_is o) at (constant_in a) (constant_in b) _ tt (constant_is a h) (constant_is b k)

logical_is : (o : Connective) (at : Pos) (a b : Valued) → V a → V b → Has V (logical o at a b)
logical_is o at a b h k = two_is (fold_logical o) (λ a b h k. fold_logical_is o a b) at (constant_in a) (constant_in b) _ tt (constant_is a h) (constant_is b k)

texts_are : (r : Comparison) (at : Pos) (a b : Valued) → V a → V b → Has V (texts r at a b)
texts_are r at a b h k = two_is (fold_texts r) (λ a b h k. fold_texts_is r a b) at (constant_in a) (constant_in b) _ tt (constant_is a h) (constant_is b k)

fit_is : (o : Option Binary) (at : Pos) (a b : Valued) → V a → V b → Has V (if_fit o at (λ o. dyadic o at a b))
fit_is None at a b h k = tt
fit_is (Some o) at a b h k = dyadic_is o at a b h k

connected_is : (c : Bool) (o : Connective) (at : Pos) (a b : Valued) → V a → V b → Has V (connected c o at a b)
connected_is true o at a b h k = logical_is o at a b h k
connected_is false o at a b h k = tt

pub combined_is : (types : Map) (o : Operator) (at : Pos) (a b : Valued) → V a → V b → Has V (combined types o at a b)
combined_is types op.Or at a b h k = connected_is (are types basic.Boolean a b) connective.Or at a b h k
combined_is types op.And at a b h k = connected_is (are types basic.Boolean a b) connective.And at a b h k
combined_is types op.Add at a b h k = fit_is (binary_of types op.Add a b) at a b h k
combined_is types op.Subtract at a b h k = fit_is (binary_of types op.Subtract a b) at a b h k
combined_is types op.Multiply at a b h k = fit_is (binary_of types op.Multiply a b) at a b h k
combined_is types op.Divide at a b h k = fit_is (binary_of types op.Divide a b) at a b h k
combined_is types op.Quotient at a b h k = fit_is (binary_of types op.Quotient a b) at a b h k
combined_is types op.Remainder at a b h k = fit_is (binary_of types op.Remainder a b) at a b h k

negated_is : (c : Bool) (at : Pos) (x : Valued) → V x → Has V (negated c at x)
negated_is true at x h = monadic_is unary.Not at x h
negated_is false at x h = tt

pub opposite_is : (types : Map) (at : Pos) (x : Valued) → V x → Has V (opposite types at x)
opposite_is types at x h = negated_is (is types basic.Boolean x) at x h

pub only_is : (x : Valued) → V x → V (only_value x)
only_is (valued.Constant v) h = h
only_is (valued.Place p) h = tt
only_is (valued.Node n) h = tt

signed_by : (s : Sign) (w : Option Width) (c : Bool) (at : Pos) (x : Valued) → V x → Has V (signed_as s w c at x)
signed_by sign.Plus (Some w) c at x h = only_is x h
signed_by sign.Plus None c at x h = tt
signed_by sign.Minus (Some w) c at x h = monadic_is (unary.Negate w) at x h
signed_by sign.Minus None true at x h = monadic_is unary.Complement at x h
signed_by sign.Minus None false at x h = tt

pub signed_is : (types : Map) (s : Sign) (at : Pos) (x : Valued) → V x → Has V (signed types s at x)
signed_is types s at x h = signed_by s (width types x) (is types basic.Set x) at x h

compared_is : (c : Option Compared) (t : Bool) (r : Comparison) (at : Pos) (a b : Valued) → V a → V b → Has V (compare_as c t r at a b)
compared_is (Some c) t r at a b h k = dyadic_is (binary.Compare r c) at a b h k
compared_is None true r at a b h k = texts_are r at a b h k
compared_is None false r at a b h k = tt

contained_is : (c : Bool) (at : Pos) (a b : Valued) → V a → V b → Has V (contained c at a b)
contained_is true at a b h k = dyadic_is binary.In at a b h k
contained_is false at a b h k = tt

compare_is : (types : Map) (r : Option Comparison) (at : Pos) (a b : Valued) → V a → V b → Has V (compare types r at a b)
compare_is types (Some r) at a b h k = compared_is (compared_as types (is_equality r) a b) (is_text types a && is_text types b) r at a b h k
compare_is types None at a b h k = contained_is (is_integer types a && is types basic.Set b) at a b h k

pub related_is : (types : Map) (r : Relation) (at : Pos) (a b : Valued) → V a → V b → Has V (related types r at a b)
related_is types r at a b h k = compare_is types (comparison_of r) at a b h k

-- SETS

abbrev pub E : ElementOf → Type 0
E x = C x.constant

element_is_folded : (at : Pos) (t : TypedExpr) (v : Option Value) → C v → Has E (element_folded at t v)
element_is_folded at t None h = tt
element_is_folded at t (Some v) h = h

single_is : (at : Pos) (t : TypedExpr) (v : Option Value) → C v → Has E (single at t v)
single_is at t None h = tt
single_is at t (Some v) h = element_is_folded at t (fold_one unary.Element v) (fold_one_is unary.Element v h)

ranged_is : (at : Pos) (t : TypedExpr) (a b : Option Value) → C a → C b → Has E (ranged at t a b)
ranged_is at t None b h k = tt
ranged_is at t (Some a) None h k = tt
ranged_is at t (Some a) (Some b) h k = element_is_folded at t (fold_two binary.Range a b) (fold_two_is binary.Range a b h k)

one_element : (c : Bool) (at : Pos) (a : Valued) → V a → Has E (if_integer c at a)
one_element true at a h = single_is at _ (constant_in a) (constant_is a h)
one_element false at a h = tt

two_elements : (c : Bool) (at : Pos) (a b : Valued) → V a → V b → Has E (if_integers c at a b)
two_elements true at a b h k = ranged_is at _ (constant_in a) (constant_in b) (constant_is a h) (constant_is b k)
two_elements false at a b h k = tt

pub element_is : (types : Map) (at : Pos) (a : Valued) (b : Option Valued) → V a → IfThere V b → Has E (element types at a b)
element_is types at a None h k = one_element (is_integer types a) at a h
element_is types at a (Some b) h k = two_elements (is_integer types a && is_integer types b) at a b h k

so_there : (o : Option Value) (f : Value → Option Value) → C o → ((v : Value) → ConstantIs v → C (f v)) → C (and_so o f)
so_there None f h k = tt
so_there (Some v) f h k = k v h

all_are : (acc : Value) → ConstantIs acc → (xs : List ElementOf) → AllByRecursion E xs → C (all_constant acc xs)
all_are acc h [] k = h
all_are acc h (x ∷ xs) k = so_there x.constant _ k.0 (λ v l. so_there (fold_two binary.Union acc v) (λ w. all_constant w xs) (fold_two_is binary.Union acc v h l) (λ w m. all_are w m xs k.1))

set_by : (xs : List ElementOf) (o : Option Value) → C o → V (set_from xs o)
set_by xs None h = tt
set_by xs (Some v) h = h

no_elements : 0 < 2 ^ 32
no_elements = omega arith

pub set_is : (xs : List ElementOf) → AllByRecursion E xs → V (set_of xs)
set_is xs h = set_by xs (all_constant (literal.Set 0) xs) (all_are (literal.Set 0) no_elements xs h)

pub each_has : {A : Type 0} (P : A → Type 0) (js : List (Judged A)) → AllByRecursion (Has P) js → Has (AllByRecursion P) (each_sound js)
each_has P [] h = tt
each_has P (j ∷ js) h = then_has (λ p. P p.0 × AllByRecursion P p.1) (AllByRecursion P) (both j (each_sound js)) (λ p. sound (p.0 ∷ p.1)) (both_have P (AllByRecursion P) j (each_sound js) h.0 (each_has P js h.1)) (λ p k. k)
