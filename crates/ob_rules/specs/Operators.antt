-- Operators: what they are applied to, and constants of them.
use Rattle.std.specs.Prelude.{Bool, true, false, not, ◌&&◌, ◌||◌, List, [], ◌∷◌, Option, Some, None, is_some, pos}
use Rattle.ob_tree.specs.declared.pos.Pos.{Pos}
use Rattle.ob_tree.specs.declared.expr.Operator.{Operator}
use Rattle.ob_tree.specs.declared.expr.Operator.TheVariants as op
use Rattle.ob_tree.specs.declared.expr.Relation.{Relation}
use Rattle.ob_tree.specs.declared.expr.Relation.TheVariants as relates
use Rattle.ob_tree.specs.declared.expr.Sign.{Sign}
use Rattle.ob_tree.specs.declared.expr.Sign.TheVariants as sign
use Rattle.ob_types.specs.declared.types.Basic.{Basic}
use Rattle.ob_types.specs.declared.types.Basic.TheVariants as basic
use Rattle.ob_types.specs.declared.types.TypeRef.{TypeRef}
use Rattle.ob_types.specs.declared.types.Signature.{Signature}
use Rattle.ob_types.specs.declared.value.Value.{Value}
use Rattle.ob_types.specs.declared.value.Value.TheVariants as literal
use Rattle.ob_types.specs.declared.typed.Width.{Width}
use Rattle.ob_types.specs.declared.typed.Width.TheVariants as width
use Rattle.ob_types.specs.declared.typed.Unary.{Unary}
use Rattle.ob_types.specs.declared.typed.Unary.TheVariants as unary
use Rattle.ob_types.specs.declared.typed.Binary.{Binary}
use Rattle.ob_types.specs.declared.typed.Binary.TheVariants as binary
use Rattle.ob_types.specs.declared.typed.Connective.{Connective}
use Rattle.ob_types.specs.declared.typed.Connective.TheVariants as connective
use Rattle.ob_types.specs.declared.typed.Comparison.{Comparison}
use Rattle.ob_types.specs.declared.typed.Comparison.TheVariants as comparison
use Rattle.ob_types.specs.declared.typed.Compared.{Compared}
use Rattle.ob_types.specs.declared.typed.Compared.TheVariants as compared
use Rattle.ob_types.specs.declared.typed.TypedExpr.{TypedExpr}
use Rattle.ob_types.specs.declared.typed.TypedExpr.TheVariants as e
use Rattle.ob_types.specs.declared.typed.ExprType.{ExprType}
use Rattle.ob_types.specs.declared.typed.ExprType.TheVariants as kind
use Rattle.ob_types.specs.TypedKinds.{of_basic, unary_type, binary_type}
use Rattle.ob_types.specs.Tests.{extends_at, equal_at, same_at, signatures_alike}
use Rattle.ob_rules.specs.declared.meant.ElementOf.{ElementOf}
use Rattle.ob_rules.specs.Judged.{Judged, sound, breaks, silent, ◌▷◌, both, each_sound, noted, joined, no_notes}
use Rattle.ob_rules.specs.Shapes.{Map, wider}
use Rattle.ob_rules.specs.Constants.{fold_one, fold_two, fold_texts, fold_logical}
use Rattle.ob_rules.specs.declared.values.Place.{Place}
use Rattle.ob_rules.specs.declared.values.Valued.{Valued}
use Rattle.ob_rules.specs.declared.values.Valued.TheVariants as valued
use Rattle.ob_rules.specs.declared.broken.Rule.TheVariants as rule
use Rattle.ob_rules.specs.Values.{constant, computed, is, width as width_of, is_integer, text_of, is_chars, is_nil, points, signature, text_tree, type_in, tree, type, constant_in, place_in}

-- rule 11: a constant expression leaves LONGINT or would trap
abbrev pub folded : Pos → Option Value → Judged Valued
folded at None = breaks rule.ConstantOutOfRange at
folded at (Some v) = sound (constant v)

abbrev pub one_of : Unary → Pos → Valued → Option Value → Judged Valued
one_of op at x None = sound (computed (e.Unary op (tree x) at) (unary_type op))
one_of op at x (Some v) = folded at (fold_one op v)

-- an operation on one value, a constant's at once
abbrev pub monadic : Unary → Pos → Valued → Judged Valued
monadic op at x = one_of op at x (constant_in x)

abbrev pub two_of : (Value → Value → Option Value) → Pos → Option Value → Option Value → Valued → Judged Valued
two_of f at (Some a) (Some b) x = folded at (f a b)
two_of f at a b x = sound x

-- an operation on two values, that of constants at once
abbrev pub dyadic : Binary → Pos → Valued → Valued → Judged Valued
dyadic op at a b = two_of (fold_two op) at (constant_in a) (constant_in b) (computed (e.Binary op (tree a) (tree b) at) (binary_type op))

abbrev pub logical : Connective → Pos → Valued → Valued → Judged Valued
logical op at a b = two_of (fold_logical op) at (constant_in a) (constant_in b) (computed (e.Logical op (tree a) (tree b)) (of_basic basic.Boolean))

abbrev pub texts : Comparison → Pos → Valued → Valued → Judged Valued
texts r at a b = two_of (fold_texts r) at (constant_in a) (constant_in b) (computed (e.CompareTexts r (text_tree a) (text_tree b) at) (of_basic basic.Boolean))

-- RULE 21: OPERANDS THAT DO NOT FIT THE OPERATOR

abbrev pub if_fit : {A : Type 0} → Option A → Pos → (A → Judged Valued) → Judged Valued
if_fit None at f = breaks rule.UnfitOperands at
if_fit (Some x) at f = f x

abbrev pub wider_of : Option Width → Option Width → Option Width
wider_of (Some a) (Some b) = Some (wider a b)
wider_of a b = None

-- the smaller integer type that includes both
abbrev pub integers : Map → Valued → Valued → Option Width
integers map a b = wider_of (width_of map a) (width_of map b)

abbrev pub are : Map → Basic → Valued → Valued → Bool
are map b x y = is map b x && is map b y

abbrev pub if_are : Bool → Binary → Option Binary
if_are true op = Some op
if_are false op = None

-- integers, or else sets
abbrev pub integers_or_sets : Option Width → Bool → (Width → Binary) → Binary → Option Binary
integers_or_sets (Some w) sets f g = Some (f w)
integers_or_sets None sets f g = if_are sets g

abbrev pub of_integers : Option Width → (Width → Binary) → Option Binary
of_integers None f = None
of_integers (Some w) f = Some (f w)

abbrev pub binary_of : Map → Operator → Valued → Valued → Option Binary
binary_of map op.Add a b = integers_or_sets (integers map a b) (are map basic.Set a b) binary.Add binary.Union
binary_of map op.Subtract a b = integers_or_sets (integers map a b) (are map basic.Set a b) binary.Subtract binary.Difference
binary_of map op.Multiply a b = integers_or_sets (integers map a b) (are map basic.Set a b) binary.Multiply binary.Intersection
binary_of map op.Divide a b = if_are (are map basic.Set a b) binary.SymmetricDifference
binary_of map op.Quotient a b = of_integers (integers map a b) binary.Quotient
binary_of map op.Remainder a b = of_integers (integers map a b) binary.Remainder
binary_of map op.Or a b = None
binary_of map op.And a b = None

abbrev pub connected : Bool → Connective → Pos → Valued → Valued → Judged Valued
connected true op at a b = logical op at a b
connected false op at a b = breaks rule.UnfitOperands at

-- an operator between terms or factors
abbrev pub combined : Map → Operator → Pos → Valued → Valued → Judged Valued
combined map op.Or at a b = connected (are map basic.Boolean a b) connective.Or at a b
combined map op.And at a b = connected (are map basic.Boolean a b) connective.And at a b
combined map op at a b = if_fit (binary_of map op a b) at (λ o. dyadic o at a b)

abbrev pub negated : Bool → Pos → Valued → Judged Valued
negated true at x = monadic unary.Not at x
negated false at x = breaks rule.UnfitOperands at

-- `~`
abbrev pub opposite : Map → Pos → Valued → Judged Valued
opposite map at x = negated (is map basic.Boolean x) at x

-- the value itself, which is no variable
abbrev pub only_value : Valued → Valued
only_value (valued.Place p) = computed (e.Designator p.designator.inner) (kind.Of p.of)
only_value x = x

abbrev pub signed_as : Sign → Option Width → Bool → Pos → Valued → Judged Valued
signed_as sign.Plus (Some w) set at x = sound (only_value x)
signed_as sign.Plus None set at x = breaks rule.UnfitOperands at
signed_as sign.Minus (Some w) set at x = monadic (unary.Negate w) at x
signed_as sign.Minus None true at x = monadic unary.Complement at x
signed_as sign.Minus None false at x = breaks rule.UnfitOperands at

abbrev pub signed : Map → Sign → Pos → Valued → Judged Valued
signed map s at x = signed_as s (width_of map x) (is map basic.Set x) at x

-- RELATIONS

abbrev pub comparison_of : Relation → Option Comparison
comparison_of relates.Equal = Some comparison.Equal
comparison_of relates.NotEqual = Some comparison.NotEqual
comparison_of relates.Less = Some comparison.Less
comparison_of relates.LessEqual = Some comparison.LessEqual
comparison_of relates.Greater = Some comparison.Greater
comparison_of relates.GreaterEqual = Some comparison.GreaterEqual
comparison_of r = None

abbrev pub is_equality : Comparison → Bool
is_equality comparison.Equal = true
is_equality comparison.NotEqual = true
is_equality r = false

-- a string, a character constant, or an array of characters
abbrev pub is_text : Map → Valued → Bool
is_text map x = is_chars map x || is_some (text_of x)

abbrev pub extends_either : Map → Option TypeRef → Option TypeRef → Bool
extends_either map (Some a) (Some b) = extends_at map a b || extends_at map b a
extends_either map a b = false

abbrev pub signatures_match : Map → Option Signature → Option Signature → Bool
signatures_match map (Some a) (Some b) = signatures_alike (λ x y. equal_at map 201 x y) (λ x y. same_at map x y) a b
signatures_match map a b = false

-- two pointers whose bases are the same or extend one another, or NIL and a pointer
abbrev pub are_pointers : Map → Valued → Valued → Bool
are_pointers map a b =
    (points map (type a) && points map (type b) && extends_either map (type_in (type a)) (type_in (type b)))
    || (is_nil (type a) && points map (type b)) || (is_nil (type b) && points map (type a))

-- two procedure values whose parameter lists match, or NIL and one
abbrev pub are_procedures : Map → Valued → Valued → Bool
are_procedures map a b =
    signatures_match map (signature map (type a)) (signature map (type b))
    || (is_nil (type a) && is_some (signature map (type b))) || (is_nil (type b) && is_some (signature map (type a)))

abbrev pub choose : {A : Type 0} → Bool → A → Option A → Option A
choose true x rest = Some x
choose false x rest = rest

-- the first that holds of these, in this order
abbrev pub chosen : {A : Type 0} → List (Bool × A) → Option A
chosen [] = None
chosen (p ∷ ps) = choose p.0 p.1 (chosen ps)

-- what an equality or an order compares, but strings
abbrev pub compared_as : Map → Bool → Valued → Valued → Option Compared
compared_as map eq a b = chosen (
    (is_some (integers map a b), compared.Integer) ∷ (are map basic.Char a b, compared.Char)
    ∷ (eq && are map basic.Boolean a b, compared.Boolean) ∷ (eq && are map basic.Set a b, compared.Set)
    ∷ (eq && are_pointers map a b, compared.Pointer) ∷ (eq && are_procedures map a b, compared.Procedure) ∷ [])

abbrev pub compare_as : Option Compared → Bool → Comparison → Pos → Valued → Valued → Judged Valued
compare_as (Some c) text r at a b = dyadic (binary.Compare r c) at a b
compare_as None true r at a b = texts r at a b
compare_as None false r at a b = breaks rule.UnfitOperands at

abbrev pub contained : Bool → Pos → Valued → Valued → Judged Valued
contained true at a b = dyadic binary.In at a b
contained false at a b = breaks rule.UnfitOperands at

abbrev pub compare : Map → Option Comparison → Pos → Valued → Valued → Judged Valued
compare map (Some r) at a b = compare_as (compared_as map (is_equality r) a b) (is_text map a && is_text map b) r at a b
compare map None at a b = contained (is_integer map a && is map basic.Set b) at a b

-- a relation, but IS
abbrev pub related : Map → Relation → Pos → Valued → Valued → Judged Valued
related map r at a b = compare map (comparison_of r) at a b

-- SETS

abbrev pub element_as : Pos → TypedExpr → Option Value → ElementOf
element_as at t v = record { at = at; node = record { inner = t }; constant = v }

-- a constant element outside 0 to 31 is rule 11
abbrev pub element_folded : Pos → TypedExpr → Option Value → Judged ElementOf
element_folded at t None = breaks rule.ConstantOutOfRange at
element_folded at t v = sound (element_as at t v)

abbrev pub single : Pos → TypedExpr → Option Value → Judged ElementOf
single at t None = sound (element_as at t None)
single at t (Some v) = element_folded at t (fold_one unary.Element v)

-- of a range, both of whose bounds are constant, likewise
abbrev pub ranged : Pos → TypedExpr → Option Value → Option Value → Judged ElementOf
ranged at t (Some a) (Some b) = element_folded at t (fold_two binary.Range a b)
ranged at t a b = sound (element_as at t None)

abbrev pub if_integer : Bool → Pos → Valued → Judged ElementOf
if_integer true at a = single at (e.Unary unary.Element (tree a) at) (constant_in a)
if_integer false at a = breaks rule.UnfitOperands at

abbrev pub if_integers : Bool → Pos → Valued → Valued → Judged ElementOf
if_integers true at a b = ranged at (e.Binary binary.Range (tree a) (tree b) at) (constant_in a) (constant_in b)
if_integers false at a b = breaks rule.UnfitOperands at

-- an element that is no integer is rule 21 at its first symbol
abbrev pub element : Map → Pos → Valued → Option Valued → Judged ElementOf
element map at a None = if_integer (is_integer map a) at a
element map at a (Some b) = if_integers (is_integer map a && is_integer map b) at a b

abbrev pub union_of : TypedExpr → List ElementOf → TypedExpr
union_of acc [] = acc
union_of acc (x ∷ xs) = union_of (e.Binary binary.Union acc x.node.inner x.at) xs

abbrev pub and_so : {A B : Type 0} → Option A → (A → Option B) → Option B
and_so None f = None
and_so (Some v) f = f v

abbrev pub all_constant : Value → List ElementOf → Option Value
all_constant acc [] = Some acc
all_constant acc (x ∷ xs) = and_so x.constant (λ v. and_so (fold_two binary.Union acc v) (λ w. all_constant w xs))

abbrev pub set_from : List ElementOf → Option Value → Valued
set_from xs (Some v) = constant v
set_from xs None = computed (union_of (e.Constant (literal.Set 0)) xs) (of_basic basic.Set)

-- a set that is no constant is the union of its elements in turn, at first the empty set
abbrev pub set_of : List ElementOf → Valued
set_of xs = set_from xs (all_constant (literal.Set 0) xs)
