-- A constant is no pointer, no procedure and no array but a string.
use Rattle.std.proofs.Common.{◌≡◌, refl, sym, ap, ◌∙◌, ℕ, pos, negsuc, Bool, true, false, ◌&&◌, ◌||◌, Option, Some, None}
use Rattle.ob_types.specs.declared.types.Basic.{Basic}
use Rattle.ob_types.specs.declared.types.TypeRef.{TypeRef}
use Rattle.ob_types.specs.declared.types.TypeRef.TheVariants as ref
use Rattle.ob_types.specs.declared.types.Signature.{Signature}
use Rattle.ob_types.specs.declared.value.Value.{Value}
use Rattle.ob_types.specs.declared.value.Value.TheVariants as literal
use Rattle.ob_types.specs.declared.typed.Width.{Width}
use Rattle.ob_types.specs.declared.typed.Width.TheVariants as width
use Rattle.ob_types.specs.declared.typed.ExprType.{ExprType}
use Rattle.ob_types.specs.declared.typed.ExprType.TheVariants as kind
use Rattle.ob_types.specs.TypedKinds.{constant_type, of_width, of_basic, smallest}
use Rattle.ob_types.specs.Tests.{target, extends_at}
use Rattle.ob_rules.specs.declared.values.Valued.{Valued}
use Rattle.ob_rules.specs.declared.values.Valued.TheVariants as valued
use Rattle.ob_rules.specs.Shapes.{Map, is_pointer, is_char_array, signature_at}
use Rattle.ob_rules.specs.Values.{points, type, type_in, type_is, is_nil, is_chars, signature}
use Rattle.ob_rules.specs.Operators.{extends_either}
use Rattle.ob_cexpr_name.specs.Basics.{computed_type}
use Rattle.ob_cexpr_operator.specs.Pointed.{two_pointers, both_point, nil_constant}

-- what holds of no basic type, string or NIL holds of no constant
no_width : {A : Type 0} (f : ExprType → A) (x : A) → ((b : Basic) → f (of_basic b) ≡ x) → (w : Width) → f (of_width w) ≡ x
no_width f x h width.ShortInt = h _
no_width f x h width.Integer = h _
no_width f x h width.LongInt = h _

no_constant : {A : Type 0} (f : ExprType → A) (x : A) → ((b : Basic) → f (of_basic b) ≡ x) → f kind.Str ≡ x → f kind.Nil ≡ x → (v : Value) → f (constant_type v) ≡ x
no_constant f x h s n (literal.Bool b) = h _
no_constant f x h s n (literal.Char c) = h _
no_constant f x h s n (literal.Int (pos k)) = no_width f x h (smallest k)
no_constant f x h s n (literal.Int (negsuc k)) = no_width f x h (smallest k)
no_constant f x h s n (literal.Set k) = h _
no_constant f x h s n (literal.Str t) = s
no_constant f x h s n literal.Nil = n

basic_points : (map : Map) (b : Basic) → points map (of_basic b) ≡ false
unfolding target
basic_points map b = refl

basic_chars : (map : Map) (b : Basic) → type_is (is_char_array map) (of_basic b) ≡ false
unfolding target
basic_chars map b = refl

basic_signature : (map : Map) (b : Basic) → signature map (of_basic b) ≡ None
unfolding target
basic_signature map b = refl

constant_points : (map : Map) (v : Value) → points map (constant_type v) ≡ false
constant_points map = no_constant (points map) false (basic_points map) refl refl

constant_chars : (map : Map) (v : Value) → type_is (is_char_array map) (constant_type v) ≡ false
constant_chars map = no_constant (type_is (is_char_array map)) false (basic_chars map) refl refl

pub constant_signature : (map : Map) (v : Value) → None ≡ signature map (constant_type v)
constant_signature map v = sym (no_constant (signature map) None (basic_signature map) refl refl v)

pub constant_nil : (v : Value) → nil_constant v ≡ is_nil (constant_type v)
constant_nil (literal.Bool b) = refl
constant_nil (literal.Char c) = refl
constant_nil (literal.Int (pos k)) = sym (no_width is_nil false (λ b. refl) (smallest k))
constant_nil (literal.Int (negsuc k)) = sym (no_width is_nil false (λ b. refl) (smallest k))
constant_nil (literal.Set k) = refl
constant_nil (literal.Str t) = refl
constant_nil literal.Nil = refl

-- a test of the type that has a name
abbrev test_of : (TypeRef → Bool) → Option TypeRef → Bool
test_of f None = false
test_of f (Some t) = f t

kind_test : (f : TypeRef → Bool) (k : ExprType) → test_of f (type_in k) ≡ type_is f k
kind_test f (kind.Of t) = refl
kind_test f kind.Str = refl
kind_test f kind.Nil = refl
kind_test f (kind.Procedure s) = refl
kind_test f kind.Nothing = refl

test_is : (f : TypeRef → Bool) → ((v : Value) → type_is f (constant_type v) ≡ false) → (x : Valued) → test_of f (computed_type x) ≡ type_is f (type x)
test_is f h (valued.Constant v) = sym (h v)
test_is f h (valued.Place p) = refl
test_is f h (valued.Node n) = kind_test f n.of

pub no_chars : (map : Map) (x : Valued) → None ≡ computed_type x → false ≡ is_chars map x
no_chars map x e = ap (test_of (is_char_array map)) e ∙ test_is (is_char_array map) (constant_chars map) x

pub some_chars : (map : Map) (x : Valued) (t : TypeRef) → Some t ≡ computed_type x → is_char_array map t ≡ is_chars map x
some_chars map x t e = ap (test_of (is_char_array map)) e ∙ test_is (is_char_array map) (constant_chars map) x

pub no_pointer : (map : Map) (x : Valued) → None ≡ computed_type x → false ≡ points map (type x)
no_pointer map x e = ap (test_of (is_pointer map)) e ∙ test_is (is_pointer map) (constant_points map) x

pub some_pointer : (map : Map) (x : Valued) (t : TypeRef) → Some t ≡ computed_type x → is_pointer map t ≡ points map (type x)
some_pointer map x t e = ap (test_of (is_pointer map)) e ∙ test_is (is_pointer map) (constant_points map) x

and_false : (a : Bool) → (a && false) ≡ false
and_false true = refl
and_false false = refl

-- two pointers, where one has no type with a name
pub first_unnamed : (map : Map) (a b : Valued) → None ≡ computed_type a → false ≡ both_point map a b
first_unnamed map a b e = ap (λ p. p && points map (type b) && extends_either map (type_in (type a)) (type_in (type b))) (no_pointer map a e)

pub second_unnamed : (map : Map) (a b : Valued) → None ≡ computed_type b → false ≡ both_point map a b
second_unnamed map a b e =
    ap (λ p. p && extends_either map (type_in (type a)) (type_in (type b))) (sym (and_false (points map (type a))))
    ∙ ap (λ p. points map (type a) && p && extends_either map (type_in (type a)) (type_in (type b))) (no_pointer map b e)

type_named : (x : Valued) (t : TypeRef) → Some t ≡ computed_type x → Some t ≡ type_in (type x)
type_named (valued.Constant v) t e = cc
type_named (valued.Place p) t e = e
type_named (valued.Node n) t e = e

pub both_named : (map : Map) (a b : Valued) (s t : TypeRef) → Some s ≡ computed_type a → Some t ≡ computed_type b → two_pointers map s t ≡ both_point map a b
both_named map a b s t e f =
    ap (λ p. p && is_pointer map t && (extends_at map s t || extends_at map t s)) (some_pointer map a s e)
    ∙ ap (λ p. points map (type a) && p && (extends_at map s t || extends_at map t s)) (some_pointer map b t f)
    ∙ ap (λ o. points map (type a) && points map (type b) && extends_either map o (Some t)) (type_named a s e)
    ∙ ap (λ o. points map (type a) && points map (type b) && extends_either map (type_in (type a)) o) (type_named b t f)
