-- A basic type stands for itself.
use Rattle.std.proofs.Common.{◌≡◌, refl, sym, ap, ◌∙◌, ℕ, zero, suc, pos, negsuc, Option, Some, None, Bool, true, false}
use Rattle.ob_types.specs.declared.types.Basic.{Basic}
use Rattle.ob_types.specs.declared.types.Basic.TheVariants as basic
use Rattle.ob_types.specs.declared.types.TypeRef.{TypeRef}
use Rattle.ob_types.specs.declared.types.TypeRef.TheVariants as ref
use Rattle.ob_types.specs.declared.value.Value.{Value}
use Rattle.ob_types.specs.declared.value.Value.TheVariants as literal
use Rattle.ob_types.specs.TypedKinds.{constant_type, of_width, smallest}
use Rattle.ob_types.specs.declared.typed.Width.{Width}
use Rattle.ob_types.specs.declared.typed.Width.TheVariants as width
use Rattle.ob_types.specs.declared.typed.ExprType.{ExprType}
use Rattle.ob_types.specs.declared.typed.ExprType.TheVariants as kind
use Rattle.ob_types.specs.Tests.{target}
use Rattle.ob_rules.specs.declared.values.Valued.{Valued}
use Rattle.ob_rules.specs.Shapes.{Map, width_of, is_this}
use Rattle.ob_rules.specs.Values as values
use Rattle.ob_cexpr_name.specs.Basics.{basic_in, kind_basic}

of_width_of : (map : Map) (w : Width) → kind_basic (of_width w) ≡ basic_in map (of_width w)
unfolding target
of_width_of map width.ShortInt = refl
of_width_of map width.Integer = refl
of_width_of map width.LongInt = refl

pub of_constant : (map : Map) (v : Value) → kind_basic (constant_type v) ≡ basic_in map (constant_type v)
unfolding target
of_constant map (literal.Bool b) = refl
of_constant map (literal.Char c) = refl
of_constant map (literal.Int (pos n)) = of_width_of map (smallest n)
of_constant map (literal.Int (negsuc n)) = of_width_of map (smallest n)
of_constant map (literal.Set n) = refl
of_constant map (literal.Str t) = refl
of_constant map literal.Nil = refl

width_of_kind : (map : Map) (k : ExprType) → width_of (basic_in map k) ≡ values.width_in map k
width_of_kind map (kind.Of t) = refl
width_of_kind map kind.Str = refl
width_of_kind map kind.Nil = refl
width_of_kind map (kind.Procedure s) = refl
width_of_kind map kind.Nothing = refl

-- the width of a value is that of its basic type
pub width_by : (map : Map) (x : Valued) → width_of (basic_in map (values.type x)) ≡ values.width map x
width_by map x = width_of_kind map (values.type x)

is_of_kind : (map : Map) (b : Basic) (k : ExprType) → is_this b (basic_in map k) ≡ values.type_is (λ t. is_this b (basic_in map (kind.Of t))) k
is_of_kind map b (kind.Of t) = refl
is_of_kind map b kind.Str = refl
is_of_kind map b kind.Nil = refl
is_of_kind map b (kind.Procedure s) = refl
is_of_kind map b kind.Nothing = refl

-- whether a value is of a basic type is seen by its basic type
pub is_by : (map : Map) (b : Basic) (x : Valued) → is_this b (basic_in map (values.type x)) ≡ values.is map b x
is_by map b x = is_of_kind map b (values.type x)
