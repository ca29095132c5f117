-- A constant is no array but a string.
use Rattle.std.proofs.Common.{◌≡◌, refl, sym, ap, ◌∙◌, ℕ, pos, negsuc, Bool, true, false, Option, Some, None}
use Rattle.ob_types.specs.declared.types.Basic.{Basic}
use Rattle.ob_types.specs.declared.types.TypeRef.{TypeRef}
use Rattle.ob_types.specs.declared.value.Value.{Value}
use Rattle.ob_types.specs.declared.value.Value.TheVariants as literal
use Rattle.ob_types.specs.declared.typed.Width.{Width}
use Rattle.ob_types.specs.declared.typed.Width.TheVariants as width
use Rattle.ob_types.specs.declared.typed.ExprType.{ExprType}
use Rattle.ob_types.specs.declared.typed.ExprType.TheVariants as kind
use Rattle.ob_types.specs.TypedKinds.{constant_type, of_width, of_basic, smallest}
use Rattle.ob_types.specs.Tests.{target}
use Rattle.ob_rules.specs.declared.values.Valued.{Valued}
use Rattle.ob_rules.specs.declared.values.Valued.TheVariants as valued
use Rattle.ob_rules.specs.Shapes.{Map, element_is, array_of}
use Rattle.ob_rules.specs.Values.{type, type_in}
use Rattle.ob_rules.specs.Calls.{array_takes}
use Rattle.ob_cexpr_name.specs.Basics.{computed_type}

abbrev takes : Map → TypeRef → ExprType → Bool
takes map t k = array_takes map t (type_in k)

basic_takes : (map : Map) (t : TypeRef) (b : Basic) → takes map t (of_basic b) ≡ false
unfolding target
basic_takes map t b = refl

width_takes : (map : Map) (t : TypeRef) (w : Width) → takes map t (of_width w) ≡ false
width_takes map t width.ShortInt = basic_takes map t _
width_takes map t width.Integer = basic_takes map t _
width_takes map t width.LongInt = basic_takes map t _

constant_takes : (map : Map) (t : TypeRef) (v : Value) → takes map t (constant_type v) ≡ false
constant_takes map t (literal.Bool b) = basic_takes map t _
constant_takes map t (literal.Char c) = basic_takes map t _
constant_takes map t (literal.Int (pos k)) = width_takes map t (smallest k)
constant_takes map t (literal.Int (negsuc k)) = width_takes map t (smallest k)
constant_takes map t (literal.Set k) = basic_takes map t _
constant_takes map t (literal.Str s) = refl
constant_takes map t literal.Nil = refl

computed_takes : (map : Map) (t : TypeRef) (x : Valued) → array_takes map t (computed_type x) ≡ takes map t (type x)
computed_takes map t (valued.Constant v) = sym (constant_takes map t v)
computed_takes map t (valued.Place p) = refl
computed_takes map t (valued.Node n) = refl

pub no_array : (map : Map) (t : TypeRef) (x : Valued) → None ≡ computed_type x → false ≡ array_takes map t (type_in (type x))
no_array map t x e = ap (array_takes map t) e ∙ computed_takes map t x

pub some_array : (map : Map) (t : TypeRef) (x : Valued) (s : TypeRef) → Some s ≡ computed_type x → element_is map t (array_of map s) ≡ array_takes map t (type_in (type x))
some_array map t x s e = ap (array_takes map t) e ∙ computed_takes map t x
