-- What is tested by IS.
use Rattle.std.proofs.Common.{◌≡◌, refl, sym, ap, ◌∙◌, pos, negsuc, Option, Some, None}
use Rattle.ob_tree.specs.declared.names.QName.{QName}
use Rattle.ob_types.specs.declared.types.Basic.{Basic}
use Rattle.ob_types.specs.declared.types.TypeRef.{TypeRef}
use Rattle.ob_types.specs.declared.value.Value.{Value}
use Rattle.ob_types.specs.declared.value.Value.TheVariants as literal
use Rattle.ob_types.specs.declared.typed.Width.{Width}
use Rattle.ob_types.specs.declared.typed.Width.TheVariants as width
use Rattle.ob_types.specs.declared.typed.ExprType.TheVariants as kind
use Rattle.ob_types.specs.TypedKinds.{constant_type, of_basic, of_width, smallest}
use Rattle.ob_types.specs.Tests.{target}
use Rattle.ob_rules.specs.declared.values.Valued.{Valued}
use Rattle.ob_rules.specs.declared.values.Valued.TheVariants as valued
use Rattle.ob_rules.specs.Shapes.{Map}
use Rattle.ob_rules.specs.Values.{type, type_in}
use Rattle.ob_rules.specs.Expressions.{record_if}
use Rattle.ob_cexpr_name.specs.Basics.{computed_type}

basic_record : (map : Map) (b : Basic) → record_if map (type_in (of_basic b)) ≡ None
unfolding target
basic_record map b = refl

width_record : (map : Map) (w : Width) → record_if map (type_in (of_width w)) ≡ None
width_record map width.ShortInt = basic_record map _
width_record map width.Integer = basic_record map _
width_record map width.LongInt = basic_record map _

constant_record : (map : Map) (v : Value) → record_if map (type_in (constant_type v)) ≡ None
constant_record map (literal.Bool b) = basic_record map _
constant_record map (literal.Char c) = basic_record map _
constant_record map (literal.Int (pos k)) = width_record map (smallest k)
constant_record map (literal.Int (negsuc k)) = width_record map (smallest k)
constant_record map (literal.Set k) = basic_record map _
constant_record map (literal.Str t) = refl
constant_record map literal.Nil = refl

by_name : (map : Map) (x : Valued) → record_if map (computed_type x) ≡ record_if map (type_in (type x))
by_name map (valued.Constant v) = sym (constant_record map v)
by_name map (valued.Place p) = refl
by_name map (valued.Node n) = refl

-- the record that a value's type points to is that of its type with a name
pub record_named : (map : Map) (x : Valued) (o : Option TypeRef) → o ≡ computed_type x → record_if map o ≡ record_if map (type_in (type x))
record_named map x o e = ap (record_if map) e ∙ by_name map x
