-- Pointers and NIL as operands.
use Rattle.std.specs.Prelude.{Bool, true, false, ◌&&◌, ◌||◌}
use Rattle.ob_types.specs.declared.types.TypeRef.{TypeRef}
use Rattle.ob_types.specs.declared.value.Value.{Value}
use Rattle.ob_types.specs.declared.value.Value.TheVariants as literal
use Rattle.ob_types.specs.Tests.{extends_at}
use Rattle.ob_rules.specs.declared.values.Valued.{Valued}
use Rattle.ob_rules.specs.Shapes.{Map, is_pointer}
use Rattle.ob_rules.specs.Values.{points, type, type_in}
use Rattle.ob_rules.specs.Operators.{extends_either}

-- pointer types whose bases are the same or extend one another
abbrev pub two_pointers : Map → TypeRef → TypeRef → Bool
two_pointers map a b = is_pointer map a && is_pointer map b && (extends_at map a b || extends_at map b a)

-- two pointers whose bases are the same or extend one another
abbrev pub both_point : Map → Valued → Valued → Bool
both_point map a b = points map (type a) && points map (type b) && extends_either map (type_in (type a)) (type_in (type b))

abbrev pub nil_constant : Value → Bool
nil_constant literal.Nil = true
nil_constant v = false
