-- The basic type of a value.
use Rattle.std.specs.Prelude.{Option, Some, None}
use Rattle.ob_types.specs.declared.types.Basic.{Basic}
use Rattle.ob_types.specs.declared.typed.ExprType.{ExprType}
use Rattle.ob_types.specs.declared.typed.ExprType.TheVariants as kind
use Rattle.ob_types.specs.declared.types.TypeRef.{TypeRef}
use Rattle.ob_rules.specs.declared.values.Valued.{Valued}
use Rattle.ob_rules.specs.declared.values.Valued.TheVariants as valued
use Rattle.ob_rules.specs.Values.{type_in}
use Rattle.ob_rules.specs.Shapes.{Map, basic_of, as_basic}

-- the basic type, where it is one
abbrev pub basic_in : Map → ExprType → Option Basic
basic_in map (kind.Of t) = basic_of map t
basic_in map k = None

-- without looking into a map
abbrev pub kind_basic : ExprType → Option Basic
kind_basic (kind.Of t) = as_basic t
kind_basic k = None

-- the type of what is no constant, where it is one with a name
abbrev pub computed_type : Valued → Option TypeRef
computed_type (valued.Constant v) = None
computed_type (valued.Place p) = Some p.of
computed_type (valued.Node n) = type_in n.of
