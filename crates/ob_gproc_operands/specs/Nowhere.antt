-- How many operands stand depends on no name, so a context that has none serves.
use Rattle.std.specs.Prelude.{[], None}
use Rattle.ob_types.specs.TypedSyntax.{Nothing}
use Rattle.ob_types.specs.declared.typed.Passing.{Passing}
use Rattle.ob_types.specs.declared.typed.Passing.TheVariants as passing
use Rattle.ob_scheme.specs.declared.want.Want.{Want}
use Rattle.ob_scheme.specs.declared.want.Want.TheVariants as want
use Rattle.ob_scheme.specs.Context.{Context}

abbrev pub nowhere : Context
nowhere = record {
  types = λ q. None;
  unit = record { name = []; imports = []; constants = []; types = []; variables = []; procedures = []; body = Nothing; mentioned = record { objects = []; types = []; lengths = [] } };
  parameters = [];
  locals = [];
}

-- an actual parameter as it is wanted, whatever the words of a structure
abbrev pub passed : Passing → Want
passed passing.Scalar = want.Value
passed passing.Structure = want.Place
passed passing.OpenArray = want.PlaceAndLength
passed passing.Variable = want.Place
passed passing.VariableRecord = want.PlaceAndTag
passed passing.VariableOpenArray = want.PlaceAndLength
