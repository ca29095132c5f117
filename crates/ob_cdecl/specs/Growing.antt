-- What stands around behind declarations.
use Rattle.std.specs.Prelude.{◌≡◌, List, ◌++◌}
use Rattle.ob_types.specs.declared.typed.TypedType.{TypedType}
use Rattle.ob_rules.specs.declared.entity.Known.{Known}
use Rattle.ob_rules.specs.Names.{Around}

-- behind u more names are known, and there are more types: all else is as it was
pub record Grows (u v : Around) : Type 0 where
  pub names : List Known
  pub types : List TypedType
  pub grown : v ≡ record u { known = names ++ u.known; own = types ++ u.own }
