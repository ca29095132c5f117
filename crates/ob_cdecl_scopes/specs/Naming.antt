-- The names of types.
use Rattle.std.specs.Prelude.{ℕ, List}
use Rattle.ob_types.specs.declared.typed.TypedType.{TypedType}

abbrev pub type_name : TypedType → List ℕ
type_name t = t.name
