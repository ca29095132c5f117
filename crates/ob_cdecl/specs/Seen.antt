-- What is added to a module, as the definitions have it.
use Rattle.std.specs.Prelude.{List, [], ◌∷◌}
use Rattle.ob_types.specs.declared.typed.TypedConstant.{TypedConstant}
use Rattle.ob_types.specs.declared.typed.TypedVariable.{TypedVariable}
use Rattle.ob_types.specs.declared.typed.TypedType.{TypedType}
use Rattle.ob_types.specs.declared.typed.TypedStmt.{TypedStmt}
use Rattle.ob_cdecl.specs.declared.contents.Contents.{Contents as Added}
use Rattle.ob_rules.specs.Declarations.{Contents, no_contents}

abbrev pub contents_of : Added → Contents
contents_of c = record { constants = c.constants; types = c.types; variables = c.variables; procedures = c.procedures.inner; body = c.body.inner; bound = [] }

abbrev pub holds_constant : TypedConstant → Contents
holds_constant k = record no_contents { constants = k ∷ [] }

abbrev pub holds_variable : TypedVariable → Contents
holds_variable v = record no_contents { variables = v ∷ [] }

abbrev pub holds_types : List TypedType → Contents
holds_types ts = record no_contents { types = ts }

abbrev pub holds_body : List TypedStmt → Contents
holds_body ss = record no_contents { body = ss }
