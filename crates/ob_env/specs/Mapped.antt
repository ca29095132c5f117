-- The map of interfaces.
use Rattle.std.specs.Prelude.{List, Option}
use Rattle.ob_tree.specs.declared.names.QName.{QName}
use Rattle.ob_types.specs.declared.desc.Desc.{Desc}
use Rattle.ob_types.specs.declared.face.Interface.{Interface}
use Rattle.ob_env.specs.Faces.{described}
use Rattle.ob_env.specs.Faces.{faces_of}

abbrev pub map_of : List Interface → QName → Option Desc
map_of is = described (faces_of is)
