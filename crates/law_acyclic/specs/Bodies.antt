-- The law: the bodies of a checked module are judged where the map of the types that are known is grounded.
use Rattle.std.specs.Prelude.{◌≡◌, true, Option, map}
use Rattle.ob_tree.specs.declared.names.QName.{QName}
use Rattle.ob_tree.specs.declared.decl.Module.{Module as Tree}
use Rattle.ob_types.specs.declared.desc.Desc.{Desc}
use Rattle.ob_types.specs.declared.typed.TypedModule.{TypedModule}
use Rattle.ob_types.specs.Relations.{IsGrounded}
use Rattle.ob_rules.specs.Names.{Around, map_of}
use Rattle.law_typing.specs.Known.{ConstantIs}
use Rattle.law_names_procedures.specs.Procedures.{is_named_plainly}
use Rattle.law_names_procedures.specs.Procedures as said
use Rattle.law_body_context.specs.Spelled.{tree_spelled}
use Rattle.law_body_context.specs.Judged.{BodiesAreJudged}
use Rattle.law_body_context.specs.Around.{IsAround}
use Rattle.law_body_context.specs.Laws.{ConstantsAre}
use Rattle.law_acyclic.specs.Laws.{IsChecked}

abbrev pub HasGroundedMap : Around → Type 0
HasGroundedMap u = IsGrounded (map_of u)

-- its bodies are judged, and the maps around them are grounded
pub record HasGroundedBodies (shown : QName → Option Desc) (m : TypedModule) : Type 0 where
  pub judged : BodiesAreJudged ConstantIs shown m
  pub grounded : IsAround HasGroundedMap ConstantIs shown m judged

-- So it is of a checked module whose constant expressions come to constants.
abbrev pub BodiesAreGrounded : Type 0
BodiesAreGrounded =
    (shown : QName → Option Desc) (tree : Tree) (m : TypedModule) → IsChecked shown tree m → tree_spelled tree ≡ true → said.all_true (map is_named_plainly tree.decls) ≡ true → ConstantsAre tree.name.name shown
    → HasGroundedBodies shown m
