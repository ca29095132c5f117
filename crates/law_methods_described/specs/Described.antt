-- What the rules make of declarations.
use Rattle.std.specs.Prelude.{◌≡◌, Bool, true, false, List, Option, Some}
use Rattle.std.specs.List.{AllByRecursion}
use Rattle.ob_tree.specs.declared.names.QName.{QName}
use Rattle.ob_tree.specs.declared.ident.Mark.{Mark}
use Rattle.ob_tree.specs.declared.ident.Mark.TheVariants as mark
use Rattle.ob_tree.specs.declared.decl.Module.{Module as Tree}
use Rattle.ob_types.specs.declared.desc.Desc.{Desc}
use Rattle.ob_types.specs.declared.typed.TypedType.{TypedType}
use Rattle.ob_types.specs.declared.typed.TypedProcedure.{TypedProcedure}
use Rattle.ob_types.specs.declared.typed.TypedModule.{TypedModule}
use Rattle.ob_types.specs.Maps.{is_type}
use Rattle.ob_rules.specs.Declarations.{checked}

abbrev pub AreTypes : List TypedType → Type 0
AreTypes ts = AllByRecursion (λ t. is_type t.desc ≡ true) ts

-- in full or not at all
abbrev pub is_whole : Mark → Bool
is_whole mark.Full = true
is_whole mark.ReadOnly = false
is_whole mark.Hidden = true

abbrev pub AreWhole : List TypedProcedure → Type 0
AreWhole ps = AllByRecursion (λ p. is_whole p.mark ≡ true) ps

-- each type of a checked module is described as a type
abbrev pub TypesAreDescribed : Type 0
TypesAreDescribed = (shown : QName → Option Desc) (tree : Tree) (m : TypedModule) → checked shown tree ≡ Some m → AreTypes m.types

-- each procedure of a checked module is exported in full or hidden
abbrev pub ProceduresAreMarked : Type 0
ProceduresAreMarked = (shown : QName → Option Desc) (tree : Tree) (m : TypedModule) → checked shown tree ≡ Some m → AreWhole m.procedures
