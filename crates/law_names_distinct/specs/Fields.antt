-- The fields of records that a module declares.
use Rattle.std.specs.Prelude.{◌≡◌, List, Option, Some}
use Rattle.std.specs.List.{AllByRecursion}
use Rattle.ob_tree.specs.declared.names.QName.{QName}
use Rattle.ob_tree.specs.declared.decl.Module.{Module as Tree}
use Rattle.ob_types.specs.declared.desc.Desc.{Desc}
use Rattle.ob_types.specs.declared.desc.Desc.TheVariants as desc
use Rattle.ob_types.specs.declared.typed.TypedType.{TypedType}
use Rattle.ob_types.specs.declared.typed.TypedModule.{TypedModule}
use Rattle.ob_rules.specs.Declarations.{checked}
use Rattle.law_names_distinct.specs.Distinct.{AreDistinct}

-- the fields of a record have different names
abbrev pub FieldsDiffer : Desc → Type 0
FieldsDiffer (desc.Record r) = AreDistinct (λ f. f.name) r.fields
FieldsDiffer d = Unit {0}

abbrev pub AreApart : List TypedType → Type 0
AreApart ts = AllByRecursion (λ t. FieldsDiffer t.desc) ts

-- so do those of each record of a checked module
abbrev pub FieldsDifferAll : Type 0
FieldsDifferAll = (shown : QName → Option Desc) (tree : Tree) (m : TypedModule) → checked shown tree ≡ Some m → AreApart m.types
