-- Descriptions that tell of types what the rules know of them, as far as record types are concerned; and the law.
use Rattle.std.specs.Prelude.{◌≡◌, [], Bool, true, false, Option, Some, bytes_eq}
use Rattle.std.specs.List.{AllByRecursion}
use Rattle.ob_tree.specs.declared.names.QName.{QName}
use Rattle.ob_tree.specs.declared.decl.Module.{Module as Tree}
use Rattle.ob_types.specs.declared.desc.Desc.{Desc}
use Rattle.ob_types.specs.declared.desc.Desc.TheVariants as desc
use Rattle.ob_types.specs.declared.typed.TypedModule.{TypedModule}
use Rattle.ob_rules.specs.Declarations.{checked}
use Rattle.law_names_distinct.specs.Distinct.{AreDistinct}
use Rattle.law_links_types.specs.Trees.{ModuleRecorded}

-- a description without the members and the sizes of a record
abbrev pub core : Desc → Desc
core (desc.Record r) = desc.Record (record r { fields = []; methods = []; words = 0; procedures = 0 })
core d = d

-- through these a type stands for a record type, or points to one
abbrev pub is_linked : Desc → Bool
is_linked (desc.Alias m t) = true
is_linked (desc.Pointer m t) = true
is_linked (desc.Record r) = true
is_linked d = false

-- the name is described so there too
abbrev pub IsTold : (QName → Option Desc) → QName → Desc → Type 0
IsTold types q d = is_linked d ≡ true → (e : Desc) × ((types q ≡ Some e) × (core e ≡ core d))

-- the types of a checked module, and those that the imported modules show
pub record AreTold (shown types : QName → Option Desc) (m : TypedModule) : Type 0 where
  pub own : AllByRecursion (λ t. IsTold types (record { «module» = m.name; object = t.name }) t.desc) m.types
  pub others : (q : QName) (d : Desc) → bytes_eq q.«module» m.name ≡ false → shown q ≡ Some d → IsTold types q d

-- THE LAW: where the types of a checked module differ in name, the record types that its statements name are records by such
-- descriptions, and so are the bases of its records.
abbrev pub ModulesRecorded : Type 0
ModulesRecorded = (shown types : QName → Option Desc) (tree : Tree) (m : TypedModule) → checked shown tree ≡ Some m → AreDistinct (λ t. t.name) m.types → AreTold shown types m → ModuleRecorded types m
