-- The law: a checked module is tied to the types that it names, all of which are held.
use Rattle.std.specs.Prelude.{◌≡◌, Bool, true, Option, Some}
use Rattle.std.specs.List.{AllByRecursion}
use Rattle.ob_tree.specs.declared.names.QName.{QName}
use Rattle.ob_tree.specs.declared.decl.Module.{Module as Tree}
use Rattle.ob_types.specs.declared.desc.Desc.{Desc}
use Rattle.ob_types.specs.declared.typed.TypedModule.{TypedModule}
use Rattle.ob_rules.specs.Shapes.{Map}
use Rattle.ob_rules.specs.Declarations.{checked}
use Rattle.law_names_distinct.specs.Distinct.{AreDistinct}
use Rattle.law_local_uses.specs.Held.{AreHeld, IsThere, SaysShown, ModuleHeld}

-- Where a map says of the types of the module, whose names differ, and of what other modules show, what they are.
abbrev pub ModulesAreTied : Type 0
ModulesAreTied =
    (shown : QName → Option Desc) (map : Map) (tree : Tree) (m : TypedModule) → checked shown tree ≡ Some m → AreDistinct (λ t. t.name) m.types
    → (own held : QName → Bool) → AreHeld shown m.name (λ q. held q ≡ true) → SaysShown map m.name shown → AllByRecursion (IsThere map (λ q. own q ≡ true) m.name) m.types
    → ModuleHeld map (λ q. own q ≡ true) (λ q. held q ≡ true) m
