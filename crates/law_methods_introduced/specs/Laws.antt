-- The procedures of a checked module that others see.
use Rattle.std.specs.Prelude.{◌≡◌, true, Bool, not, ◌&&◌, Option, Some, is_none}
use Rattle.std.specs.List.{AllByRecursion}
use Rattle.ob_tree.specs.declared.names.QName.{QName}
use Rattle.ob_tree.specs.declared.decl.Module.{Module as Tree}
use Rattle.ob_types.specs.declared.desc.Desc.{Desc}
use Rattle.ob_types.specs.declared.typed.TypedProcedure.{TypedProcedure}
use Rattle.ob_types.specs.declared.typed.TypedModule.{TypedModule}
use Rattle.ob_format.specs.Names.{is_identifier}
use Rattle.ob_rules.specs.Names.{is_hidden}
use Rattle.ob_rules.specs.Declarations.{checked}
use Rattle.law_names_distinct.specs.Distinct.{AreDistinct}
use Rattle.law_spelling.specs.Raw.{decl_named}

-- exported, and not bound
abbrev pub is_outward : TypedProcedure → Bool
is_outward p = not (is_hidden p.mark) && is_none p.binding

-- Those of a module whose types have different names are named by identifiers, where what its text declares is.
abbrev pub OutwardAreNamed : Type 0
OutwardAreNamed = (shown : QName → Option Desc) (tree : Tree) (m : TypedModule) → checked shown tree ≡ Some m → AreDistinct (λ t. t.name) m.types → AllByRecursion (λ d. decl_named d ≡ true) tree.decls → AllByRecursion (λ p. is_outward p ≡ true → is_identifier p.name ≡ true) m.procedures
