-- The names of the bound procedures of a checked module.
use Rattle.std.specs.Prelude.{◌≡◌, true, ◌++◌, Option, Some, codes}
use Rattle.std.specs.List.{AllByRecursion}
use Rattle.ob_tree.specs.declared.names.QName.{QName}
use Rattle.ob_tree.specs.declared.decl.Module.{Module as Tree}
use Rattle.ob_types.specs.declared.desc.Desc.{Desc}
use Rattle.ob_types.specs.declared.typed.Binding.{Binding}
use Rattle.ob_types.specs.declared.typed.TypedProcedure.{TypedProcedure}
use Rattle.ob_types.specs.declared.typed.TypedModule.{TypedModule}
use Rattle.ob_rules.specs.Declarations.{checked}
use Rattle.law_names_distinct.specs.Distinct.{AreDistinct}
use Rattle.law_spelling.specs.Raw.{decl_named}

-- the record and the family name a bound procedure
abbrev pub IsNamed : TypedProcedure → Type 0
IsNamed p = (b : Binding) → p.binding ≡ Some b → p.name ≡ b.owner.object ++ codes "." ++ b.family.name

-- So they do in a checked module, where its types have different names.
abbrev pub BindingsAreNamed : Type 0
BindingsAreNamed = (shown : QName → Option Desc) (tree : Tree) (m : TypedModule) → checked shown tree ≡ Some m → AreDistinct (λ t. t.name) m.types → AllByRecursion (λ d. decl_named d ≡ true) tree.decls → AllByRecursion IsNamed m.procedures
