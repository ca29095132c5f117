-- Modules, as they are judged.
use Rattle.std.specs.Prelude.{ℕ, List, [], map, Option, None}
use Rattle.ob_tree.specs.declared.ident.Ident.{Ident}
use Rattle.ob_tree.specs.declared.ident.Import.{Import}
use Rattle.ob_tree.specs.declared.decl.Decl.{Decl}
use Rattle.ob_tree.specs.declared.decl.Module.{Module}
use Rattle.ob_tree.specs.declared.stmt.Stmt.{Stmt}
use Rattle.ob_tree.specs.declared.names.QName.{QName}
use Rattle.ob_types.specs.declared.desc.Desc.{Desc}
use Rattle.ob_types.specs.declared.typed.TypedModule.{TypedModule}
use Rattle.ob_types.specs.declared.typed.TypedType.{TypedType}
use Rattle.ob_rules.specs.declared.notes.Notebook.{Notebook}
use Rattle.ob_rules.specs.Names.{Around}
use Rattle.ob_rules.specs.Statements.{judging}
use Rattle.ob_rules.specs.Declarations.{Part, Contents, with_part, only_notes, name_judged, module_from, imports_declared, declaration, around_module, checked_part, all_described}

-- a module, where it is known what stands around it
abbrev pub module_parts : Ident → Ident → List Import → List Decl → List Stmt → Around → Part
module_parts name closing is ds ss u = with_part (only_notes (name_judged name closing)) (module_from (map declaration ds) (map judging ss) (imports_declared is u))

abbrev pub module_within : Module → Around → Part
module_within m u = module_parts m.name m.closing m.imports m.decls m.body u

-- the types of a module, with the bound procedures that they introduce
abbrev pub described_types : Part → List TypedType
described_types p = all_described p.contents.bound p.contents.types

-- what stands around a module
unfoldable pub around_start : (QName → Option Desc) → Module → Around
around_start shown m = around_module shown m.name.name (map declaration m.decls)

-- the checked module, where it is known what is said of it
abbrev pub checked_as : Module → Part → Option TypedModule
checked_as m p = checked_part (λ q. None) m.name m.imports [] p

-- a module of that name, with these imports, these types and what else it has; what it mentions is in the book
abbrev pub tree_from : List ℕ → List (List ℕ) → List TypedType → Contents → Notebook → TypedModule
tree_from name imports types c b = record {
  name = name;
  imports = imports;
  constants = c.constants;
  types = types;
  variables = c.variables;
  procedures = c.procedures;
  body = c.body;
  mentioned = record { objects = b.objects; types = b.types; lengths = b.lengths.inner };
}
