-- The procedures of a checked module are as its text gives them.
use Rattle.std.proofs.Common.{◌≡◌, sym, ap, subst, true, ◌++◌, map, Option}
use Rattle.std.specs.List.{AllByRecursion}
use Rattle.ob_tree.specs.declared.names.QName.{QName}
use Rattle.ob_tree.specs.declared.decl.Module.{Module as Tree}
use Rattle.ob_types.specs.declared.desc.Desc.{Desc}
use Rattle.ob_types.specs.declared.typed.TypedModule.{TypedModule}
use Rattle.ob_rules.specs.Names.{Around}
use Rattle.ob_rules.specs.Statements.{judging}
use Rattle.ob_rules.specs.Declarations.{Part, Declared, declaration, imports_declared, import_declared, target_of, around_module, block, module_of, typed_module}
use Rattle.law_names_distinct.proofs.Blocks.{unbroken_is}
use Rattle.law_typing.specs.Spelled.{all_true}
use Rattle.law_spelling_read.specs.Placed.{are_rising, places_of, decl_placed, tree_placed}
use Rattle.law_builds_bodies.specs.built_laws.Lettered.{tree_lettered}
use Rattle.law_builds_bodies.specs.built_laws.Procedures.{IsPlaced, IsGiven, AreGiven, ProceduresAreGiven}
use Rattle.law_builds_bodies.proofs.built_laws.Blocks.{order_good, imports_good, block_given, decls_good}
use Rattle.law_lists.proofs.Lists.{all_both, and_parts}

module _ (shown : QName → Option Desc) (tree : Tree) (lettered : tree_lettered tree ≡ true) (placed : tree_placed tree ≡ true) where
  abbrev parts : Part
  parts = module_of shown tree.name tree.imports (map declaration tree.decls) (map judging tree.body) tree.closing

  abbrev made : TypedModule
  made = typed_module shown tree.name tree.imports (map declaration tree.decls) parts

  abbrev start : Around
  start = around_module shown tree.name.name (map declaration tree.decls)

  abbrev imports : Declared
  imports = imports_declared tree.imports start

  abbrev behind : Part
  behind = block (map declaration tree.decls) (map judging tree.body) imports.around

  given : AreGiven made
  given =
      let p = and_parts (all_true (map decl_placed tree.decls)) (are_rising (places_of tree.body)) placed in
      let i = order_good (map (λ i. import_declared i (target_of i)) tree.imports) (imports_good tree.imports) start in
      let k = block_given (map declaration tree.decls) (decls_good tree.decls lettered p.0) tree.body p.1 imports.around in
      record {
        procedures = all_both IsGiven imports.part.contents.procedures behind.contents.procedures (subst (AllByRecursion IsGiven) (sym i.procedures) tt) k.procedures;
        body = subst IsPlaced (sym (ap (λ l. l ++ behind.contents.body) i.body)) k.body;
      }

pub procedures_are_given : ProceduresAreGiven
procedures_are_given shown tree m e lettered placed =
    let k = unbroken_is (parts shown tree lettered placed).notes.broken (made shown tree lettered placed) m e in
    subst AreGiven k.1 (given shown tree lettered placed)
