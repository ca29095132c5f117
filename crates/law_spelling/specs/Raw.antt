-- The names that a text declares, as its grammar reads them.
use Rattle.std.specs.Prelude.{◌≡◌, ℕ, List, [], ◌∷◌, Bool, true, false, ◌&&◌, Ok}
use Rattle.std.specs.List.{AllByRecursion}
use Rattle.ob_tree.specs.declared.ident.IdentDef.{IdentDef}
use Rattle.ob_tree.specs.declared.type_node.TypeNode.{TypeNode}
use Rattle.ob_tree.specs.declared.type_node.TypeNode.TheOpen.{TypeNode-F, FieldList-F, Section-F, FormalPars-F}
use Rattle.ob_tree.specs.declared.type_node.TypeNode.TheFolds.{fold-TypeNode, fold-FieldList, fold-FormalPars, fold-Section}
use Rattle.ob_tree.specs.declared.type_node.FieldList.{FieldList}
use Rattle.ob_tree.specs.declared.type_node.FormalPars.{FormalPars}
use Rattle.ob_tree.specs.declared.type_node.Section.{Section}
use Rattle.ob_tree.specs.declared.decl.Heading.{Heading}
use Rattle.ob_tree.specs.declared.decl.Decl.{Decl}
use Rattle.ob_tree.specs.declared.decl.Decl.TheOpen.{Decl-F}
use Rattle.ob_tree.specs.declared.decl.Decl.TheFolds.{fold-Decl}
use Rattle.ob_tree.specs.declared.decl.Module.{Module as Tree}
use Rattle.ob_format.specs.Names.{is_identifier}
use Rattle.ob_parse_grammar.specs.TextReading.{reading}
use Rattle.ob_compile_model.specs.Compiling.{imported}

abbrev pub all_true : List Bool → Bool
all_true [] = true
all_true (b ∷ bs) = b && all_true bs

abbrev pub is_named : IdentDef → Bool
is_named d = is_identifier d.ident.name

abbrev pub all_named : List IdentDef → Bool
all_named [] = true
all_named (d ∷ ds) = is_named d && all_named ds

-- at least one
abbrev pub are_named : List IdentDef → Bool
are_named [] = false
are_named (d ∷ ds) = is_named d && all_named ds

-- ---- types

abbrev pub node_layer : TypeNode-F Bool Bool Bool Bool → Bool
node_layer (TypeNode-F.Named q) = true
node_layer (TypeNode-F.Array at ls element) = element
node_layer (TypeNode-F.Record at base lists) = all_true lists
node_layer (TypeNode-F.Pointer at base) = base
node_layer (TypeNode-F.Procedure at p) = p

abbrev pub fields_layer : FieldList-F Bool Bool Bool Bool → Bool
fields_layer l = are_named l.names && l.node

abbrev pub parameters_layer : FormalPars-F Bool Bool Bool Bool → Bool
parameters_layer p = all_true p.sections

abbrev pub section_layer : Section-F Bool Bool Bool Bool → Bool
section_layer s = s.node

-- the fields in a type are named by identifiers
abbrev pub type_named : TypeNode → Bool
type_named = fold-TypeNode Bool Bool Bool Bool node_layer fields_layer parameters_layer section_layer

abbrev pub fields_named : FieldList → Bool
fields_named = fold-FieldList Bool Bool Bool Bool node_layer fields_layer parameters_layer section_layer

abbrev pub parameters_named : FormalPars → Bool
parameters_named = fold-FormalPars Bool Bool Bool Bool node_layer fields_layer parameters_layer section_layer

abbrev pub section_named : Section → Bool
section_named = fold-Section Bool Bool Bool Bool node_layer fields_layer parameters_layer section_layer

-- ---- declarations

abbrev pub heading_named : Heading → Bool
heading_named h = is_named h.name && parameters_named h.parameters

abbrev pub decl_layer : Decl-F Bool → Bool
decl_layer (Decl-F.Constant d x) = is_named d
decl_layer (Decl-F.NamedType d n) = is_named d && type_named n
decl_layer (Decl-F.Variables ds n) = are_named ds && type_named n
decl_layer (Decl-F.Procedure h ds body closing) = heading_named h && all_true ds
decl_layer (Decl-F.Forward h) = heading_named h

-- what a declaration declares is named by identifiers
abbrev pub decl_named : Decl → Bool
decl_named = fold-Decl Bool decl_layer

pub record IsNamedTree (tree : Tree) : Type 0 where
  pub name : is_identifier tree.name.name ≡ true
  pub imports : AllByRecursion (λ i. is_identifier (imported i) ≡ true) tree.imports
  pub decls : AllByRecursion (λ d. decl_named d ≡ true) tree.decls

-- The names of a module that is read are identifiers.
abbrev pub ReadingsAreNamed : Type 0
ReadingsAreNamed = (text : List ℕ) (tree : Tree) → reading text ≡ Ok tree → IsNamedTree tree
