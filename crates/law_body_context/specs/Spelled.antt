-- Modules whose strings are of characters.
use Rattle.std.specs.Prelude.{Bool, true, ◌&&◌, map}
use Rattle.ob_tree.specs.declared.type_node.TypeNode.{TypeNode}
use Rattle.ob_tree.specs.declared.type_node.FieldList.{FieldList}
use Rattle.ob_tree.specs.declared.type_node.FormalPars.{FormalPars}
use Rattle.ob_tree.specs.declared.type_node.Section.{Section}
use Rattle.ob_tree.specs.declared.type_node.TypeNode.TheOpen.{TypeNode-F, FieldList-F, FormalPars-F, Section-F}
use Rattle.ob_tree.specs.declared.type_node.TypeNode.TheFolds.{fold-TypeNode, fold-FieldList, fold-FormalPars, fold-Section}
use Rattle.ob_tree.specs.declared.decl.Decl.{Decl}
use Rattle.ob_tree.specs.declared.decl.Decl.TheOpen.{Decl-F}
use Rattle.ob_tree.specs.declared.decl.Decl.TheFolds.{fold-Decl}
use Rattle.ob_tree.specs.declared.decl.Module.{Module as Tree}
use Rattle.law_typing.specs.Spelled.{all_true, is_spelled}
use Rattle.law_typing.specs.Bodies.{stmt_spelled}

-- TYPES

abbrev pub node_layer : TypeNode-F Bool Bool Bool Bool → Bool
node_layer (TypeNode-F.Named q) = true
node_layer (TypeNode-F.Array at ls e) = all_true (map is_spelled ls) && e
node_layer (TypeNode-F.Record at base ls) = all_true ls
node_layer (TypeNode-F.Pointer at b) = b
node_layer (TypeNode-F.Procedure at p) = p

abbrev pub fields_layer : FieldList-F Bool Bool Bool Bool → Bool
fields_layer l = l.node

abbrev pub parameters_layer : FormalPars-F Bool Bool Bool Bool → Bool
parameters_layer p = all_true p.sections

abbrev pub section_layer : Section-F Bool Bool Bool Bool → Bool
section_layer s = s.node

abbrev pub type_spelled : TypeNode → Bool
type_spelled = fold-TypeNode Bool Bool Bool Bool node_layer fields_layer parameters_layer section_layer

abbrev pub fields_spelled : FieldList → Bool
fields_spelled = fold-FieldList Bool Bool Bool Bool node_layer fields_layer parameters_layer section_layer

abbrev pub parameters_spelled : FormalPars → Bool
parameters_spelled = fold-FormalPars Bool Bool Bool Bool node_layer fields_layer parameters_layer section_layer

abbrev pub section_spelled : Section → Bool
section_spelled = fold-Section Bool Bool Bool Bool node_layer fields_layer parameters_layer section_layer

-- DECLARATIONS AND MODULES

abbrev pub decl_layer : Decl-F Bool → Bool
decl_layer (Decl-F.Constant d x) = is_spelled x
decl_layer (Decl-F.NamedType d n) = type_spelled n
decl_layer (Decl-F.Variables ds n) = type_spelled n
decl_layer (Decl-F.Procedure h ds body closing) = parameters_spelled h.parameters && (all_true ds && all_true (map stmt_spelled body))
decl_layer (Decl-F.Forward h) = parameters_spelled h.parameters

abbrev pub decl_spelled : Decl → Bool
decl_spelled = fold-Decl Bool decl_layer

-- the strings in a module are of characters, of 8 bits
abbrev pub tree_spelled : Tree → Bool
tree_spelled m = all_true (map decl_spelled m.decls) && all_true (map stmt_spelled m.body)
