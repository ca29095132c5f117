-- Modules whose declarations are named by words: what a text that is read gives.
use Rattle.std.specs.Prelude.{ℕ, Bool, true, false, not, ◌&&◌, nat_le, List, [], ◌∷◌, map, length}
use Rattle.std.specs.List.{list_all}
use Rattle.ob_tree.specs.declared.ident.Ident.{Ident}
use Rattle.ob_tree.specs.declared.ident.IdentDef.{IdentDef}
use Rattle.ob_tree.specs.declared.type_node.TypeNode.{TypeNode}
use Rattle.ob_tree.specs.declared.type_node.FieldList.{FieldList}
use Rattle.ob_tree.specs.declared.type_node.FormalPars.{FormalPars}
use Rattle.ob_tree.specs.declared.type_node.Section.{Section}
use Rattle.ob_tree.specs.declared.type_node.TypeNode.TheOpen.{TypeNode-F, FieldList-F, FormalPars-F, Section-F}
use Rattle.ob_tree.specs.declared.type_node.TypeNode.TheFolds.{fold-TypeNode, fold-FieldList, fold-FormalPars, fold-Section}
use Rattle.ob_tree.specs.declared.decl.Decl.{Decl}
use Rattle.ob_tree.specs.declared.decl.Decl.TheOpen.{Decl-F}
use Rattle.ob_tree.specs.declared.decl.Decl.TheFolds.{fold-Decl}
use Rattle.ob_tree.specs.declared.decl.Module.{Module as Tree}
use Rattle.ob_layout.specs.Lists.{sum_of}
use Rattle.law_names_distinct.specs.Parts.{is_mark}

abbrev pub is_word : List ℕ → Bool
is_word x = list_all (λ c. not (is_mark c)) x

abbrev pub all_true : List Bool → Bool
all_true [] = true
all_true (b ∷ bs) = b && all_true bs

-- some names, each a word
abbrev pub are_words : List (List ℕ) → Bool
are_words [] = false
are_words (x ∷ xs) = is_word x && list_all is_word xs

-- TYPES: the names of fields; and of parameters, of which there are few, in each section so many

abbrev pub node_layer : TypeNode-F Bool Bool Bool (Bool × ℕ) → Bool
node_layer (TypeNode-F.Named q) = true
node_layer (TypeNode-F.Array at ls e) = e
node_layer (TypeNode-F.Record at base ls) = all_true ls
node_layer (TypeNode-F.Pointer at b) = b
node_layer (TypeNode-F.Procedure at p) = p

abbrev pub fields_layer : FieldList-F Bool Bool Bool (Bool × ℕ) → Bool
fields_layer l = are_words (map (λ (d : IdentDef). d.ident.name) l.names) && l.node

abbrev pub parameters_layer : FormalPars-F Bool Bool Bool (Bool × ℕ) → Bool
parameters_layer p = all_true (map (λ s. s.0) p.sections) && nat_le (sum_of (λ (s : Bool × ℕ). s.1) p.sections) 4294967295

abbrev pub section_layer : Section-F Bool Bool Bool (Bool × ℕ) → Bool × ℕ
section_layer s = (are_words (map (λ (x : Ident). x.name) s.names) && s.node, length s.names)

abbrev pub type_named : TypeNode → Bool
type_named = fold-TypeNode Bool Bool Bool (Bool × ℕ) node_layer fields_layer parameters_layer section_layer

abbrev pub fields_named : FieldList → Bool
fields_named = fold-FieldList Bool Bool Bool (Bool × ℕ) node_layer fields_layer parameters_layer section_layer

abbrev pub parameters_named : FormalPars → Bool
parameters_named = fold-FormalPars Bool Bool Bool (Bool × ℕ) node_layer fields_layer parameters_layer section_layer

abbrev pub section_named : Section → Bool × ℕ
section_named = fold-Section Bool Bool Bool (Bool × ℕ) node_layer fields_layer parameters_layer section_layer

-- DECLARATIONS AND MODULES

abbrev pub decl_layer : Decl-F Bool → Bool
decl_layer (Decl-F.Constant d x) = is_word d.ident.name
decl_layer (Decl-F.NamedType d n) = is_word d.ident.name && type_named n
decl_layer (Decl-F.Variables ds n) = are_words (map (λ (d : IdentDef). d.ident.name) ds) && type_named n
decl_layer (Decl-F.Procedure h ds body closing) = is_word h.name.ident.name && (parameters_named h.parameters && all_true ds)
decl_layer (Decl-F.Forward h) = is_word h.name.ident.name && parameters_named h.parameters

abbrev pub decl_named : Decl → Bool
decl_named = fold-Decl Bool decl_layer

-- each name that is declared is a word
abbrev pub tree_named : Tree → Bool
tree_named m = all_true (map decl_named m.decls)
