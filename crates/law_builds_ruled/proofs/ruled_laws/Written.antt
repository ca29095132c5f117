-- Each type of the grammar is shut, by induction over its tree.
use Rattle.std.proofs.Common.{List, [], ◌∷◌, map, sym, subst}
use Rattle.ob_tree.specs.declared.type_node.TypeNode.{TypeNode, roll-TypeNode, map-TypeNode}
use Rattle.ob_tree.specs.declared.type_node.FieldList.{FieldList, roll-FieldList, map-FieldList}
use Rattle.ob_tree.specs.declared.type_node.FormalPars.{FormalPars, roll-FormalPars, map-FormalPars}
use Rattle.ob_tree.specs.declared.type_node.Section.{Section, roll-Section, map-Section}
use Rattle.ob_tree.specs.declared.type_node.TypeNode.TheOpen.{TypeNode-F, FieldList-F, FormalPars-F, Section-F}
use Rattle.ob_tree.specs.declared.type_node.TypeNode.TheFolds.{fold-FieldList, fold-Section, ind-TypeNode, ind-FormalPars, fold-roll-TypeNode, fold-roll-FieldList, fold-roll-FormalPars, fold-roll-Section}
use Rattle.ob_rules.specs.Expressions.{phrase_of}
use Rattle.ob_rules.specs.Types.{Written, WrittenFields, WrittenParameters, WrittenSection, base_if, is_later, node_rule, fields_rule, parameters_rule, section_rule, written, written_parameters}
use Rattle.law_builds_ruled.proofs.ruled_laws.Shut.{IsShut, AreGoodFields, AreGoodSections, array_good, record_good, pointer_good, type_good, name_good}

abbrev written_fields : FieldList → WrittenFields
written_fields = fold-FieldList Written WrittenFields WrittenParameters WrittenSection node_rule fields_rule parameters_rule section_rule

abbrev written_section : Section → WrittenSection
written_section = fold-Section Written WrittenFields WrittenParameters WrittenSection node_rule fields_rule parameters_rule section_rule

abbrev PN : TypeNode → Type 0
PN x = IsShut (written x)

abbrev PF : FieldList → Type 0
PF x = IsShut (written_fields x).node

abbrev PP : FormalPars → Type 0
PP x = AreGoodSections (written_parameters x).sections

abbrev PS : Section → Type 0
PS x = IsShut (written_section x).node

abbrev SN : Type 0
SN = (x : TypeNode) × PN x

abbrev SF : Type 0
SF = (x : FieldList) × PF x

abbrev SP : Type 0
SP = (x : FormalPars) × PP x

abbrev SS : Type 0
SS = (x : Section) × PS x

fields_are : (xs : List SF) → AreGoodFields (map written_fields (map (λ (x : SF). x.0) xs))
fields_are [] = tt
fields_are (x ∷ xs) = (x.1, fields_are xs)

sections_are : (xs : List SS) → AreGoodSections (map written_section (map (λ (x : SS). x.0) xs))
sections_are [] = tt
sections_are (x ∷ xs) = (x.1, sections_are xs)

node_layer : (x : TypeNode-F TypeNode FieldList FormalPars Section) → IsShut (node_rule (map-TypeNode TypeNode FieldList FormalPars Section Written WrittenFields WrittenParameters WrittenSection written written_fields written_parameters written_section x)) → PN (roll-TypeNode x)
node_layer x h = subst IsShut (sym (fold-roll-TypeNode Written WrittenFields WrittenParameters WrittenSection node_rule fields_rule parameters_rule section_rule x)) h

node_cases : (y : TypeNode-F SN SF SP SS) → PN (roll-TypeNode (map-TypeNode SN SF SP SS TypeNode FieldList FormalPars Section (λ x. x.0) (λ x. x.0) (λ x. x.0) (λ x. x.0) y))
node_cases (TypeNode-F.Named q) = node_layer (TypeNode-F.Named q) (λ u name m ok. name_good q u ok)
node_cases (TypeNode-F.Array at ls e) = node_layer (TypeNode-F.Array at ls e.0) (λ u name m ok. array_good (map phrase_of ls) at (written e.0) e.1 u name m ok)
node_cases (TypeNode-F.Record at base ls) = node_layer (TypeNode-F.Record at base (map (λ (x : SF). x.0) ls)) (λ u name m ok. record_good u name m ok (map written_fields (map (λ (x : SF). x.0) ls)) (fields_are ls) (base_if u base))
node_cases (TypeNode-F.Pointer at b) = node_layer (TypeNode-F.Pointer at b.0) (λ u name m ok. pointer_good u name m ok (written b.0) b.1 (is_later u (written b.0).name))
node_cases (TypeNode-F.Procedure at p) = node_layer (TypeNode-F.Procedure at p.0) (λ u name m ok. type_good u name m ok (written_parameters p.0) p.1)

fields_cases : (y : FieldList-F SN SF SP SS) → PF (roll-FieldList (map-FieldList SN SF SP SS TypeNode FieldList FormalPars Section (λ x. x.0) (λ x. x.0) (λ x. x.0) (λ x. x.0) y))
fields_cases y =
    let x = map-FieldList SN SF SP SS TypeNode FieldList FormalPars Section (λ x. x.0) (λ x. x.0) (λ x. x.0) (λ x. x.0) y in
    subst (λ (f : WrittenFields). IsShut f.node) (sym (fold-roll-FieldList Written WrittenFields WrittenParameters WrittenSection node_rule fields_rule parameters_rule section_rule x)) y.node.1

parameters_cases : (y : FormalPars-F SN SF SP SS) → PP (roll-FormalPars (map-FormalPars SN SF SP SS TypeNode FieldList FormalPars Section (λ x. x.0) (λ x. x.0) (λ x. x.0) (λ x. x.0) y))
parameters_cases y =
    let x = map-FormalPars SN SF SP SS TypeNode FieldList FormalPars Section (λ x. x.0) (λ x. x.0) (λ x. x.0) (λ x. x.0) y in
    subst (λ (p : WrittenParameters). AreGoodSections p.sections) (sym (fold-roll-FormalPars Written WrittenFields WrittenParameters WrittenSection node_rule fields_rule parameters_rule section_rule x)) (sections_are y.sections)

section_cases : (y : Section-F SN SF SP SS) → PS (roll-Section (map-Section SN SF SP SS TypeNode FieldList FormalPars Section (λ x. x.0) (λ x. x.0) (λ x. x.0) (λ x. x.0) y))
section_cases y =
    let x = map-Section SN SF SP SS TypeNode FieldList FormalPars Section (λ x. x.0) (λ x. x.0) (λ x. x.0) (λ x. x.0) y in
    subst (λ (s : WrittenSection). IsShut s.node) (sym (fold-roll-Section Written WrittenFields WrittenParameters WrittenSection node_rule fields_rule parameters_rule section_rule x)) y.node.1

pub written_good : (x : TypeNode) → PN x
written_good = ind-TypeNode PN PF PP PS (λ x y is. subst (λ z. PN (roll-TypeNode z)) is (node_cases y)) (λ x y is. subst (λ z. PF (roll-FieldList z)) is (fields_cases y)) (λ x y is. subst (λ z. PP (roll-FormalPars z)) is (parameters_cases y)) (λ x y is. subst (λ z. PS (roll-Section z)) is (section_cases y))

pub written_parameters_good : (x : FormalPars) → PP x
written_parameters_good = ind-FormalPars PN PF PP PS (λ x y is. subst (λ z. PN (roll-TypeNode z)) is (node_cases y)) (λ x y is. subst (λ z. PF (roll-FieldList z)) is (fields_cases y)) (λ x y is. subst (λ z. PP (roll-FormalPars z)) is (parameters_cases y)) (λ x y is. subst (λ z. PS (roll-Section z)) is (section_cases y))
