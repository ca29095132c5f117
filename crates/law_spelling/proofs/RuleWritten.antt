-- Each type of the grammar whose fields are named makes types that have a spelling, by induction over its tree.
use Rattle.std.proofs.Common.{◌≡◌, Bool, true, List, [], ◌∷◌, map, sym, subst, ◌∙◌}
use Rattle.std.proofs.lemmas.Bool.{and_parts}
use Rattle.ob_tree.specs.declared.type_node.TypeNode.{TypeNode, roll-TypeNode, map-TypeNode}
use Rattle.ob_tree.specs.declared.type_node.FieldList.{FieldList, roll-FieldList, map-FieldList}
use Rattle.ob_tree.specs.declared.type_node.FormalPars.{FormalPars, roll-FormalPars, map-FormalPars}
use Rattle.ob_tree.specs.declared.type_node.Section.{Section, roll-Section, map-Section}
use Rattle.ob_tree.specs.declared.type_node.TypeNode.TheOpen.{TypeNode-F, FieldList-F, FormalPars-F, Section-F}
use Rattle.ob_tree.specs.declared.type_node.TypeNode.TheFolds.{fold-FieldList, fold-Section, ind-TypeNode, ind-FormalPars, fold-roll-TypeNode, fold-roll-FieldList, fold-roll-FormalPars, fold-roll-Section}
use Rattle.ob_rules.specs.Expressions.{phrase_of}
use Rattle.ob_rules.specs.Types.{Written, WrittenFields, WrittenParameters, WrittenSection, base_if, is_later, node_rule, fields_rule, parameters_rule, section_rule, written, written_parameters}
use Rattle.law_spelling.specs.Raw.{all_true, are_named, node_layer, fields_layer, parameters_layer, section_layer, type_named, fields_named, parameters_named, section_named}
use Rattle.law_spelling.proofs.RuleNames.{later_named}
use Rattle.law_spelling.proofs.RuleTypes.{IsOk, FieldsWritten, AreOkFields, AreOkSections, array_ok, base_ok, record_ok, pointer_ok, type_ok, name_ok}

abbrev written_fields : FieldList → WrittenFields
written_fields = fold-FieldList Written WrittenFields WrittenParameters WrittenSection node_rule fields_rule parameters_rule section_rule

abbrev written_section : Section → WrittenSection
written_section = fold-Section Written WrittenFields WrittenParameters WrittenSection node_rule fields_rule parameters_rule section_rule

abbrev PN : TypeNode → Type 0
PN x = type_named x ≡ true → IsOk (written x)

abbrev PF : FieldList → Type 0
PF x = fields_named x ≡ true → FieldsWritten (written_fields x)

abbrev PP : FormalPars → Type 0
PP x = parameters_named x ≡ true → AreOkSections (written_parameters x).sections

abbrev PS : Section → Type 0
PS x = section_named x ≡ true → IsOk (written_section x).node

abbrev SN : Type 0
SN = (x : TypeNode) × PN x

abbrev SF : Type 0
SF = (x : FieldList) × PF x

abbrev SP : Type 0
SP = (x : FormalPars) × PP x

abbrev SS : Type 0
SS = (x : Section) × PS x

fields_are : (xs : List SF) → all_true (map fields_named (map (λ (x : SF). x.0) xs)) ≡ true → AreOkFields (map written_fields (map (λ (x : SF). x.0) xs))
fields_are [] e = tt
fields_are (x ∷ xs) e = let p = and_parts (fields_named x.0) (all_true (map fields_named (map (λ (x : SF). x.0) xs))) e in (x.1 p.0, fields_are xs p.1)

sections_are : (xs : List SS) → all_true (map section_named (map (λ (x : SS). x.0) xs)) ≡ true → AreOkSections (map written_section (map (λ (x : SS). x.0) xs))
sections_are [] e = tt
sections_are (x ∷ xs) e = let p = and_parts (section_named x.0) (all_true (map section_named (map (λ (x : SS). x.0) xs))) e in (x.1 p.0, sections_are xs p.1)

abbrev named_parts : TypeNode-F TypeNode FieldList FormalPars Section → TypeNode-F Bool Bool Bool Bool
named_parts x = map-TypeNode TypeNode FieldList FormalPars Section Bool Bool Bool Bool type_named fields_named parameters_named section_named x

node_layer_ok : (x : TypeNode-F TypeNode FieldList FormalPars Section) → (node_layer (named_parts x) ≡ true → IsOk (node_rule (map-TypeNode TypeNode FieldList FormalPars Section Written WrittenFields WrittenParameters WrittenSection written written_fields written_parameters written_section x))) → PN (roll-TypeNode x)
node_layer_ok x h e = subst IsOk (sym (fold-roll-TypeNode Written WrittenFields WrittenParameters WrittenSection node_rule fields_rule parameters_rule section_rule x)) (h (sym (fold-roll-TypeNode Bool Bool Bool Bool node_layer fields_layer parameters_layer section_layer x) ∙ e))

node_cases : (y : TypeNode-F SN SF SP SS) → PN (roll-TypeNode (map-TypeNode SN SF SP SS TypeNode FieldList FormalPars Section (λ x. x.0) (λ x. x.0) (λ x. x.0) (λ x. x.0) y))
node_cases (TypeNode-F.Named q) = node_layer_ok (TypeNode-F.Named q) (λ e u a name n m ok. name_ok q u a ok)
node_cases (TypeNode-F.Array at ls x) = node_layer_ok (TypeNode-F.Array at ls x.0) (λ e u a name n m ok. array_ok (map phrase_of ls) at (written x.0) (x.1 e) u a name n m ok)
node_cases (TypeNode-F.Record at base ls) = node_layer_ok (TypeNode-F.Record at base (map (λ (x : SF). x.0) ls)) (λ e u a name n m ok. record_ok u a name n m (map written_fields (map (λ (x : SF). x.0) ls)) (fields_are ls e) (base_if u base) (base_ok u a base))
node_cases (TypeNode-F.Pointer at b) = node_layer_ok (TypeNode-F.Pointer at b.0) (λ e u a name n m ok. pointer_ok u a name n m (written b.0) (b.1 e) (is_later u (written b.0).name) (later_named u a (written b.0).name))
node_cases (TypeNode-F.Procedure at p) = node_layer_ok (TypeNode-F.Procedure at p.0) (λ e u a name n m ok. type_ok u a name n m (written_parameters p.0) (p.1 e))

fields_cases : (y : FieldList-F SN SF SP SS) → PF (roll-FieldList (map-FieldList SN SF SP SS TypeNode FieldList FormalPars Section (λ x. x.0) (λ x. x.0) (λ x. x.0) (λ x. x.0) y))
fields_cases y e =
    let x = map-FieldList SN SF SP SS TypeNode FieldList FormalPars Section (λ x. x.0) (λ x. x.0) (λ x. x.0) (λ x. x.0) y in
    let k = and_parts (are_named y.names) (type_named y.node.0) (sym (fold-roll-FieldList Bool Bool Bool Bool node_layer fields_layer parameters_layer section_layer x) ∙ e) in
    subst FieldsWritten (sym (fold-roll-FieldList Written WrittenFields WrittenParameters WrittenSection node_rule fields_rule parameters_rule section_rule x)) (record { names = k.0; node = y.node.1 k.1 })

parameters_cases : (y : FormalPars-F SN SF SP SS) → PP (roll-FormalPars (map-FormalPars SN SF SP SS TypeNode FieldList FormalPars Section (λ x. x.0) (λ x. x.0) (λ x. x.0) (λ x. x.0) y))
parameters_cases y e =
    let x = map-FormalPars SN SF SP SS TypeNode FieldList FormalPars Section (λ x. x.0) (λ x. x.0) (λ x. x.0) (λ x. x.0) y in
    subst (λ (p : WrittenParameters). AreOkSections p.sections) (sym (fold-roll-FormalPars Written WrittenFields WrittenParameters WrittenSection node_rule fields_rule parameters_rule section_rule x)) (sections_are y.sections (sym (fold-roll-FormalPars Bool Bool Bool Bool node_layer fields_layer parameters_layer section_layer x) ∙ e))

section_cases : (y : Section-F SN SF SP SS) → PS (roll-Section (map-Section SN SF SP SS TypeNode FieldList FormalPars Section (λ x. x.0) (λ x. x.0) (λ x. x.0) (λ x. x.0) y))
section_cases y e =
    let x = map-Section SN SF SP SS TypeNode FieldList FormalPars Section (λ x. x.0) (λ x. x.0) (λ x. x.0) (λ x. x.0) y in
    subst (λ (s : WrittenSection). IsOk s.node) (sym (fold-roll-Section Written WrittenFields WrittenParameters WrittenSection node_rule fields_rule parameters_rule section_rule x)) (y.node.1 (sym (fold-roll-Section Bool Bool Bool Bool node_layer fields_layer parameters_layer section_layer x) ∙ e))

pub written_ok : (x : TypeNode) → PN x
written_ok = ind-TypeNode PN PF PP PS (λ x y is. subst (λ z. PN (roll-TypeNode z)) is (node_cases y)) (λ x y is. subst (λ z. PF (roll-FieldList z)) is (fields_cases y)) (λ x y is. subst (λ z. PP (roll-FormalPars z)) is (parameters_cases y)) (λ x y is. subst (λ z. PS (roll-Section z)) is (section_cases y))

pub written_parameters_ok : (x : FormalPars) → PP x
written_parameters_ok = ind-FormalPars PN PF PP PS (λ x y is. subst (λ z. PN (roll-TypeNode z)) is (node_cases y)) (λ x y is. subst (λ z. PF (roll-FieldList z)) is (fields_cases y)) (λ x y is. subst (λ z. PP (roll-FormalPars z)) is (parameters_cases y)) (λ x y is. subst (λ z. PS (roll-Section z)) is (section_cases y))
