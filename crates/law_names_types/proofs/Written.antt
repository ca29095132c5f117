-- Each type of the grammar whose names are words makes nested types, by induction over its tree.
use Rattle.std.proofs.Common.{◌≡◌, ℕ, ◌+◌, ◌≤◌, ◌<◌, ◌^◌, Bool, true, List, [], ◌∷◌, map, length, refl, sym, ap, subst, ◌∙◌, arith}
use Rattle.std.specs.Prelude.{nat_le}
use Rattle.std.specs.List.{AllByRecursion}
use Rattle.std.proofs.lemmas.Bool.{leb-true, and_parts}
use Rattle.ob_tree.specs.declared.ident.Ident.{Ident}
use Rattle.ob_tree.specs.declared.ident.IdentDef.{IdentDef}
use Rattle.ob_tree.specs.declared.type_node.TypeNode.{TypeNode, roll-TypeNode, map-TypeNode}
use Rattle.ob_tree.specs.declared.type_node.FieldList.{FieldList, roll-FieldList, map-FieldList}
use Rattle.ob_tree.specs.declared.type_node.FormalPars.{FormalPars, roll-FormalPars, map-FormalPars}
use Rattle.ob_tree.specs.declared.type_node.Section.{Section, roll-Section, map-Section}
use Rattle.ob_tree.specs.declared.type_node.TypeNode.TheOpen.{TypeNode-F, FieldList-F, FormalPars-F, Section-F}
use Rattle.ob_tree.specs.declared.type_node.TypeNode.TheFolds.{fold-FieldList, fold-Section, ind-TypeNode, ind-FormalPars, fold-roll-TypeNode, fold-roll-FieldList, fold-roll-FormalPars, fold-roll-Section}
use Rattle.ob_rules.specs.Expressions.{phrase_of}
use Rattle.ob_rules.specs.Types.{Typing, Written, WrittenFields, WrittenParameters, WrittenSection, base_if, is_later, node_rule, fields_rule, parameters_rule, section_rule, written, written_parameters}
use Rattle.ob_layout.specs.Lists.{sum_of}
use Rattle.law_names_distinct.specs.Named.{all_true, are_words, node_layer, fields_layer, parameters_layer, section_layer, type_named, fields_named, parameters_named, section_named}
use Rattle.law_names_distinct.proofs.Typings.{IsGood, HasFirst, AreGoodFields, AreGoodSections, names_of, name_good, array_good, record_good, pointer_good, type_good}
use Rattle.law_names_distinct.proofs.Written.{has_first}
use Rattle.law_names_types.specs.Nested.{AreNested, WrittenAreNested}
use Rattle.law_names_types.proofs.Typings.{IsNested, AreNestedFields, name_nested, array_nested, pointer_nested, record_nested, procedure_nested}
use Rattle.law_lists.proofs.Lists.{IfThere}

abbrev written_fields : FieldList → WrittenFields
written_fields = fold-FieldList Written WrittenFields WrittenParameters WrittenSection node_rule fields_rule parameters_rule section_rule

abbrev written_section : Section → WrittenSection
written_section = fold-Section Written WrittenFields WrittenParameters WrittenSection node_rule fields_rule parameters_rule section_rule

has_some : (xs : List Ident) → are_words (map (λ (x : Ident). x.name) xs) ≡ true → 1 ≤ length xs
has_some [] e = absurd cc
has_some (x ∷ xs) e = omega arith

few : (n : ℕ) → nat_le n 4294967295 ≡ true → 1 + n < 2 ^ 64
few n e = let h = leb-true n 4294967295 e in omega (arith, h)

-- with what is known of names
abbrev FieldsWell : WrittenFields → Type 0
FieldsWell f = (HasFirst f.names × IsGood f.node) × IsNested f.node

abbrev SectionWell : WrittenSection → Type 0
SectionWell s = ((1 ≤ length s.names) × IsGood s.node) × IsNested s.node

pub record ParametersWell (p : WrittenParameters) : Type 0 where
  pub good : AreGoodSections p.sections
  pub few : 1 + names_of p.sections < 2 ^ 64
  pub nested : AllByRecursion (λ s. IsNested s.node) p.sections

abbrev PN : TypeNode → Type 0
PN x = type_named x ≡ true → IsNested (written x)

abbrev PF : FieldList → Type 0
PF x = fields_named x ≡ true → FieldsWell (written_fields x)

abbrev PP : FormalPars → Type 0
PP x = parameters_named x ≡ true → ParametersWell (written_parameters x)

abbrev PS : Section → Type 0
PS x = (length (written_section x).names ≡ (section_named x).1) × ((section_named x).0 ≡ true → SectionWell (written_section x))

abbrev SN : Type 0
SN = (x : TypeNode) × PN x

abbrev SF : Type 0
SF = (x : FieldList) × PF x

abbrev SP : Type 0
SP = (x : FormalPars) × PP x

abbrev SS : Type 0
SS = (x : Section) × PS x

fields_are : (xs : List SF) → all_true (map fields_named (map (λ (x : SF). x.0) xs)) ≡ true → AreGoodFields (map written_fields (map (λ (x : SF). x.0) xs)) × AreNestedFields (map written_fields (map (λ (x : SF). x.0) xs))
fields_are [] e = (tt, tt)
fields_are (x ∷ xs) e =
    let p = and_parts (fields_named x.0) (all_true (map fields_named (map (λ (x : SF). x.0) xs))) e in
    let h = x.1 p.0 in
    let r = fields_are xs p.1 in
    ((h.0, r.0), (h.1, r.1))

-- sections, as many names as are counted
record AreCounted (ss : List WrittenSection) (n : ℕ) : Type 0 where
  good : AreGoodSections ss
  nested : AllByRecursion (λ s. IsNested s.node) ss
  count : names_of ss ≡ n

sections_are : (xs : List SS) → all_true (map (λ s. s.0) (map section_named (map (λ (x : SS). x.0) xs))) ≡ true → AreCounted (map written_section (map (λ (x : SS). x.0) xs)) (sum_of (λ (s : Bool × ℕ). s.1) (map section_named (map (λ (x : SS). x.0) xs)))
sections_are [] e = record { good = tt; nested = tt; count = refl }
sections_are (x ∷ xs) e =
    let p = and_parts (section_named x.0).0 (all_true (map (λ s. s.0) (map section_named (map (λ (x : SS). x.0) xs)))) e in
    let h = x.1.1 p.0 in
    let r = sections_are xs p.1 in
    record {
      good = (h.0, r.good);
      nested = (h.1, r.nested);
      count = ap (λ n. n + names_of (map written_section (map (λ (x : SS). x.0) xs))) x.1.0 ∙ ap (λ n. (section_named x.0).1 + n) r.count;
    }

node_part : (x : TypeNode-F TypeNode FieldList FormalPars Section) → (node_layer (map-TypeNode TypeNode FieldList FormalPars Section Bool Bool Bool (Bool × ℕ) type_named fields_named parameters_named section_named x) ≡ true → IsNested (node_rule (map-TypeNode TypeNode FieldList FormalPars Section Written WrittenFields WrittenParameters WrittenSection written written_fields written_parameters written_section x))) → PN (roll-TypeNode x)
node_part x h e = subst IsNested (sym (fold-roll-TypeNode Written WrittenFields WrittenParameters WrittenSection node_rule fields_rule parameters_rule section_rule x)) (h (sym (fold-roll-TypeNode Bool Bool Bool (Bool × ℕ) node_layer fields_layer parameters_layer section_layer x) ∙ e))

node_cases : (y : TypeNode-F SN SF SP SS) → PN (roll-TypeNode (map-TypeNode SN SF SP SS TypeNode FieldList FormalPars Section (λ x. x.0) (λ x. x.0) (λ x. x.0) (λ x. x.0) y))
node_cases (TypeNode-F.Named q) = node_part (TypeNode-F.Named q) (λ e. ((λ u name m ok. name_good q u name ok), (λ u name m ok. name_nested q u ok)))
node_cases (TypeNode-F.Array at ls t) = node_part (TypeNode-F.Array at ls t.0) (λ e. let k = t.1 e in ((λ u name m ok. array_good (map phrase_of ls) at (written t.0) k.0 u name m ok), (λ u name m ok. array_nested (map phrase_of ls) at (written t.0) k u name m ok)))
node_cases (TypeNode-F.Record at base ls) = node_part (TypeNode-F.Record at base (map (λ (x : SF). x.0) ls)) (λ e. let k = fields_are ls e in ((λ u name m ok. record_good u name m (map written_fields (map (λ (x : SF). x.0) ls)) k.0 (base_if u base)), (λ u name m ok. record_nested u name m (map written_fields (map (λ (x : SF). x.0) ls)) k.1 k.0 (base_if u base))))
node_cases (TypeNode-F.Pointer at b) = node_part (TypeNode-F.Pointer at b.0) (λ e. let k = b.1 e in ((λ u name m ok. pointer_good u name m (written b.0) k.0 (is_later u (written b.0).name)), (λ u name m ok. pointer_nested u name m (written b.0) k (is_later u (written b.0).name))))
node_cases (TypeNode-F.Procedure at p) = node_part (TypeNode-F.Procedure at p.0) (λ e. let k = p.1 e in ((λ u name m ok. type_good u name m (written_parameters p.0) k.good k.few), (λ u name m ok. procedure_nested u name m (written_parameters p.0) k.nested k.good k.few)))

fields_cases : (y : FieldList-F SN SF SP SS) → PF (roll-FieldList (map-FieldList SN SF SP SS TypeNode FieldList FormalPars Section (λ x. x.0) (λ x. x.0) (λ x. x.0) (λ x. x.0) y))
fields_cases y e =
    let x = map-FieldList SN SF SP SS TypeNode FieldList FormalPars Section (λ x. x.0) (λ x. x.0) (λ x. x.0) (λ x. x.0) y in
    let p = and_parts (are_words (map (λ (d : IdentDef). d.ident.name) y.names)) (type_named y.node.0) (sym (fold-roll-FieldList Bool Bool Bool (Bool × ℕ) node_layer fields_layer parameters_layer section_layer x) ∙ e) in
    let k = y.node.1 p.1 in
    subst FieldsWell (sym (fold-roll-FieldList Written WrittenFields WrittenParameters WrittenSection node_rule fields_rule parameters_rule section_rule x)) ((has_first y.names p.0, k.0), k)

parameters_cases : (y : FormalPars-F SN SF SP SS) → PP (roll-FormalPars (map-FormalPars SN SF SP SS TypeNode FieldList FormalPars Section (λ x. x.0) (λ x. x.0) (λ x. x.0) (λ x. x.0) y))
parameters_cases y e =
    let x = map-FormalPars SN SF SP SS TypeNode FieldList FormalPars Section (λ x. x.0) (λ x. x.0) (λ x. x.0) (λ x. x.0) y in
    let all = map section_named (map (λ (x : SS). x.0) y.sections) in
    let p = and_parts (all_true (map (λ s. s.0) all)) (nat_le (sum_of (λ (s : Bool × ℕ). s.1) all) 4294967295) (sym (fold-roll-FormalPars Bool Bool Bool (Bool × ℕ) node_layer fields_layer parameters_layer section_layer x) ∙ e) in
    let s = sections_are y.sections p.0 in
    subst ParametersWell (sym (fold-roll-FormalPars Written WrittenFields WrittenParameters WrittenSection node_rule fields_rule parameters_rule section_rule x)) (record { good = s.good; few = subst (λ n. 1 + n < 2 ^ 64) (sym s.count) (few (sum_of (λ (s : Bool × ℕ). s.1) all) p.1); nested = s.nested })

section_cases : (y : Section-F SN SF SP SS) → PS (roll-Section (map-Section SN SF SP SS TypeNode FieldList FormalPars Section (λ x. x.0) (λ x. x.0) (λ x. x.0) (λ x. x.0) y))
section_cases y =
    let x = map-Section SN SF SP SS TypeNode FieldList FormalPars Section (λ x. x.0) (λ x. x.0) (λ x. x.0) (λ x. x.0) y in
    let w = fold-roll-Section Written WrittenFields WrittenParameters WrittenSection node_rule fields_rule parameters_rule section_rule x in
    let n = fold-roll-Section Bool Bool Bool (Bool × ℕ) node_layer fields_layer parameters_layer section_layer x in (
      ap (λ (s : WrittenSection). length s.names) w ∙ sym (ap (λ (s : Bool × ℕ). s.1) n),
      λ e.
          let p = and_parts (are_words (map (λ (x : Ident). x.name) y.names)) (type_named y.node.0) (sym (ap (λ (s : Bool × ℕ). s.0) n) ∙ e) in
          let k = y.node.1 p.1 in
          subst SectionWell (sym w) ((has_some y.names p.0, k.0), k),
    )

pub written_nested : (x : TypeNode) → PN x
written_nested = ind-TypeNode PN PF PP PS (λ x y is. subst (λ z. PN (roll-TypeNode z)) is (node_cases y)) (λ x y is. subst (λ z. PF (roll-FieldList z)) is (fields_cases y)) (λ x y is. subst (λ z. PP (roll-FormalPars z)) is (parameters_cases y)) (λ x y is. subst (λ z. PS (roll-Section z)) is (section_cases y))

pub parameters_are_nested : (x : FormalPars) → PP x
parameters_are_nested = ind-FormalPars PN PF PP PS (λ x y is. subst (λ z. PN (roll-TypeNode z)) is (node_cases y)) (λ x y is. subst (λ z. PF (roll-FieldList z)) is (fields_cases y)) (λ x y is. subst (λ z. PP (roll-FormalPars z)) is (parameters_cases y)) (λ x y is. subst (λ z. PS (roll-Section z)) is (section_cases y))

pub written_are_nested : WrittenAreNested
written_are_nested n named u name m ok quiet t e = subst (IfThere (λ (t : Typing). AreNested t.made t.made)) e ((written_nested n named).1 u name m ok quiet)
