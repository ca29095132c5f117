-- Each type of the grammar whose names are words is good, by induction over its tree.
use Rattle.std.proofs.Common.{◌≡◌, ℕ, ◌+◌, ◌≤◌, ◌<◌, ◌^◌, Bool, true, List, [], ◌∷◌, map, length, Some, None, refl, sym, ap, subst, ◌∙◌, arith}
use Rattle.std.specs.Prelude.{not, nat_le}
use Rattle.std.specs.List.{list_all}
use Rattle.std.proofs.lemmas.Bool.{leb-true, and_parts}
use Rattle.ob_tree.specs.declared.ident.Ident.{Ident}
use Rattle.ob_tree.specs.declared.ident.IdentDef.{IdentDef}
use Rattle.ob_tree.specs.declared.type_node.TypeNode.{TypeNode, roll-TypeNode, map-TypeNode}
use Rattle.ob_tree.specs.declared.type_node.FieldList.{FieldList, roll-FieldList, map-FieldList}
use Rattle.ob_tree.specs.declared.type_node.FormalPars.{FormalPars, roll-FormalPars, map-FormalPars}
use Rattle.ob_tree.specs.declared.type_node.Section.{Section, roll-Section, map-Section}
use Rattle.ob_tree.specs.declared.type_node.TypeNode.TheOpen.{TypeNode-F, FieldList-F, FormalPars-F, Section-F}
use Rattle.ob_tree.specs.declared.type_node.TypeNode.TheFolds.{fold-FieldList, fold-Section, ind-TypeNode, ind-FormalPars, fold-roll-TypeNode, fold-roll-FieldList, fold-roll-FormalPars, fold-roll-Section}
use Rattle.ob_tree.specs.declared.ident.Mark.{Mark}
use Rattle.ob_tree.specs.declared.ident.Qualident.{Qualident}
use Rattle.ob_rules.specs.declared.broken.Rule.TheVariants as rule
use Rattle.ob_rules.specs.Judged.{◌▷◌}
use Rattle.ob_rules.specs.Names.{Around, type_named as type_of_name}
use Rattle.ob_rules.specs.Expressions.{phrase_of}
use Rattle.ob_rules.specs.Types.{Typing, Written, WrittenFields, WrittenParameters, WrittenSection, first_of, named_typing, array_node, record_node, pointer_node, procedure_node, base_if, is_later, node_rule, fields_rule, parameters_rule, section_rule, written, written_parameters}
use Rattle.ob_layout.specs.Lists.{sum_of}
use Rattle.law_names_distinct.specs.Parts.{is_mark, IsWord}
use Rattle.law_names_distinct.specs.Named.{is_word, all_true, are_words, node_layer, fields_layer, parameters_layer, section_layer, type_named, fields_named, parameters_named, section_named}
use Rattle.law_names_distinct.proofs.Typings.{IsGood, HasFirst, AreGoodFields, AreGoodSections, names_of, array_good, record_good, pointer_good, name_good, type_good}
use Rattle.law_names_distinct.proofs.Quiet.{Quiet, any_quiet, then_quiet, unless_quiet}
use Rattle.law_lists.proofs.Lists.{Anything, not_false}

abbrev written_fields : FieldList → WrittenFields
written_fields = fold-FieldList Written WrittenFields WrittenParameters WrittenSection node_rule fields_rule parameters_rule section_rule

abbrev written_section : Section → WrittenSection
written_section = fold-Section Written WrittenFields WrittenParameters WrittenSection node_rule fields_rule parameters_rule section_rule

-- a node of types: a type that is another one's name makes none
pub record IsNode (w : Written) : Type 0 where
  pub typing : IsGood w
  pub alone : (q : Qualident) → w.name ≡ Some q → (u : Around) (name : List ℕ) (m : Mark) (open_ok : Bool) → Quiet (λ t. t.made ≡ []) (w.typing u name m open_ok)

nameless : (w : Written) → w.name ≡ None → IsGood w → IsNode w
nameless w e g = record { typing = g; alone = λ q i. let bad : None ≡ Some q = sym e ∙ i in absurd cc }

name_alone : (q : Qualident) (u : Around) (open_ok : Bool) → Quiet (λ (t : Typing). t.made ≡ []) (type_of_name u q ▷ named_typing u (first_of q) open_ok)
name_alone q u open_ok = then_quiet Anything (λ (t : Typing). t.made ≡ []) (type_of_name u q) (named_typing u (first_of q) open_ok) (any_quiet (type_of_name u q)) (λ t h. unless_quiet (λ (t : Typing). t.made ≡ []) _ rule.MisplacedOpenArray (first_of q) (record { of = t; made = [] }) refl)

pub words_are : (x : List ℕ) → is_word x ≡ true → IsWord x
words_are [] e = tt
words_are (c ∷ x) e = let p = and_parts (not (is_mark c)) (is_word x) e in (not_false (is_mark c) p.0, words_are x p.1)

pub has_first : (ds : List IdentDef) → are_words (map (λ (d : IdentDef). d.ident.name) ds) ≡ true → HasFirst ds
has_first [] e = absurd cc
has_first (d ∷ ds) e = words_are d.ident.name (and_parts (is_word d.ident.name) (list_all is_word (map (λ (d : IdentDef). d.ident.name) ds)) e).0

has_some : (xs : List Ident) → are_words (map (λ (x : Ident). x.name) xs) ≡ true → 1 ≤ length xs
has_some [] e = absurd cc
has_some (x ∷ xs) e = omega arith

-- sections that are good, as many names as are counted
record AreCounted (ss : List WrittenSection) (n : ℕ) : Type 0 where
  good : AreGoodSections ss
  count : names_of ss ≡ n

abbrev pub ParametersGood : WrittenParameters → Type 0
ParametersGood p = AreGoodSections p.sections × (1 + names_of p.sections < 2 ^ 64)

abbrev PN : TypeNode → Type 0
PN x = type_named x ≡ true → IsNode (written x)

abbrev PF : FieldList → Type 0
PF x = fields_named x ≡ true → HasFirst (written_fields x).names × IsGood (written_fields x).node

abbrev PP : FormalPars → Type 0
PP x = parameters_named x ≡ true → ParametersGood (written_parameters x)

abbrev PS : Section → Type 0
PS x = (length (written_section x).names ≡ (section_named x).1) × ((section_named x).0 ≡ true → (1 ≤ length (written_section x).names) × IsGood (written_section x).node)

abbrev SN : Type 0
SN = (x : TypeNode) × PN x

abbrev SF : Type 0
SF = (x : FieldList) × PF x

abbrev SP : Type 0
SP = (x : FormalPars) × PP x

abbrev SS : Type 0
SS = (x : Section) × PS x

fields_are : (xs : List SF) → all_true (map fields_named (map (λ (x : SF). x.0) xs)) ≡ true → AreGoodFields (map written_fields (map (λ (x : SF). x.0) xs))
fields_are [] e = tt
fields_are (x ∷ xs) e = let p = and_parts (fields_named x.0) (all_true (map fields_named (map (λ (x : SF). x.0) xs))) e in (x.1 p.0, fields_are xs p.1)

sections_are : (xs : List SS) → all_true (map (λ s. s.0) (map section_named (map (λ (x : SS). x.0) xs))) ≡ true → AreCounted (map written_section (map (λ (x : SS). x.0) xs)) (sum_of (λ (s : Bool × ℕ). s.1) (map section_named (map (λ (x : SS). x.0) xs)))
sections_are [] e = record { good = tt; count = refl }
sections_are (x ∷ xs) e =
    let p = and_parts (section_named x.0).0 (all_true (map (λ s. s.0) (map section_named (map (λ (x : SS). x.0) xs)))) e in
    let r = sections_are xs p.1 in
    record {
      good = (x.1.1 p.0, r.good);
      count = ap (λ n. n + names_of (map written_section (map (λ (x : SS). x.0) xs))) x.1.0 ∙ ap (λ n. (section_named x.0).1 + n) r.count;
    }

node_part : (x : TypeNode-F TypeNode FieldList FormalPars Section) → (node_layer (map-TypeNode TypeNode FieldList FormalPars Section Bool Bool Bool (Bool × ℕ) type_named fields_named parameters_named section_named x) ≡ true → IsNode (node_rule (map-TypeNode TypeNode FieldList FormalPars Section Written WrittenFields WrittenParameters WrittenSection written written_fields written_parameters written_section x))) → PN (roll-TypeNode x)
node_part x h e = subst IsNode (sym (fold-roll-TypeNode Written WrittenFields WrittenParameters WrittenSection node_rule fields_rule parameters_rule section_rule x)) (h (sym (fold-roll-TypeNode Bool Bool Bool (Bool × ℕ) node_layer fields_layer parameters_layer section_layer x) ∙ e))

node_cases : (y : TypeNode-F SN SF SP SS) → PN (roll-TypeNode (map-TypeNode SN SF SP SS TypeNode FieldList FormalPars Section (λ x. x.0) (λ x. x.0) (λ x. x.0) (λ x. x.0) y))
node_cases (TypeNode-F.Named q) = node_part (TypeNode-F.Named q) (λ e. record { typing = λ u name m ok. name_good q u name ok; alone = λ p i u name m ok. name_alone q u ok })
node_cases (TypeNode-F.Array at ls t) = node_part (TypeNode-F.Array at ls t.0) (λ e. nameless (array_node at (map phrase_of ls) (written t.0)) refl (λ u name m ok. array_good (map phrase_of ls) at (written t.0) (t.1 e).typing u name m ok))
node_cases (TypeNode-F.Record at base ls) = node_part (TypeNode-F.Record at base (map (λ (x : SF). x.0) ls)) (λ e. nameless (record_node at base (map written_fields (map (λ (x : SF). x.0) ls))) refl (λ u name m ok. record_good u name m (map written_fields (map (λ (x : SF). x.0) ls)) (fields_are ls e) (base_if u base)))
node_cases (TypeNode-F.Pointer at b) = node_part (TypeNode-F.Pointer at b.0) (λ e. nameless (pointer_node at (written b.0)) refl (λ u name m ok. pointer_good u name m (written b.0) (b.1 e).typing (is_later u (written b.0).name)))
node_cases (TypeNode-F.Procedure at p) = node_part (TypeNode-F.Procedure at p.0) (λ e. let k = p.1 e in nameless (procedure_node at (written_parameters p.0)) refl (λ u name m ok. type_good u name m (written_parameters p.0) k.0 k.1))

fields_cases : (y : FieldList-F SN SF SP SS) → PF (roll-FieldList (map-FieldList SN SF SP SS TypeNode FieldList FormalPars Section (λ x. x.0) (λ x. x.0) (λ x. x.0) (λ x. x.0) y))
fields_cases y e =
    let x = map-FieldList SN SF SP SS TypeNode FieldList FormalPars Section (λ x. x.0) (λ x. x.0) (λ x. x.0) (λ x. x.0) y in
    let p = and_parts (are_words (map (λ (d : IdentDef). d.ident.name) y.names)) (type_named y.node.0) (sym (fold-roll-FieldList Bool Bool Bool (Bool × ℕ) node_layer fields_layer parameters_layer section_layer x) ∙ e) in
    subst (λ (f : WrittenFields). HasFirst f.names × IsGood f.node) (sym (fold-roll-FieldList Written WrittenFields WrittenParameters WrittenSection node_rule fields_rule parameters_rule section_rule x)) (has_first y.names p.0, (y.node.1 p.1).typing)

few : (n : ℕ) → nat_le n 4294967295 ≡ true → 1 + n < 2 ^ 64
few n e = let h = leb-true n 4294967295 e in omega (arith, h)

parameters_cases : (y : FormalPars-F SN SF SP SS) → PP (roll-FormalPars (map-FormalPars SN SF SP SS TypeNode FieldList FormalPars Section (λ x. x.0) (λ x. x.0) (λ x. x.0) (λ x. x.0) y))
parameters_cases y e =
    let x = map-FormalPars SN SF SP SS TypeNode FieldList FormalPars Section (λ x. x.0) (λ x. x.0) (λ x. x.0) (λ x. x.0) y in
    let all = map section_named (map (λ (x : SS). x.0) y.sections) in
    let p = and_parts (all_true (map (λ s. s.0) all)) (nat_le (sum_of (λ (s : Bool × ℕ). s.1) all) 4294967295) (sym (fold-roll-FormalPars Bool Bool Bool (Bool × ℕ) node_layer fields_layer parameters_layer section_layer x) ∙ e) in
    let s = sections_are y.sections p.0 in
    subst ParametersGood (sym (fold-roll-FormalPars Written WrittenFields WrittenParameters WrittenSection node_rule fields_rule parameters_rule section_rule x)) (s.good, subst (λ n. 1 + n < 2 ^ 64) (sym s.count) (few (sum_of (λ (s : Bool × ℕ). s.1) all) p.1))

section_cases : (y : Section-F SN SF SP SS) → PS (roll-Section (map-Section SN SF SP SS TypeNode FieldList FormalPars Section (λ x. x.0) (λ x. x.0) (λ x. x.0) (λ x. x.0) y))
section_cases y =
    let x = map-Section SN SF SP SS TypeNode FieldList FormalPars Section (λ x. x.0) (λ x. x.0) (λ x. x.0) (λ x. x.0) y in
    let w = fold-roll-Section Written WrittenFields WrittenParameters WrittenSection node_rule fields_rule parameters_rule section_rule x in
    let n = fold-roll-Section Bool Bool Bool (Bool × ℕ) node_layer fields_layer parameters_layer section_layer x in (
      ap (λ (s : WrittenSection). length s.names) w ∙ sym (ap (λ (s : Bool × ℕ). s.1) n),
      λ e.
          let p = and_parts (are_words (map (λ (x : Ident). x.name) y.names)) (type_named y.node.0) (sym (ap (λ (s : Bool × ℕ). s.0) n) ∙ e) in
          subst (λ (s : WrittenSection). (1 ≤ length s.names) × IsGood s.node) (sym w) (has_some y.names p.0, (y.node.1 p.1).typing),
    )

pub written_good : (x : TypeNode) → PN x
written_good = ind-TypeNode PN PF PP PS (λ x y is. subst (λ z. PN (roll-TypeNode z)) is (node_cases y)) (λ x y is. subst (λ z. PF (roll-FieldList z)) is (fields_cases y)) (λ x y is. subst (λ z. PP (roll-FormalPars z)) is (parameters_cases y)) (λ x y is. subst (λ z. PS (roll-Section z)) is (section_cases y))

pub written_parameters_good : (x : FormalPars) → PP x
written_parameters_good = ind-FormalPars PN PF PP PS (λ x y is. subst (λ z. PN (roll-TypeNode z)) is (node_cases y)) (λ x y is. subst (λ z. PF (roll-FieldList z)) is (fields_cases y)) (λ x y is. subst (λ z. PP (roll-FormalPars z)) is (parameters_cases y)) (λ x y is. subst (λ z. PS (roll-Section z)) is (section_cases y))
