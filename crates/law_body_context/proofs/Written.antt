-- Each type of the grammar is good, by induction over its tree.
use Rattle.std.proofs.Common.{◌≡◌, Bool, true, List, [], ◌∷◌, map, sym, subst, ◌∙◌, Option}
use Rattle.std.specs.Prelude.{ℕ, false}
use Rattle.ob_tree.specs.declared.names.QName.{QName}
use Rattle.ob_tree.specs.declared.expr.Expr.{Expr}
use Rattle.ob_tree.specs.declared.type_node.TypeNode.{TypeNode, roll-TypeNode, map-TypeNode}
use Rattle.ob_tree.specs.declared.type_node.FieldList.{FieldList, roll-FieldList, map-FieldList}
use Rattle.ob_tree.specs.declared.type_node.FormalPars.{FormalPars, roll-FormalPars, map-FormalPars}
use Rattle.ob_tree.specs.declared.type_node.Section.{Section, roll-Section, map-Section}
use Rattle.ob_tree.specs.declared.type_node.TypeNode.TheOpen.{TypeNode-F, FieldList-F, FormalPars-F, Section-F}
use Rattle.ob_tree.specs.declared.type_node.TypeNode.TheFolds.{fold-FieldList, fold-Section, ind-TypeNode, ind-FormalPars, fold-roll-TypeNode, fold-roll-FieldList, fold-roll-FormalPars, fold-roll-Section}
use Rattle.ob_types.specs.declared.value.Value.{Value}
use Rattle.ob_types.specs.declared.desc.Desc.{Desc}
use Rattle.ob_rules.specs.Names.{is_out}
use Rattle.ob_rules.specs.Expressions.{phrase_of}
use Rattle.ob_rules.specs.Types.{Written, WrittenFields, WrittenParameters, WrittenSection, base_if, is_later, node_rule, fields_rule, parameters_rule, section_rule, written, written_parameters}
use Rattle.law_typing.specs.Spelled.{all_true, is_spelled}
use Rattle.law_body_context.specs.Spelled.{node_layer, fields_layer, parameters_layer, section_layer, type_spelled, fields_spelled, parameters_spelled, section_spelled}
use Rattle.law_body_context.proofs.Typings.{IsGood, AreConstant, ConstantPhrase, AreGoodFields, array_good, record_good, pointer_good, name_good}
use Rattle.law_body_context.proofs.Sections.{AreGoodSections, type_good}
use Rattle.law_lists.proofs.Lists.{and_parts}

abbrev written_fields : FieldList → WrittenFields
written_fields = fold-FieldList Written WrittenFields WrittenParameters WrittenSection node_rule fields_rule parameters_rule section_rule

abbrev written_section : Section → WrittenSection
written_section = fold-Section Written WrittenFields WrittenParameters WrittenSection node_rule fields_rule parameters_rule section_rule

module _ (IsConstant : Value → Type 0) (unit : List ℕ) (shown : QName → Option Desc) (out : is_out unit ≡ false) (constants : (x : Expr) → is_spelled x ≡ true → ConstantPhrase IsConstant unit shown out (phrase_of x)) where
  abbrev Good : Written → Type 0
  Good w = IsGood IsConstant unit shown out w

  abbrev GoodSections : List WrittenSection → Type 0
  GoodSections ss = AreGoodSections IsConstant unit shown out ss

  abbrev PN : TypeNode → Type 0
  PN x = type_spelled x ≡ true → Good (written x)

  abbrev PF : FieldList → Type 0
  PF x = fields_spelled x ≡ true → Good (written_fields x).node

  abbrev PP : FormalPars → Type 0
  PP x = parameters_spelled x ≡ true → GoodSections (written_parameters x).sections

  abbrev PS : Section → Type 0
  PS x = section_spelled x ≡ true → Good (written_section x).node

  abbrev SN : Type 0
  SN = (x : TypeNode) × PN x

  abbrev SF : Type 0
  SF = (x : FieldList) × PF x

  abbrev SP : Type 0
  SP = (x : FormalPars) × PP x

  abbrev SS : Type 0
  SS = (x : Section) × PS x

  fields_are : (xs : List SF) → all_true (map fields_spelled (map (λ (x : SF). x.0) xs)) ≡ true → AreGoodFields IsConstant unit shown out (map written_fields (map (λ (x : SF). x.0) xs))
  fields_are [] e = tt
  fields_are (x ∷ xs) e = let p = and_parts (fields_spelled x.0) (all_true (map fields_spelled (map (λ (x : SF). x.0) xs))) e in (x.1 p.0, fields_are xs p.1)

  sections_are : (xs : List SS) → all_true (map section_spelled (map (λ (x : SS). x.0) xs)) ≡ true → GoodSections (map written_section (map (λ (x : SS). x.0) xs))
  sections_are [] e = tt
  sections_are (x ∷ xs) e = let p = and_parts (section_spelled x.0) (all_true (map section_spelled (map (λ (x : SS). x.0) xs))) e in (x.1 p.0, sections_are xs p.1)

  lengths_are : (ls : List Expr) → all_true (map is_spelled ls) ≡ true → AreConstant IsConstant unit shown out (map phrase_of ls)
  lengths_are [] e = tt
  lengths_are (l ∷ ls) e = let p = and_parts (is_spelled l) (all_true (map is_spelled ls)) e in (constants l p.0, lengths_are ls p.1)

  node_part : (x : TypeNode-F TypeNode FieldList FormalPars Section) → (node_layer (map-TypeNode TypeNode FieldList FormalPars Section Bool Bool Bool Bool type_spelled fields_spelled parameters_spelled section_spelled x) ≡ true → Good (node_rule (map-TypeNode TypeNode FieldList FormalPars Section Written WrittenFields WrittenParameters WrittenSection written written_fields written_parameters written_section x))) → PN (roll-TypeNode x)
  node_part x h e = subst Good (sym (fold-roll-TypeNode Written WrittenFields WrittenParameters WrittenSection node_rule fields_rule parameters_rule section_rule x)) (h (sym (fold-roll-TypeNode Bool Bool Bool Bool node_layer fields_layer parameters_layer section_layer x) ∙ e))

  node_cases : (y : TypeNode-F SN SF SP SS) → PN (roll-TypeNode (map-TypeNode SN SF SP SS TypeNode FieldList FormalPars Section (λ x. x.0) (λ x. x.0) (λ x. x.0) (λ x. x.0) y))
  node_cases (TypeNode-F.Named q) = node_part (TypeNode-F.Named q) (λ e u k name m ok. name_good IsConstant unit shown out q u k ok)
  node_cases (TypeNode-F.Array at ls t) = node_part (TypeNode-F.Array at ls t.0) (λ e u k name m ok. let p = and_parts (all_true (map is_spelled ls)) (type_spelled t.0) e in array_good IsConstant unit shown out (map phrase_of ls) (lengths_are ls p.0) at (written t.0) (t.1 p.1) u k name m ok)
  node_cases (TypeNode-F.Record at base ls) = node_part (TypeNode-F.Record at base (map (λ (x : SF). x.0) ls)) (λ e u k name m ok. record_good IsConstant unit shown out u k name m (map written_fields (map (λ (x : SF). x.0) ls)) (fields_are ls e) (base_if u base))
  node_cases (TypeNode-F.Pointer at b) = node_part (TypeNode-F.Pointer at b.0) (λ e u k name m ok. pointer_good IsConstant unit shown out u k name m (written b.0) (b.1 e) (is_later u (written b.0).name))
  node_cases (TypeNode-F.Procedure at p) = node_part (TypeNode-F.Procedure at p.0) (λ e u k name m ok. type_good IsConstant unit shown out u k name m (written_parameters p.0) (p.1 e))

  fields_cases : (y : FieldList-F SN SF SP SS) → PF (roll-FieldList (map-FieldList SN SF SP SS TypeNode FieldList FormalPars Section (λ x. x.0) (λ x. x.0) (λ x. x.0) (λ x. x.0) y))
  fields_cases y e =
      let x = map-FieldList SN SF SP SS TypeNode FieldList FormalPars Section (λ x. x.0) (λ x. x.0) (λ x. x.0) (λ x. x.0) y in
      subst (λ (f : WrittenFields). Good f.node) (sym (fold-roll-FieldList Written WrittenFields WrittenParameters WrittenSection node_rule fields_rule parameters_rule section_rule x)) (y.node.1 (sym (fold-roll-FieldList Bool Bool Bool Bool node_layer fields_layer parameters_layer section_layer x) ∙ e))

  parameters_cases : (y : FormalPars-F SN SF SP SS) → PP (roll-FormalPars (map-FormalPars SN SF SP SS TypeNode FieldList FormalPars Section (λ x. x.0) (λ x. x.0) (λ x. x.0) (λ x. x.0) y))
  parameters_cases y e =
      let x = map-FormalPars SN SF SP SS TypeNode FieldList FormalPars Section (λ x. x.0) (λ x. x.0) (λ x. x.0) (λ x. x.0) y in
      subst (λ (p : WrittenParameters). GoodSections p.sections) (sym (fold-roll-FormalPars Written WrittenFields WrittenParameters WrittenSection node_rule fields_rule parameters_rule section_rule x)) (sections_are y.sections (sym (fold-roll-FormalPars Bool Bool Bool Bool node_layer fields_layer parameters_layer section_layer x) ∙ e))

  section_cases : (y : Section-F SN SF SP SS) → PS (roll-Section (map-Section SN SF SP SS TypeNode FieldList FormalPars Section (λ x. x.0) (λ x. x.0) (λ x. x.0) (λ x. x.0) y))
  section_cases y e =
      let x = map-Section SN SF SP SS TypeNode FieldList FormalPars Section (λ x. x.0) (λ x. x.0) (λ x. x.0) (λ x. x.0) y in
      subst (λ (s : WrittenSection). Good s.node) (sym (fold-roll-Section Written WrittenFields WrittenParameters WrittenSection node_rule fields_rule parameters_rule section_rule x)) (y.node.1 (sym (fold-roll-Section Bool Bool Bool Bool node_layer fields_layer parameters_layer section_layer x) ∙ e))

  pub written_good : (x : TypeNode) → PN x
  written_good = ind-TypeNode PN PF PP PS (λ x y is. subst (λ z. PN (roll-TypeNode z)) is (node_cases y)) (λ x y is. subst (λ z. PF (roll-FieldList z)) is (fields_cases y)) (λ x y is. subst (λ z. PP (roll-FormalPars z)) is (parameters_cases y)) (λ x y is. subst (λ z. PS (roll-Section z)) is (section_cases y))

  pub written_parameters_good : (x : FormalPars) → PP x
  written_parameters_good = ind-FormalPars PN PF PP PS (λ x y is. subst (λ z. PN (roll-TypeNode z)) is (node_cases y)) (λ x y is. subst (λ z. PF (roll-FieldList z)) is (fields_cases y)) (λ x y is. subst (λ z. PP (roll-FormalPars z)) is (parameters_cases y)) (λ x y is. subst (λ z. PS (roll-Section z)) is (section_cases y))
