-- Each type and each list of formal parameters of the grammar, with other interfaces around, by induction over its tree.
use Rattle.std.proofs.Common.{List, [], ◌∷◌, map, sym, subst}
use Rattle.std.specs.List.{AllByRecursion}
use Rattle.ob_tree.specs.declared.names.QName.{QName}
use Rattle.ob_tree.specs.declared.expr.Expr.{Expr}
use Rattle.ob_tree.specs.declared.type_node.TypeNode.{TypeNode, roll-TypeNode, map-TypeNode}
use Rattle.ob_tree.specs.declared.type_node.FieldList.{FieldList, roll-FieldList, map-FieldList}
use Rattle.ob_tree.specs.declared.type_node.FormalPars.{FormalPars, roll-FormalPars, map-FormalPars}
use Rattle.ob_tree.specs.declared.type_node.Section.{Section, roll-Section, map-Section}
use Rattle.ob_tree.specs.declared.type_node.TypeNode.TheOpen.{TypeNode-F, FieldList-F, FormalPars-F, Section-F}
use Rattle.ob_tree.specs.declared.type_node.TypeNode.TheFolds.{fold-FieldList, fold-Section, ind-TypeNode, ind-FormalPars, fold-roll-TypeNode, fold-roll-FieldList, fold-roll-FormalPars, fold-roll-Section}
use Rattle.ob_rules.specs.Expressions.{phrase_of}
use Rattle.ob_rules.specs.Types.{Written, WrittenFields, WrittenParameters, WrittenSection, node_rule, fields_rule, parameters_rule, section_rule, written, written_parameters}
use Rattle.law_local_judged.proofs.Expressions.{expr_follows}
use Rattle.law_local_judged.proofs.Typings.{LengthFollows, WrittenFollows, named_follows, array_follows, record_follows, pointer_follows}
use Rattle.law_local_judged.proofs.Parameters.{procedure_follows}

abbrev written_fields : FieldList → WrittenFields
written_fields = fold-FieldList Written WrittenFields WrittenParameters WrittenSection node_rule fields_rule parameters_rule section_rule

abbrev written_section : Section → WrittenSection
written_section = fold-Section Written WrittenFields WrittenParameters WrittenSection node_rule fields_rule parameters_rule section_rule

module _ (P : QName → Type 0) where
  abbrev PN : TypeNode → Type 0
  PN x = WrittenFollows P (written x)

  abbrev PF : FieldList → Type 0
  PF x = WrittenFollows P (written_fields x).node

  abbrev PP : FormalPars → Type 0
  PP x = AllByRecursion (λ s. WrittenFollows P s.node) (written_parameters x).sections

  abbrev PS : Section → Type 0
  PS x = WrittenFollows P (written_section x).node

  abbrev SN : Type 0
  SN = (x : TypeNode) × PN x

  abbrev SF : Type 0
  SF = (x : FieldList) × PF x

  abbrev SP : Type 0
  SP = (x : FormalPars) × PP x

  abbrev SS : Type 0
  SS = (x : Section) × PS x

  fields_follow : (xs : List SF) → AllByRecursion (λ l. WrittenFollows P l.node) (map written_fields (map (λ (x : SF). x.0) xs))
  fields_follow [] = tt
  fields_follow (x ∷ xs) = (x.1, fields_follow xs)

  sections_follow : (xs : List SS) → AllByRecursion (λ s. WrittenFollows P s.node) (map written_section (map (λ (x : SS). x.0) xs))
  sections_follow [] = tt
  sections_follow (x ∷ xs) = (x.1, sections_follow xs)

  lengths_follow : (ls : List Expr) → AllByRecursion (LengthFollows P) (map phrase_of ls)
  lengths_follow [] = tt
  lengths_follow (l ∷ ls) = ((λ u s a. expr_follows P u s a l), lengths_follow ls)

  node_layer : (x : TypeNode-F TypeNode FieldList FormalPars Section) → WrittenFollows P (node_rule (map-TypeNode TypeNode FieldList FormalPars Section Written WrittenFields WrittenParameters WrittenSection written written_fields written_parameters written_section x)) → PN (roll-TypeNode x)
  node_layer x h = subst (WrittenFollows P) (sym (fold-roll-TypeNode Written WrittenFields WrittenParameters WrittenSection node_rule fields_rule parameters_rule section_rule x)) h

  node_cases : (y : TypeNode-F SN SF SP SS) → PN (roll-TypeNode (map-TypeNode SN SF SP SS TypeNode FieldList FormalPars Section (λ x. x.0) (λ x. x.0) (λ x. x.0) (λ x. x.0) y))
  node_cases (TypeNode-F.Named q) = node_layer (TypeNode-F.Named q) (λ u s a own name m b. named_follows P u s a own q b)
  node_cases (TypeNode-F.Array at ls e) = node_layer (TypeNode-F.Array at ls e.0) (λ u s a own name m b. array_follows P u s a own name m at b (map phrase_of ls) (written e.0) (lengths_follow ls) e.1)
  node_cases (TypeNode-F.Record at base ls) = node_layer (TypeNode-F.Record at base (map (λ (x : SF). x.0) ls)) (λ u s a own name m b. record_follows P u s a own name m (map written_fields (map (λ (x : SF). x.0) ls)) base (fields_follow ls))
  node_cases (TypeNode-F.Pointer at b) = node_layer (TypeNode-F.Pointer at b.0) (λ u s a own name m c. pointer_follows P u s a own name m (written b.0) b.1)
  node_cases (TypeNode-F.Procedure at p) = node_layer (TypeNode-F.Procedure at p.0) (λ u s a own name m b. procedure_follows P s u a own name m (written_parameters p.0) p.1)

  fields_cases : (y : FieldList-F SN SF SP SS) → PF (roll-FieldList (map-FieldList SN SF SP SS TypeNode FieldList FormalPars Section (λ x. x.0) (λ x. x.0) (λ x. x.0) (λ x. x.0) y))
  fields_cases y =
      let x = map-FieldList SN SF SP SS TypeNode FieldList FormalPars Section (λ x. x.0) (λ x. x.0) (λ x. x.0) (λ x. x.0) y in
      subst (λ (f : WrittenFields). WrittenFollows P f.node) (sym (fold-roll-FieldList Written WrittenFields WrittenParameters WrittenSection node_rule fields_rule parameters_rule section_rule x)) y.node.1

  parameters_cases : (y : FormalPars-F SN SF SP SS) → PP (roll-FormalPars (map-FormalPars SN SF SP SS TypeNode FieldList FormalPars Section (λ x. x.0) (λ x. x.0) (λ x. x.0) (λ x. x.0) y))
  parameters_cases y =
      let x = map-FormalPars SN SF SP SS TypeNode FieldList FormalPars Section (λ x. x.0) (λ x. x.0) (λ x. x.0) (λ x. x.0) y in
      subst (λ (p : WrittenParameters). AllByRecursion (λ s. WrittenFollows P s.node) p.sections) (sym (fold-roll-FormalPars Written WrittenFields WrittenParameters WrittenSection node_rule fields_rule parameters_rule section_rule x)) (sections_follow y.sections)

  section_cases : (y : Section-F SN SF SP SS) → PS (roll-Section (map-Section SN SF SP SS TypeNode FieldList FormalPars Section (λ x. x.0) (λ x. x.0) (λ x. x.0) (λ x. x.0) y))
  section_cases y =
      let x = map-Section SN SF SP SS TypeNode FieldList FormalPars Section (λ x. x.0) (λ x. x.0) (λ x. x.0) (λ x. x.0) y in
      subst (λ (s : WrittenSection). WrittenFollows P s.node) (sym (fold-roll-Section Written WrittenFields WrittenParameters WrittenSection node_rule fields_rule parameters_rule section_rule x)) y.node.1

  pub written_follows : (x : TypeNode) → PN x
  written_follows = ind-TypeNode PN PF PP PS (λ x y is. subst (λ z. PN (roll-TypeNode z)) is (node_cases y)) (λ x y is. subst (λ z. PF (roll-FieldList z)) is (fields_cases y)) (λ x y is. subst (λ z. PP (roll-FormalPars z)) is (parameters_cases y)) (λ x y is. subst (λ z. PS (roll-Section z)) is (section_cases y))

  pub written_parameters_follow : (x : FormalPars) → PP x
  written_parameters_follow = ind-FormalPars PN PF PP PS (λ x y is. subst (λ z. PN (roll-TypeNode z)) is (node_cases y)) (λ x y is. subst (λ z. PF (roll-FieldList z)) is (fields_cases y)) (λ x y is. subst (λ z. PP (roll-FormalPars z)) is (parameters_cases y)) (λ x y is. subst (λ z. PS (roll-Section z)) is (section_cases y))
