-- Each type of the grammar comes to types that are held, by induction over its tree.
use Rattle.std.proofs.Common.{List, [], ◌∷◌, map, sym, subst}
use Rattle.std.specs.List.{AllByRecursion}
use Rattle.ob_tree.specs.declared.expr.Expr.{Expr}
use Rattle.ob_tree.specs.declared.type_node.TypeNode.{TypeNode, roll-TypeNode, map-TypeNode}
use Rattle.ob_tree.specs.declared.type_node.FieldList.{FieldList, roll-FieldList, map-FieldList}
use Rattle.ob_tree.specs.declared.type_node.FormalPars.{FormalPars, roll-FormalPars, map-FormalPars}
use Rattle.ob_tree.specs.declared.type_node.Section.{Section, roll-Section, map-Section}
use Rattle.ob_tree.specs.declared.type_node.TypeNode.TheOpen.{TypeNode-F, FieldList-F, FormalPars-F, Section-F}
use Rattle.ob_tree.specs.declared.type_node.TypeNode.TheFolds.{fold-FieldList, fold-Section, ind-TypeNode, ind-FormalPars, fold-roll-TypeNode, fold-roll-FieldList, fold-roll-FormalPars, fold-roll-Section}
use Rattle.ob_rules.specs.Expressions.{phrase_of}
use Rattle.ob_rules.specs.Types.{Written, WrittenFields, WrittenParameters, WrittenSection, is_later, node_rule, fields_rule, parameters_rule, section_rule, written, written_parameters}
use Rattle.law_local_uses.proofs.Expressions.{expr_ok}
use Rattle.law_local_uses.proofs.Statements.{constant_keeps}
use Rattle.law_local_uses.proofs.Around.{Given, here, settled_here}
use Rattle.law_local_uses.proofs.Typings.{GoodWritten, GoodPhrase, GoodFields, GoodSection, GoodSections, name_good, array_good, record_good, pointer_good, procedure_good}

abbrev written_fields : FieldList → WrittenFields
written_fields = fold-FieldList Written WrittenFields WrittenParameters WrittenSection node_rule fields_rule parameters_rule section_rule

abbrev written_section : Section → WrittenSection
written_section = fold-Section Written WrittenFields WrittenParameters WrittenSection node_rule fields_rule parameters_rule section_rule

pub phrase_good : (g : Given) (x : Expr) → GoodPhrase g (phrase_of x)
phrase_good g x u f = constant_keeps (here g u) u (settled_here g u f) (phrase_of x) (expr_ok (here g u) x)

phrases_good : (g : Given) (xs : List Expr) → AllByRecursion (GoodPhrase g) (map phrase_of xs)
phrases_good g [] = tt
phrases_good g (x ∷ xs) = (phrase_good g x, phrases_good g xs)

module _ (g : Given) where
  abbrev PN : TypeNode → Type 0
  PN x = GoodWritten g (written x)

  abbrev PF : FieldList → Type 0
  PF x = GoodFields g (written_fields x)

  abbrev PP : FormalPars → Type 0
  PP x = GoodSections g (written_parameters x)

  abbrev PS : Section → Type 0
  PS x = GoodSection g (written_section x)

  abbrev SN : Type 0
  SN = (x : TypeNode) × PN x

  abbrev SF : Type 0
  SF = (x : FieldList) × PF x

  abbrev SP : Type 0
  SP = (x : FormalPars) × PP x

  abbrev SS : Type 0
  SS = (x : Section) × PS x

  fields_are : (xs : List SF) → AllByRecursion (GoodFields g) (map written_fields (map (λ (x : SF). x.0) xs))
  fields_are [] = tt
  fields_are (x ∷ xs) = (x.1, fields_are xs)

  sections_are : (xs : List SS) → AllByRecursion (GoodSection g) (map written_section (map (λ (x : SS). x.0) xs))
  sections_are [] = tt
  sections_are (x ∷ xs) = (x.1, sections_are xs)

  node_part : (x : TypeNode-F TypeNode FieldList FormalPars Section) → GoodWritten g (node_rule (map-TypeNode TypeNode FieldList FormalPars Section Written WrittenFields WrittenParameters WrittenSection written written_fields written_parameters written_section x)) → PN (roll-TypeNode x)
  node_part x h = subst (GoodWritten g) (sym (fold-roll-TypeNode Written WrittenFields WrittenParameters WrittenSection node_rule fields_rule parameters_rule section_rule x)) h

  node_cases : (y : TypeNode-F SN SF SP SS) → PN (roll-TypeNode (map-TypeNode SN SF SP SS TypeNode FieldList FormalPars Section (λ x. x.0) (λ x. x.0) (λ x. x.0) (λ x. x.0) y))
  node_cases (TypeNode-F.Named q) = node_part (TypeNode-F.Named q) (λ u f name m ok. name_good g u f q ok)
  node_cases (TypeNode-F.Array at ls t) = node_part (TypeNode-F.Array at ls t.0) (λ u f name m ok. array_good g (map phrase_of ls) (phrases_good g ls) at (written t.0) t.1 u f name m ok)
  node_cases (TypeNode-F.Record at base ls) = node_part (TypeNode-F.Record at base (map (λ (x : SF). x.0) ls)) (λ u f name m ok. record_good g u f name m (map written_fields (map (λ (x : SF). x.0) ls)) (fields_are ls) base)
  node_cases (TypeNode-F.Pointer at b) = node_part (TypeNode-F.Pointer at b.0) (λ u f name m ok. pointer_good g u f name m (written b.0) b.1 (is_later u (written b.0).name))
  node_cases (TypeNode-F.Procedure at p) = node_part (TypeNode-F.Procedure at p.0) (λ u f name m ok. procedure_good g u f name m (written_parameters p.0) p.1)

  fields_cases : (y : FieldList-F SN SF SP SS) → PF (roll-FieldList (map-FieldList SN SF SP SS TypeNode FieldList FormalPars Section (λ x. x.0) (λ x. x.0) (λ x. x.0) (λ x. x.0) y))
  fields_cases y =
      let x = map-FieldList SN SF SP SS TypeNode FieldList FormalPars Section (λ x. x.0) (λ x. x.0) (λ x. x.0) (λ x. x.0) y in
      subst (GoodFields g) (sym (fold-roll-FieldList Written WrittenFields WrittenParameters WrittenSection node_rule fields_rule parameters_rule section_rule x)) y.node.1

  parameters_cases : (y : FormalPars-F SN SF SP SS) → PP (roll-FormalPars (map-FormalPars SN SF SP SS TypeNode FieldList FormalPars Section (λ x. x.0) (λ x. x.0) (λ x. x.0) (λ x. x.0) y))
  parameters_cases y =
      let x = map-FormalPars SN SF SP SS TypeNode FieldList FormalPars Section (λ x. x.0) (λ x. x.0) (λ x. x.0) (λ x. x.0) y in
      subst (GoodSections g) (sym (fold-roll-FormalPars Written WrittenFields WrittenParameters WrittenSection node_rule fields_rule parameters_rule section_rule x)) (sections_are y.sections)

  section_cases : (y : Section-F SN SF SP SS) → PS (roll-Section (map-Section SN SF SP SS TypeNode FieldList FormalPars Section (λ x. x.0) (λ x. x.0) (λ x. x.0) (λ x. x.0) y))
  section_cases y =
      let x = map-Section SN SF SP SS TypeNode FieldList FormalPars Section (λ x. x.0) (λ x. x.0) (λ x. x.0) (λ x. x.0) y in
      subst (GoodSection g) (sym (fold-roll-Section Written WrittenFields WrittenParameters WrittenSection node_rule fields_rule parameters_rule section_rule x)) y.node.1

  pub written_good : (x : TypeNode) → PN x
  written_good = ind-TypeNode PN PF PP PS (λ x y is. subst (λ z. PN (roll-TypeNode z)) is (node_cases y)) (λ x y is. subst (λ z. PF (roll-FieldList z)) is (fields_cases y)) (λ x y is. subst (λ z. PP (roll-FormalPars z)) is (parameters_cases y)) (λ x y is. subst (λ z. PS (roll-Section z)) is (section_cases y))

  pub written_parameters_good : (x : FormalPars) → PP x
  written_parameters_good = ind-FormalPars PN PF PP PS (λ x y is. subst (λ z. PN (roll-TypeNode z)) is (node_cases y)) (λ x y is. subst (λ z. PF (roll-FieldList z)) is (fields_cases y)) (λ x y is. subst (λ z. PP (roll-FormalPars z)) is (parameters_cases y)) (λ x y is. subst (λ z. PS (roll-Section z)) is (section_cases y))
