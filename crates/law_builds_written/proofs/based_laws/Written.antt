-- A written type that is no name stands under its own name, first among those that it makes.
use Rattle.std.proofs.Common.{◌≡◌, refl, sym, subst, ℕ, Bool, true, List, [], ◌∷◌, map, Option, Some, None, inl}
use Rattle.std.specs.Prelude.{is_none}
use Rattle.ob_tree.specs.declared.pos.Pos.{Pos}
use Rattle.ob_tree.specs.declared.ident.Ident.{Ident}
use Rattle.ob_tree.specs.declared.ident.Mark.{Mark}
use Rattle.ob_tree.specs.declared.ident.Mark.TheVariants as mark
use Rattle.ob_tree.specs.declared.type_node.TypeNode.{TypeNode, roll-TypeNode, map-TypeNode}
use Rattle.ob_tree.specs.declared.type_node.FieldList.{FieldList}
use Rattle.ob_tree.specs.declared.type_node.FormalPars.{FormalPars}
use Rattle.ob_tree.specs.declared.type_node.Section.{Section}
use Rattle.ob_tree.specs.declared.type_node.TypeNode.TheOpen.{TypeNode-F}
use Rattle.ob_tree.specs.declared.type_node.TypeNode.TheFolds.{fold-FieldList, fold-Section, ind-TypeNode, fold-roll-TypeNode}
use Rattle.ob_types.specs.declared.types.TypeRef.{TypeRef}
use Rattle.ob_types.specs.declared.types.TypeRef.TheVariants as ref
use Rattle.ob_types.specs.declared.desc.Desc.{Desc}
use Rattle.ob_types.specs.declared.desc.Desc.TheVariants as desc
use Rattle.ob_types.specs.declared.typed.TypedType.{TypedType}
use Rattle.ob_rules.specs.declared.broken.Rule.TheVariants as rule
use Rattle.ob_rules.specs.Judged.{Judged, sound, both, ◌▷◌}
use Rattle.ob_rules.specs.Names.{Around, in_unit}
use Rattle.ob_rules.specs.Phrases.{Phrase}
use Rattle.ob_rules.specs.Expressions.{phrase_of}
use Rattle.ob_rules.specs.Types.{Typing, Written, typed_as, base_name, element_name, array_length, fixed_array, array, WrittenFields, field_lists, record_desc, record_with, pointer_to, pointer_base, pointer_by, is_later, base_if, WrittenSection, WrittenParameters, parameters_in, procedure_type, inner, node_rule, fields_rule, section_rule, parameters_rule, written, written_parameters}
use Rattle.law_methods_described.proofs.Nodes.{Has, any_then, also_has}
use Rattle.law_body_context.specs.Knows.{HasName}

abbrev pub IsItself : Around → List ℕ → Typing → Type 0
IsItself u name t = (t.of ≡ ref.Named (in_unit u name)) × HasName t.made name

abbrev pub NamesItself : Written → Type 0
NamesItself w = (u : Around) (name : List ℕ) (m : Mark) (open_ok : Bool) → w.name ≡ None → Has (IsItself u name) (w.typing u name m open_ok)

as_itself : (u : Around) (name : List ℕ) (d : Desc) (more : List TypedType) → IsItself u name (typed_as u name d more)
as_itself u name d more = (refl, (record { name = name; desc = d }, (inl refl, refl)))

array_itself : (u : Around) (name : List ℕ) (m : Mark) (at : Pos) (open_ok : Bool) (ls : List Phrase) (element : Written) → Has (IsItself u name) (array u name m at open_ok ls element)
array_itself u name m at open_ok [] element = also_has (IsItself u name) _ rule.MisplacedOpenArray at _ (any_then (IsItself u name) (element.typing u (element_name name) mark.Hidden element.open_array) (λ t. sound (typed_as u name (desc.OpenArray m t.of) t.made)) (λ t. as_itself u name (desc.OpenArray m t.of) t.made))
array_itself u name m at open_ok (l ∷ ls) element = any_then (IsItself u name) (both (array_length u l) (fixed_array u (element_name name) mark.Hidden ls element)) (λ p. sound (typed_as u name (desc.Array m p.0 p.1.of) p.1.made)) (λ p. as_itself u name (desc.Array m p.0 p.1.of) p.1.made)

record_itself : (u : Around) (name : List ℕ) (m : Mark) (lists : List WrittenFields) (base : Judged (Option TypeRef)) → Has (IsItself u name) (record_with u name m lists base)
record_itself u name m lists base = any_then (IsItself u name) (both base (field_lists u name base.node [] lists)) (λ p. sound (typed_as u name (record_desc m p.0 p.1.fields) p.1.made)) (λ p. as_itself u name (record_desc m p.0 p.1.fields) p.1.made)

pointer_itself : (u : Around) (name : List ℕ) (m : Mark) (base : Written) (o : Option Ident) → Has (IsItself u name) (pointer_by u name m base o)
pointer_itself u name m base (Some x) = as_itself u name _ []
pointer_itself u name m base None = any_then (IsItself u name) (base.typing u (base_name name) mark.Hidden true ▷ pointer_base u name (is_none base.name) base.start) (λ t. sound (pointer_to u name m t)) (λ t. as_itself u name (desc.Pointer m t.of) t.made)

procedure_itself : (u : Around) (name : List ℕ) (m : Mark) (p : WrittenParameters) → Has (IsItself u name) (procedure_type u name m p)
procedure_itself u name m p = any_then (IsItself u name) (parameters_in (inner u) name p).found (λ q. sound (typed_as u name (desc.ProcType m q.signature) q.made)) (λ q. as_itself u name (desc.ProcType m q.signature) q.made)

-- ---- by cases over types

abbrev written_fields : FieldList → WrittenFields
written_fields = fold-FieldList Written WrittenFields WrittenParameters WrittenSection node_rule fields_rule parameters_rule section_rule

abbrev written_section : Section → WrittenSection
written_section = fold-Section Written WrittenFields WrittenParameters WrittenSection node_rule fields_rule parameters_rule section_rule

abbrev PN : TypeNode → Type 0
PN x = NamesItself (written x)

abbrev PF : FieldList → Type 0
PF x = Unit {0}

abbrev PP : FormalPars → Type 0
PP x = Unit {0}

abbrev PS : Section → Type 0
PS x = Unit {0}

abbrev SN : Type 0
SN = (x : TypeNode) × PN x

abbrev SF : Type 0
SF = (x : FieldList) × PF x

abbrev SP : Type 0
SP = (x : FormalPars) × PP x

abbrev SS : Type 0
SS = (x : Section) × PS x

node_part : (x : TypeNode-F TypeNode FieldList FormalPars Section) → NamesItself (node_rule (map-TypeNode TypeNode FieldList FormalPars Section Written WrittenFields WrittenParameters WrittenSection written written_fields written_parameters written_section x)) → PN (roll-TypeNode x)
node_part x h = subst NamesItself (sym (fold-roll-TypeNode Written WrittenFields WrittenParameters WrittenSection node_rule fields_rule parameters_rule section_rule x)) h

node_cases : (y : TypeNode-F SN SF SP SS) → PN (roll-TypeNode (map-TypeNode SN SF SP SS TypeNode FieldList FormalPars Section (λ x. x.0) (λ x. x.0) (λ x. x.0) (λ x. x.0) y))
node_cases (TypeNode-F.Named q) = node_part (TypeNode-F.Named q) (λ u name m ok e. absurd cc)
node_cases (TypeNode-F.Array at ls t) = node_part (TypeNode-F.Array at ls t.0) (λ u name m ok e. array_itself u name m at ok (map phrase_of ls) (written t.0))
node_cases (TypeNode-F.Record at base ls) = node_part (TypeNode-F.Record at base (map (λ (x : SF). x.0) ls)) (λ u name m ok e. record_itself u name m (map written_fields (map (λ (x : SF). x.0) ls)) (base_if u base))
node_cases (TypeNode-F.Pointer at b) = node_part (TypeNode-F.Pointer at b.0) (λ u name m ok e. pointer_itself u name m (written b.0) (is_later u (written b.0).name))
node_cases (TypeNode-F.Procedure at p) = node_part (TypeNode-F.Procedure at p.0) (λ u name m ok e. procedure_itself u name m (written_parameters p.0))

pub written_itself : (x : TypeNode) → NamesItself (written x)
written_itself = ind-TypeNode PN PF PP PS (λ x y is. subst (λ z. PN (roll-TypeNode z)) is (node_cases y)) (λ x y is. tt) (λ x y is. tt) (λ x y is. tt)
