-- Types, from what the types in them come to.
use Rattle.std.specs.Prelude.{ℕ, List, [], ◌∷◌, ◌++◌, map, Option, false}
use Rattle.ob_tree.specs.declared.ident.Ident.{Ident}
use Rattle.ob_tree.specs.declared.ident.Mark.{Mark}
use Rattle.ob_types.specs.declared.types.TypeRef.{TypeRef}
use Rattle.ob_types.specs.declared.types.TypeRef.TheVariants as ref
use Rattle.ob_rules.specs.declared.notes.Later.TheVariants as later
use Rattle.ob_rules.specs.Judged.{Judged, judge_later, sound, paired, if_sound, ◌▷◌}
use Rattle.ob_rules.specs.Names.{Around, in_unit}
use Rattle.ob_tree.specs.declared.ident.Mark.TheVariants as mark
use Rattle.ob_types.specs.declared.desc.Desc.TheVariants as desc
use Rattle.ob_tree.specs.declared.type_node.FieldList.{FieldList}
use Rattle.ob_tree.specs.declared.type_node.Section.{Section}
use Rattle.ob_tree.specs.declared.type_node.FormalPars.{FormalPars, out-FormalPars}
use Rattle.ob_tree.specs.declared.type_node.TypeNode.TheFolds.{fold-FieldList, fold-Section}
use Rattle.ob_rules.specs.Phrases.{Phrase}
use Rattle.ob_rules.specs.Types.{array_length, Typing, Written, WrittenFields, WrittenParameters, WrittenSection, node_rule, fields_rule, parameters_rule, section_rule, written, typed_as, element_name, pointer_to}

-- the type of that name that the scope declares later
abbrev pub later_named : Around → Ident → TypeRef
later_named u x = ref.Named (in_unit u (u.path ++ x.name))

-- a pointer to it
abbrev pub pointer_later : Around → List ℕ → Mark → Ident → Judged Typing
pointer_later u name m x = judge_later (later.PointsTo name x.pos (later_named u x) false ∷ []) (sound (pointer_to u name m (record { of = later_named u x; made = [] })))

-- the judgement of an array of fixed length, from those of its length and its element
abbrev pub array_judged : Around → List ℕ → Mark → Option ℕ → Option Typing → Judged Typing
array_judged u name m l t = if_sound (paired l t) (λ p. sound (typed_as u name (desc.Array m p.0 p.1.of) p.1.made))

-- the judgement of an open array but for its own place
abbrev pub open_judged : Around → List ℕ → Mark → Written → Judged Typing
open_judged u name m w = w.typing u (element_name name) mark.Hidden w.open_array ▷ λ t. sound (typed_as u name (desc.OpenArray m t.of) t.made)

abbrev pub written_fields : FieldList → WrittenFields
written_fields = fold-FieldList Written WrittenFields WrittenParameters WrittenSection node_rule fields_rule parameters_rule section_rule

-- a field list by its parts
abbrev pub fields_as : FieldList → WrittenFields
fields_as l = record { names = l.names; node = written l.node }

abbrev pub written_section : Section → WrittenSection
written_section = fold-Section Written WrittenFields WrittenParameters WrittenSection node_rule fields_rule parameters_rule section_rule

-- a section by its parts
abbrev pub section_as : Section → WrittenSection
section_as s = record { is_var = s.is_var; names = s.names; node = written s.node }

-- parameters by their parts
abbrev pub parameters_as : FormalPars → WrittenParameters
parameters_as p = record { sections = map written_section (out-FormalPars p).sections; result = (out-FormalPars p).result_type }

-- the lengths that are sound
abbrev pub lengths_in : Around → List Phrase → List (Option ℕ)
lengths_in u ls = map (λ l. (array_length u l).node) ls

-- the name of the element behind so many lengths
abbrev pub deep_name : List ℕ → List Phrase → List ℕ
deep_name name [] = name
deep_name name (l ∷ ls) = deep_name (element_name name) ls

-- arrays of arrays of these lengths
abbrev pub arrays : Around → List ℕ → List (Option ℕ) → Option Typing → Option Typing
arrays u name [] t = t
arrays u name (l ∷ ls) t = (array_judged u name mark.Hidden l (arrays u (element_name name) ls t)).node
