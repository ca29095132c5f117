-- Types as they are written: what they are, what they make, and their rules.
use Rattle.std.specs.Prelude.{ℕ, zero, suc, ◌+◌, Bool, true, false, not, ◌&&◌, ◌||◌, nat_le, List, [], ◌∷◌, ◌++◌, length, map, Option, Some, None, is_some, is_none, codes, bytes_eq, pos, negsuc}
use Rattle.std.specs.List.{list_any, find}
use Rattle.std.specs.Fmt.{signed_decimal}
use Rattle.ob_tree.specs.declared.pos.Pos.{Pos}
use Rattle.ob_tree.specs.declared.names.QName.{QName}
use Rattle.ob_tree.specs.declared.ident.Ident.{Ident}
use Rattle.ob_tree.specs.declared.ident.IdentDef.{IdentDef}
use Rattle.ob_tree.specs.declared.ident.Mark.{Mark}
use Rattle.ob_tree.specs.declared.ident.Mark.TheVariants as mark
use Rattle.ob_tree.specs.declared.ident.Qualident.{Qualident}
use Rattle.ob_tree.specs.declared.expr.Expr.{Expr}
use Rattle.ob_tree.specs.declared.type_node.TypeNode.{TypeNode}
use Rattle.ob_tree.specs.declared.type_node.TypeNode.TheOpen.{TypeNode-F, FieldList-F, Section-F, FormalPars-F}
use Rattle.ob_tree.specs.declared.type_node.TypeNode.TheFolds.{fold-TypeNode, fold-FormalPars}
use Rattle.ob_tree.specs.declared.type_node.FormalPars.{FormalPars}
use Rattle.ob_types.specs.declared.types.Mode.{Mode}
use Rattle.ob_types.specs.declared.types.Mode.TheVariants as mode
use Rattle.ob_types.specs.declared.types.TypeRef.{TypeRef}
use Rattle.ob_types.specs.declared.types.TypeRef.TheVariants as ref
use Rattle.ob_types.specs.declared.types.Signature.{Signature}
use Rattle.ob_types.specs.declared.value.Value.{Value}
use Rattle.ob_types.specs.declared.value.Value.TheVariants as literal
use Rattle.ob_types.specs.declared.desc.Desc.{Desc}
use Rattle.ob_types.specs.declared.desc.Desc.TheVariants as desc
use Rattle.ob_types.specs.declared.desc.RecordDesc.{RecordDesc}
use Rattle.ob_types.specs.declared.desc.Field.{Field}
use Rattle.ob_types.specs.declared.typed.Variable.{Variable}
use Rattle.ob_types.specs.declared.typed.Variable.TheVariants as variable
use Rattle.ob_types.specs.declared.typed.TypedType.{TypedType}
use Rattle.ob_types.specs.declared.typed.TypedParameter.{TypedParameter}
use Rattle.ob_rules.specs.declared.entity.Entity.{Entity}
use Rattle.ob_rules.specs.declared.entity.Known.{Known}
use Rattle.ob_rules.specs.declared.notes.Later.{Later}
use Rattle.ob_rules.specs.declared.entity.Entity.TheVariants as entity
use Rattle.ob_rules.specs.declared.notes.Later.TheVariants as later
use Rattle.ob_rules.specs.declared.broken.Rule.TheVariants as rule
use Rattle.ob_rules.specs.Judged.{Judged, Notes, sound, silent, breaks, also, wants, unless, both, each_sound, if_there, made, behind_quiet, joined, no_notes, broken_at, judge_later, ◌▷◌}
use Rattle.ob_rules.specs.Shapes.{Map, Member, member, record_of, is_open, is_structured, is_pointer, passing_of}
use Rattle.ob_rules.specs.Names.{is_among, is_declared, Around, map_of, in_unit, type_named, found_in_scope}
use Rattle.ob_rules.specs.Phrases.{Phrase}
use Rattle.ob_rules.specs.Expressions.{phrase_of, constant_value}

-- a type, and the types that it makes, in the order in which they begin in the text
pub record Typing : Type 0 where
  pub of : TypeRef
  pub made : List TypedType

-- a type where it is written: its first symbol; its name, if it is one; whether it is an open array; and what it comes to under a name and mark of its own, where an
-- open array may stand or not
pub record Written : Type 0 where
  pub start : Pos
  pub name : Option Qualident
  pub open_array : Bool
  pub typing : Around → List ℕ → Mark → Bool → Judged Typing

abbrev pub typed_as : Around → List ℕ → Desc → List TypedType → Typing
typed_as u name d more = record { of = ref.Named (in_unit u name); made = record { name = name; desc = d } ∷ more }

-- with more types of the module
abbrev pub with_types : Around → List TypedType → Around
with_types u ts = record u { own = ts ++ u.own }

-- DERIVED NAMES

abbrev pub base_name : List ℕ → List ℕ
base_name n = n ++ codes "^"

abbrev pub element_name : List ℕ → List ℕ
element_name n = n ++ codes "["

abbrev pub field_name : List ℕ → List ℕ → List ℕ
field_name n f = n ++ codes "." ++ f

abbrev pub section_name : List ℕ → ℕ → List ℕ
section_name n i = n ++ codes "(" ++ signed_decimal (pos i)

-- MARKS

abbrev pub nothing : {A : Type 0} → List A → Bool
nothing [] = true
nothing (x ∷ xs) = false

abbrev pub is_module_level : Around → Bool
is_module_level u = nothing u.path

-- rule 6: an export mark below module level, or `-` on what is neither variable nor field
abbrev pub mark_of : Bool → Bool → Pos → Mark → Judged Mark
mark_of level minus at mark.Hidden = sound mark.Hidden
mark_of false minus at m = breaks rule.MisplacedMark at
mark_of true false at mark.ReadOnly = breaks rule.MisplacedMark at
mark_of true minus at m = sound m

abbrev pub marked : Around → Bool → IdentDef → Judged Mark
marked u minus d = mark_of (is_module_level u) minus d.mark_pos d.mark

-- NAMES AND ARRAYS

-- rule 13: an open array elsewhere than as pointer base or parameter type, or with open elements
abbrev pub named_typing : Around → Pos → Bool → TypeRef → Judged Typing
named_typing u at open_ok t = unless (not open_ok && is_open (map_of u) t) rule.MisplacedOpenArray at (record { of = t; made = [] })

-- rule 12: an array length is not an integer of at least 1
abbrev pub length_of : Pos → Value → Judged ℕ
length_of at (literal.Int (pos (suc n))) = sound (suc n)
length_of at v = breaks rule.UnfitLength at

abbrev pub array_length : Around → Phrase → Judged ℕ
array_length u x = constant_value u x ▷ length_of x.start

abbrev pub fixed_array : Around → List ℕ → Mark → List Phrase → Written → Judged Typing
fixed_array u name m [] element = element.typing u name m false
fixed_array u name m (l ∷ ls) element =
    both (array_length u l) (fixed_array u (element_name name) mark.Hidden ls element)
    ▷ λ p. sound (typed_as u name (desc.Array m p.0 p.1.of) p.1.made)

abbrev pub open_array : Around → List ℕ → Mark → Pos → Bool → Written → Judged Typing
open_array u name m at open_ok element =
    also (not open_ok || element.open_array) rule.MisplacedOpenArray at (element.typing u (element_name name) mark.Hidden element.open_array ▷ λ t. sound (typed_as u name (desc.OpenArray m t.of) t.made))

abbrev pub array : Around → List ℕ → Mark → Pos → Bool → List Phrase → Written → Judged Typing
array u name m at open_ok [] element = open_array u name m at open_ok element
array u name m at open_ok (l ∷ ls) element = fixed_array u name m (l ∷ ls) element

-- RECORDS

abbrev pub first_by : Option Ident → Ident → Pos
first_by None x = x.pos
first_by (Some m) x = m.pos

-- the first symbol of a qualified name
abbrev pub first_of : Qualident → Pos
first_of q = first_by q.qualifier q.ident

-- rule 14: a record's base is not a record type
abbrev pub base_of : Map → Pos → TypeRef → Judged TypeRef
base_of map at t = wants (is_some (record_of map t)) rule.UnfitBase at t

abbrev pub base_if : Around → Option Qualident → Judged (Option TypeRef)
base_if u None = sound None
base_if u (Some q) = made (λ t. Some t) (type_named u q ▷ base_of (map_of u) (first_of q))

abbrev pub member_in : Map → Option QName → List ℕ → Option Member
member_in map None x = None
member_in map (Some q) x = member map q x

abbrev pub record_in : Map → Option (Option TypeRef) → Option QName
record_in map (Some (Some t)) = record_of map t
record_in map t = None

abbrev pub inherits : Option (Option TypeRef) → Ident → List Later
inherits (Some (Some t)) x = later.Inherits x t ∷ []
inherits b x = []

-- rule 1: a field's name stands twice in the record, or is visible in one of its bases
abbrev pub field_declared : Around → Option (Option TypeRef) → List (List ℕ) → IdentDef → TypeRef → Judged Field
field_declared u base before d t =
    judge_later (inherits base d.ident) (marked u true d ▷ λ m. unless (is_among d.ident.name before || is_some (member_in (map_of u) (record_in (map_of u) base) d.ident.name)) rule.DeclaredTwice d.ident.pos (record { name = d.ident.name; mark = m; place = 0; of = t }))

-- a field of a type that breaks a rule keeps its name
abbrev pub field_if : Around → Option (Option TypeRef) → List (List ℕ) → IdentDef → Option Typing → Judged Field
field_if u base before d (Some t) = field_declared u base before d t.of
field_if u base before d None = field_declared u base before d (ref.Named (in_unit u [])) ▷ λ f. silent

abbrev pub name_in : IdentDef → List ℕ
name_in d = d.ident.name

abbrev pub fields_of : Around → Option (Option TypeRef) → List (List ℕ) → List IdentDef → Option Typing → List (Judged Field)
fields_of u base before [] t = []
fields_of u base before (d ∷ ds) t = field_if u base before d t ∷ fields_of u base (name_in d ∷ before) ds t

-- the names behind those before, the latest first
abbrev pub names_behind : List IdentDef → List (List ℕ) → List (List ℕ)
names_behind [] before = before
names_behind (d ∷ ds) before = names_behind ds (name_in d ∷ before)

pub record WrittenFields : Type 0 where
  pub names : List IdentDef
  pub node : Written

abbrev pub first_name : List IdentDef → List ℕ
first_name [] = []
first_name (d ∷ ds) = d.ident.name

pub record Fields : Type 0 where
  pub fields : List Field
  pub made : List TypedType

abbrev pub with_fields : Around → Option (Option TypeRef) → List (List ℕ) → List IdentDef → Judged Typing → Judged Fields
with_fields u base before ds t = both t (each_sound (fields_of u base before ds t.node)) ▷ λ p. sound (record { fields = p.1; made = p.0.made })

abbrev pub fields_joined : Fields → Fields → Fields
fields_joined a b = record { fields = a.fields ++ b.fields; made = a.made ++ b.made }

abbrev pub field_lists : Around → List ℕ → Option (Option TypeRef) → List (List ℕ) → List WrittenFields → Judged Fields
field_lists u name base before [] = sound (record { fields = []; made = [] })
field_lists u name base before (l ∷ ls) =
    both (with_fields u base before l.names (l.node.typing u (field_name name (first_name l.names)) mark.Hidden false)) (field_lists u name base (names_behind l.names before) ls)
    ▷ λ p. sound (fields_joined p.0 p.1)

-- the words, the places and what is bound come when the module is known
abbrev pub record_desc : Mark → Option TypeRef → List Field → Desc
record_desc m base fields = desc.Record (record { mark = m; base = base; fields = fields; methods = []; words = 0; procedures = 0 })

abbrev pub record_with : Around → List ℕ → Mark → List WrittenFields → Judged (Option TypeRef) → Judged Typing
record_with u name m lists base =
    both base (field_lists u name base.node [] lists) ▷ λ p. sound (typed_as u name (record_desc m p.0 p.1.fields) p.1.made)

-- POINTERS

abbrev pub pointer_to : Around → List ℕ → Mark → Typing → Typing
pointer_to u name m t = typed_as u name (desc.Pointer m t.of) t.made

abbrev pub base_judged : List ℕ → Bool → Pos → Bool → Bool → Typing → Judged Typing
base_judged name inline at true pointer t = sound t
base_judged name inline at false true t = judge_later (later.PointsTo name at t.of inline ∷ []) (sound t)
base_judged name inline at false false t = breaks rule.UnfitPointerBase at

-- rule 15: a pointer's base is neither record nor array. Of a pointer to a pointer it is asked when all types of the sequence are known
abbrev pub pointer_base : Around → List ℕ → Bool → Pos → Typing → Judged Typing
pointer_base u name inline at t = base_judged name inline at (is_structured (map_of (with_types u t.made)) t.of) (is_pointer (map_of (with_types u t.made)) t.of) t

abbrev pub later_if : Bool → Ident → Option Ident
later_if true x = Some x
later_if false x = None

abbrev pub later_by : Around → Option Ident → Ident → Option Ident
later_by u None x = later_if (is_among x.name u.later_types && not (is_declared u x.name)) x
later_by u (Some m) x = None

-- a type of the same scope that is declared later; it goes before an outer name
abbrev pub is_later : Around → Option Qualident → Option Ident
is_later u None = None
is_later u (Some q) = later_by u q.qualifier q.ident

abbrev pub pointer_by : Around → List ℕ → Mark → Written → Option Ident → Judged Typing
pointer_by u name m base (Some x) = judge_later (later.PointsTo name x.pos (ref.Named (in_unit u (u.path ++ x.name))) false ∷ []) (sound (pointer_to u name m (record { of = ref.Named (in_unit u (u.path ++ x.name)); made = [] })))
pointer_by u name m base None = made (pointer_to u name m) (base.typing u (base_name name) mark.Hidden true ▷ pointer_base u name (is_none base.name) base.start)

abbrev pub pointer : Around → List ℕ → Mark → Written → Judged Typing
pointer u name m base = pointer_by u name m base (is_later u base.name)

-- PARAMETERS

-- the parameters of a heading or of a procedure type, as they are known inside
pub record Parameters : Type 0 where
  pub signature : Signature
  pub parameters : List TypedParameter
  pub made : List TypedType

pub record WrittenSection : Type 0 where
  pub is_var : Bool
  pub names : List Ident
  pub node : Written

pub record WrittenParameters : Type 0 where
  pub sections : List WrittenSection
  pub result : Option Qualident

-- what sections come to, and what is known behind them
pub record Sections : Type 0 where
  pub found : Judged Parameters
  pub known : List Known

abbrev pub mode_of : Bool → Mode
mode_of true = mode.Var
mode_of false = mode.Value

abbrev pub twice_if : Option Known → Pos → Notes
twice_if None at = no_notes
twice_if (Some k) at = broken_at rule.DeclaredTwice at

-- rule 1: a name is declared twice in a scope
abbrev pub new_name : Around → Ident → Notes
new_name u x = twice_if (found_in_scope u x.name) x.pos

abbrev pub parameter_as : Around → Mode → Ident → Option Typing → Entity
parameter_as u m x None = entity.Unsound
parameter_as u m x (Some t) = entity.Variable (variable.Parameter (passing_of (map_of (with_types u t.made)) m t.of) x.name) t.of

abbrev pub knows : Around → Ident → Entity → Around
knows u x e = record u { known = record { name = x.name; scope = u.scope; what = e } ∷ u.known }

pub record Named : Type 0 where
  pub notes : Notes
  pub around : Around

abbrev pub with_notes : Notes → Named → Named
with_notes n m = record { notes = joined n m.notes; around = m.around }

abbrev pub declare_all : Around → Mode → Option Typing → List Ident → Named
declare_all u m t [] = record { notes = no_notes; around = u }
declare_all u m t (x ∷ xs) = with_notes (new_name u x) (declare_all (knows u x (parameter_as u m x t)) m t xs)

abbrev pub parameters_of : Around → Mode → List Ident → Typing → Parameters
parameters_of u m xs t = record {
  signature = record { params = map (λ x. (m, t.of)) xs; result = None };
  parameters = map (λ x. record { name = x.name; passing = passing_of (map_of (with_types u t.made)) m t.of; of = t.of }) xs;
  made = t.made;
}

abbrev pub parameters_joined : Parameters → Parameters → Parameters
parameters_joined a b = record {
  signature = record { params = a.signature.params ++ b.signature.params; result = None };
  parameters = a.parameters ++ b.parameters;
  made = a.made ++ b.made;
}

-- nothing is made of a section whose names break a rule
abbrev pub behind_section : Judged Parameters → Notes → Sections → Sections
behind_section p n rest = record { found = both (behind_quiet n p) rest.found ▷ λ q. sound (parameters_joined q.0 q.1); known = rest.known }

abbrev pub with_made : Around → Option Typing → Around
with_made u None = u
with_made u (Some t) = with_types u t.made

abbrev pub section_named : Around → Mode → List Ident → Judged Typing → Named → (Around → Sections) → Sections
section_named u m xs t n rest = behind_section (made (parameters_of u m xs) t) n.notes (rest (with_made n.around t.node))

-- the parameters of a section are known behind it
abbrev pub section : Around → Mode → List Ident → Judged Typing → (Around → Sections) → Sections
section u m xs t rest = section_named u m xs t (declare_all u m t.node xs) rest

abbrev pub sections : Around → List ℕ → ℕ → List WrittenSection → Sections
sections u name i [] = record { found = sound (record { signature = record { params = []; result = None }; parameters = []; made = [] }); known = u.known }
sections u name i (s ∷ ss) = section u (mode_of s.is_var) s.names (s.node.typing u (section_name name i) mark.Hidden true) (λ v. sections v name (i + length s.names) ss)

-- rule 17: a result type is a record or array
abbrev pub result_fits : Around → Pos → TypeRef → Judged (Option TypeRef)
result_fits u at t = unless (is_structured (map_of u) t) rule.StructuredResult at (Some t)

abbrev pub result_of : Around → Option Qualident → Judged (Option TypeRef)
result_of u None = sound None
result_of u (Some q) = type_named u q ▷ result_fits u (first_of q)

abbrev pub with_result : Parameters → Option TypeRef → Parameters
with_result p r = record { signature = record { params = p.signature.params; result = r }; parameters = p.parameters; made = p.made }

abbrev pub behind_sections : Around → Option Qualident → Sections → Sections
behind_sections u r s = record { found = both s.found (result_of (record u { known = s.known }) r) ▷ λ p. sound (with_result p.0 p.1); known = s.known }

-- parameters in the innermost scope, under the name of a procedure or type
abbrev pub parameters_in : Around → List ℕ → WrittenParameters → Sections
parameters_in u name p = behind_sections u p.result (sections u name 1 p.sections)

abbrev pub inner : Around → Around
inner u = record u { scope = suc u.scope }

-- the parameters of a procedure type are a scope of their own
abbrev pub procedure_type : Around → List ℕ → Mark → WrittenParameters → Judged Typing
procedure_type u name m p = (parameters_in (inner u) name p).found ▷ λ q. sound (typed_as u name (desc.ProcType m q.signature) q.made)

-- NODES

abbrev pub named_node : Qualident → Written
named_node q = record { start = first_of q; name = Some q; open_array = false; typing = λ u name m open_ok. type_named u q ▷ named_typing u (first_of q) open_ok }

abbrev pub array_node : Pos → List Phrase → Written → Written
array_node at ls element = record { start = at; name = None; open_array = nothing ls; typing = λ u name m open_ok. array u name m at open_ok ls element }

abbrev pub record_node : Pos → Option Qualident → List WrittenFields → Written
record_node at base lists = record { start = at; name = None; open_array = false; typing = λ u name m open_ok. record_with u name m lists (base_if u base) }

abbrev pub pointer_node : Pos → Written → Written
pointer_node at base = record { start = at; name = None; open_array = false; typing = λ u name m open_ok. pointer u name m base }

abbrev pub procedure_node : Pos → WrittenParameters → Written
procedure_node at p = record { start = at; name = None; open_array = false; typing = λ u name m open_ok. procedure_type u name m p }

abbrev pub node_rule : TypeNode-F Written WrittenFields WrittenParameters WrittenSection → Written
node_rule (TypeNode-F.Named q) = named_node q
node_rule (TypeNode-F.Array at ls element) = array_node at (map phrase_of ls) element
node_rule (TypeNode-F.Record at base lists) = record_node at base lists
node_rule (TypeNode-F.Pointer at base) = pointer_node at base
node_rule (TypeNode-F.Procedure at p) = procedure_node at p

abbrev pub fields_rule : FieldList-F Written WrittenFields WrittenParameters WrittenSection → WrittenFields
fields_rule l = record { names = l.names; node = l.node }

abbrev pub section_rule : Section-F Written WrittenFields WrittenParameters WrittenSection → WrittenSection
section_rule s = record { is_var = s.is_var; names = s.names; node = s.node }

abbrev pub parameters_rule : FormalPars-F Written WrittenFields WrittenParameters WrittenSection → WrittenParameters
parameters_rule p = record { sections = p.sections; result = p.result_type }

abbrev pub written : TypeNode → Written
written = fold-TypeNode Written WrittenFields WrittenParameters WrittenSection node_rule fields_rule parameters_rule section_rule

abbrev pub written_parameters : FormalPars → WrittenParameters
written_parameters = fold-FormalPars Written WrittenFields WrittenParameters WrittenSection node_rule fields_rule parameters_rule section_rule
