-- The headings of procedures, and what forward declarations and bound procedures are to each other.
use Rattle.std.specs.Prelude.{◌==◌, ℕ, zero, suc, ◌+◌, Bool, true, false, not, ◌&&◌, ◌||◌, nat_lt, List, [], ◌∷◌, ◌++◌, length, map, Option, Some, None, is_some, is_none, codes, bytes_eq}
use Rattle.std.specs.List.{list_any, find, filter}
use Rattle.std.specs.Option.{option_map}
use Rattle.ob_format.specs.Names.{is_identifier}
use Rattle.ob_tree.specs.declared.pos.Pos.{Pos}
use Rattle.ob_tree.specs.declared.names.QName.{QName}
use Rattle.ob_tree.specs.declared.ident.Ident.{Ident}
use Rattle.ob_tree.specs.declared.ident.IdentDef.{IdentDef}
use Rattle.ob_tree.specs.declared.ident.Mark.{Mark}
use Rattle.ob_tree.specs.declared.ident.Mark.TheVariants as mark
use Rattle.ob_tree.specs.declared.decl.Heading.{Heading}
use Rattle.ob_tree.specs.declared.decl.Receiver.{Receiver as RawReceiver}
use Rattle.ob_types.specs.declared.types.Mode.TheVariants as mode
use Rattle.ob_types.specs.declared.types.TypeRef.{TypeRef}
use Rattle.ob_types.specs.declared.types.TypeRef.TheVariants as ref
use Rattle.ob_types.specs.declared.types.Signature.{Signature}
use Rattle.ob_types.specs.declared.desc.Desc.{Desc}
use Rattle.ob_types.specs.declared.desc.Desc.TheVariants as desc
use Rattle.ob_types.specs.declared.desc.RecordDesc.{RecordDesc}
use Rattle.ob_types.specs.declared.desc.Method.{Method}
use Rattle.ob_types.specs.declared.desc.Receiver.{Receiver}
use Rattle.ob_types.specs.declared.desc.Receiver.TheVariants as receiver
use Rattle.ob_types.specs.declared.typed.Passing.TheVariants as passing
use Rattle.ob_types.specs.declared.typed.Variable.{Variable}
use Rattle.ob_types.specs.declared.typed.Variable.TheVariants as variable
use Rattle.ob_types.specs.declared.typed.TypedType.{TypedType}
use Rattle.ob_types.specs.declared.typed.TypedParameter.{TypedParameter}
use Rattle.ob_types.specs.Tests.{same_at}
use Rattle.ob_rules.specs.declared.entity.Entity.{Entity}
use Rattle.ob_rules.specs.declared.entity.Known.{Known}
use Rattle.ob_rules.specs.declared.entity.Bound.{Bound}
use Rattle.ob_rules.specs.declared.entity.Entity.TheVariants as entity
use Rattle.ob_rules.specs.declared.broken.Broken.{Broken}
use Rattle.ob_rules.specs.declared.broken.Rule.TheVariants as rule
use Rattle.ob_rules.specs.Judged.{notes_if, Judged, Notes, sound, silent, breaks, also, wants, unless, both, made, noted, joined, no_notes, broken_at, ◌▷◌}
use Rattle.ob_rules.specs.Shapes.{Map, Member, AField, AMethod, member, pointed, is_held, base_record}
pub use Rattle.ob_rules.specs.Shapes.{received_record}
use Rattle.ob_rules.specs.Names.{Around, map_of, in_unit, type_named, found_in_scope}
use Rattle.ob_rules.specs.Operators.{signatures_match, and_so}
use Rattle.ob_rules.specs.Types.{Parameters, Sections, WrittenParameters, is_module_level, marked, written_parameters, parameters_in, inner, knows, with_types}

-- RECEIVERS

-- what a bound procedure is bound to: the type of its receiver, the record, and the kind
pub record BoundAs : Type 0 where
  pub of : TypeRef
  pub owner : QName
  pub receiver : Receiver

abbrev pub kind_of : Bool → Receiver
kind_of true = receiver.Record
kind_of false = receiver.Pointer

-- a record of the module at hand, declared at module level
abbrev pub is_own : Around → QName → Bool
is_own u q = bytes_eq q.module u.unit && not (list_any (λ c. c == 47) q.object)

abbrev pub if_own : Bool → QName → Option QName
if_own true q = Some q
if_own false q = None

abbrev pub own_record : Around → Option QName → Option QName
own_record u None = None
own_record u (Some q) = if_own (is_own u q && is_module_level u) q

-- a pointer's base that breaks a rule leaves nothing to say of the receiver
abbrev pub silent_base : Map → Bool → Option TypeRef → Bool
silent_base map false (Some t) = not (is_held map t)
silent_base map var t = false

-- rule 19: a receiver is neither a VAR parameter of a record type nor a value parameter of a pointer to one, of the module level of this module, or the bound procedure is not at module level
abbrev pub bound_to : Pos → Bool → TypeRef → Bool → Option QName → Judged BoundAs
bound_to at var t quiet (Some q) = sound (record { of = t; owner = q; receiver = kind_of var })
bound_to at var t true None = silent
bound_to at var t false None = breaks rule.UnfitReceiver at

abbrev pub owner_of : Around → RawReceiver → Judged BoundAs
owner_of u r =
    type_named u (record { qualifier = None; ident = r.owner })
    ▷ λ t. bound_to r.owner.pos r.is_var t (is_module_level u && silent_base (map_of u) r.is_var (pointed (map_of u) t)) (own_record u (received_record (map_of u) r.is_var t))

abbrev pub owner_if : Around → Option RawReceiver → Judged (Option BoundAs)
owner_if u None = sound None
owner_if u (Some r) = made (λ b. Some b) (owner_of u r)

abbrev pub self_of : Ident → Receiver → Variable
self_of x receiver.Record = variable.Parameter passing.VariableRecord x.name
self_of x receiver.Pointer = variable.Parameter passing.Scalar x.name

abbrev pub self_by : Ident → BoundAs → Receiver → TypedParameter
self_by x b receiver.Record = record { name = x.name; passing = passing.VariableRecord; of = b.of }
self_by x b receiver.Pointer = record { name = x.name; passing = passing.Scalar; of = b.of }

abbrev pub self_parameter : Ident → BoundAs → TypedParameter
self_parameter x b = self_by x b b.receiver

-- the receiver is known before the parameters; one that breaks a rule too
abbrev pub knows_receiver : Around → Option RawReceiver → Option (Option BoundAs) → Around
knows_receiver u None b = u
knows_receiver u (Some r) (Some (Some b)) = knows u r.ident (entity.Variable (self_of r.ident b.receiver) b.of)
knows_receiver u (Some r) b = knows u r.ident entity.Unsound

-- HEADINGS

pub record WrittenHeading : Type 0 where
  pub receiver : Option RawReceiver
  pub name : IdentDef
  pub parameters : WrittenParameters

abbrev pub heading_of : Heading → WrittenHeading
heading_of h = record { receiver = h.receiver; name = h.name; parameters = written_parameters h.parameters }

pub record Head : Type 0 where
  pub at : Pos
  pub name : List ℕ
  pub forward : Bool
  -- the receiver, where there is one, and where it keeps all rules what it is bound to
  pub is_bound : Bool
  pub bound : Option BoundAs
  pub mark : Mark
  -- its name in the module
  pub path : List ℕ
  pub self : Option Ident
  -- its parameters, where the heading keeps all rules
  pub parameters : Option Parameters
  -- what the heading says, and its place among the headings
  pub notes : Notes
  -- what is known in the procedure beside what is known behind its heading
  pub inside : List Known
  -- what is known behind its heading
  pub known : List Known

abbrev pub path_by : Option (Option BoundAs) → List ℕ → List ℕ
path_by (Some (Some b)) x = b.owner.object ++ codes "." ++ x
path_by b x = x

abbrev pub forward_name : Bool → List ℕ → List ℕ
forward_name true n = n ++ codes "^"
forward_name false n = n

abbrev pub bound_in : Option (Option BoundAs) → Option BoundAs
bound_in None = None
bound_in (Some b) = b

-- the names that were declared inside the heading: those of its scope
abbrev pub of_scope : ℕ → List Known → List Known
of_scope n ks = filter (λ k. nat_lt n k.scope) ks

abbrev pub mark_or_hidden : Option Mark → Mark
mark_or_hidden None = mark.Hidden
mark_or_hidden (Some m) = m

abbrev pub as_parameters : Option ((Mark × Option BoundAs) × Parameters) → Option Parameters
as_parameters None = None
as_parameters (Some p) = Some p.1

abbrev pub head_from : Around → WrittenHeading → Bool → Judged Mark → Judged (Option BoundAs) → Sections → Head
head_from u h forward m b s = record {
  at = h.name.ident.pos;
  name = h.name.ident.name;
  forward = forward;
  is_bound = is_some h.receiver;
  bound = bound_in b.node;
  mark = mark_or_hidden m.node;
  path = u.path ++ path_by b.node h.name.ident.name;
  self = option_map (λ r. r.ident) h.receiver;
  parameters = as_parameters (both (both m b) s.found).node;
  notes = (both (both m b) s.found).notes;
  inside = of_scope u.scope s.known;
  known = u.known;
}

abbrev pub are_there : Around → List TypedType → Bool
are_there u ts = list_any (λ t. is_some (find (λ k. bytes_eq k.name t.name) u.own)) ts

-- rule 1: the types that parameters make are there already, made by another declaration of the name
abbrev pub made_anew : Around → Pos → Parameters → Judged Parameters
made_anew u at p = unless (are_there u p.made) rule.DeclaredTwice at p

abbrev pub anew : Around → Pos → Sections → Sections
anew u at s = record { found = s.found ▷ made_anew u at; known = s.known }

abbrev pub heading_parameters : Around → WrittenHeading → Bool → Judged (Option BoundAs) → Sections
heading_parameters u h forward b = anew u h.name.ident.pos (parameters_in (knows_receiver (inner u) h.receiver b.node) (forward_name forward (u.path ++ path_by b.node h.name.ident.name)) h.parameters)

abbrev pub head_with : Around → WrittenHeading → Bool → Judged Mark → Judged (Option BoundAs) → Head
head_with u h forward m b = head_from u h forward m b (heading_parameters u h forward b)

abbrev pub head_of : Around → WrittenHeading → Bool → Head
head_of u h forward = head_with u h forward (marked u false h.name) (owner_if u h.receiver)

-- the name of the procedure, known from the end of its heading on

abbrev pub entity_as : Bool → QName → Signature → Entity
entity_as true q s = entity.Forward q s
entity_as false q s = entity.Procedure q s

abbrev pub head_entity : Around → Head → Option Parameters → Entity
head_entity u h None = entity.Unsound
head_entity u h (Some p) = entity_as h.forward (in_unit u h.path) p.signature

-- a forward declaration leaves its name for one procedure
abbrev pub leaves_room : Bool → Entity → Bool
leaves_room false (entity.Forward q s) = true
leaves_room forward e = false

abbrev pub is_twice : Bool → Option Known → Bool
is_twice forward None = false
is_twice forward (Some k) = not (leaves_room forward k.what)

abbrev pub key_is : Option BoundAs → QName → List ℕ → List ℕ → Bool
key_is None q x y = false
key_is (Some b) q x y = bytes_eq b.owner.object q.object && bytes_eq x y

abbrev pub same_key : QName → List ℕ → Head → Bool
same_key q x h = key_is h.bound q x h.name

-- the latest bound procedure of that name for that record
abbrev pub bound_before : List Head → QName → List ℕ → Option Head
bound_before hs q x = find (same_key q x) hs

abbrev pub head_twice : Bool → Option Head → Bool
head_twice forward None = false
head_twice forward (Some h) = forward || not h.forward

abbrev pub twice_by : Around → List Head → Head → Bool → Option BoundAs → Bool
twice_by u hs h false b = is_twice h.forward (found_in_scope u h.name)
twice_by u hs h true None = false
twice_by u hs h true (Some b) = head_twice h.forward (bound_before hs b.owner h.name)

-- rule 1: a procedure's name is declared twice. Before it stand the headings so far, the latest first
abbrev pub name_twice : Around → List Head → Head → Bool
name_twice u hs h = twice_by u hs h h.is_bound h.bound

abbrev pub declared_head : Bool → Head → Around → Head
declared_head true h u = record h { parameters = None; notes = joined h.notes (broken_at rule.DeclaredTwice h.at); known = u.known }
declared_head false h u = record h { known = u.known }

abbrev pub knows_procedure : Around → Head → Bool → Around
knows_procedure u h true = u
knows_procedure u h false = record u { known = record { name = h.name; scope = u.scope; what = head_entity u h h.parameters } ∷ u.known }

abbrev pub known_behind : Around → Bool → Head → Around
known_behind u true h = u
known_behind u false h = knows_procedure u h h.is_bound

-- the headings of a sequence, in order
pub record Heads : Type 0 where
  pub around : Around
  -- the latest first
  pub before : List Head

abbrev pub add_head : Heads → Head → Bool → Around → Heads
add_head hs h twice u = record { around = u; before = declared_head twice h u ∷ hs.before }

abbrev pub add_judged : Heads → Head → Bool → Heads
add_judged hs h twice = add_head hs h twice (known_behind hs.around twice h)

abbrev pub add_named : Heads → Head → Heads
add_named hs h = add_judged hs h (name_twice hs.around hs.before h)

abbrev pub types_of : Option Parameters → List TypedType
types_of None = []
types_of (Some p) = p.made

-- the types that a heading makes stay known
abbrev pub with_head_types : Heads → Head → Heads
with_head_types hs h = record { around = with_types hs.around (types_of h.parameters); before = hs.before }

abbrev pub add_typed : Heads → Head → Heads
add_typed hs h = add_named (with_head_types hs h) h

abbrev pub add_heading : Heads → WrittenHeading → Bool → Heads
add_heading hs h forward = add_typed hs (head_of hs.around h forward)

-- FORWARD DECLARATIONS

abbrev pub answers_by : Bool → Bool → Option BoundAs → Option BoundAs → List ℕ → List ℕ → Bool
answers_by false false a b x y = bytes_eq x y
answers_by true true (Some a) (Some b) x y = bytes_eq a.owner.object b.owner.object && bytes_eq x y
answers_by p q a b x y = false

abbrev pub answers : Head → Head → Bool
answers f h = not h.forward && answers_by f.is_bound h.is_bound f.bound h.bound f.name h.name

abbrev pub same_kind : Receiver → Receiver → Bool
same_kind receiver.Record receiver.Record = true
same_kind receiver.Pointer receiver.Pointer = true
same_kind a b = false

abbrev pub same_receiver : Map → Option BoundAs → Option BoundAs → Bool
same_receiver map None None = true
same_receiver map (Some a) (Some b) = same_kind a.receiver b.receiver && same_at map a.of b.of
same_receiver map a b = false

abbrev pub signature_if : Option Parameters → Option Signature
signature_if None = None
signature_if (Some p) = Some p.signature

abbrev pub both_sound : Option Parameters → Option Parameters → Bool
both_sound (Some a) (Some b) = true
both_sound a b = false

-- rule 18: a forward declaration without its procedure, or with other parameters; another receiver is another parameter
abbrev pub forward_broken : Map → Head → Option Head → Bool
forward_broken map f None = true
forward_broken map f (Some h) = both_sound f.parameters h.parameters && not (signatures_match map (signature_if f.parameters) (signature_if h.parameters) && same_receiver map f.bound h.bound)

abbrev pub forward_judged : Map → Head → Option Head → Notes
forward_judged map f h = notes_if (forward_broken map f h) rule.UnmatchedForward f.at

abbrev pub forward_if : Bool → Map → List Head → Head → Notes
forward_if true map all f = forward_judged map f (find (answers f) all)
forward_if false map all f = no_notes

abbrev pub forwards_judged : Map → List Head → List Head → Notes
forwards_judged map all [] = no_notes
forwards_judged map all (h ∷ hs) = joined (forward_if h.forward map all h) (forwards_judged map all hs)

-- BOUND PROCEDURES

-- those that count: each procedure, and a forward declaration that has none
abbrev pub counts_if : Bool → List Head → Head → Bool
counts_if true all h = is_none (find (answers h) all)
counts_if false all h = true

abbrev pub counts : List Head → Head → Bool
counts all h = h.is_bound && is_some h.bound && counts_if h.forward all h

-- all bound procedures, in the order of the text
abbrev pub counted : List Head → List Head
counted all = filter (counts all) all

abbrev pub bound_as : Head → BoundAs → Bound
bound_as h b = record { owner = b.owner; name = h.name; at = h.at; receiver = b.receiver; signature = signature_if h.parameters }

-- what is known of them: the types with what they introduce, the procedures, and the notes
pub record Binding : Type 0 where
  pub own : List TypedType
  pub bound : List Bound
  pub notes : Notes

abbrev pub no_signature : Signature
no_signature = record { params = []; result = None }

abbrev pub signature_or_none : Option Signature → Signature
signature_or_none None = no_signature
signature_or_none (Some s) = s

-- numbers come when the module is known
abbrev pub exported_mark : Mark → Mark
exported_mark mark.Full = mark.Full
exported_mark m = mark.Hidden

abbrev pub new_method : Head → BoundAs → Method
new_method h b = record { name = h.name; mark = exported_mark h.mark; number = 0; receiver = b.receiver; signature = signature_or_none (signature_if h.parameters) }

abbrev pub with_method : RecordDesc → Method → RecordDesc
with_method r m = record r { methods = r.methods ++ m ∷ [] }

abbrev pub change_desc : (RecordDesc → RecordDesc) → Desc → Desc
change_desc f (desc.Record r) = desc.Record (f r)
change_desc f d = d

abbrev pub changed_if : Bool → (RecordDesc → RecordDesc) → TypedType → TypedType
changed_if true f t = record { name = t.name; desc = change_desc f t.desc }
changed_if false f t = t

abbrev pub change_type : List ℕ → (RecordDesc → RecordDesc) → List TypedType → List TypedType
change_type x f [] = []
change_type x f (t ∷ ts) = changed_if (bytes_eq t.name x) f t ∷ change_type x f ts

abbrev pub introduce : Binding → Head → BoundAs → Binding
introduce s h b = record {
  own = change_type b.owner.object (λ r. with_method r (new_method h b)) s.own;
  bound = bound_as h b ∷ s.bound;
  notes = s.notes;
}

-- rule 1: a bound procedure has the name of a visible field; a forward declaration alone is only without its procedure
abbrev pub clashes : Binding → Head → BoundAs → Binding
clashes s h b = record { own = s.own; bound = record (bound_as h b) { signature = None } ∷ s.bound; notes = joined s.notes (notes_if (not h.forward) rule.DeclaredTwice h.at) }

abbrev pub redefined : Bool → Binding → Head → BoundAs → Binding
redefined true s h b = record { own = s.own; bound = record (bound_as h b) { signature = None } ∷ s.bound; notes = joined s.notes (broken_at rule.UnmatchedRedefinition h.at) }
redefined false s h b = record { own = s.own; bound = bound_as h b ∷ s.bound; notes = s.notes }

-- the parameters of both keep all rules, and do not match
abbrev pub differ : Map → Head → Method → Bool → Bool
differ map h m is_sound = is_sound && is_some h.parameters && not (signatures_match map (Some m.signature) (signature_if h.parameters))

-- rule 20: a redefinition whose receiver is of the other kind or whose parameters do not match. The parameters are silent where those of either break a rule
abbrev pub redefines : Map → Binding → Head → BoundAs → Method → Bool → Binding
redefines map s h b m is_sound = redefined (not (same_kind m.receiver b.receiver) || differ map h m is_sound) s h b

abbrev pub sound_in : Option Bound → Bool
sound_in None = true
sound_in (Some b) = is_some b.signature

abbrev pub introduced_sound : Around → List Bound → QName → List ℕ → Bool
introduced_sound u bs q x = not (bytes_eq q.module u.unit) || sound_in (find (λ b. bytes_eq b.owner.object q.object && bytes_eq b.name x) bs)

-- one that the record has already was told of at its heading
abbrev pub bind_method : Bool → Around → Map → Binding → Head → BoundAs → QName → Method → Binding
bind_method true u map s h b owner m = s
bind_method false u map s h b owner m = redefines map s h b m (introduced_sound u s.bound owner m.name)

abbrev pub bind_by : Around → Map → Binding → Head → BoundAs → Option Member → Binding
bind_by u map s h b None = introduce s h b
bind_by u map s h b (Some (AField owner f)) = clashes s h b
bind_by u map s h b (Some (AMethod owner m)) = bind_method (bytes_eq owner.object b.owner.object && bytes_eq owner.module u.unit) u map s h b owner m

abbrev pub bind_in : Around → Map → Binding → Head → BoundAs → Binding
bind_in u map s h b = bind_by u map s h b (member map b.owner h.name)

abbrev pub bind_one : Around → Binding → Head → Option BoundAs → Binding
bind_one u s h None = s
bind_one u s h (Some b) = bind_in u (map_of (record u { own = s.own })) s h b

-- those of one record, in the order of the text
abbrev pub bind_all : Around → Binding → List Head → Binding
bind_all u s [] = s
bind_all u s (h ∷ hs) = bind_all u (bind_one u s h h.bound) hs

abbrev pub owner_is : List ℕ → Option BoundAs → Bool
owner_is x None = false
owner_is x (Some b) = bytes_eq b.owner.object x

abbrev pub of_record : List ℕ → Head → Bool
of_record x h = owner_is x h.bound

-- a base stands before its extensions
abbrev pub bind_records : Around → List Head → Binding → List TypedType → Binding
bind_records u hs s [] = s
bind_records u hs s (t ∷ ts) = bind_records u hs (bind_all u s (filter (of_record t.name) hs)) ts

abbrev pub reversed : {A : Type 0} → List A → List A
reversed [] = []
reversed (x ∷ xs) = reversed xs ++ x ∷ []

abbrev pub bindings : Around → List Head → Binding
bindings u hs = bind_records u (counted hs) (record { own = u.own; bound = []; notes = no_notes }) (reversed u.own)

-- WHAT WAS LEFT FOR LATER

abbrev pub is_method : Option Member → Bool
is_method (Some (AMethod owner m)) = true
is_method m = false

abbrev pub member_of : Map → Option QName → List ℕ → Option Member
member_of map None x = None
member_of map (Some q) x = member map q x
