-- Declarations in their order, the procedures behind them, and modules.
use Rattle.std.specs.Prelude.{ℕ, zero, suc, ◌+◌, ◌==◌, Bool, true, false, not, ◌&&◌, ◌||◌, List, [], ◌∷◌, ◌++◌, length, drop, map, Option, Some, None, is_some, codes, bytes_eq, cond}
use Rattle.std.specs.List.{list_any, find, filter, filter_map, flat_map}
use Rattle.ob_types.specs.Tests.{target}
use Rattle.ob_tree.specs.declared.pos.Pos.{Pos}
use Rattle.ob_tree.specs.declared.names.QName.{QName}
use Rattle.ob_tree.specs.declared.ident.Ident.{Ident}
use Rattle.ob_tree.specs.declared.ident.IdentDef.{IdentDef}
use Rattle.ob_tree.specs.declared.ident.Import.{Import}
use Rattle.ob_tree.specs.declared.ident.Mark.{Mark}
use Rattle.ob_tree.specs.declared.ident.Mark.TheVariants as mark
use Rattle.ob_tree.specs.declared.ident.Qualident.{Qualident}
use Rattle.ob_tree.specs.declared.expr.Expr.{Expr}
use Rattle.ob_tree.specs.declared.stmt.Stmt.{Stmt}
use Rattle.ob_tree.specs.declared.type_node.TypeNode.{TypeNode}
use Rattle.ob_tree.specs.declared.decl.Heading.{Heading}
use Rattle.ob_tree.specs.declared.decl.Receiver.{Receiver as RawReceiver}
use Rattle.ob_tree.specs.declared.decl.Decl.{Decl}
use Rattle.ob_tree.specs.declared.decl.Decl.TheOpen.{Decl-F}
use Rattle.ob_tree.specs.declared.decl.Decl.TheFolds.{fold-Decl}
use Rattle.ob_tree.specs.declared.decl.Module.{Module}
use Rattle.ob_types.specs.declared.types.TypeRef.{TypeRef}
use Rattle.ob_types.specs.declared.types.TypeRef.TheVariants as ref
use Rattle.ob_types.specs.declared.value.Value.{Value}
use Rattle.ob_types.specs.declared.value.Value.TheVariants as literal
use Rattle.ob_types.specs.declared.desc.Desc.{Desc}
use Rattle.ob_types.specs.declared.desc.Desc.TheVariants as desc
use Rattle.ob_types.specs.declared.typed.Variable.{Variable}
use Rattle.ob_types.specs.declared.typed.Variable.TheVariants as variable
use Rattle.ob_types.specs.declared.typed.Binding.{Binding as BoundTo}
use Rattle.ob_types.specs.declared.typed.TypedConstant.{TypedConstant}
use Rattle.ob_types.specs.declared.typed.TypedType.{TypedType}
use Rattle.ob_types.specs.declared.typed.TypedVariable.{TypedVariable}
use Rattle.ob_types.specs.declared.typed.TypedParameter.{TypedParameter}
use Rattle.ob_types.specs.declared.typed.TypedProcedure.{TypedProcedure}
use Rattle.ob_types.specs.declared.typed.TypedStmt.{TypedStmt}
use Rattle.ob_types.specs.declared.typed.TypedModule.{TypedModule}
use Rattle.ob_rules.specs.declared.entity.Entity.{Entity}
use Rattle.ob_rules.specs.declared.entity.Known.{Known}
use Rattle.ob_rules.specs.declared.entity.Coming.{Coming}
use Rattle.ob_rules.specs.declared.entity.Received.{Received}
use Rattle.ob_rules.specs.declared.notes.Later.{Later}
use Rattle.ob_rules.specs.declared.entity.Entity.TheVariants as entity
use Rattle.ob_rules.specs.declared.notes.Later.TheVariants as later
use Rattle.ob_rules.specs.declared.broken.Broken.{Broken}
use Rattle.ob_rules.specs.declared.broken.Rule.TheVariants as rule
use Rattle.ob_rules.specs.Judged.{notes_if, Judged, Notes, sound, silent, breaks, also, wants, unless, both, made, noted, joined, no_notes, broken_at, least, ◌▷◌}
use Rattle.ob_rules.specs.Shapes.{Map, Member, AField, AMethod, member, is_structured, is_held, record_of}
use Rattle.ob_rules.specs.Names.{is_among, Around, map_of, in_unit, found_in_scope, predeclared, is_out}
use Rattle.ob_rules.specs.Expressions.{phrase_of, constant_value}
use Rattle.ob_rules.specs.Types.{Parameters, Typing, Written, written, is_module_level, marked, with_types, nothing}
use Rattle.ob_rules.specs.Phrases.{Phrase}
use Rattle.ob_rules.specs.Statements.{Judging, judging, in_turn}
use Rattle.ob_rules.specs.Headings.{WrittenHeading, heading_of, Head, BoundAs, Heads, Binding, head_of, add_heading, forwards_judged, bindings, reversed, mark_or_hidden, self_of, self_parameter, is_method, member_of}
use Rattle.ob_rules.specs.Depth.{is_deep}

-- what a part of a module adds to it
pub record Contents : Type 0 where
  pub constants : List TypedConstant
  pub types : List TypedType
  pub variables : List TypedVariable
  pub procedures : List TypedProcedure
  pub body : List TypedStmt
  -- the types of the module level, with the bound procedures that they introduce
  pub bound : List TypedType

abbrev pub no_contents : Contents
no_contents = record { constants = []; types = []; variables = []; procedures = []; body = []; bound = [] }

abbrev pub together : Contents → Contents → Contents
together a b = record { constants = a.constants ++ b.constants; types = a.types ++ b.types; variables = a.variables ++ b.variables; procedures = a.procedures ++ b.procedures; body = a.body ++ b.body; bound = a.bound ++ b.bound }

-- what is said of a part, and what it adds
pub record Part : Type 0 where
  pub notes : Notes
  pub contents : Contents

abbrev pub no_part : Part
no_part = record { notes = no_notes; contents = no_contents }

abbrev pub with_part : Part → Part → Part
with_part a b = record { notes = joined a.notes b.notes; contents = together a.contents b.contents }

-- a declaration: what it says, and what stands around what follows it
pub record Declared : Type 0 where
  pub part : Part
  pub around : Around

-- RULE 1: A NAME IS DECLARED TWICE IN A SCOPE

abbrev pub declare_if : Option Known → Around → Ident → Entity → Around
declare_if (Some k) u x e = u
declare_if None u x e = record u { known = record { name = x.name; scope = u.scope; what = e } ∷ u.known }

abbrev pub declare : Around → Ident → Entity → Around
declare u x e = declare_if (found_in_scope u x.name) u x e

abbrev pub twice : Around → Ident → Notes
twice u x = notes_if (is_some (found_in_scope u x.name)) rule.DeclaredTwice x.pos

-- CONSTANTS

-- rule 10: a declared constant is NIL
abbrev pub no_nil : Pos → Value → Judged Value
no_nil at literal.Nil = breaks rule.NotConstant at
no_nil at v = sound v

abbrev pub constant_entity : Option (Mark × Value) → Entity
constant_entity None = entity.Unsound
constant_entity (Some p) = entity.Constant p.1

abbrev pub constant_contents : Bool → Ident → Option (Mark × Value) → Contents
constant_contents true x (Some p) = record no_contents { constants = record { name = x.name; mark = p.0; value = p.1 } ∷ [] }
constant_contents level x p = no_contents

abbrev pub constant_with : Around → Ident → Judged (Mark × Value) → Declared
constant_with u x j = record {
  part = record { notes = joined j.notes (twice u x); contents = constant_contents (is_module_level u) x j.node };
  around = declare u x (constant_entity j.node);
}

abbrev pub constant_declared : IdentDef → Phrase → Around → Declared
constant_declared d x u = constant_with u d.ident (both (marked u false d) (constant_value u x ▷ no_nil x.start))

-- TYPES

abbrev pub equated : Around → List ℕ → Mark → Typing → Typing
equated u name m t = record { of = ref.Named (in_unit u name); made = record { name = name; desc = desc.Alias m t.of } ∷ t.made }

-- a type that is another one's name is equated to it
abbrev pub typing_as : Around → List ℕ → Mark → Written → Option Qualident → Judged Typing
typing_as u name m w (Some q) = made (equated u name m) (w.typing u name m false)
typing_as u name m w None = w.typing u name m false

abbrev pub type_entity : Option (Mark × Typing) → Entity
type_entity None = entity.Unsound
type_entity (Some p) = entity.TypeName p.1.of

abbrev pub types_made : Option (Mark × Typing) → List TypedType
types_made None = []
types_made (Some p) = p.1.made

-- a declaration counts where its name is new in the scope
abbrev pub if_new : {A : Type 0} → Option Known → Option A → Option A
if_new None m = m
if_new (Some k) m = None

abbrev pub later_if_new : Option Known → List Later → List Later
later_if_new None ls = ls
later_if_new (Some k) ls = []

-- the mark of a type whose name is new; where it is not, the declaration makes nothing
abbrev pub newly : Around → IdentDef → Judged Mark
newly u d = record { node = if_new (found_in_scope u d.ident.name) (marked u false d).node; notes = (marked u false d).notes }

-- and leaves nothing for later
abbrev pub of_new : Around → Ident → Notes → Notes
of_new u x n = record { broken = n.broken; objects = n.objects; types = n.types; lengths = n.lengths; later = later_if_new (found_in_scope u x.name) n.later }

abbrev pub type_with : Around → Ident → Judged (Mark × Typing) → Declared
type_with u x j = record {
  part = record { notes = joined (of_new u x j.notes) (twice u x); contents = record no_contents { types = types_made j.node } };
  around = declare (with_types u (types_made j.node)) x (type_entity j.node);
}

abbrev pub type_marked : Around → Ident → Written → Judged Mark → Declared
type_marked u x w m = type_with u x (both m (typing_as u (u.path ++ x.name) (mark_or_hidden m.node) w w.name))

abbrev pub type_declared : IdentDef → Written → Around → Declared
type_declared d n u = type_marked u d.ident n (newly u d)

-- VARIABLES

abbrev pub variable_of : Bool → Around → List ℕ → Variable
variable_of true u x = variable.Module u.unit x
variable_of false u x = variable.Local x

abbrev pub variable_entity : Around → Ident → Option (Mark × Typing) → Entity
variable_entity u x None = entity.Unsound
variable_entity u x (Some p) = entity.Variable (variable_of (is_module_level u) u x.name) p.1.of

abbrev pub variable_contents : Ident → Option (Mark × Typing) → Contents
variable_contents x None = no_contents
variable_contents x (Some p) = record no_contents { variables = record { name = x.name; mark = p.0; of = p.1.of } ∷ [] }

abbrev pub paired_typing : Option Mark → Option Typing → Option (Mark × Typing)
paired_typing (Some m) (Some t) = Some (m, t)
paired_typing m t = None

abbrev pub variable_with : Around → Ident → Notes → Option (Mark × Typing) → Declared
variable_with u x n p = record {
  part = record { notes = joined n (twice u x); contents = variable_contents x p };
  around = declare u x (variable_entity u x p);
}

abbrev pub variable_marked : Around → Ident → Judged Mark → Option Typing → Declared
variable_marked u x m t = variable_with u x m.notes (paired_typing m.node t)

abbrev pub behind_part : Part → Declared → Declared
behind_part a d = record { part = with_part a d.part; around = d.around }

abbrev pub then_declared : Declared → (Around → Declared) → Declared
then_declared a f = behind_part a.part (f a.around)

abbrev pub variables_with : List IdentDef → Option Typing → Around → Declared
variables_with [] t u = record { part = no_part; around = u }
variables_with (d ∷ ds) t u = then_declared (variable_marked u d.ident (marked u true d) t) (λ v. variables_with ds t v)

abbrev pub first_name : List IdentDef → List ℕ
first_name [] = []
first_name (d ∷ ds) = d.ident.name

abbrev pub made_in : Option Typing → List TypedType
made_in None = []
made_in (Some t) = t.made

abbrev pub variables_typed : List IdentDef → Around → Judged Typing → Declared
variables_typed ds u t = behind_part (record { notes = t.notes; contents = record no_contents { types = made_in t.node } }) (variables_with ds t.node (with_types u (made_in t.node)))

abbrev pub variables_declared : List IdentDef → Written → Around → Declared
variables_declared ds n u = variables_typed ds u (n.typing u (u.path ++ first_name ds ++ codes ":") mark.Hidden false)

-- A DECLARATION BEFORE IT IS JUDGED

pub record Written_procedure : Type 0 where
  pub heading : WrittenHeading
  pub forward : Bool
  pub closing : Option Ident
  pub inside : Around → Part

-- a constant, a type with its name, or variables; or a procedure
pub data Declaration : Type 0 where
  Plain : (type_name : Option (List ℕ)) → (declared : Around → Declared) → Declaration
  Procedure : (p : Written_procedure) → Declaration

abbrev pub plain_of : Declaration → Option (Around → Declared)
plain_of (Plain x f) = Some f
plain_of (Procedure p) = None

abbrev pub type_name_of : Declaration → Option (List ℕ)
type_name_of (Plain x f) = x
type_name_of (Procedure p) = None

abbrev pub procedure_of : Declaration → Option Written_procedure
procedure_of (Plain x f) = None
procedure_of (Procedure p) = Some p

abbrev pub in_order : List (Around → Declared) → Around → Declared
in_order [] u = record { part = no_part; around = u }
in_order (f ∷ fs) u = then_declared (f u) (λ v. in_order fs v)

abbrev pub headings_in_order : List Written_procedure → Heads → Heads
headings_in_order [] hs = hs
headings_in_order (p ∷ ps) hs = headings_in_order ps (add_heading hs p.heading p.forward)

-- WHAT WAS LEFT FOR LATER

-- the pointers that were judged or are being judged, those of them that break the rule, those whose bases were gone through, and where a ring begins that is gone through
pub record Pointers : Type 0 where
  pub judged : List (List ℕ)
  pub unsound : List (List ℕ)
  pub through : List (List ℕ)
  pub rings : List (List ℕ)
  pub notes : Notes

abbrev pub pointer_name : Later → List ℕ
pointer_name (later.PointsTo x at t inline) = x
pointer_name (later.Inherits x t) = []

-- the name of a type of this module; none of another module's
abbrev pub own_name : Around → TypeRef → List ℕ
own_name u (ref.Basic b) = []
own_name u (ref.Named q) = cond (bytes_eq q.«module» u.unit) q.object []

-- what the base stands for
abbrev pub base_name : Around → Later → List ℕ
base_name u (later.PointsTo x at t inline) = own_name u (target (map_of u) 201 t)
base_name u (later.Inherits x t) = []

abbrev pub is_inline : Later → Bool
is_inline (later.PointsTo x at t inline) = inline
is_inline (later.Inherits x t) = false

-- neither record nor array: a pointer that is written there, or a type that is held, as one whose declaration breaks a rule is not
abbrev pub is_wrong : Map → Later → Bool
is_wrong map (later.PointsTo x at t inline) = inline || (is_held map t && is_held map (target map 201 t) && not (is_structured map t))
is_wrong map (later.Inherits x t) = false

abbrev pub wrong_at : Later → Notes
wrong_at (later.PointsTo x at t inline) = broken_at rule.UnfitPointerBase at
wrong_at (later.Inherits x t) = no_notes

abbrev pub add_if : Bool → List ℕ → List (List ℕ) → List (List ℕ)
add_if true x xs = x ∷ xs
add_if false x xs = xs

abbrev pub notes_of_wrong : Bool → Later → Notes
notes_of_wrong true l = wrong_at l
notes_of_wrong false l = no_notes

-- the base is being judged: the text comes back to it
abbrev pub comes_back : List ℕ → Pointers → Bool
comes_back x s = is_among x s.judged && not (is_among x s.through)

-- where the base breaks a rule the pointer is not told of; nor in a ring, but where the text comes back
abbrev pub is_told : Bool → Bool → Bool → Pointers → Bool
is_told wrong unsound back s = wrong && not unsound && (back || length s.rings == 0)

abbrev pub ring_left : Bool → List (List ℕ) → List (List ℕ)
ring_left true xs = drop 1 xs
ring_left false xs = xs

-- a pointer breaks the rule too where its base does and is written in it
abbrev pub pointer_told : Later → List ℕ → Bool → Bool → Bool → Pointers → Pointers
pointer_told l base told unsound back s = record {
  judged = s.judged;
  unsound = add_if (told || (unsound && is_inline l)) (pointer_name l) s.unsound;
  through = pointer_name l ∷ s.through;
  rings = ring_left (is_among (pointer_name l) (add_if (told && back) base s.rings)) (add_if (told && back) base s.rings);
  notes = joined s.notes (notes_of_wrong told l);
}

abbrev pub pointer_judged : Around → Later → Pointers → Pointers
pointer_judged u l s = pointer_told l (base_name u l) (is_told (is_wrong (map_of u) l) (is_among (base_name u l) s.unsound) (comes_back (base_name u l) s) s) (is_among (base_name u l) s.unsound) (comes_back (base_name u l) s) s

abbrev pub judge_base : Option Later → Pointers → (Later → Pointers → Pointers) → Pointers
judge_base None s f = s
judge_base (Some l) s f = f l s

abbrev pub judge_unless : Bool → Pointers → (Pointers → Pointers) → List ℕ → Pointers
judge_unless true s f x = s
judge_unless false s f x = f (record s { judged = x ∷ s.judged })

-- rule 15 of the bases that were left: each behind the pointer that its base is. In a ring it stands where the text comes back
abbrev pub judge_pointer : Around → List Later → ℕ → Later → Pointers → Pointers
judge_pointer u ls zero l s = s
judge_pointer u ls (suc n) l s = judge_unless (is_among (pointer_name l) s.judged) s (λ t. pointer_judged u l (judge_base (find (λ k. bytes_eq (pointer_name k) (base_name u l)) ls) t (λ k v. judge_pointer u ls n k v))) (pointer_name l)

abbrev pub judge_pointers : Around → List Later → List Later → Pointers → Pointers
judge_pointers u all [] s = s
judge_pointers u all (l ∷ ls) s = judge_pointers u all ls (judge_pointer u all (suc (length all)) l s)

abbrev pub is_pointer_left : Later → Bool
is_pointer_left (later.PointsTo x at t inline) = true
is_pointer_left (later.Inherits x t) = false

abbrev pub pointers_judged : Around → List Later → Notes
pointers_judged u ls = (judge_pointers u (filter is_pointer_left ls) (filter is_pointer_left ls) (record { judged = []; unsound = []; through = []; rings = []; notes = no_notes })).notes

-- rule 1 of a field with the name of a bound procedure of a base
abbrev pub field_judged : Map → Later → Notes
field_judged map (later.PointsTo x at t inline) = no_notes
field_judged map (later.Inherits x t) = notes_if (is_method (member_of map (record_of map t) x.name)) rule.DeclaredTwice x.pos

abbrev pub all_judged : (Later → Notes) → List Later → Notes
all_judged f [] = no_notes
all_judged f (l ∷ ls) = joined (f l) (all_judged f ls)

abbrev pub nothing_later : Notes → Notes
nothing_later n = record { broken = n.broken; objects = n.objects; types = n.types; lengths = n.lengths; later = [] }

-- PROCEDURES

-- rule 4: the name after END is not the procedure's
abbrev pub closing_judged : List ℕ → Option Ident → Notes
closing_judged x None = no_notes
closing_judged x (Some c) = notes_if (not (bytes_eq c.name x)) rule.WrongClosingName c.pos

abbrev pub received_by : Option Ident → Option BoundAs → Option Received
received_by (Some x) (Some b) = Some (record { variable = self_of x b.receiver; owner = b.owner })
received_by x b = None

abbrev pub received : Head → Option Received
received h = received_by h.self h.bound

abbrev pub result_in : Option Parameters → Option TypeRef
result_in None = None
result_in (Some p) = p.signature.result

-- what stands around the declarations and statements of a procedure
abbrev pub around_body : Around → Head → Around
around_body u h = record u {
  known = h.inside ++ h.known;
  scope = suc u.scope;
  level = suc u.scope;
  path = h.path ++ codes "/";
  later_types = [];
  guards = [];
  receiver = received h;
  result = result_in h.parameters;
  in_loop = false;
}

abbrev pub self_parameters : Head → Option Ident → Option BoundAs → List TypedParameter
self_parameters h (Some x) (Some b) = self_parameter x b ∷ []
self_parameters h x b = []

abbrev pub binding_of : QName → BoundAs → Option Member → Option BoundTo
binding_of q b (Some (AMethod introduced m)) = Some (record { owner = b.owner; receiver = b.receiver; family = record { owner = introduced; name = m.name } })
binding_of q b m = None

abbrev pub bound_to : Map → Head → Option BoundAs → Option BoundTo
bound_to map h None = None
bound_to map h (Some b) = binding_of b.owner b (member map b.owner h.name)

abbrev pub typed_procedure : Map → Head → Option Parameters → Contents → List TypedProcedure
typed_procedure map h None c = []
typed_procedure map h (Some p) c = record {
  name = h.path;
  mark = h.mark;
  «pos» = h.at;
  binding = bound_to map h h.bound;
  parameters = self_parameters h h.self h.bound ++ p.parameters;
  result = p.signature.result;
  locals = c.variables;
  body = c.body;
} ∷ []

abbrev pub types_of_head : Option Parameters → List TypedType
types_of_head None = []
types_of_head (Some p) = p.made

-- a procedure, and those inside it behind it
abbrev pub procedure_contents : Map → Head → Contents → Contents
procedure_contents map h c = record {
  constants = [];
  types = types_of_head h.parameters ++ c.types;
  variables = [];
  procedures = typed_procedure map h h.parameters c ++ c.procedures;
  body = [];
  bound = [];
}

abbrev pub procedure_part : Around → Head → Option Ident → Part → Part
procedure_part u h closing p = record { notes = joined h.notes (joined (closing_judged h.name closing) p.notes); contents = procedure_contents (map_of u) h p.contents }

abbrev pub forward_part : Head → Part
forward_part h = record { notes = h.notes; contents = record no_contents { types = types_of_head h.parameters } }

abbrev pub procedure_judged : Around → Written_procedure → Head → Bool → Part
procedure_judged u p h true = forward_part h
procedure_judged u p h false = procedure_part u h p.closing (p.inside (around_body u h))

abbrev pub procedures_judged : Around → List Written_procedure → List Head → Part
procedures_judged u (p ∷ ps) (h ∷ hs) = with_part (procedure_judged u p h p.forward) (procedures_judged u ps hs)
procedures_judged u ps hs = no_part

-- SEQUENCES OF DECLARATIONS WITH THEIR STATEMENTS

abbrev pub stmts_in : Option (List TypedStmt) → List TypedStmt
stmts_in None = []
stmts_in (Some ss) = ss

abbrev pub body_part : Judged (List TypedStmt) → Part
body_part j = record { notes = j.notes; contents = record no_contents { body = stmts_in j.node } }

abbrev pub only_notes : Notes → Part
only_notes n = record { notes = n; contents = no_contents }

-- the procedures and statements, where what is bound is known
abbrev pub block_inside : Around → List Written_procedure → List Head → List Judging → Part
block_inside u ps hs body = with_part (procedures_judged u ps hs) (body_part (in_turn body u))

abbrev pub with_bound : Around → Binding → Around
with_bound u b = record u { own = b.own; bound = b.bound; coming = [] }

abbrev pub block_bound : Around → Around → List Later → List Written_procedure → List Head → List Judging → Binding → Part
block_bound outer u later ps hs body b =
    with_part (only_notes (joined b.notes (joined (all_judged (field_judged (map_of (with_bound u b))) later) (forwards_judged (map_of u) hs hs))))
    (with_part (record { notes = no_notes; contents = record no_contents { bound = b.own } }) (block_inside (with_bound u b) ps hs body))

-- bound procedures stand at module level
abbrev pub binding_at : Bool → Around → List Head → Binding
binding_at true u hs = bindings u hs
binding_at false u hs = record { own = u.own; bound = u.bound; notes = no_notes }

abbrev pub heads_later : List Head → List Later
heads_later [] = []
heads_later (h ∷ hs) = h.notes.later ++ heads_later hs

abbrev pub block_headed : Around → List Later → List Written_procedure → List Judging → Heads → Part
block_headed outer later ps body hs = block_bound outer hs.around (later ++ heads_later hs.before) ps (reversed hs.before) body (binding_at (is_module_level outer) hs.around (reversed hs.before))

-- the pointers that declarations and headings have left are judged where all headings are known
abbrev pub block_behind : Around → List Written_procedure → List Judging → Declared → Heads → Part
block_behind outer ps body d hs =
    with_part (record { notes = joined (nothing_later d.part.notes) (pointers_judged hs.around (d.part.notes.later ++ heads_later hs.before)); contents = d.part.contents })
    (block_headed outer d.part.notes.later ps body hs)

abbrev pub block_declared : Around → List Written_procedure → List Judging → Declared → Part
block_declared outer ps body d = block_behind outer ps body d (headings_in_order ps (record { around = d.around; before = [] }))

abbrev pub block : List Declaration → List Judging → Around → Part
block ds body u = block_declared u (filter_map procedure_of ds) body (in_order (filter_map plain_of ds) (record u { later_types = filter_map type_name_of ds }))

abbrev pub constant_declaration : IdentDef → Phrase → Declaration
constant_declaration d x = Plain None (constant_declared d x)

abbrev pub type_declaration : IdentDef → Written → Declaration
type_declaration d n = Plain (Some d.ident.name) (type_declared d n)

abbrev pub variables_declaration : List IdentDef → Written → Declaration
variables_declaration ds n = Plain None (variables_declared ds n)

abbrev pub procedure_declaration : WrittenHeading → List Declaration → List Judging → Ident → Declaration
procedure_declaration h ds body closing = Procedure (record { heading = h; forward = false; closing = Some closing; inside = block ds body })

abbrev pub forward_declaration : WrittenHeading → Declaration
forward_declaration h = Procedure (record { heading = h; forward = true; closing = None; inside = λ u. no_part })

abbrev pub decl_rule : Decl-F Declaration → Declaration
decl_rule (Decl-F.Constant d x) = constant_declaration d (phrase_of x)
decl_rule (Decl-F.NamedType d n) = type_declaration d (written n)
decl_rule (Decl-F.Variables ds n) = variables_declaration ds (written n)
decl_rule (Decl-F.Procedure h ds body closing) = procedure_declaration (heading_of h) ds (map judging body) closing
decl_rule (Decl-F.Forward h) = forward_declaration (heading_of h)

abbrev pub declaration : Decl → Declaration
declaration = fold-Decl Declaration decl_rule

-- MODULES

-- rule 5: a module is named Out or SYSTEM, or SYSTEM is imported
abbrev pub is_system : List ℕ → Bool
is_system x = bytes_eq x (codes "SYSTEM")

abbrev pub target_in : Option Ident → Ident → Ident
target_in None x = x
target_in (Some t) x = t

abbrev pub target_of : Import → Ident
target_of i = target_in i.target i.ident

abbrev pub import_entity : Bool → Ident → Entity
import_entity true t = entity.Unsound
import_entity false t = entity.Module t.name

abbrev pub import_declared : Import → Ident → Around → Declared
import_declared i t u = record {
  part = only_notes (joined (notes_if (is_system t.name) rule.ReservedModule t.pos) (twice u i.ident));
  around = declare u i.ident (import_entity (is_system t.name) t);
}

abbrev pub imports_declared : List Import → Around → Declared
imports_declared is u = in_order (map (λ i. import_declared i (target_of i)) is) u

abbrev pub import_if : Bool → List ℕ → List (List ℕ) → List (List ℕ)
import_if true x xs = xs
import_if false x xs = x ∷ xs

-- the imported modules, each once, without Out
abbrev pub imported : List (List ℕ) → List Import → List (List ℕ)
imported before [] = []
imported before (i ∷ is) = import_if (is_out (target_of i).name || is_among (target_of i).name before) (target_of i).name (imported ((target_of i).name ∷ before) is)

abbrev pub coming_of : Ident → Option RawReceiver → Option Coming
coming_of x None = None
coming_of x (Some r) = Some (record { owner = r.owner.name; is_var = r.is_var; name = x.name })

abbrev pub coming_in : Written_procedure → Option Coming
coming_in p = coming_of p.heading.name.ident p.heading.receiver

-- what stands around a module: what its imports show
abbrev pub around_module : (QName → Option Desc) → List ℕ → List Declaration → Around
around_module shown unit ds = record {
  unit = unit;
  shown = shown;
  own = [];
  known = predeclared;
  scope = 1;
  level = 1;
  path = [];
  later_types = [];
  coming = filter_map coming_in (filter_map procedure_of ds);
  bound = [];
  guards = [];
  receiver = None;
  result = None;
  in_loop = false;
}

abbrev pub name_judged : Ident → Ident → Notes
name_judged name closing = joined (notes_if (is_out name.name || is_system name.name) rule.ReservedModule name.pos) (closing_judged name.name (Some closing))

abbrev pub module_from : List Declaration → List Judging → Declared → Part
module_from ds body d = with_part d.part (block ds body d.around)

abbrev pub module_of : (QName → Option Desc) → Ident → List Import → List Declaration → List Judging → Ident → Part
module_of shown name imports ds body closing = with_part (only_notes (name_judged name closing)) (module_from ds body (imports_declared imports (around_module shown name.name ds)))

-- all that is said of a module, and all that it has
abbrev pub module_part : (QName → Option Desc) → Module → Part
module_part shown m = module_of shown m.name m.imports (map declaration m.decls) (map judging m.body) m.closing

-- the broken rule of least position, then of least number
abbrev pub first_break : (QName → Option Desc) → Module → Option Broken
first_break shown m = least (module_part shown m).notes.broken

-- THE CHECKED MODULE

-- a type with the bound procedures that it introduces
abbrev pub described : Option TypedType → TypedType → TypedType
described None t = t
described (Some b) t = record { name = t.name; desc = b.desc }

abbrev pub all_described : List TypedType → List TypedType → List TypedType
all_described bound ts = map (λ t. described (find (λ b. bytes_eq b.name t.name) bound) t) ts

abbrev pub typed_module : (QName → Option Desc) → Ident → List Import → List Declaration → Part → TypedModule
typed_module shown name imports ds p = record {
  name = name.name;
  imports = imported [] imports;
  constants = p.contents.constants;
  types = all_described p.contents.bound p.contents.types;
  variables = p.contents.variables;
  procedures = p.contents.procedures;
  body = p.contents.body;
  mentioned = record { objects = p.notes.objects; types = p.notes.types; lengths = p.notes.lengths };
}

abbrev pub if_unbroken : {A : Type 0} → List Broken → A → Option A
if_unbroken [] x = Some x
if_unbroken (b ∷ bs) x = None

abbrev pub checked_part : (QName → Option Desc) → Ident → List Import → List Declaration → Part → Option TypedModule
checked_part shown name imports ds p = if_unbroken p.notes.broken (typed_module shown name imports ds p)

abbrev pub checked_of : (QName → Option Desc) → Ident → List Import → List Declaration → List Judging → Ident → Option TypedModule
checked_of shown name imports ds body closing = checked_part shown name imports ds (module_of shown name imports ds body closing)

-- the checked module, exactly where no rule is broken
abbrev pub checked : (QName → Option Desc) → Module → Option TypedModule
checked shown m = checked_of shown m.name m.imports (map declaration m.decls) (map judging m.body) m.closing

-- the limit `depth` of the module's types
abbrev pub deep_of : (QName → Option Desc) → Ident → List Declaration → Part → Bool
deep_of shown name ds p = is_deep (record (around_module shown name.name ds) { own = all_described p.contents.bound p.contents.types })
