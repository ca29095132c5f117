-- Designators: a name, and selectors behind it.
use Rattle.std.specs.Prelude.{ℕ, Bool, true, false, not, ◌&&◌, ◌||◌, nat_eq, List, [], ◌∷◌, Option, Some, None, is_some, bytes_eq}
use Rattle.std.specs.List.{list_any}
use Rattle.ob_tree.specs.declared.pos.Pos.{Pos}
use Rattle.ob_tree.specs.declared.names.QName.{QName}
use Rattle.ob_tree.specs.declared.ident.Ident.{Ident}
use Rattle.ob_tree.specs.declared.ident.Mark.{Mark}
use Rattle.ob_tree.specs.declared.ident.Mark.TheVariants as mark
use Rattle.ob_tree.specs.declared.ident.Qualident.{Qualident}
use Rattle.ob_types.specs.declared.types.TypeRef.{TypeRef}
use Rattle.ob_types.specs.declared.types.TypeRef.TheVariants as ref
use Rattle.ob_types.specs.declared.types.Signature.{Signature}
use Rattle.ob_types.specs.declared.desc.Desc.{Desc}
use Rattle.ob_types.specs.declared.desc.Desc.TheVariants as desc
use Rattle.ob_types.specs.declared.desc.Field.{Field}
use Rattle.ob_types.specs.declared.desc.Method.{Method}
use Rattle.ob_types.specs.declared.desc.Receiver.{Receiver}
use Rattle.ob_types.specs.declared.desc.Receiver.TheVariants as receiver
use Rattle.ob_types.specs.declared.typed.Passing.{Passing}
use Rattle.ob_types.specs.declared.typed.Passing.TheVariants as passing
use Rattle.ob_types.specs.declared.typed.Variable.{Variable}
use Rattle.ob_types.specs.declared.typed.Variable.TheVariants as variable
use Rattle.ob_types.specs.declared.typed.Guarded.{Guarded}
use Rattle.ob_types.specs.declared.typed.Guarded.TheVariants as guarded
use Rattle.ob_types.specs.declared.typed.OutProcedure.{OutProcedure}
use Rattle.ob_types.specs.declared.typed.Designator.TheVariants as d
use Rattle.ob_rules.specs.declared.entity.Entity.{Entity}
use Rattle.ob_rules.specs.declared.entity.Known.{Known}
use Rattle.ob_rules.specs.declared.entity.Coming.{Coming}
use Rattle.ob_rules.specs.declared.entity.Received.{Received}
use Rattle.ob_rules.specs.declared.meant.Chosen.{Chosen}
use Rattle.ob_rules.specs.declared.meant.Meant.{Meant}
use Rattle.ob_rules.specs.declared.meant.Where.{Where}
use Rattle.ob_rules.specs.declared.entity.Entity.TheVariants as entity
use Rattle.ob_rules.specs.declared.meant.Meant.TheVariants as means
use Rattle.ob_rules.specs.declared.meant.Where.TheVariants.{AsStatement, Elsewhere}
use Rattle.ob_rules.specs.declared.broken.Predeclared.{Predeclared}
use Rattle.ob_rules.specs.declared.broken.Predeclared.TheVariants as pre
use Rattle.ob_rules.specs.Judged.{Judged, Notes, sound, silent, breaks, also, wants, found_or, noted, joined, no_notes, made, ◌▷◌}
use Rattle.ob_rules.specs.Shapes.{Map, Member, AField, AMethod, member, pointed, pointed_record, received_record, record_of, array_of, is_array, is_held, is_record, is_pointer, signature_at, extends_record, base_record}
use Rattle.ob_rules.specs.Names.{Around, map_of, named, is_out, out_procedure, exported, type_named, is_type_name, find_name}
use Rattle.ob_rules.specs.declared.values.Place.{Place}
use Rattle.ob_rules.specs.declared.values.Valued.{Valued}
use Rattle.ob_rules.specs.declared.values.Valued.TheVariants as valued
use Rattle.ob_rules.specs.declared.broken.Rule.TheVariants as rule
use Rattle.ob_rules.specs.Values.{is_integer, tree, type, constant_in, place_in}
use Rattle.ob_rules.specs.Phrases.{dereferenced, Phrase, Behind, Dot, Index, Up, Round}
use Rattle.ob_rules.specs.Calls.{call_procedure, call_variable, call_out, call_bound}
use Rattle.ob_rules.specs.Predeclared.{call_predeclared, values}

-- VARIABLES

abbrev pub is_var_record : Variable → Bool
is_var_record (variable.Parameter passing.VariableRecord x) = true
is_var_record v = false

abbrev pub variable_at : Variable → TypeRef → Bool → Place
variable_at v t read_only = record { designator = record { inner = d.Variable v t }; of = t; root = v; selected = false; read_only = read_only; var_record = is_var_record v; guarded = false }

abbrev pub same_variable : Variable → Variable → Bool
same_variable (variable.Module m x) (variable.Module n y) = bytes_eq m n && bytes_eq x y
same_variable (variable.Local x) (variable.Local y) = bytes_eq x y
same_variable (variable.Parameter p x) (variable.Parameter q y) = bytes_eq x y
same_variable v w = false

-- GUARDS

-- the record that a guard of that type tests for: on a pointer, that of a pointer type; on a VAR record parameter, a record type; and an extension of the static one
abbrev pub if_so : {A : Type 0} → Bool → A → Option A
if_so true x = Some x
if_so false x = None

abbrev pub if_extends : Map → Guarded → Option QName → Option QName → Option (Guarded × QName)
if_extends map g (Some a) (Some b) = if_so (extends_record map b a) (g, b)
if_extends map g a b = None

abbrev pub on_record : Bool → Map → Place → TypeRef → Option (Guarded × QName)
on_record true map p t = if_extends map guarded.Record (record_of map p.of) (record_of map t)
on_record false map p t = None

abbrev pub guard_kind : Map → Place → TypeRef → Option QName → Option (Guarded × QName)
guard_kind map p t (Some a) = if_extends map guarded.Pointer (Some a) (pointed_record map t)
guard_kind map p t None = on_record p.var_record map p t

abbrev pub guard_of : Map → Place → TypeRef → Option (Guarded × QName)
guard_of map p t = guard_kind map p t (pointed_record map p.of)

abbrev pub is_pointer_guard : Guarded → Bool
is_pointer_guard guarded.Pointer = true
is_pointer_guard guarded.Record = false

abbrev pub guarded_by : Place → Guarded × QName → TypeRef → Pos → Bool → Place
guarded_by p g t at written = record { designator = record { inner = d.Guard p.designator.inner g.0 g.1 at t }; of = t; root = p.root; selected = p.selected || written; read_only = p.read_only; var_record = p.var_record; guarded = is_pointer_guard g.0 }

-- the guards that WITH adds to a name, the outermost innermost; one that breaks a rule leaves the name unknown
abbrev pub with_guard : Map → Pos → Place → Option (Guarded × QName) → TypeRef → Judged Place
with_guard map at p None t = silent
with_guard map at p (Some g) t = sound (guarded_by p g t at false)

abbrev pub guard_if : Map → Pos → Place → Option TypeRef → Judged Place
guard_if map at p None = silent
guard_if map at p (Some t) = with_guard map at p (guard_of map p t) t

abbrev pub guard_same : Bool → Map → Pos → Judged Place → Option TypeRef → Judged Place
guard_same true map at p t = p ▷ λ q. guard_if map at q t
guard_same false map at p t = p

abbrev pub with_guards : Map → Pos → Variable → List (Variable × Option TypeRef) → Judged Place → Judged Place
with_guards map at v [] p = p
with_guards map at v (g ∷ gs) p = with_guards map at v gs (guard_same (same_variable v g.0) map at p g.1)

abbrev pub variable_named : Around → Pos → Variable → TypeRef → Bool → Judged Place
variable_named u at v t read_only = with_guards (map_of u) at v u.guards (sound (variable_at v t read_only))

-- rule 23: a guard whose type is no extension of the static type, or on what is neither pointer nor VAR record parameter
abbrev pub guard : Map → Pos → Place → TypeRef → Judged Meant
guard map at p t = found_or rule.UnfitTypeTest at (guard_of map p t) ▷ λ g. sound (means.Place (guarded_by p g t at true))

-- DEREFERENCES, INDICES AND FIELDS

abbrev pub if_so_held : Bool → Place → Judged Place
if_so_held true p = sound p
if_so_held false p = silent

-- a type whose declaration breaks a rule, or that is not declared yet, leaves nothing to say
abbrev pub if_held : Map → TypeRef → Place → Judged Place
if_held map t p = if_so_held (is_held map t) p

-- what a pointer points to, if it is one, is there
abbrev pub is_there : Map → Option TypeRef → Bool
is_there map None = true
is_there map (Some t) = is_held map t

-- rule 22: a selector does not fit the type
abbrev pub dereference_of : Map → Pos → Place → Option TypeRef → Judged Place
dereference_of map at p None = breaks rule.UnfitSelector at
dereference_of map at p (Some t) = if_held map t (dereferenced p at t true)

abbrev pub dereference : Map → Pos → Place → Judged Place
dereference map at p = dereference_of map at p (pointed map p.of)

abbrev pub through_if : Bool → Place → Place → Place
through_if true p q = q
through_if false p q = p

-- through a pointer without `^`, where it points to what is wanted
abbrev pub implicitly : Map → (TypeRef → Bool) → Pos → Place → Option TypeRef → Judged Place
implicitly map wanted at p None = sound p
implicitly map wanted at p (Some t) = if_held map t (through_if (wanted t) p (dereferenced p at t false))

abbrev pub indexed : Place → Pos → Valued → Option ℕ × TypeRef → Place
indexed p at i a = record { designator = record { inner = d.Index p.designator.inner a.0 (tree i) at a.1 }; of = a.1; root = p.root; selected = true; read_only = p.read_only; var_record = false; guarded = false }

-- rule 22 is asked of the variable, and, where that is an array, of the index
abbrev pub index_into : Map → Pos → Place → Judged Valued → Option (Option ℕ × TypeRef) → Judged Place
index_into map at p i None = noted i.notes (breaks rule.UnfitSelector at)
index_into map at p i (Some a) = i ▷ λ x. wants (is_integer map x) rule.UnfitSelector at (indexed p at x a)

abbrev pub index_if : Option Place → Judged Valued → (Place → Judged Place) → Judged Place
index_if None i f = noted i.notes silent
index_if (Some p) i f = f p

abbrev pub index : Map → Pos → Place → Judged Valued → Judged Place
index map at p i = index_if (implicitly map (is_array map) at p (pointed map p.of)).node i (λ q. index_into map at q i (array_of map q.of))

abbrev pub is_read_only : Mark → Bool
is_read_only mark.ReadOnly = true
is_read_only m = false

abbrev pub field_of : Around → Place → QName → Field → Place
field_of u p owner f = record { designator = record { inner = d.Field p.designator.inner owner f.name f.of }; of = f.of; root = p.root; selected = true; read_only = p.read_only || (is_read_only f.mark && not (bytes_eq owner.module u.unit)); var_record = false; guarded = false }

-- BOUND PROCEDURES

abbrev pub chosen : Pos → Place → Option TypeRef → QName → QName → Method → Chosen
chosen start p pointed owner introduced m = record { receiver = p; start = start; pointed = pointed; owner = owner; introduced = introduced; method = m; base = None }

abbrev pub with_receiver : Receiver → Bool → Pos → Chosen → Judged Meant
with_receiver receiver.Pointer false at c = breaks rule.UnfitSelector at
with_receiver r pointer at c = sound (means.Bound c)

-- rule 22: a bound procedure with a pointer receiver, selected of a record
abbrev pub select_bound : Pos → Bool → Chosen → Judged Meant
select_bound at pointer c = with_receiver c.method.receiver pointer at c

abbrev pub same_object : QName → QName → Bool
same_object p q = bytes_eq p.module q.module && bytes_eq p.object q.object

-- the record is of this module, and q is it or an extension of it
abbrev pub is_of : Around → QName → Option QName → Bool
is_of u q None = false
is_of u q (Some r) = bytes_eq r.module u.unit && extends_record (map_of u) q r

abbrev pub comes_of : Around → QName → Bool → Entity → Bool
comes_of u q var (entity.TypeName t) = is_of u q (received_record (map_of u) var t)
comes_of u q var e = false

-- the receiver is one of the record or of a base of it, or its type is not declared yet
abbrev pub comes_for : Around → QName → Option Known → Coming → Bool
comes_for u q None c = list_any (λ x. bytes_eq x c.owner) u.later_types
comes_for u q (Some k) c = comes_of u q c.is_var k.what

abbrev pub comes_as : Around → QName → List ℕ → Coming → Bool
comes_as u q x c = bytes_eq c.name x && comes_for u q (find_name u.known c.owner) c

-- a bound procedure of that name that the text has further on, for the record or a base of it
abbrev pub comes : Around → QName → List ℕ → Bool
comes u q x = list_any (λ c. comes_as u q x c) u.coming

abbrev pub nothing_behind : List Behind → Bool
nothing_behind [] = true
nothing_behind (b ∷ bs) = false

-- rule 39: a bound procedure, which is known in the whole module, is used as a value before its heading
abbrev pub not_there : Bool → Bool → Pos → Ident → Judged Meant
not_there true true start x = breaks rule.UnfitProcedureValue start
not_there true false start x = silent
not_there false last start x = breaks rule.NotDeclared x.pos

-- p is the variable, and q what it points to, if it is a pointer
abbrev pub member_found : Around → Pos → Pos → Place → Place → Option TypeRef → QName → Member → Judged Meant
member_found u start at p q pointed rec (AField owner f) = sound (means.Place (field_of u q owner f))
member_found u start at p q pointed rec (AMethod owner m) = select_bound at (is_some pointed) (chosen start p pointed rec owner m)

-- rule 2: the record has no such member, or it is not exported
abbrev pub member_of : Around → Pos → Pos → Ident → Place → Place → Option TypeRef → QName → Bool → Option Member → Judged Meant
member_of u start at x p q pointed rec last None = not_there (comes u rec x.name) last start x
member_of u start at x p q pointed rec last (Some m) = member_found u start at p q pointed rec m

-- rule 22: neither a record nor a pointer to one
abbrev pub select_of : Around → Pos → Pos → Ident → Place → Place → Option TypeRef → Bool → Option QName → Judged Meant
select_of u start at x p q pointed last None = breaks rule.UnfitSelector at
select_of u start at x p q pointed last (Some rec) = member_of u start at x p q pointed rec last (member (map_of u) rec x.name)

abbrev pub select_through : Around → Pos → Pos → Ident → Place → Bool → Option TypeRef → Judged Meant
select_through u start at x p last pointed = implicitly (map_of u) (λ t. true) at p pointed ▷ λ q. select_of u start at x p q pointed last (record_of (map_of u) q.of)

abbrev pub select : Around → Pos → Pos → Ident → Place → Bool → Judged Meant
select u start at x p last = select_through u start at x p last (pointed (map_of u) p.of)

-- rule 40: `P^` on what is not the receiver of the enclosing bound procedure, or where no base has P
abbrev pub super_of : Pos → Chosen → QName → Option Member → Judged Meant
super_of at c base (Some (AMethod owner m)) = sound (means.Bound (record { receiver = c.receiver; start = c.start; pointed = c.pointed; owner = c.owner; introduced = owner; method = m; base = Some base }))
super_of at c base m = breaks rule.UnfitSuperCall at

abbrev pub super_in : Map → Pos → Chosen → Option QName → Judged Meant
super_in map at c None = breaks rule.UnfitSuperCall at
super_in map at c (Some base) = super_of at c base (member map base c.method.name)

abbrev pub super_if : Bool → Map → Pos → Chosen → QName → Judged Meant
super_if true map at c owner = super_in map at c (base_record map owner)
super_if false map at c owner = breaks rule.UnfitSuperCall at

abbrev pub super : Map → Pos → Chosen → Option Received → Judged Meant
super map at c None = breaks rule.UnfitSuperCall at
super map at c (Some r) = super_if (same_variable c.receiver.root r.variable && not c.receiver.selected) map at c r.owner

-- SELECTORS

abbrev pub is_one_type : Around → Option Qualident → Bool
is_one_type u None = false
is_one_type u (Some q) = is_type_name u q

abbrev pub visit : Bool → Around → Phrase → Notes
visit true u p = no_notes
visit false u p = (p.value u).notes

-- the values in selectors that are judged though what stands before is not sound
abbrev pub visited : Around → List Phrase → Notes
visited u [] = no_notes
visited u (p ∷ ps) = joined (visit (is_one_type u p.name) u p) (visited u ps)

abbrev pub all_visited : Around → List Behind → Notes
all_visited u [] = no_notes
all_visited u (Index at i ∷ bs) = joined (i.value u).notes (all_visited u bs)
all_visited u (Round at ps ∷ bs) = joined (visited u ps) (all_visited u bs)
all_visited u (b ∷ bs) = all_visited u bs

abbrev pub if_type : Bool → Option Qualident → Option Qualident
if_type true q = q
if_type false q = None

-- one qualified name of a type in round brackets
abbrev pub type_in_round : Around → List Phrase → Option Qualident
type_in_round u (p ∷ []) = if_type (is_one_type u p.name) p.name
type_in_round u ps = None

abbrev pub as_call : Judged Valued → Judged Meant
as_call x = x ▷ λ v. sound (means.Call v)

-- in round brackets behind a variable: a guard, or the parameters of a call of the procedure that it holds
abbrev pub place_round : Around → Where → Pos → Pos → Place → List Phrase → Option Qualident → Option Signature → Judged Meant
place_round u w start at p ps (Some q) s = type_named u q ▷ guard (map_of u) at p
place_round u w start at p ps None (Some s) = as_call (call_variable u w start p s ps)
place_round u w start at p ps None None = noted (visited u ps) (breaks rule.UnfitSelector at)

-- MAX and MIN alone take a type in round brackets; behind another procedure or a constant it is a guard, which does not fit
abbrev pub call_meant : Around → Where → Pos → Meant → List Phrase → Judged Meant
call_meant u w start (means.Procedure name s) ps = as_call (call_procedure u w start name s ps)
call_meant u w start (means.Bound c) ps = as_call (call_bound u w start c ps)
call_meant u w start (means.Out p) ps = as_call (call_out u w start p ps)
call_meant u w start (means.Predeclared f) ps = call_predeclared u w start f ps
call_meant u w start m ps = silent

abbrev pub takes_type : Meant → Bool
takes_type (means.Predeclared pre.Max) = true
takes_type (means.Predeclared pre.Min) = true
takes_type m = false

abbrev pub is_callable : Meant → Bool
is_callable (means.Procedure name s) = true
is_callable (means.Bound c) = true
is_callable (means.Out p) = true
is_callable (means.Predeclared f) = true
is_callable m = false

abbrev pub is_guardable : Meant → Bool
is_guardable (means.Constant v) = true
is_guardable m = is_callable m

-- rule 22 in the end: something follows a call, or what has no parameters
abbrev pub other_round : Around → Where → Pos → Pos → Meant → List Phrase → Option Qualident → Bool → Bool → Bool → Judged Meant
other_round u w start at m ps q true guardable callable = call_meant u w start m ps
other_round u w start at m ps (Some q) false true callable = type_named u q ▷ λ t. breaks rule.UnfitTypeTest at
other_round u w start at m ps None false guardable true = call_meant u w start m ps
other_round u w start at m ps q false guardable callable = noted (visited u ps) (breaks rule.UnfitSelector at)

abbrev pub step_dot : Around → Pos → Pos → Ident → Bool → Meant → Judged Meant
step_dot u start at x last (means.Place p) = select u start at x p last
step_dot u start at x last m = breaks rule.UnfitSelector at

abbrev pub step_index : Map → Pos → Judged Valued → Meant → Judged Meant
step_index map at i (means.Place p) = index map at p i ▷ λ q. sound (means.Place q)
step_index map at i m = noted i.notes (breaks rule.UnfitSelector at)

abbrev pub step_up : Around → Pos → Meant → Judged Meant
step_up u at (means.Place p) = dereference (map_of u) at p ▷ λ q. sound (means.Place q)
step_up u at (means.Bound c) = super (map_of u) at c u.receiver
step_up u at m = breaks rule.UnfitSelector at

abbrev pub step_round : Around → Where → Pos → Pos → List Phrase → Meant → Judged Meant
step_round u w start at ps (means.Place p) = place_round u w start at p ps (type_in_round u ps) (signature_at (map_of u) p.of)
step_round u w start at ps m = other_round u w start at m ps (type_in_round u ps) (takes_type m) (is_guardable m) (is_callable m)

-- one selector, which may be the last
abbrev pub step : Around → Where → Pos → Meant → Behind → Bool → Judged Meant
step u w start m (Dot at x) last = step_dot u start at x last m
step u w start m (Index at i) last = step_index (map_of u) at (i.value u) m
step u w start m (Up at) last = step_up u at m
step u w start m (Round at ps) last = step_round u w start at ps m

-- a call that something follows is not asked for its result as a statement
abbrev pub where_of : Where → Bool → Where
where_of AsStatement true = AsStatement
where_of AsStatement false = Elsewhere
where_of w last = w

abbrev pub go_on_with : Around → List Behind → (Meant → Judged Meant) → Option Meant → Judged Meant
go_on_with u bs f None = noted (all_visited u bs) silent
go_on_with u bs f (Some m) = f m

abbrev pub go_on : Around → List Behind → Judged Meant → (Meant → Judged Meant) → Judged Meant
go_on u bs j f = noted j.notes (go_on_with u bs f j.node)

-- each selector in turn. Behind one that is not sound the values are judged all the same
abbrev pub through : Around → Where → Pos → List Behind → Meant → Judged Meant
through u w start [] m = sound m
through u w start (b ∷ bs) m = go_on u bs (step u (where_of w (nothing_behind bs)) start m b (nothing_behind bs)) (λ n. through u w start bs n)

-- THE NAME AT ITS FRONT

abbrev pub of_variable : Judged Place → Judged Meant
of_variable p = p ▷ λ q. sound (means.Place q)

abbrev pub exported_meant : Around → Pos → Pos → List ℕ → List ℕ → Desc → Judged Meant
exported_meant u start at m x (desc.Const v) = sound (means.Constant v)
exported_meant u start at m x (desc.Var k t) = of_variable (variable_named u start (variable.Module m x) t (is_read_only k))
exported_meant u start at m x (desc.Proc s) = sound (means.Procedure (record { «module» = m; object = x }) s)
exported_meant u start at m x t = breaks rule.WrongKind at

abbrev pub out_meant : Pos → Option OutProcedure → Judged Meant
out_meant at None = breaks rule.NotDeclared at
out_meant at (Some p) = sound (means.Out p)

abbrev pub in_module : Bool → Around → Pos → List ℕ → Ident → Judged Meant
in_module true u start m x = out_meant x.pos (out_procedure x.name)
in_module false u start m x = exported u m x ▷ λ q. exported_meant u start x.pos m x.name q.1

-- the name behind a dot, where that comes first
abbrev pub dot_of : List Behind → Option Ident
dot_of (Dot at y ∷ bs) = Some y
dot_of bs = None

-- a module's name alone is rule 3
abbrev pub module_front : Around → Pos → List ℕ → Option Ident → Judged Meant
module_front u start m None = breaks rule.WrongKind start
module_front u start m (Some y) = in_module (is_out m) u start m y

-- rule 3: a name whose kind does not fit its place
abbrev pub front_of : Around → Ident → Entity → Option Ident → Judged Meant
front_of u x (entity.Constant v) dot = sound (means.Constant v)
front_of u x (entity.Variable v t) dot = of_variable (variable_named u x.pos v t false)
front_of u x (entity.Procedure name s) dot = sound (means.Procedure name s)
front_of u x (entity.Forward name s) dot = sound (means.Procedure name s)
front_of u x (entity.Predeclared f) dot = sound (means.Predeclared f)
front_of u x (entity.Module m) dot = module_front u x.pos m dot
front_of u x e dot = breaks rule.WrongKind x.pos

-- the selectors behind the name, or behind a module's name with the name in it
abbrev pub is_module : Entity → Bool
is_module (entity.Module m) = true
is_module e = false

abbrev pub behind : Bool → List Behind → List Behind
behind true (b ∷ bs) = bs
behind m bs = bs

abbrev pub front : Around → Ident → List Behind → Judged Entity → Judged (Meant × List Behind)
front u x bs e = e ▷ λ k. made (λ m. (m, behind (is_module k) bs)) (front_of u x k (dot_of bs))

-- a designator. Where its front breaks a rule, the values behind it are judged all the same
abbrev pub from_front_with : Around → Where → Pos → List Behind → Option (Meant × List Behind) → Judged Meant
from_front_with u w start bs None = noted (all_visited u bs) silent
from_front_with u w start bs (Some m) = through u w start m.1 m.0

abbrev pub from_front : Around → Where → Pos → List Behind → Judged (Meant × List Behind) → Judged Meant
from_front u w start bs j = noted j.notes (from_front_with u w start bs j.node)

abbrev pub designates : Around → Where → Ident → List Behind → Judged Meant
designates u w x bs = from_front u w x.pos bs (front u x bs (named u x))
