-- Designators name record types, and have the types of their places.
use Rattle.std.proofs.Common.{◌≡◌, ℕ, Bool, true, false, List, [], ◌∷◌, map, Option, Some, None, refl, sym, subst}
use Rattle.std.specs.Prelude.{bytes_eq, is_some, not, ◌&&◌}
use Rattle.std.specs.List.{AllByRecursion}
use Rattle.ob_tree.specs.declared.pos.Pos.{Pos}
use Rattle.ob_tree.specs.declared.names.QName.{QName}
use Rattle.ob_tree.specs.declared.ident.Ident.{Ident}
use Rattle.ob_tree.specs.declared.ident.Qualident.{Qualident}
use Rattle.ob_types.specs.declared.types.TypeRef.{TypeRef}
use Rattle.ob_types.specs.declared.types.Signature.{Signature}
use Rattle.ob_types.specs.declared.desc.Desc.{Desc}
use Rattle.ob_types.specs.declared.desc.Desc.TheVariants as desc
use Rattle.ob_types.specs.declared.desc.Field.{Field}
use Rattle.ob_types.specs.declared.desc.Receiver.{Receiver}
use Rattle.ob_types.specs.declared.desc.Receiver.TheVariants as receiver
use Rattle.ob_types.specs.declared.typed.Variable.{Variable}
use Rattle.ob_types.specs.declared.typed.Variable.TheVariants as variable
use Rattle.ob_types.specs.declared.typed.Guarded.{Guarded}
use Rattle.ob_types.specs.declared.typed.Guarded.TheVariants as guarded
use Rattle.ob_types.specs.declared.typed.OutProcedure.{OutProcedure}
use Rattle.ob_types.specs.TypedSyntax.{OfVariable, Field as AField_, Index as AnIndex, Deref, Guard}
use Rattle.ob_types.specs.TypedKinds.{variable_type}
use Rattle.ob_types.specs.TypedSyntax.{Desig}
use Rattle.ob_types.specs.TypedView.{designator_view, expr_view}
use Rattle.ob_types.proofs.TypedViews.{view_variable, view_field, view_index, view_deref, view_guard}
use Rattle.ob_rules.specs.declared.entity.Entity.{Entity}
use Rattle.ob_rules.specs.declared.entity.Received.{Received}
use Rattle.ob_rules.specs.declared.entity.Entity.TheVariants as entity
use Rattle.ob_rules.specs.declared.values.Place.{Place}
use Rattle.ob_rules.specs.declared.values.Valued.{Valued}
use Rattle.ob_rules.specs.declared.meant.Chosen.{Chosen}
use Rattle.ob_rules.specs.declared.meant.Meant.{Meant}
use Rattle.ob_rules.specs.declared.meant.Meant.TheVariants as means
use Rattle.ob_rules.specs.declared.meant.Where.{Where}
use Rattle.ob_rules.specs.declared.broken.Rule.TheVariants as rule
use Rattle.ob_rules.specs.Judged.{Judged, sound, found_or, made}
use Rattle.ob_rules.specs.Shapes.{Map, Member, AField, AMethod, member, pointed, pointed_record, record_of, array_of, is_array, is_held, signature_at, base_record}
use Rattle.ob_rules.specs.Names.{Around, map_of, named, exported, is_out, out_procedure, type_named}
use Rattle.ob_rules.specs.Values.{is_integer, tree}
use Rattle.ob_rules.specs.Phrases.{dereferenced, record_receiver, Phrase, Behind, Dot, Index, Up, Round}
use Rattle.ob_rules.specs.Calls.{call_procedure, call_variable, call_out, call_bound}
use Rattle.ob_rules.specs.Designators.{variable_at, if_so, if_extends, on_record, guard_kind, guard_of, guarded_by, with_guard, guard_if, guard_same, same_variable, with_guards, variable_named, guard, if_so_held, dereference_of, dereference, through_if, implicitly, indexed, index_into, index_if, index, field_of, chosen, with_receiver, not_there, comes, member_found, member_of, select_of, select, super_of, super_in, super_if, super, type_in_round, as_call, place_round, call_meant, takes_type, is_callable, is_guardable, other_round, step_dot, step_index, step_up, step_round, step, where_of, nothing_behind, go_on_with, go_on, through, of_variable, exported_meant, out_meant, in_module, dot_of, module_front, front_of, is_module, behind, front, from_front_with, designates}
use Rattle.law_links_types.proofs.Setting.{Setting, Stands, record_stands, record_points, base_stands, one_stands, PlaceOk, ValuedOk, ChosenOk, MeantOk, Keeps, any_keeps, then_keeps, made_keeps, wants_keeps, found_keeps, typed_d, tree_ok}
use Rattle.law_links_types.specs.Trees.{IsRecordType, StandsForOne, IsBase, GuardRecorded}
use Rattle.law_links_types.proofs.Calls.{PhraseOk, ArePhrases, call_procedure_keeps, call_variable_keeps, call_out_keeps, call_bound_keeps}
use Rattle.law_links_types.proofs.Functions.{predeclared_keeps}
use Rattle.law_lists.proofs.Lists.{Anything, IfThere}

-- ---- variables and guards

variable_ok : (k : Setting) (v : Variable) (t : TypeRef) (b : Bool) → PlaceOk k (variable_at v t b)
variable_ok k v t b = typed_d k _ (OfVariable v t) (view_variable v t) tt

-- the guard is of a record type, and so is what one on a VAR record stands on
abbrev pub TagOk : Setting → TypeRef → Guarded → Type 0
TagOk k t guarded.Pointer = Unit {0}
TagOk k t guarded.Record = StandsForOne k.types k.unit t

abbrev pub GuardOk : Setting → TypeRef → Guarded × QName → Type 0
GuardOk k t g = IsRecordType k.types k.unit g.1 × TagOk k t g.0

so_ok : (k : Setting) (b : Bool) (t : TypeRef) (g : Guarded × QName) → GuardOk k t g → IfThere (GuardOk k t) (if_so b g)
so_ok k true t g h = h
so_ok k false t g h = tt

extends_ok : (k : Setting) (map : Map) (t : TypeRef) (g : Guarded) (a b : Option QName) → IfThere (λ (q : QName). TagOk k t g) a → IfThere (IsRecordType k.types k.unit) b → IfThere (GuardOk k t) (if_extends map g a b)
extends_ok k map t g None b h i = tt
extends_ok k map t g (Some a) None h i = tt
extends_ok k map t g (Some a) (Some b) h i = so_ok k _ t (g, b) (i, h)

pub pointer_guard : (k : Setting) (u : Around) → Stands k u → (v t : TypeRef) (a : QName) → IfThere (GuardOk k v) (if_extends (map_of u) guarded.Pointer (Some a) (pointed_record (map_of u) t))
pointer_guard k u s v t a = extends_ok k (map_of u) v guarded.Pointer (Some a) (pointed_record (map_of u) t) tt (by (pointed_record (map_of u) t) refl)
  where
    by : (o : Option QName) → pointed_record (map_of u) t ≡ o → IfThere (IsRecordType k.types k.unit) o
    by None e = tt
    by (Some q) e = (record_points k u s t q e).stands.type

pub guard_ok : (k : Setting) (u : Around) → Stands k u → (p : Place) (t : TypeRef) → IfThere (GuardOk k p.of) (guard_of (map_of u) p t)
guard_ok k u s p t = kind (pointed_record (map_of u) p.of)
  where
    by : (o : Option QName) → record_of (map_of u) t ≡ o → IfThere (IsRecordType k.types k.unit) o
    by None e = tt
    by (Some q) e = (record_stands k u s t q e).type

    on : (b : Bool) → IfThere (GuardOk k p.of) (on_record b (map_of u) p t)
    on true = extends_ok k (map_of u) p.of guarded.Record (record_of (map_of u) p.of) (record_of (map_of u) t) (one_stands k u s p.of (record_of (map_of u) p.of) refl) (by (record_of (map_of u) t) refl)
    on false = tt

    kind : (o : Option QName) → IfThere (GuardOk k p.of) (guard_kind (map_of u) p t o)
    kind None = on p.var_record
    kind (Some a) = pointer_guard k u s p.of t a

guard_recorded : (k : Setting) (g : Guarded) (d : Desig) → TagOk k (variable_type d) g → GuardRecorded k.types k.unit g d
guard_recorded k guarded.Pointer d h = tt
guard_recorded k guarded.Record d h = h

guarded_ok : (k : Setting) (p : Place) (g : Guarded × QName) (t : TypeRef) (at : Pos) (b : Bool) → PlaceOk k p → GuardOk k p.of g → PlaceOk k (guarded_by p g t at b)
guarded_ok k p g t at b h i = typed_d k _ (Guard (designator_view p.designator.inner) g.0 g.1 at t) (view_guard p.designator.inner g.0 g.1 at t) (h.0, i.0, guard_recorded k g.0 (designator_view p.designator.inner) (subst (λ v. TagOk k v g.0) (sym h.1) i.1))

with_guard_keeps : (k : Setting) (map : Map) (at : Pos) (p : Place) (o : Option (Guarded × QName)) (t : TypeRef) → PlaceOk k p → IfThere (GuardOk k p.of) o → Keeps k (PlaceOk k) (with_guard map at p o t)
with_guard_keeps k map at p None t h i = tt
with_guard_keeps k map at p (Some g) t h i = guarded_ok k p g t at false h i

guard_if_keeps : (k : Setting) (u : Around) → Stands k u → (at : Pos) (p : Place) (o : Option TypeRef) → PlaceOk k p → Keeps k (PlaceOk k) (guard_if (map_of u) at p o)
guard_if_keeps k u s at p None h = tt
guard_if_keeps k u s at p (Some t) h = with_guard_keeps k (map_of u) at p (guard_of (map_of u) p t) t h (guard_ok k u s p t)

same_keeps : (k : Setting) (u : Around) → Stands k u → (b : Bool) (at : Pos) (j : Judged Place) (o : Option TypeRef) → Keeps k (PlaceOk k) j → Keeps k (PlaceOk k) (guard_same b (map_of u) at j o)
same_keeps k u s true at j o h = then_keeps k (PlaceOk k) (PlaceOk k) j (λ q. guard_if (map_of u) at q o) h (λ q r. guard_if_keeps k u s at q o r)
same_keeps k u s false at j o h = h

guards_keep : (k : Setting) (u : Around) → Stands k u → (at : Pos) (v : Variable) (gs : List (Variable × Option TypeRef)) (j : Judged Place) → Keeps k (PlaceOk k) j → Keeps k (PlaceOk k) (with_guards (map_of u) at v gs j)
guards_keep k u s at v [] j h = h
guards_keep k u s at v (g ∷ gs) j h = guards_keep k u s at v gs (guard_same (same_variable v g.0) (map_of u) at j g.1) (same_keeps k u s (same_variable v g.0) at j g.1 h)

pub variable_keeps : (k : Setting) (u : Around) → Stands k u → (at : Pos) (v : Variable) (t : TypeRef) (b : Bool) → Keeps k (PlaceOk k) (variable_named u at v t b)
variable_keeps k u s at v t b = guards_keep k u s at v u.guards (sound (variable_at v t b)) (variable_ok k v t b)

guard_keeps : (k : Setting) (u : Around) → Stands k u → (at : Pos) (p : Place) (t : TypeRef) → PlaceOk k p → Keeps k (MeantOk k) (guard (map_of u) at p t)
guard_keeps k u s at p t h = then_keeps k (GuardOk k p.of) (MeantOk k) (found_or rule.UnfitTypeTest at (guard_of (map_of u) p t)) _ (found_keeps k (GuardOk k p.of) rule.UnfitTypeTest at (guard_of (map_of u) p t) (guard_ok k u s p t)) (λ g q. guarded_ok k p g t at true h q)

-- ---- dereferences, indices and fields

deref_ok : (k : Setting) (p : Place) (at : Pos) (t : TypeRef) (b : Bool) → PlaceOk k p → PlaceOk k (dereferenced p at t b)
deref_ok k p at t b h = typed_d k _ (Deref (designator_view p.designator.inner) at t) (view_deref p.designator.inner at t) h.0

held_keeps : (k : Setting) (Q : Place → Type 0) (b : Bool) (p : Place) → Q p → Keeps k Q (if_so_held b p)
held_keeps k Q true p h = h
held_keeps k Q false p h = tt

deref_keeps : (k : Setting) (map : Map) (at : Pos) (p : Place) (o : Option TypeRef) → PlaceOk k p → Keeps k (PlaceOk k) (dereference_of map at p o)
deref_keeps k map at p None h = tt
deref_keeps k map at p (Some t) h = held_keeps k (PlaceOk k) (is_held map t) (dereferenced p at t true) (deref_ok k p at t true h)

through_ok : (k : Setting) (b : Bool) (p q : Place) → PlaceOk k p → PlaceOk k q → PlaceOk k (through_if b p q)
through_ok k true p q h g = g
through_ok k false p q h g = h

implicit_keeps : (k : Setting) (map : Map) (f : TypeRef → Bool) (at : Pos) (p : Place) (o : Option TypeRef) → PlaceOk k p → Keeps k (PlaceOk k) (implicitly map f at p o)
implicit_keeps k map f at p None h = h
implicit_keeps k map f at p (Some t) h = held_keeps k (PlaceOk k) (is_held map t) (through_if (f t) p (dereferenced p at t false)) (through_ok k (f t) p (dereferenced p at t false) h (deref_ok k p at t false h))

-- a place that is the record to be selected of
abbrev pub IsReached : Setting → Pos → Place → Option TypeRef → Place → Type 0
IsReached k start p o q = PlaceOk k q × (q.of ≡ (record_receiver start p o).of)

reached_keeps : (k : Setting) (map : Map) (start at : Pos) (p : Place) (o : Option TypeRef) → PlaceOk k p → Keeps k (IsReached k start p o) (implicitly map (λ t. true) at p o)
reached_keeps k map start at p None h = (h, refl)
reached_keeps k map start at p (Some t) h = held_keeps k (IsReached k start p (Some t)) (is_held map t) (dereferenced p at t false) (deref_ok k p at t false h, refl)

indexed_ok : (k : Setting) (p : Place) (at : Pos) (i : Valued) (a : Option ℕ × TypeRef) → PlaceOk k p → ValuedOk k i → PlaceOk k (indexed p at i a)
indexed_ok k p at i a h g = typed_d k _ (AnIndex (designator_view p.designator.inner) a.0 (expr_view (tree i)) at a.1) (view_index p.designator.inner a.0 (tree i) at a.1) (h.0, tree_ok k i g)

into_keeps : (k : Setting) (map : Map) (at : Pos) (p : Place) (i : Judged Valued) (o : Option (Option ℕ × TypeRef)) → PlaceOk k p → Keeps k (ValuedOk k) i → Keeps k (PlaceOk k) (index_into map at p i o)
into_keeps k map at p i None h g = tt
into_keeps k map at p i (Some a) h g = then_keeps k (ValuedOk k) (PlaceOk k) i _ g (λ x q. wants_keeps k (PlaceOk k) (is_integer map x) rule.UnfitSelector at (indexed p at x a) (indexed_ok k p at x a h q))

index_if_keeps : (k : Setting) (o : Option Place) (i : Judged Valued) (f : Place → Judged Place) → IfThere (PlaceOk k) o → ((p : Place) → PlaceOk k p → Keeps k (PlaceOk k) (f p)) → Keeps k (PlaceOk k) (index_if o i f)
index_if_keeps k None i f h g = tt
index_if_keeps k (Some p) i f h g = g p h

index_keeps : (k : Setting) (map : Map) (at : Pos) (p : Place) (i : Judged Valued) → PlaceOk k p → Keeps k (ValuedOk k) i → Keeps k (PlaceOk k) (index map at p i)
index_keeps k map at p i h g = index_if_keeps k (implicitly map (is_array map) at p (pointed map p.of)).node i (λ q. index_into map at q i (array_of map q.of)) (implicit_keeps k map (is_array map) at p (pointed map p.of) h) (λ q r. into_keeps k map at q i (array_of map q.of) r g)

field_ok : (k : Setting) (u : Around) (p : Place) (owner : QName) (f : Field) → PlaceOk k p → PlaceOk k (field_of u p owner f)
field_ok k u p owner f h = typed_d k _ (AField_ (designator_view p.designator.inner) owner f.name f.of) (view_field p.designator.inner owner f.name f.of) h.0

-- ---- members

bound_keeps : (k : Setting) (r : Receiver) (b : Bool) (at : Pos) (c : Chosen) → ChosenOk k c → Keeps k (MeantOk k) (with_receiver r b at c)
bound_keeps k receiver.Pointer true at c h = h
bound_keeps k receiver.Pointer false at c h = tt
bound_keeps k receiver.Record b at c h = h

found_member : (k : Setting) (u : Around) (start at : Pos) (p q : Place) (t : Option TypeRef) (rec : QName) (m : Member) → PlaceOk k p → IsReached k start p t q → StandsForOne k.types k.unit q.of → Keeps k (MeantOk k) (member_found u start at p q t rec m)
found_member k u start at p q t rec (AField owner f) h g i = field_ok k u q owner f g.0
found_member k u start at p q t rec (AMethod owner m) h g i = bound_keeps k m.receiver (is_some t) at (chosen start p t rec owner m) (record { receiver = h; of = subst (StandsForOne k.types k.unit) g.1 i; base = tt })

not_there_keeps : (k : Setting) (b c : Bool) (start : Pos) (x : Ident) → Keeps k (MeantOk k) (not_there b c start x)
not_there_keeps k true true start x = tt
not_there_keeps k true false start x = tt
not_there_keeps k false c start x = tt

member_keeps : (k : Setting) (u : Around) (start at : Pos) (x : Ident) (p q : Place) (t : Option TypeRef) (rec : QName) (last : Bool) (o : Option Member) → PlaceOk k p → IsReached k start p t q → StandsForOne k.types k.unit q.of → Keeps k (MeantOk k) (member_of u start at x p q t rec last o)
member_keeps k u start at x p q t rec last None h g i = not_there_keeps k (comes u rec x.name) last start x
member_keeps k u start at x p q t rec last (Some m) h g i = found_member k u start at p q t rec m h g i

select_of_keeps : (k : Setting) (u : Around) (start at : Pos) (x : Ident) (p q : Place) (t : Option TypeRef) (last : Bool) (o : Option QName) → PlaceOk k p → IsReached k start p t q → IfThere (λ (r : QName). StandsForOne k.types k.unit q.of) o → Keeps k (MeantOk k) (select_of u start at x p q t last o)
select_of_keeps k u start at x p q t last None h g i = tt
select_of_keeps k u start at x p q t last (Some rec) h g i = member_keeps k u start at x p q t rec last (member (map_of u) rec x.name) h g i

select_keeps : (k : Setting) (u : Around) → Stands k u → (start at : Pos) (x : Ident) (p : Place) (last : Bool) → PlaceOk k p → Keeps k (MeantOk k) (select u start at x p last)
select_keeps k u s start at x p last h =
    let o = pointed (map_of u) p.of in
    then_keeps k (IsReached k start p o) (MeantOk k) (implicitly (map_of u) (λ t. true) at p o) (λ q. select_of u start at x p q o last (record_of (map_of u) q.of)) (reached_keeps k (map_of u) start at p o h) (λ q g. select_of_keeps k u start at x p q o last (record_of (map_of u) q.of) h g (one_stands k u s q.of (record_of (map_of u) q.of) refl))

super_of_keeps : (k : Setting) (at : Pos) (c : Chosen) (base : QName) (o : Option Member) → ChosenOk k c → IsBase k.types k.unit base → Keeps k (MeantOk k) (super_of at c base o)
super_of_keeps k at c base None h i = tt
super_of_keeps k at c base (Some (AField owner f)) h i = tt
super_of_keeps k at c base (Some (AMethod owner m)) h i = record { receiver = h.receiver; of = h.of; base = i }

super_in_keeps : (k : Setting) (map : Map) (at : Pos) (c : Chosen) (o : Option QName) → ChosenOk k c → IfThere (IsBase k.types k.unit) o → Keeps k (MeantOk k) (super_in map at c o)
super_in_keeps k map at c None h i = tt
super_in_keeps k map at c (Some base) h i = super_of_keeps k at c base (member map base c.method.name) h i

base_if : (k : Setting) (u : Around) → Stands k u → (owner : QName) → bytes_eq owner.«module» k.unit ≡ true → (o : Option QName) → base_record (map_of u) owner ≡ o → IfThere (IsBase k.types k.unit) o
base_if k u s owner own None e = tt
base_if k u s owner own (Some q) e = base_stands k u s owner q own e

super_if_keeps : (k : Setting) (u : Around) → Stands k u → (b : Bool) (at : Pos) (c : Chosen) (owner : QName) → bytes_eq owner.«module» k.unit ≡ true → ChosenOk k c → Keeps k (MeantOk k) (super_if b (map_of u) at c owner)
super_if_keeps k u s true at c owner own h = super_in_keeps k (map_of u) at c (base_record (map_of u) owner) h (base_if k u s owner own (base_record (map_of u) owner) refl)
super_if_keeps k u s false at c owner own h = tt

super_keeps : (k : Setting) (u : Around) → Stands k u → (at : Pos) (c : Chosen) (o : Option Received) → IfThere (λ (r : Received). bytes_eq r.owner.«module» k.unit ≡ true) o → ChosenOk k c → Keeps k (MeantOk k) (super (map_of u) at c o)
super_keeps k u s at c None g h = tt
super_keeps k u s at c (Some r) g h = super_if_keeps k u s (same_variable c.receiver.root r.variable && not c.receiver.selected) at c r.owner g h

-- ---- selectors

abbrev pub BehindOk : Setting → Behind → Type 0
BehindOk k (Dot at x) = Unit {0}
BehindOk k (Index at i) = PhraseOk k i
BehindOk k (Up at) = Unit {0}
BehindOk k (Round at ps) = ArePhrases k ps

as_call_keeps : (k : Setting) (j : Judged Valued) → Keeps k (ValuedOk k) j → Keeps k (MeantOk k) (as_call j)
as_call_keeps k j h = then_keeps k (ValuedOk k) (MeantOk k) j (λ v. sound (means.Call v)) h (λ v q. q)

place_round_keeps : (k : Setting) (u : Around) → Stands k u → (w : Where) (start at : Pos) (p : Place) (ps : List Phrase) → ArePhrases k ps → PlaceOk k p → (q : Option Qualident) (s : Option Signature) → Keeps k (MeantOk k) (place_round u w start at p ps q s)
place_round_keeps k u st w start at p ps g h (Some q) s = then_keeps k Anything (MeantOk k) (type_named u q) (guard (map_of u) at p) (any_keeps k (type_named u q)) (λ t r. guard_keeps k u st at p t h)
place_round_keeps k u st w start at p ps g h None (Some s) = as_call_keeps k (call_variable u w start p s ps) (call_variable_keeps k u st w start p s ps g h)
place_round_keeps k u st w start at p ps g h None None = tt

pub call_meant_keeps : (k : Setting) (u : Around) → Stands k u → (w : Where) (start : Pos) (m : Meant) (ps : List Phrase) → ArePhrases k ps → MeantOk k m → Keeps k (MeantOk k) (call_meant u w start m ps)
call_meant_keeps k u st w start (means.Procedure q s) ps g h = as_call_keeps k (call_procedure u w start q s ps) (call_procedure_keeps k u st w start q s ps g)
call_meant_keeps k u st w start (means.Bound c) ps g h = as_call_keeps k (call_bound u w start c ps) (call_bound_keeps k u st w start c ps g h)
call_meant_keeps k u st w start (means.Out p) ps g h = as_call_keeps k (call_out u w start p ps) (call_out_keeps k u st w start p ps g)
call_meant_keeps k u st w start (means.Predeclared f) ps g h = predeclared_keeps k u st w start f ps g
call_meant_keeps k u st w start m ps g h = tt

other_round_keeps : (k : Setting) (u : Around) → Stands k u → (w : Where) (start at : Pos) (m : Meant) (ps : List Phrase) → ArePhrases k ps → MeantOk k m → (q : Option Qualident) (a b c : Bool) → Keeps k (MeantOk k) (other_round u w start at m ps q a b c)
other_round_keeps k u st w start at m ps g h q true b c = call_meant_keeps k u st w start m ps g h
other_round_keeps k u st w start at m ps g h (Some q) false true c = then_keeps k Anything (MeantOk k) (type_named u q) _ (any_keeps k (type_named u q)) (λ t r. tt)
other_round_keeps k u st w start at m ps g h (Some q) false false c = tt
other_round_keeps k u st w start at m ps g h None false b true = call_meant_keeps k u st w start m ps g h
other_round_keeps k u st w start at m ps g h None false b false = tt

dot_keeps : (k : Setting) (u : Around) → Stands k u → (start at : Pos) (x : Ident) (last : Bool) (m : Meant) → MeantOk k m → Keeps k (MeantOk k) (step_dot u start at x last m)
dot_keeps k u st start at x last (means.Place p) h = select_keeps k u st start at x p last h
dot_keeps k u st start at x last m h = tt

index_step_keeps : (k : Setting) (map : Map) (at : Pos) (i : Judged Valued) (m : Meant) → MeantOk k m → Keeps k (ValuedOk k) i → Keeps k (MeantOk k) (step_index map at i m)
index_step_keeps k map at i (means.Place p) h g = then_keeps k (PlaceOk k) (MeantOk k) (index map at p i) (λ q. sound (means.Place q)) (index_keeps k map at p i h g) (λ q r. r)
index_step_keeps k map at i m h g = tt

up_keeps : (k : Setting) (u : Around) → Stands k u → (at : Pos) (m : Meant) → MeantOk k m → Keeps k (MeantOk k) (step_up u at m)
up_keeps k u st at (means.Place p) h = then_keeps k (PlaceOk k) (MeantOk k) (dereference (map_of u) at p) (λ q. sound (means.Place q)) (deref_keeps k (map_of u) at p (pointed (map_of u) p.of) h) (λ q r. r)
up_keeps k u st at (means.Bound c) h = super_keeps k u st at c u.receiver st.receiver h
up_keeps k u st at m h = tt

round_keeps : (k : Setting) (u : Around) → Stands k u → (w : Where) (start at : Pos) (ps : List Phrase) → ArePhrases k ps → (m : Meant) → MeantOk k m → Keeps k (MeantOk k) (step_round u w start at ps m)
round_keeps k u st w start at ps g (means.Place p) h = place_round_keeps k u st w start at p ps g h (type_in_round u ps) (signature_at (map_of u) p.of)
round_keeps k u st w start at ps g m h = other_round_keeps k u st w start at m ps g h (type_in_round u ps) (takes_type m) (is_guardable m) (is_callable m)

step_keeps : (k : Setting) (u : Around) → Stands k u → (w : Where) (start : Pos) (m : Meant) → MeantOk k m → (b : Behind) → BehindOk k b → (last : Bool) → Keeps k (MeantOk k) (step u w start m b last)
step_keeps k u st w start m h (Dot at x) g last = dot_keeps k u st start at x last m h
step_keeps k u st w start m h (Index at i) g last = index_step_keeps k (map_of u) at (i.value u) m h (g.0 u st)
step_keeps k u st w start m h (Up at) g last = up_keeps k u st at m h
step_keeps k u st w start m h (Round at ps) g last = round_keeps k u st w start at ps g m h

on_keeps : (k : Setting) (u : Around) (bs : List Behind) (j : Judged Meant) (f : Meant → Judged Meant) → Keeps k (MeantOk k) j → ((m : Meant) → MeantOk k m → Keeps k (MeantOk k) (f m)) → Keeps k (MeantOk k) (go_on u bs j f)
on_keeps k u bs j f h g = with_node j.node h
  where
    with_node : (o : Option Meant) → IfThere (MeantOk k) o → IfThere (MeantOk k) (go_on_with u bs f o).node
    with_node None q = tt
    with_node (Some m) q = g m q

through_keeps : (k : Setting) (u : Around) → Stands k u → (w : Where) (start : Pos) (bs : List Behind) → AllByRecursion (BehindOk k) bs → (m : Meant) → MeantOk k m → Keeps k (MeantOk k) (through u w start bs m)
through_keeps k u st w start [] g m h = h
through_keeps k u st w start (b ∷ bs) g m h = on_keeps k u bs (step u (where_of w (nothing_behind bs)) start m b (nothing_behind bs)) (λ n. through u w start bs n) (step_keeps k u st (where_of w (nothing_behind bs)) start m h b g.0 (nothing_behind bs)) (λ n q. through_keeps k u st w start bs g.1 n q)

-- ---- the name at the front

of_variable_keeps : (k : Setting) (j : Judged Place) → Keeps k (PlaceOk k) j → Keeps k (MeantOk k) (of_variable j)
of_variable_keeps k j h = then_keeps k (PlaceOk k) (MeantOk k) j (λ q. sound (means.Place q)) h (λ q r. r)

exported_keeps : (k : Setting) (u : Around) → Stands k u → (start at : Pos) (m x : List ℕ) (d : Desc) → Keeps k (MeantOk k) (exported_meant u start at m x d)
exported_keeps k u s start at m x (desc.Const v) = tt
exported_keeps k u s start at m x (desc.Var a t) = of_variable_keeps k (variable_named u start (variable.Module m x) t _) (variable_keeps k u s start (variable.Module m x) t _)
exported_keeps k u s start at m x (desc.Proc g) = tt
exported_keeps k u s start at m x d = tt

out_keeps : (k : Setting) (at : Pos) (o : Option OutProcedure) → Keeps k (MeantOk k) (out_meant at o)
out_keeps k at None = tt
out_keeps k at (Some p) = tt

in_module_keeps : (k : Setting) (u : Around) → Stands k u → (start : Pos) (m : List ℕ) (x : Ident) (b : Bool) → Keeps k (MeantOk k) (in_module b u start m x)
in_module_keeps k u st start m x true = out_keeps k x.pos (out_procedure x.name)
in_module_keeps k u st start m x false = then_keeps k Anything (MeantOk k) (exported u m x) (λ d. exported_meant u start x.pos m x.name d.1) (any_keeps k (exported u m x)) (λ d h. exported_keeps k u st start x.pos m x.name d.1)

module_front_keeps : (k : Setting) (u : Around) → Stands k u → (start : Pos) (m : List ℕ) (o : Option Ident) → Keeps k (MeantOk k) (module_front u start m o)
module_front_keeps k u st start m None = tt
module_front_keeps k u st start m (Some y) = in_module_keeps k u st start m y (is_out m)

front_of_keeps : (k : Setting) (u : Around) → Stands k u → (x : Ident) (e : Entity) (o : Option Ident) → Keeps k (MeantOk k) (front_of u x e o)
front_of_keeps k u st x (entity.Constant v) o = tt
front_of_keeps k u st x (entity.Variable v t) o = of_variable_keeps k (variable_named u x.pos v t false) (variable_keeps k u st x.pos v t false)
front_of_keeps k u st x (entity.Procedure q s) o = tt
front_of_keeps k u st x (entity.Forward q s) o = tt
front_of_keeps k u st x (entity.Predeclared f) o = tt
front_of_keeps k u st x (entity.Module m) o = module_front_keeps k u st x.pos m o
front_of_keeps k u st x e o = tt

behind_all : (k : Setting) (b : Bool) (bs : List Behind) → AllByRecursion (BehindOk k) bs → AllByRecursion (BehindOk k) (behind b bs)
behind_all k true [] g = tt
behind_all k true (b ∷ bs) g = g.1
behind_all k false bs g = g

front_keeps : (k : Setting) (u : Around) → Stands k u → (x : Ident) (bs : List Behind) → AllByRecursion (BehindOk k) bs → Keeps k (λ (m : Meant × List Behind). MeantOk k m.0 × AllByRecursion (BehindOk k) m.1) (front u x bs (named u x))
front_keeps k u st x bs g =
    then_keeps k Anything (λ (m : Meant × List Behind). MeantOk k m.0 × AllByRecursion (BehindOk k) m.1) (named u x) (λ e. made (λ m. (m, behind (is_module e) bs)) (front_of u x e (dot_of bs))) (any_keeps k (named u x))
    (λ e h. made_keeps k (MeantOk k) (λ (m : Meant × List Behind). MeantOk k m.0 × AllByRecursion (BehindOk k) m.1) (λ m. (m, behind (is_module e) bs)) (front_of u x e (dot_of bs)) (front_of_keeps k u st x e (dot_of bs)) (λ m q. (q, behind_all k (is_module e) bs g)))

pub designates_keeps : (k : Setting) (u : Around) → Stands k u → (w : Where) (x : Ident) (bs : List Behind) → AllByRecursion (BehindOk k) bs → Keeps k (MeantOk k) (designates u w x bs)
designates_keeps k u st w x bs g = with_node (front u x bs (named u x)).node (front_keeps k u st x bs g)
  where
    with_node : (o : Option (Meant × List Behind)) → IfThere (λ (m : Meant × List Behind). MeantOk k m.0 × AllByRecursion (BehindOk k) m.1) o → IfThere (MeantOk k) (from_front_with u w x.pos bs o).node
    with_node None q = tt
    with_node (Some m) q = through_keeps k u st w x.pos m.1 q.1 m.0 q.0
