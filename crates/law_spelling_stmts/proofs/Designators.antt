-- Designators fit where their parts do.
use Rattle.std.proofs.Common.{◌≡◌, ℕ, Bool, true, false, List, [], ◌∷◌, map, Option, Some, None, refl, ◌<◌, ◌^◌, ap}
use Rattle.std.specs.Prelude.{bytes_eq, is_some, not, ◌&&◌, IfSome}
use Rattle.std.specs.List.{AllByRecursion}
use Rattle.ob_tree.specs.declared.pos.Pos.{Pos}
use Rattle.ob_tree.specs.declared.names.QName.{QName}
use Rattle.ob_tree.specs.declared.ident.Ident.{Ident}
use Rattle.ob_tree.specs.declared.ident.Qualident.{Qualident}
use Rattle.ob_types.specs.declared.types.TypeRef.{TypeRef}
use Rattle.ob_types.specs.declared.types.Signature.{Signature}
use Rattle.ob_types.specs.declared.desc.Desc.{Desc}
use Rattle.ob_types.specs.declared.desc.Desc.TheVariants as desc
use Rattle.ob_types.specs.declared.desc.Field.{Field}
use Rattle.ob_types.specs.declared.desc.Receiver.{Receiver}
use Rattle.ob_types.specs.declared.desc.Receiver.TheVariants as receiver
use Rattle.ob_types.specs.declared.typed.Variable.{Variable}
use Rattle.ob_types.specs.declared.typed.Variable.TheVariants as variable
use Rattle.ob_types.specs.declared.typed.Guarded.{Guarded}
use Rattle.ob_types.specs.declared.typed.OutProcedure.{OutProcedure}
use Rattle.ob_types.specs.TypedSyntax.{OfVariable, Field as AField_, Index as AnIndex, Deref, Guard}
use Rattle.ob_types.specs.TypedView.{designator_view, expr_view}
use Rattle.ob_types.proofs.TypedViews.{view_variable, view_field, view_index, view_deref, view_guard}
use Rattle.ob_rules.specs.declared.entity.Entity.{Entity}
use Rattle.ob_rules.specs.declared.entity.Received.{Received}
use Rattle.ob_rules.specs.declared.entity.Entity.TheVariants as entity
use Rattle.ob_rules.specs.declared.values.Place.{Place}
use Rattle.ob_rules.specs.declared.values.Valued.{Valued}
use Rattle.ob_rules.specs.declared.meant.Chosen.{Chosen}
use Rattle.ob_rules.specs.declared.meant.Meant.{Meant}
use Rattle.ob_rules.specs.declared.meant.Meant.TheVariants as means
use Rattle.ob_rules.specs.declared.meant.Where.{Where}
use Rattle.ob_rules.specs.Judged.{Judged, sound, found_or, made}
use Rattle.ob_rules.specs.Shapes.{Map, Member, AField, AMethod, member, pointed, record_of, array_of, is_array, is_held, signature_at, base_record}
use Rattle.ob_rules.specs.Names.{Around, map_of, named, exported, is_out, out_procedure, type_named, unless_hidden, record_unless_hidden, shown_of, export_known, variable_known, entity_known, name_known, find_name, is_enclosing}
use Rattle.ob_rules.specs.Values.{is_integer, tree}
use Rattle.ob_rules.specs.Phrases.{dereferenced, Phrase, Behind, Dot, Index, Up, Round}
use Rattle.ob_rules.specs.Calls.{call_procedure, call_variable, call_out, call_bound}
use Rattle.ob_rules.specs.Designators.{variable_at, guard_of, guarded_by, with_guard, guard_if, guard_same, same_variable, with_guards, variable_named, guard, if_so_held, dereference_of, dereference, through_if, implicitly, indexed, index_into, index_if, index, field_of, chosen, with_receiver, not_there, comes, member_found, member_of, select_of, select, super_of, super_in, super_if, super, type_in_round, as_call, place_round, call_meant, takes_type, is_callable, is_guardable, other_round, step_dot, step_index, step_up, step_round, step, where_of, nothing_behind, go_on_with, through, of_variable, exported_meant, out_meant, in_module, dot_of, module_front, front_of, is_module, behind, front, from_front_with, designates}
use Rattle.ob_tree.specs.declared.ident.Mark.{Mark}
use Rattle.ob_tree.specs.declared.ident.Mark.TheVariants as mark
use Rattle.ob_types.specs.declared.desc.Desc.TheVariants as desc
use Rattle.ob_rules.specs.declared.entity.Known.{Known}
use Rattle.ob_rules.specs.declared.broken.Rule.TheVariants as rule
use Rattle.law_spelling.specs.Coded.{PosFits}
use Rattle.law_spelling_stmts.proofs.Setting.{EntityOk, Setting, PlaceOk, ValuedOk, ChosenOk, MeantOk, Keeps, any_keeps, then_keeps, made_keeps, wants_keeps, named_d, tree_ok, find_has}
use Rattle.law_spelling_stmts.proofs.Calls.{PhraseOk, ArePhrases, call_procedure_keeps, call_variable_keeps, call_out_keeps, call_bound_keeps}
use Rattle.law_spelling_stmts.proofs.Functions.{predeclared_keeps}
use Rattle.law_lists.proofs.Lists.{Anything, IfThere}

-- ---- variables and guards

variable_ok : (k : Setting) (v : Variable) (t : TypeRef) (b : Bool) → PlaceOk k (variable_at v t b)
variable_ok k v t b = named_d k _ (OfVariable v t) (view_variable v t) tt

guarded_ok : (k : Setting) (p : Place) (g : Guarded × QName) (t : TypeRef) (at : Pos) (b : Bool) → PosFits at → PlaceOk k p → PlaceOk k (guarded_by p g t at b)
guarded_ok k p g t at b f h = named_d k _ (Guard (designator_view p.designator.inner) g.0 g.1 at t) (view_guard p.designator.inner g.0 g.1 at t) (h, f)

with_guard_keeps : (k : Setting) (map : Map) (at : Pos) → PosFits at → (p : Place) (o : Option (Guarded × QName)) (t : TypeRef) → PlaceOk k p → Keeps (PlaceOk k) (with_guard map at p o t)
with_guard_keeps k map at f p None t h = tt
with_guard_keeps k map at f p (Some g) t h = guarded_ok k p g t at false f h

guard_if_keeps : (k : Setting) (map : Map) (at : Pos) → PosFits at → (p : Place) (o : Option TypeRef) → PlaceOk k p → Keeps (PlaceOk k) (guard_if map at p o)
guard_if_keeps k map at f p None h = tt
guard_if_keeps k map at f p (Some t) h = with_guard_keeps k map at f p (guard_of map p t) t h

same_keeps : (k : Setting) (map : Map) (b : Bool) (at : Pos) → PosFits at → (j : Judged Place) (o : Option TypeRef) → Keeps (PlaceOk k) j → Keeps (PlaceOk k) (guard_same b map at j o)
same_keeps k map true at f j o h = then_keeps (PlaceOk k) (PlaceOk k) j (λ q. guard_if map at q o) h (λ q r. guard_if_keeps k map at f q o r)
same_keeps k map false at f j o h = h

guards_keep : (k : Setting) (map : Map) (at : Pos) → PosFits at → (v : Variable) (gs : List (Variable × Option TypeRef)) (j : Judged Place) → Keeps (PlaceOk k) j → Keeps (PlaceOk k) (with_guards map at v gs j)
guards_keep k map at f v [] j h = h
guards_keep k map at f v (g ∷ gs) j h = guards_keep k map at f v gs (guard_same (same_variable v g.0) map at j g.1) (same_keeps k map (same_variable v g.0) at f j g.1 h)

pub variable_keeps : (k : Setting) (u : Around) (at : Pos) → PosFits at → (v : Variable) (t : TypeRef) (b : Bool) → Keeps (PlaceOk k) (variable_named u at v t b)
variable_keeps k u at f v t b = guards_keep k (map_of u) at f v u.guards (sound (variable_at v t b)) (variable_ok k v t b)

guard_keeps : (k : Setting) (map : Map) (at : Pos) → PosFits at → (p : Place) (t : TypeRef) → PlaceOk k p → Keeps (MeantOk k) (guard map at p t)
guard_keeps k map at f p t h = then_keeps Anything (MeantOk k) (found_or rule.UnfitTypeTest at (guard_of map p t)) _ (any_keeps (found_or rule.UnfitTypeTest at (guard_of map p t))) (λ g q. guarded_ok k p g t at true f h)

-- ---- dereferences, indices and fields

deref_ok : (k : Setting) (p : Place) (at : Pos) (t : TypeRef) (b : Bool) → PosFits at → PlaceOk k p → PlaceOk k (dereferenced p at t b)
deref_ok k p at t b f h = named_d k _ (Deref (designator_view p.designator.inner) at t) (view_deref p.designator.inner at t) (h, f)

held_keeps : (k : Setting) (b : Bool) (p : Place) → PlaceOk k p → Keeps (PlaceOk k) (if_so_held b p)
held_keeps k true p h = h
held_keeps k false p h = tt

deref_keeps : (k : Setting) (map : Map) (at : Pos) → PosFits at → (p : Place) (o : Option TypeRef) → PlaceOk k p → Keeps (PlaceOk k) (dereference_of map at p o)
deref_keeps k map at f p None h = tt
deref_keeps k map at f p (Some t) h = held_keeps k (is_held map t) (dereferenced p at t true) (deref_ok k p at t true f h)

through_ok : (k : Setting) (b : Bool) (p q : Place) → PlaceOk k p → PlaceOk k q → PlaceOk k (through_if b p q)
through_ok k true p q h g = g
through_ok k false p q h g = h

implicit_keeps : (k : Setting) (map : Map) (w : TypeRef → Bool) (at : Pos) → PosFits at → (p : Place) (o : Option TypeRef) → PlaceOk k p → Keeps (PlaceOk k) (implicitly map w at p o)
implicit_keeps k map w at f p None h = h
implicit_keeps k map w at f p (Some t) h = held_keeps k (is_held map t) (through_if (w t) p (dereferenced p at t false)) (through_ok k (w t) p (dereferenced p at t false) h (deref_ok k p at t false f h))

-- the length of an array, where it has one, is short
abbrev LengthOk : Option ℕ → Type 0
LengthOk o = IfSome o (λ n. n < 2 ^ 31)

indexed_ok : (k : Setting) (p : Place) (at : Pos) (i : Valued) (a : Option ℕ × TypeRef) → PosFits at → LengthOk a.0 → PlaceOk k p → ValuedOk k i → PlaceOk k (indexed p at i a)
indexed_ok k p at i a f n h g = named_d k _ (AnIndex (designator_view p.designator.inner) a.0 (expr_view (tree i)) at a.1) (view_index p.designator.inner a.0 (tree i) at a.1) (h, (tree_ok k i g, (f, n)))

length_ok : (k : Setting) (u : Around) → k.Stands u → (t e : TypeRef) (o : Option ℕ) → array_of (map_of u) t ≡ Some (o, e) → LengthOk o
length_ok k u s t e None i = tt
length_ok k u s t e (Some n) i = k.lengths u s t e n i

into_keeps : (k : Setting) (u : Around) → k.Stands u → (at : Pos) → PosFits at → (p : Place) (i : Judged Valued) (o : Option (Option ℕ × TypeRef)) → array_of (map_of u) p.of ≡ o → PlaceOk k p → Keeps (ValuedOk k) i → Keeps (PlaceOk k) (index_into (map_of u) at p i o)
into_keeps k u s at f p i None e h g = tt
into_keeps k u s at f p i (Some a) e h g = then_keeps (ValuedOk k) (PlaceOk k) i _ g (λ x q. wants_keeps (PlaceOk k) (is_integer (map_of u) x) rule.UnfitSelector at (indexed p at x a) (indexed_ok k p at x a f (length_ok k u s p.of a.1 a.0 e) h q))

index_if_keeps : (k : Setting) (o : Option Place) (i : Judged Valued) (f : Place → Judged Place) → IfThere (PlaceOk k) o → ((p : Place) → PlaceOk k p → Keeps (PlaceOk k) (f p)) → Keeps (PlaceOk k) (index_if o i f)
index_if_keeps k None i f h g = tt
index_if_keeps k (Some p) i f h g = g p h

index_keeps : (k : Setting) (u : Around) → k.Stands u → (at : Pos) → PosFits at → (p : Place) (i : Judged Valued) → PlaceOk k p → Keeps (ValuedOk k) i → Keeps (PlaceOk k) (index (map_of u) at p i)
index_keeps k u s at f p i h g =
    let map = map_of u in
    index_if_keeps k (implicitly map (is_array map) at p (pointed map p.of)).node i (λ q. index_into map at q i (array_of map q.of)) (implicit_keeps k map (is_array map) at f p (pointed map p.of) h) (λ q r. into_keeps k u s at f q i (array_of map q.of) refl r g)

field_ok : (k : Setting) (u : Around) (p : Place) (owner : QName) (f : Field) → PlaceOk k p → PlaceOk k (field_of u p owner f)
field_ok k u p owner f h = named_d k _ (AField_ (designator_view p.designator.inner) owner f.name f.of) (view_field p.designator.inner owner f.name f.of) h

-- ---- members

bound_keeps : (k : Setting) (r : Receiver) (b : Bool) (at : Pos) (c : Chosen) → ChosenOk k c → Keeps (MeantOk k) (with_receiver r b at c)
bound_keeps k receiver.Pointer true at c h = h
bound_keeps k receiver.Pointer false at c h = tt
bound_keeps k receiver.Record b at c h = h

found_member : (k : Setting) (u : Around) (start at : Pos) → PosFits start → (p q : Place) (t : Option TypeRef) (rec : QName) (m : Member) → PlaceOk k p → PlaceOk k q → Keeps (MeantOk k) (member_found u start at p q t rec m)
found_member k u start at f p q t rec (AField owner g) h i = field_ok k u q owner g i
found_member k u start at f p q t rec (AMethod owner m) h i = bound_keeps k m.receiver (is_some t) at (chosen start p t rec owner m) (record { receiver = h; start = f })

not_there_keeps : (k : Setting) (b c : Bool) (start : Pos) (x : Ident) → Keeps (MeantOk k) (not_there b c start x)
not_there_keeps k true true start x = tt
not_there_keeps k true false start x = tt
not_there_keeps k false c start x = tt

member_keeps : (k : Setting) (u : Around) (start at : Pos) → PosFits start → (x : Ident) (p q : Place) (t : Option TypeRef) (rec : QName) (last : Bool) (o : Option Member) → PlaceOk k p → PlaceOk k q → Keeps (MeantOk k) (member_of u start at x p q t rec last o)
member_keeps k u start at f x p q t rec last None h g = not_there_keeps k (comes u rec x.name) last start x
member_keeps k u start at f x p q t rec last (Some m) h g = found_member k u start at f p q t rec m h g

select_of_keeps : (k : Setting) (u : Around) (start at : Pos) → PosFits start → (x : Ident) (p q : Place) (t : Option TypeRef) (last : Bool) (o : Option QName) → PlaceOk k p → PlaceOk k q → Keeps (MeantOk k) (select_of u start at x p q t last o)
select_of_keeps k u start at f x p q t last None h g = tt
select_of_keeps k u start at f x p q t last (Some rec) h g = member_keeps k u start at f x p q t rec last (member (map_of u) rec x.name) h g

select_keeps : (k : Setting) (u : Around) (start at : Pos) → PosFits start → PosFits at → (x : Ident) (p : Place) (last : Bool) → PlaceOk k p → Keeps (MeantOk k) (select u start at x p last)
select_keeps k u start at f g x p last h =
    let o = pointed (map_of u) p.of in
    then_keeps (PlaceOk k) (MeantOk k) (implicitly (map_of u) (λ t. true) at p o) (λ q. select_of u start at x p q o last (record_of (map_of u) q.of)) (implicit_keeps k (map_of u) (λ t. true) at g p o h) (λ q i. select_of_keeps k u start at f x p q o last (record_of (map_of u) q.of) h i)

super_of_keeps : (k : Setting) (at : Pos) (c : Chosen) (base : QName) (o : Option Member) → ChosenOk k c → Keeps (MeantOk k) (super_of at c base o)
super_of_keeps k at c base None h = tt
super_of_keeps k at c base (Some (AField owner f)) h = tt
super_of_keeps k at c base (Some (AMethod owner m)) h = record { receiver = h.receiver; start = h.start }

super_in_keeps : (k : Setting) (map : Map) (at : Pos) (c : Chosen) (o : Option QName) → ChosenOk k c → Keeps (MeantOk k) (super_in map at c o)
super_in_keeps k map at c None h = tt
super_in_keeps k map at c (Some base) h = super_of_keeps k at c base (member map base c.method.name) h

super_if_keeps : (k : Setting) (map : Map) (b : Bool) (at : Pos) (c : Chosen) (owner : QName) → ChosenOk k c → Keeps (MeantOk k) (super_if b map at c owner)
super_if_keeps k map true at c owner h = super_in_keeps k map at c (base_record map owner) h
super_if_keeps k map false at c owner h = tt

super_keeps : (k : Setting) (map : Map) (at : Pos) (c : Chosen) (o : Option Received) → ChosenOk k c → Keeps (MeantOk k) (super map at c o)
super_keeps k map at c None h = tt
super_keeps k map at c (Some r) h = super_if_keeps k map (same_variable c.receiver.root r.variable && not c.receiver.selected) at c r.owner h

-- ---- selectors

abbrev pub BehindOk : Setting → Behind → Type 0
BehindOk k (Dot at x) = PosFits at
BehindOk k (Index at i) = PosFits at × PhraseOk k i
BehindOk k (Up at) = PosFits at
BehindOk k (Round at ps) = PosFits at × ArePhrases k ps

as_call_keeps : (k : Setting) (j : Judged Valued) → Keeps (ValuedOk k) j → Keeps (MeantOk k) (as_call j)
as_call_keeps k j h = then_keeps (ValuedOk k) (MeantOk k) j (λ v. sound (means.Call v)) h (λ v q. q)

place_round_keeps : (k : Setting) (u : Around) → k.Stands u → (w : Where) (start at : Pos) → PosFits start → PosFits at → (p : Place) (ps : List Phrase) → ArePhrases k ps → PlaceOk k p → (q : Option Qualident) (s : Option Signature) → Keeps (MeantOk k) (place_round u w start at p ps q s)
place_round_keeps k u st w start at f i p ps g h (Some q) s = then_keeps Anything (MeantOk k) (type_named u q) (guard (map_of u) at p) (any_keeps (type_named u q)) (λ t r. guard_keeps k (map_of u) at i p t h)
place_round_keeps k u st w start at f i p ps g h None (Some s) = as_call_keeps k (call_variable u w start p s ps) (call_variable_keeps k u st w start f p s ps g h)
place_round_keeps k u st w start at f i p ps g h None None = tt

pub call_meant_keeps : (k : Setting) (u : Around) → k.Stands u → (w : Where) (start : Pos) → PosFits start → (m : Meant) (ps : List Phrase) → ArePhrases k ps → MeantOk k m → Keeps (MeantOk k) (call_meant u w start m ps)
call_meant_keeps k u st w start f (means.Procedure q s) ps g h = as_call_keeps k (call_procedure u w start q s ps) (call_procedure_keeps k u st w start f q s ps g)
call_meant_keeps k u st w start f (means.Bound c) ps g h = as_call_keeps k (call_bound u w start c ps) (call_bound_keeps k u st w start f c ps g h)
call_meant_keeps k u st w start f (means.Out p) ps g h = as_call_keeps k (call_out u w start p ps) (call_out_keeps k u st w start f p ps g)
call_meant_keeps k u st w start f (means.Predeclared p) ps g h = predeclared_keeps k u st w start f p ps g
call_meant_keeps k u st w start f m ps g h = tt

other_round_keeps : (k : Setting) (u : Around) → k.Stands u → (w : Where) (start at : Pos) → PosFits start → (m : Meant) (ps : List Phrase) → ArePhrases k ps → MeantOk k m → (q : Option Qualident) (a b c : Bool) → Keeps (MeantOk k) (other_round u w start at m ps q a b c)
other_round_keeps k u st w start at f m ps g h q true b c = call_meant_keeps k u st w start f m ps g h
other_round_keeps k u st w start at f m ps g h (Some q) false true c = then_keeps Anything (MeantOk k) (type_named u q) _ (any_keeps (type_named u q)) (λ t r. tt)
other_round_keeps k u st w start at f m ps g h (Some q) false false c = tt
other_round_keeps k u st w start at f m ps g h None false b true = call_meant_keeps k u st w start f m ps g h
other_round_keeps k u st w start at f m ps g h None false b false = tt

dot_keeps : (k : Setting) (u : Around) (start at : Pos) → PosFits start → PosFits at → (x : Ident) (last : Bool) (m : Meant) → MeantOk k m → Keeps (MeantOk k) (step_dot u start at x last m)
dot_keeps k u start at f g x last (means.Place p) h = select_keeps k u start at f g x p last h
dot_keeps k u start at f g x last m h = tt

index_step_keeps : (k : Setting) (u : Around) → k.Stands u → (at : Pos) → PosFits at → (i : Judged Valued) (m : Meant) → MeantOk k m → Keeps (ValuedOk k) i → Keeps (MeantOk k) (step_index (map_of u) at i m)
index_step_keeps k u s at f i (means.Place p) h g = then_keeps (PlaceOk k) (MeantOk k) (index (map_of u) at p i) (λ q. sound (means.Place q)) (index_keeps k u s at f p i h g) (λ q r. r)
index_step_keeps k u s at f i m h g = tt

up_keeps : (k : Setting) (u : Around) (at : Pos) → PosFits at → (m : Meant) → MeantOk k m → Keeps (MeantOk k) (step_up u at m)
up_keeps k u at f (means.Place p) h = then_keeps (PlaceOk k) (MeantOk k) (dereference (map_of u) at p) (λ q. sound (means.Place q)) (deref_keeps k (map_of u) at f p (pointed (map_of u) p.of) h) (λ q r. r)
up_keeps k u at f (means.Bound c) h = super_keeps k (map_of u) at c u.receiver h
up_keeps k u at f m h = tt

round_keeps : (k : Setting) (u : Around) → k.Stands u → (w : Where) (start at : Pos) → PosFits start → PosFits at → (ps : List Phrase) → ArePhrases k ps → (m : Meant) → MeantOk k m → Keeps (MeantOk k) (step_round u w start at ps m)
round_keeps k u st w start at f i ps g (means.Place p) h = place_round_keeps k u st w start at f i p ps g h (type_in_round u ps) (signature_at (map_of u) p.of)
round_keeps k u st w start at f i ps g m h = other_round_keeps k u st w start at f m ps g h (type_in_round u ps) (takes_type m) (is_guardable m) (is_callable m)

step_keeps : (k : Setting) (u : Around) → k.Stands u → (w : Where) (start : Pos) → PosFits start → (m : Meant) → MeantOk k m → (b : Behind) → BehindOk k b → (last : Bool) → Keeps (MeantOk k) (step u w start m b last)
step_keeps k u st w start f m h (Dot at x) g last = dot_keeps k u start at f g x last m h
step_keeps k u st w start f m h (Index at i) g last = index_step_keeps k u st at g.0 (i.value u) m h (g.1.value u st)
step_keeps k u st w start f m h (Up at) g last = up_keeps k u at g m h
step_keeps k u st w start f m h (Round at ps) g last = round_keeps k u st w start at f g.0 ps g.1 m h

on_keeps : (k : Setting) (u : Around) (bs : List Behind) (f : Meant → Judged Meant) (o : Option Meant) → IfThere (MeantOk k) o → ((m : Meant) → MeantOk k m → Keeps (MeantOk k) (f m)) → Keeps (MeantOk k) (go_on_with u bs f o)
on_keeps k u bs f None h g = tt
on_keeps k u bs f (Some m) h g = g m h

through_keeps : (k : Setting) (u : Around) → k.Stands u → (w : Where) (start : Pos) → PosFits start → (bs : List Behind) → AllByRecursion (BehindOk k) bs → (m : Meant) → MeantOk k m → Keeps (MeantOk k) (through u w start bs m)
through_keeps k u st w start f [] g m h = h
through_keeps k u st w start f (b ∷ bs) g m h = on_keeps k u bs (λ n. through u w start bs n) (step u (where_of w (nothing_behind bs)) start m b (nothing_behind bs)).node (step_keeps k u st (where_of w (nothing_behind bs)) start f m h b g.0 (nothing_behind bs)) (λ n q. through_keeps k u st w start f bs g.1 n q)

-- ---- the name at the front

unless_is : (m : Mark) (d e : Desc) → unless_hidden m d ≡ Some e → d ≡ e
unless_is mark.Hidden d e h = absurd cc
unless_is mark.Full d e h = cc
unless_is mark.ReadOnly d e h = cc

shown_desc : (d e : Desc) → record_unless_hidden d ≡ Some e → d ≡ e
shown_desc (desc.Const v) e h = cc
shown_desc (desc.Var m t) e h = unless_is m (desc.Var m t) e h
shown_desc (desc.Proc s) e h = cc
shown_desc (desc.Alias m t) e h = unless_is m (desc.Alias m t) e h
shown_desc (desc.Array m n t) e h = unless_is m (desc.Array m n t) e h
shown_desc (desc.OpenArray m t) e h = unless_is m (desc.OpenArray m t) e h
shown_desc (desc.Pointer m t) e h = unless_is m (desc.Pointer m t) e h
shown_desc (desc.ProcType m s) e h = unless_is m (desc.ProcType m s) e h
shown_desc (desc.Record r) e h = unless_is r.mark (desc.Record r) e h

shown_is : (o : Option Desc) (e : Desc) → shown_of o ≡ Some e → o ≡ Some e
shown_is None e h = absurd cc
shown_is (Some d) e h = ap (λ x. Some x) (shown_desc d e h)

export_keeps : (q : QName) (at : Pos) (o p : Option Desc) → shown_of p ≡ o → Keeps (λ (e : QName × Desc). p ≡ Some e.1) (export_known q at o)
export_keeps q at None p h = tt
export_keeps q at (Some d) p h = shown_is p d h

of_variable_keeps : (k : Setting) (j : Judged Place) → Keeps (PlaceOk k) j → Keeps (MeantOk k) (of_variable j)
of_variable_keeps k j h = then_keeps (PlaceOk k) (MeantOk k) j (λ q. sound (means.Place q)) h (λ q r. r)

exported_keeps : (k : Setting) (u : Around) → k.Stands u → (start at : Pos) → PosFits start → (m x : List ℕ) (d : Desc) → u.shown (record { «module» = m; object = x }) ≡ Some d → Keeps (MeantOk k) (exported_meant u start at m x d)
exported_keeps k u s start at f m x (desc.Const v) h = k.constants u s (record { «module» = m; object = x }) v h
exported_keeps k u s start at f m x (desc.Var a t) h = of_variable_keeps k (variable_named u start (variable.Module m x) t _) (variable_keeps k u start f (variable.Module m x) t _)
exported_keeps k u s start at f m x (desc.Proc g) h = tt
exported_keeps k u s start at f m x d h = tt

out_keeps : (k : Setting) (at : Pos) (o : Option OutProcedure) → Keeps (MeantOk k) (out_meant at o)
out_keeps k at None = tt
out_keeps k at (Some p) = tt

in_module_keeps : (k : Setting) (u : Around) → k.Stands u → (start : Pos) → PosFits start → (m : List ℕ) (x : Ident) (b : Bool) → Keeps (MeantOk k) (in_module b u start m x)
in_module_keeps k u st start f m x true = out_keeps k x.pos (out_procedure x.name)
in_module_keeps k u st start f m x false =
    let q : QName = record { «module» = m; object = x.name } in
    then_keeps (λ (d : QName × Desc). u.shown q ≡ Some d.1) (MeantOk k) (exported u m x) (λ d. exported_meant u start x.pos m x.name d.1)
    (export_keeps q x.pos (shown_of (u.shown q)) (u.shown q) refl) (λ d h. exported_keeps k u st start x.pos f m x.name d.1 h)

module_front_keeps : (k : Setting) (u : Around) → k.Stands u → (start : Pos) → PosFits start → (m : List ℕ) (o : Option Ident) → Keeps (MeantOk k) (module_front u start m o)
module_front_keeps k u st start f m None = tt
module_front_keeps k u st start f m (Some y) = in_module_keeps k u st start f m y (is_out m)

front_of_keeps : (k : Setting) (u : Around) → k.Stands u → (x : Ident) → PosFits x.pos → (e : Entity) → EntityOk e → (o : Option Ident) → Keeps (MeantOk k) (front_of u x e o)
front_of_keeps k u st x f (entity.Constant v) h o = h
front_of_keeps k u st x f (entity.Variable v t) h o = of_variable_keeps k (variable_named u x.pos v t false) (variable_keeps k u x.pos f v t false)
front_of_keeps k u st x f (entity.Procedure q s) h o = tt
front_of_keeps k u st x f (entity.Forward q s) h o = tt
front_of_keeps k u st x f (entity.Predeclared p) h o = tt
front_of_keeps k u st x f (entity.Module m) h o = module_front_keeps k u st x.pos f m o
front_of_keeps k u st x f e h o = tt

variable_known_keeps : (b : Bool) (at : Pos) (e : Entity) → EntityOk e → Keeps EntityOk (variable_known b at e)
variable_known_keeps true at e h = tt
variable_known_keeps false at e h = h

entity_keeps : (u : Around) (at : Pos) (scope : ℕ) (e : Entity) → EntityOk e → Keeps EntityOk (entity_known u at scope e)
entity_keeps u at scope entity.LeftOut h = tt
entity_keeps u at scope entity.Unsound h = tt
entity_keeps u at scope (entity.Variable v t) h = variable_known_keeps (is_enclosing u scope) at (entity.Variable v t) h
entity_keeps u at scope e h = h

name_keeps : (u : Around) (at : Pos) (o : Option Known) → IfThere (λ (n : Known). EntityOk n.what) o → Keeps EntityOk (name_known u at o)
name_keeps u at None h = tt
name_keeps u at (Some x) h = entity_keeps u at x.scope x.what h

pub named_keeps : (k : Setting) (u : Around) → k.Stands u → (x : Ident) → Keeps EntityOk (named u x)
named_keeps k u st x = name_keeps u x.pos (find_name u.known x.name) (find_has (λ (n : Known). EntityOk n.what) (λ n. bytes_eq n.name x.name) u.known (k.known u st))

behind_all : (k : Setting) (b : Bool) (bs : List Behind) → AllByRecursion (BehindOk k) bs → AllByRecursion (BehindOk k) (behind b bs)
behind_all k true [] g = tt
behind_all k true (b ∷ bs) g = g.1
behind_all k false bs g = g

abbrev FrontOk : Setting → Meant × List Behind → Type 0
FrontOk k m = MeantOk k m.0 × AllByRecursion (BehindOk k) m.1

front_keeps : (k : Setting) (u : Around) → k.Stands u → (x : Ident) → PosFits x.pos → (bs : List Behind) → AllByRecursion (BehindOk k) bs → Keeps (FrontOk k) (front u x bs (named u x))
front_keeps k u st x f bs g =
    then_keeps EntityOk (FrontOk k) (named u x) (λ e. made (λ m. (m, behind (is_module e) bs)) (front_of u x e (dot_of bs))) (named_keeps k u st x)
    (λ e h. made_keeps (MeantOk k) (FrontOk k) (λ m. (m, behind (is_module e) bs)) (front_of u x e (dot_of bs)) (front_of_keeps k u st x f e h (dot_of bs)) (λ m q. (q, behind_all k (is_module e) bs g)))

pub designates_keeps : (k : Setting) (u : Around) → k.Stands u → (w : Where) (x : Ident) → PosFits x.pos → (bs : List Behind) → AllByRecursion (BehindOk k) bs → Keeps (MeantOk k) (designates u w x bs)
designates_keeps k u st w x f bs g = with_node (front u x bs (named u x)).node (front_keeps k u st x f bs g)
  where
    with_node : (o : Option (Meant × List Behind)) → IfThere (FrontOk k) o → Keeps (MeantOk k) (from_front_with u w x.pos bs o)
    with_node None q = tt
    with_node (Some m) q = through_keeps k u st w x.pos f m.1 q.1 m.0 q.0
