-- Designators name variables that are there.
use Rattle.std.proofs.Common.{◌≡◌, ℕ, Bool, true, false, List, [], ◌∷◌, map, Option, Some, None, refl}
use Rattle.std.specs.Prelude.{is_some, not, ◌&&◌}
use Rattle.std.specs.List.{AllByRecursion}
use Rattle.ob_tree.specs.declared.pos.Pos.{Pos}
use Rattle.ob_tree.specs.declared.names.QName.{QName}
use Rattle.ob_tree.specs.declared.ident.Ident.{Ident}
use Rattle.ob_tree.specs.declared.ident.Qualident.{Qualident}
use Rattle.ob_types.specs.declared.types.TypeRef.{TypeRef}
use Rattle.ob_types.specs.declared.types.Signature.{Signature}
use Rattle.ob_types.specs.declared.desc.Desc.{Desc}
use Rattle.ob_types.specs.declared.desc.Desc.TheVariants as desc
use Rattle.ob_types.specs.declared.desc.Field.{Field}
use Rattle.ob_types.specs.declared.desc.Receiver.{Receiver}
use Rattle.ob_types.specs.declared.desc.Receiver.TheVariants as receiver
use Rattle.ob_types.specs.declared.typed.Variable.{Variable}
use Rattle.ob_types.specs.declared.typed.Variable.TheVariants as variable
use Rattle.ob_types.specs.declared.typed.Guarded.{Guarded}
use Rattle.ob_types.specs.declared.typed.OutProcedure.{OutProcedure}
use Rattle.ob_types.specs.TypedSyntax.{OfVariable, Field as AField_, Index as AnIndex, Deref, Guard}
use Rattle.ob_types.specs.TypedView.{designator_view, expr_view}
use Rattle.ob_types.proofs.TypedViews.{view_variable, view_field, view_index, view_deref, view_guard}
use Rattle.ob_scheme.specs.Context.{Context}
use Rattle.ob_rules.specs.declared.entity.Entity.{Entity}
use Rattle.ob_rules.specs.declared.entity.Known.{Known}
use Rattle.ob_rules.specs.declared.entity.Received.{Received}
use Rattle.ob_rules.specs.declared.entity.Entity.TheVariants as entity
use Rattle.ob_rules.specs.declared.values.Place.{Place}
use Rattle.ob_rules.specs.declared.values.Valued.{Valued}
use Rattle.ob_rules.specs.declared.meant.Chosen.{Chosen}
use Rattle.ob_rules.specs.declared.meant.Meant.{Meant}
use Rattle.ob_rules.specs.declared.meant.Meant.TheVariants as means
use Rattle.ob_rules.specs.declared.meant.Where.{Where}
use Rattle.ob_rules.specs.declared.broken.Rule.TheVariants as rule
use Rattle.ob_rules.specs.Judged.{Judged, sound, found_or, made}
use Rattle.ob_rules.specs.Shapes.{Map, Member, AField, AMethod, member, pointed, record_of, array_of, is_array, is_held, signature_at, base_record}
use Rattle.ob_rules.specs.Names.{Around, map_of, find_name, is_enclosing, variable_known, entity_known, name_known, named, exported, is_out, out_procedure, type_named}
use Rattle.ob_rules.specs.Values.{is_integer, tree}
use Rattle.ob_rules.specs.Phrases.{dereferenced, Phrase, Behind, Dot, Index, Up, Round}
use Rattle.ob_rules.specs.Calls.{call_procedure, call_variable, call_out, call_bound}
use Rattle.ob_rules.specs.Designators.{variable_at, guard_of, guarded_by, with_guard, guard_if, guard_same, same_variable, with_guards, variable_named, guard, if_so_held, dereference_of, dereference, through_if, implicitly, is_read_only, indexed, index_into, index_if, index, field_of, chosen, with_receiver, not_there, comes, member_found, member_of, select_of, select, super_of, super_in, super_if, super, type_in_round, as_call, place_round, call_meant, takes_type, is_callable, is_guardable, other_round, step_dot, step_index, step_up, step_round, step, where_of, nothing_behind, go_on_with, go_on, through, of_variable, exported_meant, out_meant, in_module, dot_of, module_front, front_of, is_module, behind, front, from_front_with, designates}
use Rattle.law_image_code.specs.Fits.{IsThere}
use Rattle.law_program_scope.proofs.Setting.{Stands, EntityOk, PlaceOk, ValuedOk, MeantOk, Keeps, any_keeps, then_keeps, made_keeps, wants_keeps, named_d, tree_ok}
use Rattle.law_program_scope.proofs.Calls.{PhraseOk, ArePhrases, call_procedure_keeps, call_variable_keeps, call_out_keeps, call_bound_keeps}
use Rattle.law_program_scope.proofs.Functions.{predeclared_keeps}
use Rattle.law_lists.proofs.Lists.{Anything, IfThere}

-- ---- variables and guards

variable_ok : (k : Context) (v : Variable) (t : TypeRef) (b : Bool) → IsThere k v → PlaceOk k (variable_at v t b)
variable_ok k v t b h = (named_d k _ (OfVariable v t) (view_variable v t) h, h)

guarded_ok : (k : Context) (p : Place) (g : Guarded × QName) (t : TypeRef) (at : Pos) (b : Bool) → PlaceOk k p → PlaceOk k (guarded_by p g t at b)
guarded_ok k p g t at b h = (named_d k _ (Guard (designator_view p.designator.inner) g.0 g.1 at t) (view_guard p.designator.inner g.0 g.1 at t) h.0, h.1)

with_guard_keeps : (k : Context) (map : Map) (at : Pos) (p : Place) (o : Option (Guarded × QName)) (t : TypeRef) → PlaceOk k p → Keeps (PlaceOk k) (with_guard map at p o t)
with_guard_keeps k map at p None t h = tt
with_guard_keeps k map at p (Some g) t h = guarded_ok k p g t at false h

guard_if_keeps : (k : Context) (map : Map) (at : Pos) (p : Place) (o : Option TypeRef) → PlaceOk k p → Keeps (PlaceOk k) (guard_if map at p o)
guard_if_keeps k map at p None h = tt
guard_if_keeps k map at p (Some t) h = with_guard_keeps k map at p (guard_of map p t) t h

same_keeps : (k : Context) (b : Bool) (map : Map) (at : Pos) (j : Judged Place) (o : Option TypeRef) → Keeps (PlaceOk k) j → Keeps (PlaceOk k) (guard_same b map at j o)
same_keeps k true map at j o h = then_keeps (PlaceOk k) (PlaceOk k) j (λ q. guard_if map at q o) h (λ q r. guard_if_keeps k map at q o r)
same_keeps k false map at j o h = h

guards_keep : (k : Context) (map : Map) (at : Pos) (v : Variable) (gs : List (Variable × Option TypeRef)) (j : Judged Place) → Keeps (PlaceOk k) j → Keeps (PlaceOk k) (with_guards map at v gs j)
guards_keep k map at v [] j h = h
guards_keep k map at v (g ∷ gs) j h = guards_keep k map at v gs (guard_same (same_variable v g.0) map at j g.1) (same_keeps k (same_variable v g.0) map at j g.1 h)

pub variable_keeps : (k : Context) (u : Around) (at : Pos) (v : Variable) (t : TypeRef) (b : Bool) → IsThere k v → Keeps (PlaceOk k) (variable_named u at v t b)
variable_keeps k u at v t b h = guards_keep k (map_of u) at v u.guards (sound (variable_at v t b)) (variable_ok k v t b h)

guard_keeps : (k : Context) (map : Map) (at : Pos) (p : Place) (t : TypeRef) → PlaceOk k p → Keeps (MeantOk k) (guard map at p t)
guard_keeps k map at p t h = then_keeps Anything (MeantOk k) (found_or rule.UnfitTypeTest at (guard_of map p t)) _ (any_keeps (found_or rule.UnfitTypeTest at (guard_of map p t))) (λ g q. guarded_ok k p g t at true h)

-- ---- dereferences, indices and fields

deref_ok : (k : Context) (p : Place) (at : Pos) (t : TypeRef) (b : Bool) → PlaceOk k p → PlaceOk k (dereferenced p at t b)
deref_ok k p at t b h = (named_d k _ (Deref (designator_view p.designator.inner) at t) (view_deref p.designator.inner at t) h.0, h.1)

held_keeps : (k : Context) (b : Bool) (p : Place) → PlaceOk k p → Keeps (PlaceOk k) (if_so_held b p)
held_keeps k true p h = h
held_keeps k false p h = tt

deref_keeps : (k : Context) (map : Map) (at : Pos) (p : Place) (o : Option TypeRef) → PlaceOk k p → Keeps (PlaceOk k) (dereference_of map at p o)
deref_keeps k map at p None h = tt
deref_keeps k map at p (Some t) h = held_keeps k (is_held map t) (dereferenced p at t true) (deref_ok k p at t true h)

through_ok : (k : Context) (b : Bool) (p q : Place) → PlaceOk k p → PlaceOk k q → PlaceOk k (through_if b p q)
through_ok k true p q h g = g
through_ok k false p q h g = h

implicit_keeps : (k : Context) (map : Map) (f : TypeRef → Bool) (at : Pos) (p : Place) (o : Option TypeRef) → PlaceOk k p → Keeps (PlaceOk k) (implicitly map f at p o)
implicit_keeps k map f at p None h = h
implicit_keeps k map f at p (Some t) h = held_keeps k (is_held map t) (through_if (f t) p (dereferenced p at t false)) (through_ok k (f t) p (dereferenced p at t false) h (deref_ok k p at t false h))

indexed_ok : (k : Context) (p : Place) (at : Pos) (i : Valued) (a : Option ℕ × TypeRef) → PlaceOk k p → ValuedOk k i → PlaceOk k (indexed p at i a)
indexed_ok k p at i a h g = (named_d k _ (AnIndex (designator_view p.designator.inner) a.0 (expr_view (tree i)) at a.1) (view_index p.designator.inner a.0 (tree i) at a.1) (h.0, tree_ok k i g), h.1)

into_keeps : (k : Context) (map : Map) (at : Pos) (p : Place) (i : Judged Valued) (o : Option (Option ℕ × TypeRef)) → PlaceOk k p → Keeps (ValuedOk k) i → Keeps (PlaceOk k) (index_into map at p i o)
into_keeps k map at p i None h g = tt
into_keeps k map at p i (Some a) h g = then_keeps (ValuedOk k) (PlaceOk k) i _ g (λ x q. wants_keeps (PlaceOk k) (is_integer map x) rule.UnfitSelector at (indexed p at x a) (indexed_ok k p at x a h q))

index_if_keeps : (k : Context) (o : Option Place) (i : Judged Valued) (f : Place → Judged Place) → IfThere (PlaceOk k) o → ((p : Place) → PlaceOk k p → Keeps (PlaceOk k) (f p)) → Keeps (PlaceOk k) (index_if o i f)
index_if_keeps k None i f h g = tt
index_if_keeps k (Some p) i f h g = g p h

implicit_node : (k : Context) (map : Map) (f : TypeRef → Bool) (at : Pos) (p : Place) (o : Option TypeRef) → PlaceOk k p → IfThere (PlaceOk k) (implicitly map f at p o).node
implicit_node k map f at p None h = h
implicit_node k map f at p (Some t) h = held (is_held map t) (through_if (f t) p (dereferenced p at t false)) (through_ok k (f t) p (dereferenced p at t false) h (deref_ok k p at t false h))
  where
    held : (b : Bool) (q : Place) → PlaceOk k q → IfThere (PlaceOk k) (if_so_held b q).node
    held true q g = g
    held false q g = tt

index_keeps : (k : Context) (map : Map) (at : Pos) (p : Place) (i : Judged Valued) → PlaceOk k p → Keeps (ValuedOk k) i → Keeps (PlaceOk k) (index map at p i)
index_keeps k map at p i h g = index_if_keeps k (implicitly map (is_array map) at p (pointed map p.of)).node i (λ q. index_into map at q i (array_of map q.of)) (implicit_node k map (is_array map) at p (pointed map p.of) h) (λ q r. into_keeps k map at q i (array_of map q.of) r g)

field_ok : (k : Context) (u : Around) (p : Place) (owner : QName) (f : Field) → PlaceOk k p → PlaceOk k (field_of u p owner f)
field_ok k u p owner f h = (named_d k _ (AField_ (designator_view p.designator.inner) owner f.name f.of) (view_field p.designator.inner owner f.name f.of) h.0, h.1)

-- ---- members

bound_keeps : (k : Context) (r : Receiver) (b : Bool) (at : Pos) (c : Chosen) → PlaceOk k c.receiver → Keeps (MeantOk k) (with_receiver r b at c)
bound_keeps k receiver.Pointer true at c h = h
bound_keeps k receiver.Pointer false at c h = tt
bound_keeps k receiver.Record b at c h = h

found_member : (k : Context) (u : Around) (start at : Pos) (p q : Place) (t : Option TypeRef) (rec : QName) (m : Member) → PlaceOk k p → PlaceOk k q → Keeps (MeantOk k) (member_found u start at p q t rec m)
found_member k u start at p q t rec (AField owner f) h g = field_ok k u q owner f g
found_member k u start at p q t rec (AMethod owner m) h g = bound_keeps k m.receiver (is_some t) at (chosen start p t rec owner m) h

not_there_keeps : (k : Context) (b c : Bool) (start : Pos) (x : Ident) → Keeps (MeantOk k) (not_there b c start x)
not_there_keeps k true true start x = tt
not_there_keeps k true false start x = tt
not_there_keeps k false c start x = tt

member_keeps : (k : Context) (u : Around) (start at : Pos) (x : Ident) (p q : Place) (t : Option TypeRef) (rec : QName) (last : Bool) (o : Option Member) → PlaceOk k p → PlaceOk k q → Keeps (MeantOk k) (member_of u start at x p q t rec last o)
member_keeps k u start at x p q t rec last None h g = not_there_keeps k (comes u rec x.name) last start x
member_keeps k u start at x p q t rec last (Some m) h g = found_member k u start at p q t rec m h g

select_of_keeps : (k : Context) (u : Around) (start at : Pos) (x : Ident) (p q : Place) (t : Option TypeRef) (last : Bool) (o : Option QName) → PlaceOk k p → PlaceOk k q → Keeps (MeantOk k) (select_of u start at x p q t last o)
select_of_keeps k u start at x p q t last None h g = tt
select_of_keeps k u start at x p q t last (Some rec) h g = member_keeps k u start at x p q t rec last (member (map_of u) rec x.name) h g

select_keeps : (k : Context) (u : Around) (start at : Pos) (x : Ident) (p : Place) (last : Bool) → PlaceOk k p → Keeps (MeantOk k) (select u start at x p last)
select_keeps k u start at x p last h =
    let t = pointed (map_of u) p.of in
    then_keeps (PlaceOk k) (MeantOk k) (implicitly (map_of u) (λ t. true) at p t) (λ q. select_of u start at x p q t last (record_of (map_of u) q.of)) (implicit_keeps k (map_of u) (λ t. true) at p t h)
    (λ q g. select_of_keeps k u start at x p q t last (record_of (map_of u) q.of) h g)

super_of_keeps : (k : Context) (at : Pos) (c : Chosen) (base : QName) (o : Option Member) → PlaceOk k c.receiver → Keeps (MeantOk k) (super_of at c base o)
super_of_keeps k at c base None h = tt
super_of_keeps k at c base (Some (AField owner f)) h = tt
super_of_keeps k at c base (Some (AMethod owner m)) h = h

super_in_keeps : (k : Context) (map : Map) (at : Pos) (c : Chosen) (o : Option QName) → PlaceOk k c.receiver → Keeps (MeantOk k) (super_in map at c o)
super_in_keeps k map at c None h = tt
super_in_keeps k map at c (Some base) h = super_of_keeps k at c base (member map base c.method.name) h

super_if_keeps : (k : Context) (b : Bool) (map : Map) (at : Pos) (c : Chosen) (owner : QName) → PlaceOk k c.receiver → Keeps (MeantOk k) (super_if b map at c owner)
super_if_keeps k true map at c owner h = super_in_keeps k map at c (base_record map owner) h
super_if_keeps k false map at c owner h = tt

super_keeps : (k : Context) (map : Map) (at : Pos) (c : Chosen) (o : Option Received) → PlaceOk k c.receiver → Keeps (MeantOk k) (super map at c o)
super_keeps k map at c None h = tt
super_keeps k map at c (Some r) h = super_if_keeps k (same_variable c.receiver.root r.variable && not c.receiver.selected) map at c r.owner h

-- ---- selectors

abbrev pub BehindOk : Context → Behind → Type 0
BehindOk k (Dot at x) = Unit {0}
BehindOk k (Index at i) = PhraseOk k i
BehindOk k (Up at) = Unit {0}
BehindOk k (Round at ps) = ArePhrases k ps

as_call_keeps : (k : Context) (j : Judged Valued) → Keeps (ValuedOk k) j → Keeps (MeantOk k) (as_call j)
as_call_keeps k j h = then_keeps (ValuedOk k) (MeantOk k) j (λ v. sound (means.Call v)) h (λ v q. q)

place_round_keeps : (k : Context) (u : Around) → Stands k u → (w : Where) (start at : Pos) (p : Place) (ps : List Phrase) → ArePhrases k ps → PlaceOk k p → (q : Option Qualident) (s : Option Signature) → Keeps (MeantOk k) (place_round u w start at p ps q s)
place_round_keeps k u st w start at p ps g h (Some q) s = then_keeps Anything (MeantOk k) (type_named u q) (guard (map_of u) at p) (any_keeps (type_named u q)) (λ t r. guard_keeps k (map_of u) at p t h)
place_round_keeps k u st w start at p ps g h None (Some s) = as_call_keeps k (call_variable u w start p s ps) (call_variable_keeps k u st w start p s ps g h)
place_round_keeps k u st w start at p ps g h None None = tt

pub call_meant_keeps : (k : Context) (u : Around) → Stands k u → (w : Where) (start : Pos) (m : Meant) (ps : List Phrase) → ArePhrases k ps → MeantOk k m → Keeps (MeantOk k) (call_meant u w start m ps)
call_meant_keeps k u st w start (means.Procedure q s) ps g h = as_call_keeps k (call_procedure u w start q s ps) (call_procedure_keeps k u st w start q s ps g)
call_meant_keeps k u st w start (means.Bound c) ps g h = as_call_keeps k (call_bound u w start c ps) (call_bound_keeps k u st w start c ps g h)
call_meant_keeps k u st w start (means.Out p) ps g h = as_call_keeps k (call_out u w start p ps) (call_out_keeps k u st w start p ps g)
call_meant_keeps k u st w start (means.Predeclared f) ps g h = predeclared_keeps k u st w start f ps g
call_meant_keeps k u st w start m ps g h = tt

other_round_keeps : (k : Context) (u : Around) → Stands k u → (w : Where) (start at : Pos) (m : Meant) (ps : List Phrase) → ArePhrases k ps → MeantOk k m → (q : Option Qualident) (a b c : Bool) → Keeps (MeantOk k) (other_round u w start at m ps q a b c)
other_round_keeps k u st w start at m ps g h q true b c = call_meant_keeps k u st w start m ps g h
other_round_keeps k u st w start at m ps g h (Some q) false true c = then_keeps Anything (MeantOk k) (type_named u q) _ (any_keeps (type_named u q)) (λ t r. tt)
other_round_keeps k u st w start at m ps g h (Some q) false false c = tt
other_round_keeps k u st w start at m ps g h None false b true = call_meant_keeps k u st w start m ps g h
other_round_keeps k u st w start at m ps g h None false b false = tt

dot_keeps : (k : Context) (u : Around) (start at : Pos) (x : Ident) (last : Bool) (m : Meant) → MeantOk k m → Keeps (MeantOk k) (step_dot u start at x last m)
dot_keeps k u start at x last (means.Place p) h = select_keeps k u start at x p last h
dot_keeps k u start at x last m h = tt

index_step_keeps : (k : Context) (map : Map) (at : Pos) (i : Judged Valued) (m : Meant) → MeantOk k m → Keeps (ValuedOk k) i → Keeps (MeantOk k) (step_index map at i m)
index_step_keeps k map at i (means.Place p) h g = then_keeps (PlaceOk k) (MeantOk k) (index map at p i) (λ q. sound (means.Place q)) (index_keeps k map at p i h g) (λ q r. r)
index_step_keeps k map at i m h g = tt

up_keeps : (k : Context) (u : Around) (at : Pos) (m : Meant) → MeantOk k m → Keeps (MeantOk k) (step_up u at m)
up_keeps k u at (means.Place p) h = then_keeps (PlaceOk k) (MeantOk k) (dereference (map_of u) at p) (λ q. sound (means.Place q)) (deref_keeps k (map_of u) at p (pointed (map_of u) p.of) h) (λ q r. r)
up_keeps k u at (means.Bound c) h = super_keeps k (map_of u) at c u.receiver h
up_keeps k u at m h = tt

round_keeps : (k : Context) (u : Around) → Stands k u → (w : Where) (start at : Pos) (ps : List Phrase) → ArePhrases k ps → (m : Meant) → MeantOk k m → Keeps (MeantOk k) (step_round u w start at ps m)
round_keeps k u st w start at ps g (means.Place p) h = place_round_keeps k u st w start at p ps g h (type_in_round u ps) (signature_at (map_of u) p.of)
round_keeps k u st w start at ps g m h = other_round_keeps k u st w start at m ps g h (type_in_round u ps) (takes_type m) (is_guardable m) (is_callable m)

step_keeps : (k : Context) (u : Around) → Stands k u → (w : Where) (start : Pos) (m : Meant) → MeantOk k m → (b : Behind) → BehindOk k b → (last : Bool) → Keeps (MeantOk k) (step u w start m b last)
step_keeps k u st w start m h (Dot at x) g last = dot_keeps k u start at x last m h
step_keeps k u st w start m h (Index at i) g last = index_step_keeps k (map_of u) at (i.value u) m h (g.0 u st)
step_keeps k u st w start m h (Up at) g last = up_keeps k u at m h
step_keeps k u st w start m h (Round at ps) g last = round_keeps k u st w start at ps g m h

with_node : (k : Context) (u : Around) (bs : List Behind) (f : Meant → Judged Meant) → ((m : Meant) → MeantOk k m → Keeps (MeantOk k) (f m)) → (o : Option Meant) → IfThere (MeantOk k) o → Keeps (MeantOk k) (go_on_with u bs f o)
with_node k u bs f g None h = tt
with_node k u bs f g (Some m) h = g m h

on_keeps : (k : Context) (u : Around) (bs : List Behind) (j : Judged Meant) (f : Meant → Judged Meant) → Keeps (MeantOk k) j → ((m : Meant) → MeantOk k m → Keeps (MeantOk k) (f m)) → Keeps (MeantOk k) (go_on u bs j f)
on_keeps k u bs j f h g = with_node k u bs f g j.node h

through_keeps : (k : Context) (u : Around) → Stands k u → (w : Where) (start : Pos) (bs : List Behind) → AllByRecursion (BehindOk k) bs → (m : Meant) → MeantOk k m → Keeps (MeantOk k) (through u w start bs m)
through_keeps k u st w start [] g m h = h
through_keeps k u st w start (b ∷ bs) g m h = on_keeps k u bs (step u (where_of w (nothing_behind bs)) start m b (nothing_behind bs)) (λ n. through u w start bs n) (step_keeps k u st (where_of w (nothing_behind bs)) start m h b g.0 (nothing_behind bs)) (λ n q. through_keeps k u st w start bs g.1 n q)

-- ---- the name at the front

of_variable_keeps : (k : Context) (j : Judged Place) → Keeps (PlaceOk k) j → Keeps (MeantOk k) (of_variable j)
of_variable_keeps k j h = then_keeps (PlaceOk k) (MeantOk k) j (λ q. sound (means.Place q)) h (λ q r. r)

exported_keeps : (k : Context) (u : Around) (start at : Pos) (m x : List ℕ) (d : Desc) → Keeps (MeantOk k) (exported_meant u start at m x d)
exported_keeps k u start at m x (desc.Const v) = tt
exported_keeps k u start at m x (desc.Var a t) = of_variable_keeps k (variable_named u start (variable.Module m x) t (is_read_only a)) (variable_keeps k u start (variable.Module m x) t (is_read_only a) tt)
exported_keeps k u start at m x (desc.Proc s) = tt
exported_keeps k u start at m x d = tt

out_keeps : (k : Context) (at : Pos) (o : Option OutProcedure) → Keeps (MeantOk k) (out_meant at o)
out_keeps k at None = tt
out_keeps k at (Some p) = tt

in_module_keeps : (k : Context) (u : Around) (start : Pos) (m : List ℕ) (x : Ident) (b : Bool) → Keeps (MeantOk k) (in_module b u start m x)
in_module_keeps k u start m x true = out_keeps k x.pos (out_procedure x.name)
in_module_keeps k u start m x false = then_keeps Anything (MeantOk k) (exported u m x) (λ d. exported_meant u start x.pos m x.name d.1) (any_keeps (exported u m x)) (λ d h. exported_keeps k u start x.pos m x.name d.1)

module_front_keeps : (k : Context) (u : Around) (start : Pos) (m : List ℕ) (o : Option Ident) → Keeps (MeantOk k) (module_front u start m o)
module_front_keeps k u start m None = tt
module_front_keeps k u start m (Some y) = in_module_keeps k u start m y (is_out m)

front_of_keeps : (k : Context) (u : Around) (x : Ident) (e : Entity) → EntityOk k e → (o : Option Ident) → Keeps (MeantOk k) (front_of u x e o)
front_of_keeps k u x (entity.Constant v) h o = tt
front_of_keeps k u x (entity.Variable v t) h o = of_variable_keeps k (variable_named u x.pos v t false) (variable_keeps k u x.pos v t false h)
front_of_keeps k u x (entity.Procedure q s) h o = tt
front_of_keeps k u x (entity.Forward q s) h o = tt
front_of_keeps k u x (entity.Predeclared f) h o = tt
front_of_keeps k u x (entity.Module m) h o = module_front_keeps k u x.pos m o
front_of_keeps k u x e h o = tt

known_keeps : (k : Context) (b : Bool) (at : Pos) (v : Variable) (t : TypeRef) → (b ≡ false → IsThere k v) → Keeps (EntityOk k) (variable_known b at (entity.Variable v t))
known_keeps k true at v t h = tt
known_keeps k false at v t h = h refl

entity_keeps : (k : Context) (u : Around) (at : Pos) (scope : ℕ) (e : Entity) → ((v : Variable) (t : TypeRef) → e ≡ entity.Variable v t → is_enclosing u scope ≡ false → IsThere k v) → Keeps (EntityOk k) (entity_known u at scope e)
entity_keeps k u at scope entity.LeftOut h = tt
entity_keeps k u at scope entity.Unsound h = tt
entity_keeps k u at scope (entity.Variable v t) h = known_keeps k (is_enclosing u scope) at v t (h v t refl)
entity_keeps k u at scope e h = tt

name_keeps : (k : Context) (u : Around) → Stands k u → (x : List ℕ) (at : Pos) (o : Option Known) → find_name u.known x ≡ o → Keeps (EntityOk k) (name_known u at o)
name_keeps k u st x at None e = tt
name_keeps k u st x at (Some n) e = entity_keeps k u at n.scope n.what (λ v t. st.known x n v t e)

pub named_keeps : (k : Context) (u : Around) → Stands k u → (x : Ident) → Keeps (EntityOk k) (named u x)
named_keeps k u st x = name_keeps k u st x.name x.pos (find_name u.known x.name) refl

behind_all : (k : Context) (b : Bool) (bs : List Behind) → AllByRecursion (BehindOk k) bs → AllByRecursion (BehindOk k) (behind b bs)
behind_all k true [] g = tt
behind_all k true (b ∷ bs) g = g.1
behind_all k false bs g = g

front_keeps : (k : Context) (u : Around) → Stands k u → (x : Ident) (bs : List Behind) → AllByRecursion (BehindOk k) bs → Keeps (λ (m : Meant × List Behind). MeantOk k m.0 × AllByRecursion (BehindOk k) m.1) (front u x bs (named u x))
front_keeps k u st x bs g =
    then_keeps (EntityOk k) (λ (m : Meant × List Behind). MeantOk k m.0 × AllByRecursion (BehindOk k) m.1) (named u x) (λ e. made (λ m. (m, behind (is_module e) bs)) (front_of u x e (dot_of bs))) (named_keeps k u st x)
    (λ e h. made_keeps (MeantOk k) (λ (m : Meant × List Behind). MeantOk k m.0 × AllByRecursion (BehindOk k) m.1) (λ m. (m, behind (is_module e) bs)) (front_of u x e (dot_of bs)) (front_of_keeps k u x e h (dot_of bs)) (λ m q. (q, behind_all k (is_module e) bs g)))

from_keeps : (k : Context) (u : Around) → Stands k u → (w : Where) (start : Pos) (bs : List Behind) (o : Option (Meant × List Behind)) → IfThere (λ (m : Meant × List Behind). MeantOk k m.0 × AllByRecursion (BehindOk k) m.1) o → Keeps (MeantOk k) (from_front_with u w start bs o)
from_keeps k u st w start bs None h = tt
from_keeps k u st w start bs (Some m) h = through_keeps k u st w start m.1 h.1 m.0 h.0

pub designates_keeps : (k : Context) (u : Around) → Stands k u → (w : Where) (x : Ident) (bs : List Behind) → AllByRecursion (BehindOk k) bs → Keeps (MeantOk k) (designates u w x bs)
designates_keeps k u st w x bs g = from_keeps k u st w x.pos bs (front u x bs (named u x)).node (front_keeps k u st x bs g)
