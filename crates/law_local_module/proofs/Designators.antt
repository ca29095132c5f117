-- Designators leave nothing for later.
use Rattle.std.proofs.Common.{◌≡◌, refl, ℕ, Bool, true, false, List, [], ◌∷◌, Option, Some, None}
use Rattle.std.specs.Prelude.{◌&&◌, not, is_some}
use Rattle.std.specs.List.{AllByRecursion}
use Rattle.ob_tree.specs.declared.pos.Pos.{Pos}
use Rattle.ob_tree.specs.declared.names.QName.{QName}
use Rattle.ob_tree.specs.declared.ident.Ident.{Ident}
use Rattle.ob_tree.specs.declared.ident.Mark.{Mark}
use Rattle.ob_tree.specs.declared.ident.Mark.TheVariants as mark
use Rattle.ob_tree.specs.declared.ident.Qualident.{Qualident}
use Rattle.ob_types.specs.declared.types.TypeRef.{TypeRef}
use Rattle.ob_types.specs.declared.types.Signature.{Signature}
use Rattle.ob_types.specs.declared.desc.Desc.{Desc}
use Rattle.ob_types.specs.declared.desc.Desc.TheVariants as desc
use Rattle.ob_types.specs.declared.desc.Receiver.{Receiver}
use Rattle.ob_types.specs.declared.desc.Receiver.TheVariants as receiver
use Rattle.ob_types.specs.declared.typed.Guarded.{Guarded}
use Rattle.ob_types.specs.declared.typed.OutProcedure.{OutProcedure}
use Rattle.ob_types.specs.declared.typed.Variable.{Variable}
use Rattle.ob_types.specs.declared.typed.Variable.TheVariants as variable
use Rattle.ob_rules.specs.declared.entity.Entity.{Entity}
use Rattle.ob_rules.specs.declared.entity.Entity.TheVariants as entity
use Rattle.ob_rules.specs.declared.entity.Known.{Known}
use Rattle.ob_rules.specs.declared.entity.Received.{Received}
use Rattle.ob_rules.specs.declared.meant.Chosen.{Chosen}
use Rattle.ob_rules.specs.declared.meant.Meant.{Meant}
use Rattle.ob_rules.specs.declared.meant.Meant.TheVariants as means
use Rattle.ob_rules.specs.declared.meant.Where.{Where}
use Rattle.ob_rules.specs.declared.meant.Where.TheVariants.{InExpression, AsStatement, Elsewhere}
use Rattle.ob_rules.specs.declared.broken.Predeclared.{Predeclared}
use Rattle.ob_rules.specs.declared.values.Place.{Place}
use Rattle.ob_rules.specs.declared.values.Valued.{Valued}
use Rattle.ob_rules.specs.declared.broken.Rule.TheVariants as rule
use Rattle.ob_rules.specs.Judged.{Judged, Notes, if_sound, sound, silent, breaks, wants, found_or, noted, made, ◌▷◌}
use Rattle.ob_rules.specs.Shapes.{Map, Member, AField, AMethod, member, pointed, record_of, array_of, is_array, is_held, signature_at, base_record}
use Rattle.ob_rules.specs.Names.{Around, map_of, find_name, variable_known, is_enclosing, entity_known, name_known, named, unless_hidden, record_unless_hidden, shown_of, export_known, exported, is_out, out_procedure, type_named}
use Rattle.ob_rules.specs.Values.{is_integer}
use Rattle.ob_rules.specs.Phrases.{dereferenced, Phrase, Behind, Dot, Index, Up, Round}
use Rattle.ob_rules.specs.Calls.{call_procedure, call_variable, call_out, call_bound}
use Rattle.ob_rules.specs.Designators.{variable_at, same_variable, guarded_by, guard_of, with_guard, guard_if, guard_same, with_guards, variable_named, guard, if_so_held, dereference_of, dereference, through_if, implicitly, indexed, index_into, index_if, index, is_read_only, field_of, chosen, with_receiver, select_bound, comes_as, comes, nothing_behind, not_there, member_found, member_of, select_of, select_through, select, super_of, super_in, super_if, super, is_one_type, visit, visited, all_visited, type_in_round, as_call, place_round, call_meant, takes_type, is_callable, is_guardable, other_round, step_dot, step_index, step_up, step_round, step, where_of, go_on_with, go_on, through, of_variable, exported_meant, out_meant, in_module, dot_of, module_front, front_of, is_module, behind, front, from_front_with, from_front, designates}
use Rattle.law_local_module.proofs.Leaves.{Nil, then_nil, made_nil, wants_nil, found_nil, named_nil, exported_nil, type_nil}
use Rattle.law_local_module.proofs.Predeclared.{PhraseNil, PhrasesNil, predeclared_nil}
use Rattle.law_local_module.proofs.Calls.{procedure_nil, held_nil, out_nil, bound_nil}
use Rattle.law_lists.proofs.Lists.{both_empty}

noted_nil : {A : Type 0} (n : Notes) (j : Judged A) → n.later ≡ [] → Nil j → Nil (noted n j)
noted_nil n j h k = both_empty n.later j.notes.later h k

-- ---- variables under their guards

module _ (map : Map) where
  by_guard : (at : Pos) (p : Place) (o : Option (Guarded × QName)) (t : TypeRef) → Nil (with_guard map at p o t)
  by_guard at p None t = refl
  by_guard at p (Some g) t = refl

  if_guard : (at : Pos) (p : Place) (o : Option TypeRef) → Nil (guard_if map at p o)
  if_guard at p None = refl
  if_guard at p (Some t) = by_guard at p (guard_of map p t) t

  same_nil : (b : Bool) (at : Pos) (j : Judged Place) (o : Option TypeRef) → Nil j → Nil (guard_same b map at j o)
  same_nil true at j o h = then_nil j (λ q. guard_if map at q o) h (λ q. if_guard at q o)
  same_nil false at j o h = h

  guards_nil : (at : Pos) (v : Variable) (gs : List (Variable × Option TypeRef)) (j : Judged Place) → Nil j → Nil (with_guards map at v gs j)
  guards_nil at v [] j h = h
  guards_nil at v (g ∷ gs) j h = guards_nil at v gs (guard_same (same_variable v g.0) map at j g.1) (same_nil (same_variable v g.0) at j g.1 h)

  guard_nil : (at : Pos) (p : Place) (t : TypeRef) → Nil (guard map at p t)
  guard_nil at p t = then_nil (found_or rule.UnfitTypeTest at (guard_of map p t)) (λ g. sound (means.Place (guarded_by p g t at true))) (found_nil rule.UnfitTypeTest at (guard_of map p t)) (λ g. refl)

  -- ---- through pointers

  so_held : (b : Bool) (p : Place) → Nil (if_so_held b p)
  so_held true p = refl
  so_held false p = refl

  implicit_nil : (wanted : TypeRef → Bool) (at : Pos) (p : Place) (o : Option TypeRef) → Nil (implicitly map wanted at p o)
  implicit_nil wanted at p None = refl
  implicit_nil wanted at p (Some t) = so_held (is_held map t) (through_if (wanted t) p (dereferenced p at t false))

  deref_by : (at : Pos) (p : Place) (o : Option TypeRef) → Nil (dereference_of map at p o)
  deref_by at p None = refl
  deref_by at p (Some t) = so_held (is_held map t) (dereferenced p at t true)

  into_nil : (at : Pos) (p : Place) (i : Judged Valued) (o : Option (Option ℕ × TypeRef)) → Nil i → Nil (index_into map at p i o)
  into_nil at p i None h = noted_nil {A = Place} i.notes (breaks rule.UnfitSelector at) h refl
  into_nil at p i (Some a) h = then_nil i (λ x. wants (is_integer map x) rule.UnfitSelector at (indexed p at x a)) h (λ x. wants_nil (is_integer map x) rule.UnfitSelector at (indexed p at x a))

  index_by : (o : Option Place) (at : Pos) (i : Judged Valued) → Nil i → Nil (index_if o i (λ q. index_into map at q i (array_of map q.of)))
  index_by None at i h = noted_nil {A = Place} i.notes silent h refl
  index_by (Some q) at i h = into_nil at q i (array_of map q.of) h

  index_nil : (at : Pos) (p : Place) (i : Judged Valued) → Nil i → Nil (index map at p i)
  index_nil at p i h = index_by (implicitly map (is_array map) at p (pointed map p.of)).node at i h

  of_super : (at : Pos) (c : Chosen) (base : QName) (o : Option Member) → Nil (super_of at c base o)
  of_super at c base None = refl
  of_super at c base (Some (AField owner f)) = refl
  of_super at c base (Some (AMethod owner m)) = refl

  in_super : (at : Pos) (c : Chosen) (o : Option QName) → Nil (super_in map at c o)
  in_super at c None = refl
  in_super at c (Some base) = of_super at c base (member map base c.method.name)

  if_super : (b : Bool) (at : Pos) (c : Chosen) (owner : QName) → Nil (super_if b map at c owner)
  if_super true at c owner = in_super at c (base_record map owner)
  if_super false at c owner = refl

  super_nil : (at : Pos) (c : Chosen) (o : Option Received) → Nil (super map at c o)
  super_nil at c None = refl
  super_nil at c (Some r) = if_super (same_variable c.receiver.root r.variable && not c.receiver.selected) at c r.owner

as_place : (j : Judged Place) → Nil j → Nil (j ▷ λ q. sound (means.Place q))
as_place j h = then_nil j (λ q. sound (means.Place q)) h (λ q. refl)

call_nil : (j : Judged Valued) → Nil j → Nil (as_call j)
call_nil j h = then_nil j (λ v. sound (means.Call v)) h (λ v. refl)

module _ (u : Around) where
  pub variable_nil : (at : Pos) (v : Variable) (t : TypeRef) (ro : Bool) → Nil (variable_named u at v t ro)
  variable_nil at v t ro = guards_nil (map_of u) at v u.guards (sound (variable_at v t ro)) refl

  -- ---- members

  bound_by : (r : Receiver) (b : Bool) (at : Pos) (c : Chosen) → Nil (with_receiver r b at c)
  bound_by receiver.Pointer false at c = refl
  bound_by receiver.Pointer true at c = refl
  bound_by receiver.Record b at c = refl

  there_nil : (b last : Bool) (start : Pos) (x : Ident) → Nil (not_there b last start x)
  there_nil true true start x = refl
  there_nil true false start x = refl
  there_nil false last start x = refl

  member_nil : (start at : Pos) (x : Ident) (p r : Place) (o : Option TypeRef) (rec : QName) (last : Bool) (m : Option Member) → Nil (member_of u start at x p r o rec last m)
  member_nil start at x p r o rec last None = there_nil (comes u rec x.name) last start x
  member_nil start at x p r o rec last (Some (AField owner f)) = refl
  member_nil start at x p r o rec last (Some (AMethod owner m)) = bound_by m.receiver (is_some o) at (chosen start p o rec owner m)

  of_nil : (start at : Pos) (x : Ident) (p r : Place) (o : Option TypeRef) (last : Bool) (rec : Option QName) → Nil (select_of u start at x p r o last rec)
  of_nil start at x p r o last None = refl
  of_nil start at x p r o last (Some rec) = member_nil start at x p r o rec last (member (map_of u) rec x.name)

  select_nil : (start at : Pos) (x : Ident) (p : Place) (last : Bool) → Nil (select u start at x p last)
  select_nil start at x p last =
      then_nil (implicitly (map_of u) (λ t. true) at p (pointed (map_of u) p.of)) (λ r. select_of u start at x p r (pointed (map_of u) p.of) last (record_of (map_of u) r.of))
      (implicit_nil (map_of u) (λ t. true) at p (pointed (map_of u) p.of)) (λ r. of_nil start at x p r (pointed (map_of u) p.of) last (record_of (map_of u) r.of))

  -- ---- round brackets

  visit_nil : (b : Bool) (p : Phrase) → PhraseNil u p → (visit b u p).later ≡ []
  visit_nil true p h = refl
  visit_nil false p h = h.value

  visited_nil : (ps : List Phrase) → PhrasesNil u ps → (visited u ps).later ≡ []
  visited_nil [] h = refl
  visited_nil (p ∷ ps) h = both_empty (visit (is_one_type u p.name) u p).later (visited u ps).later (visit_nil (is_one_type u p.name) p h.0) (visited_nil ps h.1)

  pub callable_nil : (w : Where) (start : Pos) (m : Meant) (ps : List Phrase) → PhrasesNil u ps → Nil (call_meant u w start m ps)
  callable_nil w start (means.Procedure name s) ps h = call_nil (call_procedure u w start name s ps) (procedure_nil u w start name s ps h)
  callable_nil w start (means.Bound c) ps h = call_nil (call_bound u w start c ps) (bound_nil u w start c ps h)
  callable_nil w start (means.Out p) ps h = call_nil (call_out u w start p ps) (out_nil u w start p ps h)
  callable_nil w start (means.Predeclared f) ps h = predeclared_nil u f w start ps h
  callable_nil w start m ps h = refl

  visited_breaks : (ps : List Phrase) (at : Pos) → PhrasesNil u ps → Nil (noted (visited u ps) (breaks {A = Meant} rule.UnfitSelector at))
  visited_breaks ps at h = noted_nil {A = Meant} (visited u ps) (breaks rule.UnfitSelector at) (visited_nil ps h) refl

  place_nil : (w : Where) (start at : Pos) (p : Place) (ps : List Phrase) (o : Option Qualident) (s : Option Signature) → PhrasesNil u ps → Nil (place_round u w start at p ps o s)
  place_nil w start at p ps (Some k) s h = then_nil (type_named u k) (guard (map_of u) at p) (type_nil u k) (λ t. guard_nil (map_of u) at p t)
  place_nil w start at p ps None (Some s) h = call_nil (call_variable u w start p s ps) (held_nil u w start p s ps h)
  place_nil w start at p ps None None h = visited_breaks ps at h

  other_nil : (w : Where) (start at : Pos) (m : Meant) (ps : List Phrase) (o : Option Qualident) (t g c : Bool) → PhrasesNil u ps → Nil (other_round u w start at m ps o t g c)
  other_nil w start at m ps o true g c h = callable_nil w start m ps h
  other_nil w start at m ps (Some k) false true c h = then_nil (type_named u k) (λ t. breaks rule.UnfitTypeTest at) (type_nil u k) (λ t. refl)
  other_nil w start at m ps None false g true h = callable_nil w start m ps h
  other_nil w start at m ps (Some k) false false c h = visited_breaks ps at h
  other_nil w start at m ps None false g false h = visited_breaks ps at h

  round_nil : (w : Where) (start at : Pos) (ps : List Phrase) (m : Meant) → PhrasesNil u ps → Nil (step_round u w start at ps m)
  round_nil w start at ps (means.Place p) h = place_nil w start at p ps (type_in_round u ps) (signature_at (map_of u) p.of) h
  round_nil w start at ps m h = other_nil w start at m ps (type_in_round u ps) (takes_type m) (is_guardable m) (is_callable m) h

  -- ---- each selector

  dot_nil : (start at : Pos) (x : Ident) (last : Bool) (m : Meant) → Nil (step_dot u start at x last m)
  dot_nil start at x last (means.Place p) = select_nil start at x p last
  dot_nil start at x last m = refl

  at_nil : (at : Pos) (i : Judged Valued) (m : Meant) → Nil i → Nil (step_index (map_of u) at i m)
  at_nil at i (means.Place p) h = as_place (index (map_of u) at p i) (index_nil (map_of u) at p i h)
  at_nil at i m h = noted_nil {A = Meant} i.notes (breaks rule.UnfitSelector at) h refl

  up_nil : (at : Pos) (m : Meant) → Nil (step_up u at m)
  up_nil at (means.Place p) = as_place (dereference (map_of u) at p) (deref_by (map_of u) at p (pointed (map_of u) p.of))
  up_nil at (means.Bound c) = super_nil (map_of u) at c u.receiver
  up_nil at m = refl

  abbrev pub BehindNil : Behind → Type 0
  BehindNil (Dot at x) = Unit {0}
  BehindNil (Index at i) = PhraseNil u i
  BehindNil (Up at) = Unit {0}
  BehindNil (Round at ps) = PhrasesNil u ps

  abbrev pub AreBehind : List Behind → Type 0
  AreBehind bs = AllByRecursion BehindNil bs

  step_nil : (w : Where) (start : Pos) (m : Meant) (b : Behind) (last : Bool) → BehindNil b → Nil (step u w start m b last)
  step_nil w start m (Dot at x) last h = dot_nil start at x last m
  step_nil w start m (Index at i) last h = at_nil at (i.value u) m h.value
  step_nil w start m (Up at) last h = up_nil at m
  step_nil w start m (Round at ps) last h = round_nil w start at ps m h

  all_nil : (bs : List Behind) → AreBehind bs → (all_visited u bs).later ≡ []
  all_nil [] h = refl
  all_nil (Index at i ∷ bs) h = both_empty (i.value u).notes.later (all_visited u bs).later h.0.value (all_nil bs h.1)
  all_nil (Round at ps ∷ bs) h = both_empty (visited u ps).later (all_visited u bs).later (visited_nil ps h.0) (all_nil bs h.1)
  all_nil (Dot at x ∷ bs) h = all_nil bs h.1
  all_nil (Up at ∷ bs) h = all_nil bs h.1

  go_by : (bs : List Behind) (o : Option Meant) (f : Meant → Judged Meant) → AreBehind bs → ((m : Meant) → Nil (f m)) → Nil (go_on_with u bs f o)
  go_by bs None f h k = noted_nil {A = Meant} (all_visited u bs) silent (all_nil bs h) refl
  go_by bs (Some m) f h k = k m

  through_nil : (w : Where) (start : Pos) (bs : List Behind) (m : Meant) → AreBehind bs → Nil (through u w start bs m)
  through_nil w start [] m h = refl
  through_nil w start (b ∷ bs) m h =
      let j = step u (where_of w (nothing_behind bs)) start m b (nothing_behind bs) in
      noted_nil j.notes (go_on_with u bs (λ n. through u w start bs n) j.node) (step_nil (where_of w (nothing_behind bs)) start m b (nothing_behind bs) h.0) (go_by bs j.node (λ n. through u w start bs n) h.1 (λ n. through_nil w start bs n h.1))

  -- ---- the name at the front

  of_variable_nil : (at : Pos) (v : Variable) (t : TypeRef) (ro : Bool) → Nil (of_variable (variable_named u at v t ro))
  of_variable_nil at v t ro = as_place (variable_named u at v t ro) (variable_nil at v t ro)

  meant_nil : (start at : Pos) (m x : List ℕ) (d : Desc) → Nil (exported_meant u start at m x d)
  meant_nil start at m x (desc.Const v) = refl
  meant_nil start at m x (desc.Var mk t) = of_variable_nil start (variable.Module m x) t (is_read_only mk)
  meant_nil start at m x (desc.Proc g) = refl
  meant_nil start at m x d = refl

  out_by : (at : Pos) (o : Option OutProcedure) → Nil (out_meant at o)
  out_by at None = refl
  out_by at (Some p) = refl

  module_by : (b : Bool) (start : Pos) (m : List ℕ) (y : Ident) → Nil (in_module b u start m y)
  module_by true start m y = out_by y.pos (out_procedure y.name)
  module_by false start m y = then_nil (exported u m y) (λ e. exported_meant u start y.pos m y.name e.1) (exported_nil u m y) (λ e. meant_nil start y.pos m y.name e.1)

  dotted : (at : Pos) (m : List ℕ) (o : Option Ident) → Nil (module_front u at m o)
  dotted at m None = refl
  dotted at m (Some y) = module_by (is_out m) at m y

  front_by : (x : Ident) (e : Entity) (o : Option Ident) → Nil (front_of u x e o)
  front_by x (entity.Variable v t) o = of_variable_nil x.pos v t false
  front_by x (entity.Module m) o = dotted x.pos m o
  front_by x e o = refl

  behind_nil : (b : Bool) (bs : List Behind) → AreBehind bs → AreBehind (behind b bs)
  behind_nil true [] h = h
  behind_nil true (b ∷ bs) h = h.1
  behind_nil false bs h = h

  front_nil : (x : Ident) (bs : List Behind) → Nil (front u x bs (named u x))
  front_nil x bs = then_nil (named u x) (λ e. made (λ m. (m, behind (is_module e) bs)) (front_of u x e (dot_of bs))) (named_nil u x) (λ e. made_nil (λ m. (m, behind (is_module e) bs)) (front_of u x e (dot_of bs)) (front_by x e (dot_of bs)))

  -- what is left behind a front is a part of what stood there
  abbrev FrontIs : List Behind → Option (Meant × List Behind) → Type 0
  FrontIs bs None = Unit {0}
  FrontIs bs (Some p) = AreBehind p.1

  made_is : (bs cs : List Behind) (j : Judged Meant) → AreBehind cs → FrontIs bs (made (λ m. (m, cs)) j).node
  made_is bs cs j h = by j.node
    where
      by : (o : Option Meant) → FrontIs bs (if_sound o (λ m. sound (m, cs))).node
      by None = tt
      by (Some m) = h

  front_is : (x : Ident) (bs : List Behind) → AreBehind bs → FrontIs bs (front u x bs (named u x)).node
  front_is x bs h = by (named u x).node
    where
      by : (o : Option Entity) → FrontIs bs (if_sound o (λ e. made (λ m. (m, behind (is_module e) bs)) (front_of u x e (dot_of bs)))).node
      by None = tt
      by (Some e) = made_is bs (behind (is_module e) bs) (front_of u x e (dot_of bs)) (behind_nil (is_module e) bs h)

  from_by : (w : Where) (start : Pos) (bs : List Behind) (o : Option (Meant × List Behind)) → AreBehind bs → FrontIs bs o → Nil (from_front_with u w start bs o)
  from_by w start bs None h k = noted_nil {A = Meant} (all_visited u bs) silent (all_nil bs h) refl
  from_by w start bs (Some m) h k = through_nil w start m.1 m.0 k

  pub designates_nil : (w : Where) (x : Ident) (bs : List Behind) → AreBehind bs → Nil (designates u w x bs)
  designates_nil w x bs h =
      let j = front u x bs (named u x) in
      noted_nil j.notes (from_front_with u w x.pos bs j.node) (front_nil x bs) (from_by w x.pos bs j.node h (front_is x bs h))
