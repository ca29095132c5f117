-- Designators are tied to the types that they name.
use Rattle.std.proofs.Common.{◌≡◌, ℕ, Bool, true, false, List, [], ◌∷◌, ◌++◌, map, Option, Some, None, refl, sym, subst}
use Rattle.std.specs.Prelude.{is_some, not, ◌&&◌}
use Rattle.std.specs.List.{AllByRecursion}
use Rattle.ob_tree.specs.declared.pos.Pos.{Pos}
use Rattle.ob_tree.specs.declared.names.QName.{QName}
use Rattle.ob_tree.specs.declared.ident.Ident.{Ident}
use Rattle.ob_tree.specs.declared.ident.Qualident.{Qualident}
use Rattle.ob_types.specs.declared.types.TypeRef.{TypeRef}
use Rattle.ob_types.specs.declared.types.Signature.{Signature}
use Rattle.ob_types.specs.declared.desc.Desc.{Desc}
use Rattle.ob_types.specs.declared.desc.Desc.TheVariants as desc
use Rattle.ob_types.specs.declared.desc.Field.{Field}
use Rattle.ob_types.specs.declared.desc.Receiver.{Receiver}
use Rattle.ob_types.specs.declared.desc.Receiver.TheVariants as receiver
use Rattle.ob_types.specs.declared.typed.Variable.{Variable}
use Rattle.ob_types.specs.declared.typed.Variable.TheVariants as variable
use Rattle.ob_types.specs.declared.typed.Guarded.{Guarded}
use Rattle.ob_types.specs.declared.typed.OutProcedure.{OutProcedure}
use Rattle.ob_types.specs.TypedSyntax.{OfVariable, Field as AField_, Index as AnIndex, Deref, Guard}
use Rattle.ob_types.specs.TypedView.{designator_view, expr_view}
use Rattle.ob_types.proofs.TypedViews.{view_variable, view_field, view_index, view_deref, view_guard}
use Rattle.ob_rules.specs.declared.entity.Entity.{Entity}
use Rattle.ob_rules.specs.declared.entity.Received.{Received}
use Rattle.ob_rules.specs.declared.entity.Entity.TheVariants as entity
use Rattle.ob_rules.specs.declared.values.Place.{Place}
use Rattle.ob_rules.specs.declared.values.Valued.{Valued}
use Rattle.ob_rules.specs.declared.meant.Chosen.{Chosen}
use Rattle.ob_rules.specs.declared.meant.Meant.{Meant}
use Rattle.ob_rules.specs.declared.meant.Meant.TheVariants as means
use Rattle.ob_rules.specs.declared.meant.Where.{Where}
use Rattle.ob_rules.specs.declared.broken.Rule.TheVariants as rule
use Rattle.ob_rules.specs.Judged.{Judged, no_notes, broken_at, sound, breaks, noted, found_or, made}
use Rattle.ob_rules.specs.Shapes.{Map, Member, AField, AMethod, member, pointed, record_of, pointed_record, extends_record, array_of, is_array, is_held, signature_at, base_record}
use Rattle.ob_rules.specs.Names.{Around, map_of, named, exported, is_out, out_procedure, type_named}
use Rattle.ob_rules.specs.Values.{is_integer, tree}
use Rattle.ob_rules.specs.Phrases.{dereferenced, Phrase, Behind, Dot, Index, Up, Round}
use Rattle.ob_rules.specs.Calls.{call_procedure, call_variable, call_out, call_bound}
use Rattle.ob_rules.specs.Designators.{variable_at, guard_of, guarded_by, with_guard, guard_if, guard_same, if_so, if_extends, on_record, guard_kind, same_variable, with_guards, variable_named, guard, if_so_held, dereference_of, dereference, through_if, implicitly, indexed, index_into, index_if, index, field_of, chosen, with_receiver, not_there, comes, member_found, member_of, select_of, select_through, select, super_of, super_in, super_if, super, type_in_round, as_call, place_round, call_meant, takes_type, is_callable, is_guardable, other_round, step_dot, step_index, step_up, step_round, step, where_of, nothing_behind, go_on_with, go_on, through, of_variable, exported_meant, out_meant, in_module, dot_of, module_front, front_of, is_module, behind, front, from_front_with, is_one_type, visit, visited, all_visited, designates}
use Rattle.law_local_uses.proofs.Setting.{Setting, In, Leads, Stands, PlaceOk, ValuedOk, ChosenOk, MeantOk, Said, none, Keeps, said_both, then_keeps, made_keeps, wants_keeps, found_keeps, noted_keeps, counts_both, place_of, tree_ok}
use Rattle.law_local_uses.specs.Settled.{NamesIn, GuardIn}
use Rattle.law_local_uses.proofs.Names.{EntityOk, ExportOk, exported_keeps, named_keeps, type_keeps}
use Rattle.law_local_uses.proofs.Chains.{MemberIn, held_agree, member_in, record_leads, member_leads, through_leads, base_leads}
use Rattle.law_local_judged.specs.Agreement.{AreIn}
use Rattle.law_local_judged.proofs.Owners.{owner_of}
use Rattle.law_local_judged.proofs.Tests.{record_in, pointed_record_in, pointed_in, elements_in, signature_at_in}
use Rattle.ob_uses_roots.specs.Counts.{Shapes, both as both_counts, counts_of_designator, counts_of_expr}
use Rattle.ob_types.specs.Maps.{signature_types}
use Rattle.ob_types.specs.declared.types.TypeRef.TheVariants as ref
use Rattle.ob_types.specs.declared.typed.Guarded.TheVariants as guarded
use Rattle.law_local_uses.proofs.Calls.{PhraseOk, ArePhrases, call_procedure_keeps, call_variable_keeps, call_out_keeps, call_bound_keeps}
use Rattle.law_local_uses.proofs.Functions.{predeclared_keeps}
use Rattle.law_lists.proofs.Lists.{IfThere}

-- ---- variables and guards

variable_ok : (k : Setting) (v : Variable) (t : TypeRef) (b : Bool) → In k t → PlaceOk k (variable_at v t b)
variable_ok k v t b h = place_of k _ (OfVariable v t) t (view_variable v t) (tt, (h, tt)) h refl

guarded_ok : (k : Setting) (p : Place) (g : Guarded × QName) (t : TypeRef) (at : Pos) (b : Bool) → PlaceOk k p → In k t → k.Held g.1 → PlaceOk k (guarded_by p g t at b)
guarded_ok k p g t at b h i q = place_of k _ (Guard (designator_view p.designator.inner) g.0 g.1 at t) t (view_guard p.designator.inner g.0 g.1 at t) (h.0.0, counts_both k (counts_of_designator (designator_view p.designator.inner)) (Shapes t ∷ Shapes (ref.Named g.1) ∷ []) h.0.1 (i, (q, tt))) i refl

-- the record that a guard tests for is held where the type is
module _ (k : Setting) (map : Map) (named : (q : QName) (d : Desc) → map q ≡ Some d → NamesIn k.Held d) where
  abbrev Tests : Option (Guarded × QName) → Type 0
  Tests o = IfThere (λ g. k.Held g.1) o

  if_tests : (b : Bool) (x : Guarded × QName) → k.Held x.1 → Tests (if_so b x)
  if_tests true x h = h
  if_tests false x h = tt

  extends_tests : (g : Guarded) (a b : Option QName) → IfThere k.Held b → Tests (if_extends map g a b)
  extends_tests g (Some a) (Some b) h = if_tests (extends_record map b a) (g, b) h
  extends_tests g (Some a) None h = tt
  extends_tests g None b h = tt

  record_held : (t : TypeRef) → In k t → IfThere k.Held (record_of map t)
  record_held t i = by (record_of map t) refl
    where
      by : (o : Option QName) → record_of map t ≡ o → IfThere k.Held o
      by None e = tt
      by (Some q) e = record_in k.Held map map (held_agree k.Held map named) t q i e

  pub pointed_held : (t : TypeRef) → In k t → IfThere k.Held (pointed_record map t)
  pointed_held t i = by (pointed_record map t) refl
    where
      by : (o : Option QName) → pointed_record map t ≡ o → IfThere k.Held o
      by None e = tt
      by (Some q) e = pointed_record_in k.Held map map (held_agree k.Held map named) t q i e

  on_record_tests : (b : Bool) (p : Place) (t : TypeRef) → In k t → Tests (on_record b map p t)
  on_record_tests true p t i = extends_tests guarded.Record (record_of map p.of) (record_of map t) (record_held t i)
  on_record_tests false p t i = tt

  kind_tests : (p : Place) (t : TypeRef) → In k t → (o : Option QName) → Tests (guard_kind map p t o)
  kind_tests p t i (Some a) = extends_tests guarded.Pointer (Some a) (pointed_record map t) (pointed_held t i)
  kind_tests p t i None = on_record_tests p.var_record p t i

  pub guard_tests : (p : Place) (t : TypeRef) → In k t → Tests (guard_of map p t)
  guard_tests p t i = kind_tests p t i (pointed_record map p.of)

  pub pointer_tests : (a : QName) (t : TypeRef) → In k t → Tests (if_extends map guarded.Pointer (Some a) (pointed_record map t))
  pointer_tests a t i = extends_tests guarded.Pointer (Some a) (pointed_record map t) (pointed_held t i)

abbrev Naming : Setting → Map → Type 0
Naming k map = (q : QName) (d : Desc) → map q ≡ Some d → NamesIn k.Held d

with_guard_keeps : (k : Setting) (map : Map) (at : Pos) (p : Place) (o : Option (Guarded × QName)) → IfThere (λ g. k.Held g.1) o → (t : TypeRef) → In k t → PlaceOk k p → Keeps k (PlaceOk k) (with_guard map at p o t)
with_guard_keeps k map at p None q t i h = (tt, none)
with_guard_keeps k map at p (Some g) q t i h = (guarded_ok k p g t at false h i q, none)

guard_if_keeps : (k : Setting) (map : Map) → Naming k map → (at : Pos) (p : Place) (o : Option TypeRef) → GuardIn k.Held o → PlaceOk k p → Keeps k (PlaceOk k) (guard_if map at p o)
guard_if_keeps k map n at p None i h = (tt, none)
guard_if_keeps k map n at p (Some t) i h = with_guard_keeps k map at p (guard_of map p t) (guard_tests k map n p t i) t i h

same_keeps : (k : Setting) (b : Bool) (map : Map) → Naming k map → (at : Pos) (j : Judged Place) (o : Option TypeRef) → GuardIn k.Held o → Keeps k (PlaceOk k) j → Keeps k (PlaceOk k) (guard_same b map at j o)
same_keeps k true map n at j o i h = then_keeps k (PlaceOk k) (PlaceOk k) j (λ q. guard_if map at q o) h (λ q r. guard_if_keeps k map n at q o i r)
same_keeps k false map n at j o i h = h

guards_keep : (k : Setting) (map : Map) → Naming k map → (at : Pos) (v : Variable) (gs : List (Variable × Option TypeRef)) → AllByRecursion (λ (g : Variable × Option TypeRef). GuardIn k.Held g.1) gs → (j : Judged Place) → Keeps k (PlaceOk k) j → Keeps k (PlaceOk k) (with_guards map at v gs j)
guards_keep k map n at v [] i j h = h
guards_keep k map n at v (g ∷ gs) i j h = guards_keep k map n at v gs i.1 (guard_same (same_variable v g.0) map at j g.1) (same_keeps k (same_variable v g.0) map n at j g.1 i.0 h)

pub variable_keeps : (k : Setting) (u : Around) → Stands k u → (at : Pos) (v : Variable) (t : TypeRef) (b : Bool) → In k t → Keeps k (PlaceOk k) (variable_named u at v t b)
variable_keeps k u st at v t b h = guards_keep k (map_of u) st.named at v u.guards st.guards (sound (variable_at v t b)) (variable_ok k v t b h, none)

guard_keeps : (k : Setting) (map : Map) → Naming k map → (at : Pos) (p : Place) (t : TypeRef) → In k t → PlaceOk k p → Keeps k (MeantOk k) (guard map at p t)
guard_keeps k map n at p t i h = then_keeps k (λ (g : Guarded × QName). k.Held g.1) (MeantOk k) (found_or rule.UnfitTypeTest at (guard_of map p t)) _ (found_keeps k (λ (g : Guarded × QName). k.Held g.1) rule.UnfitTypeTest at (guard_of map p t) (guard_tests k map n p t i)) (λ g q. (guarded_ok k p g t at true h i q, none))

-- ---- dereferences, indices and fields

deref_ok : (k : Setting) (p : Place) (at : Pos) (t : TypeRef) (b : Bool) → PlaceOk k p → In k t → PlaceOk k (dereferenced p at t b)
deref_ok k p at t b h i = place_of k _ (Deref (designator_view p.designator.inner) at t) t (view_deref p.designator.inner at t) (h.0.0, counts_both k (counts_of_designator (designator_view p.designator.inner)) (Shapes t ∷ []) h.0.1 (i, tt)) i refl

-- what a pointer points to is held where its type is
pointed_ok : (k : Setting) (map : Map) → Naming k map → (t : TypeRef) → In k t → (o : Option TypeRef) → pointed map t ≡ o → IfThere (In k) o
pointed_ok k map n t i None e = tt
pointed_ok k map n t i (Some b) e = pointed_in k.Held map map (held_agree k.Held map n) t b i e

held_keeps : (k : Setting) (b : Bool) (p : Place) → PlaceOk k p → Keeps k (PlaceOk k) (if_so_held b p)
held_keeps k true p h = (h, none)
held_keeps k false p h = (tt, none)

deref_keeps : (k : Setting) (map : Map) (at : Pos) (p : Place) (o : Option TypeRef) → IfThere (In k) o → PlaceOk k p → Keeps k (PlaceOk k) (dereference_of map at p o)
deref_keeps k map at p None i h = (tt, none)
deref_keeps k map at p (Some t) i h = held_keeps k (is_held map t) (dereferenced p at t true) (deref_ok k p at t true h i)

through_ok : (k : Setting) (b : Bool) (p q : Place) → PlaceOk k p → PlaceOk k q → PlaceOk k (through_if b p q)
through_ok k true p q h g = g
through_ok k false p q h g = h

indexed_ok : (k : Setting) (p : Place) (at : Pos) (i : Valued) (a : Option ℕ × TypeRef) → In k a.1 → PlaceOk k p → ValuedOk k i → PlaceOk k (indexed p at i a)
indexed_ok k p at i a j h g =
    let v = tree_ok k i g in
    let ds = counts_of_designator (designator_view p.designator.inner) in
    let es = counts_of_expr (expr_view (tree i)) in
    place_of k _ (AnIndex (designator_view p.designator.inner) a.0 (expr_view (tree i)) at a.1) a.1 (view_index p.designator.inner a.0 (tree i) at a.1) ((h.0.0, v.0), counts_both k (ds ++ es) (both_counts a.1) (counts_both k ds es h.0.1 v.1) (j, tt)) j refl

into_keeps : (k : Setting) (map : Map) (at : Pos) (p : Place) (i : Judged Valued) (o : Option (Option ℕ × TypeRef)) → IfThere (λ a. In k a.1) o → PlaceOk k p → Keeps k (ValuedOk k) i → Keeps k (PlaceOk k) (index_into map at p i o)
into_keeps k map at p i None j h g = (tt, said_both k i.notes (broken_at rule.UnfitSelector at) g.1 none)
into_keeps k map at p i (Some a) j h g = then_keeps k (ValuedOk k) (PlaceOk k) i _ g (λ x q. wants_keeps k (PlaceOk k) (is_integer map x) rule.UnfitSelector at (indexed p at x a) (λ e. indexed_ok k p at x a j h q))

index_if_keeps : (k : Setting) (o : Option Place) (i : Judged Valued) (f : Place → Judged Place) → IfThere (PlaceOk k) o → Keeps k (ValuedOk k) i → ((p : Place) → PlaceOk k p → Keeps k (PlaceOk k) (f p)) → Keeps k (PlaceOk k) (index_if o i f)
index_if_keeps k None i f h j g = (tt, said_both k i.notes no_notes j.1 none)
index_if_keeps k (Some p) i f h j g = g p h

implicit_node : (k : Setting) (map : Map) (f : TypeRef → Bool) (at : Pos) (p : Place) (o : Option TypeRef) → IfThere (In k) o → PlaceOk k p → IfThere (PlaceOk k) (implicitly map f at p o).node
implicit_node k map f at p None i h = h
implicit_node k map f at p (Some t) i h = held (is_held map t) (through_if (f t) p (dereferenced p at t false)) (through_ok k (f t) p (dereferenced p at t false) h (deref_ok k p at t false h i))
  where
    held : (b : Bool) (q : Place) → PlaceOk k q → IfThere (PlaceOk k) (if_so_held b q).node
    held true q g = g
    held false q g = tt

element_ok : (k : Setting) (map : Map) → Naming k map → (t : TypeRef) → In k t → (o : Option (Option ℕ × TypeRef)) → array_of map t ≡ o → IfThere (λ a. In k a.1) o
element_ok k map n t i None e = tt
element_ok k map n t i (Some a) e = elements_in k.Held map map (held_agree k.Held map n) t a i e

index_keeps : (k : Setting) (map : Map) → Naming k map → (at : Pos) (p : Place) (i : Judged Valued) → PlaceOk k p → Keeps k (ValuedOk k) i → Keeps k (PlaceOk k) (index map at p i)
index_keeps k map n at p i h g = index_if_keeps k (implicitly map (is_array map) at p (pointed map p.of)).node i (λ q. index_into map at q i (array_of map q.of)) (implicit_node k map (is_array map) at p (pointed map p.of) (pointed_ok k map n p.of h.1 (pointed map p.of) refl) h) g (λ q r. into_keeps k map at q i (array_of map q.of) (element_ok k map n q.of r.1 (array_of map q.of) refl) r g)

field_ok : (k : Setting) (u : Around) (p : Place) (owner : QName) (f : Field) → In k f.of → Leads k p.of owner → PlaceOk k p → PlaceOk k (field_of u p owner f)
field_ok k u p owner f i l h = place_of k _ (AField_ (designator_view p.designator.inner) owner f.name f.of) f.of (view_field p.designator.inner owner f.name f.of) ((h.0.0, subst (λ t. Leads k t owner) (sym h.2) l), counts_both k (counts_of_designator (designator_view p.designator.inner)) (Shapes f.of ∷ []) h.0.1 (i, tt)) i refl

-- ---- members

bound_keeps : (k : Setting) (r : Receiver) (b : Bool) (at : Pos) (c : Chosen) → ChosenOk k c → Keeps k (MeantOk k) (with_receiver r b at c)
bound_keeps k receiver.Pointer true at c h = (h, none)
bound_keeps k receiver.Pointer false at c h = (tt, none)
bound_keeps k receiver.Record b at c h = (h, none)

-- what is selected: p is the variable, and q that or what it points to
abbrev Selects : Setting → TypeRef → TypeRef → Option TypeRef → QName → Type 0
Selects k t r o owner = Leads k t owner × Leads k r owner × IfThere (λ b. Leads k b owner) o

found_member : (k : Setting) (u : Around) (start at : Pos) (p q : Place) (t : Option TypeRef) (rec : QName) (m : Member) → PlaceOk k p → PlaceOk k q → IfThere (In k) t → MemberIn k.Held m → Selects k p.of q.of t (owner_of m) → Keeps k (MeantOk k) (member_found u start at p q t rec m)
found_member k u start at p q t rec (AField owner f) h g i m l = (field_ok k u q owner f m l.1 g, none)
found_member k u start at p q t rec (AMethod owner m) h g i n l = bound_keeps k m.receiver (is_some t) at (chosen start p t rec owner m) (record { receiver = h; pointed = i; signature = n; call = (l.0, l.2) })

not_there_keeps : (k : Setting) (b c : Bool) (start : Pos) (x : Ident) → Keeps k (MeantOk k) (not_there b c start x)
not_there_keeps k true true start x = (tt, none)
not_there_keeps k true false start x = (tt, none)
not_there_keeps k false c start x = (tt, none)

member_keeps : (k : Setting) (u : Around) (start at : Pos) (x : Ident) (p q : Place) (t : Option TypeRef) (rec : QName) (last : Bool) (o : Option Member) → PlaceOk k p → PlaceOk k q → IfThere (In k) t → IfThere (MemberIn k.Held) o → ((m : Member) → o ≡ Some m → Selects k p.of q.of t (owner_of m)) → Keeps k (MeantOk k) (member_of u start at x p q t rec last o)
member_keeps k u start at x p q t rec last None h g i n l = not_there_keeps k (comes u rec x.name) last start x
member_keeps k u start at x p q t rec last (Some m) h g i n l = found_member k u start at p q t rec m h g i n (l m refl)

select_of_keeps : (k : Setting) (u : Around) → Stands k u → (start at : Pos) (x : Ident) (p q : Place) (t : Option TypeRef) (last : Bool) (o : Option QName) → PlaceOk k p → PlaceOk k q → IfThere (In k) t → ((r : QName) → o ≡ Some r → Selects k p.of q.of t r) → Keeps k (MeantOk k) (select_of u start at x p q t last o)
select_of_keeps k u st start at x p q t last None h g i l = (tt, none)
select_of_keeps k u st start at x p q t last (Some rec) h g i l =
    let r = l rec refl in
    member_keeps k u start at x p q t rec last (member (map_of u) rec x.name) h g i (member_in k.Held (map_of u) st.named rec x.name)
    (λ m e. (member_leads k (map_of u) st.says p.of rec x.name m r.0 e, member_leads k (map_of u) st.says q.of rec x.name m r.1 e, further t rec m r.2 e))
  where
    further : (o : Option TypeRef) (rec : QName) (m : Member) → IfThere (λ b. Leads k b rec) o → member (map_of u) rec x.name ≡ Some m → IfThere (λ b. Leads k b (owner_of m)) o
    further None rec m h e = tt
    further (Some b) rec m h e = member_leads k (map_of u) st.says b rec x.name m h e

-- through a pointer without `^`, or not
through_keeps_of : (k : Setting) (u : Around) → Stands k u → (start at : Pos) (x : Ident) (p : Place) (last : Bool) → PlaceOk k p → (o : Option TypeRef) → pointed (map_of u) p.of ≡ o → IfThere (In k) o → Keeps k (MeantOk k) (select_through u start at x p last o)
through_keeps_of k u st start at x p last h None e i =
    then_keeps k (λ (q : Place). q ≡ p) (MeantOk k) (implicitly (map_of u) (λ t. true) at p None) (λ q. select_of u start at x p q None last (record_of (map_of u) q.of)) (refl, none)
    (λ q s. subst (λ (q : Place). Keeps k (MeantOk k) (select_of u start at x p q None last (record_of (map_of u) q.of))) (sym s)
    (select_of_keeps k u st start at x p p None last (record_of (map_of u) p.of) h h tt (λ r j. let l = record_leads k (map_of u) st.says p.of r j in (l, l, tt))))
through_keeps_of k u st start at x p last h (Some b) e i =
    let d = dereferenced p at b false in
    then_keeps k (λ (q : Place). q ≡ d) (MeantOk k) (implicitly (map_of u) (λ t. true) at p (Some b)) (λ q. select_of u start at x p q (Some b) last (record_of (map_of u) q.of)) (held_is (is_held (map_of u) b))
    (λ q s. subst (λ (q : Place). Keeps k (MeantOk k) (select_of u start at x p q (Some b) last (record_of (map_of u) q.of))) (sym s)
    (select_of_keeps k u st start at x p d (Some b) last (record_of (map_of u) b) h (deref_ok k p at b false h i) i (λ r j. let l = record_leads k (map_of u) st.says b r j in (through_leads k (map_of u) st.says p.of b r e j, l, l))))
  where
    held_is : (c : Bool) → Keeps k (λ (q : Place). q ≡ dereferenced p at b false) (if_so_held c (dereferenced p at b false))
    held_is true = (refl, none)
    held_is false = (tt, none)

select_keeps : (k : Setting) (u : Around) → Stands k u → (start at : Pos) (x : Ident) (p : Place) (last : Bool) → PlaceOk k p → Keeps k (MeantOk k) (select u start at x p last)
select_keeps k u st start at x p last h = through_keeps_of k u st start at x p last h (pointed (map_of u) p.of) refl (pointed_ok k (map_of u) st.named p.of h.1 (pointed (map_of u) p.of) refl)

super_of_keeps : (k : Setting) (u : Around) → Stands k u → (at : Pos) (c : Chosen) (o base : QName) → k.Own o → Leads k (ref.Named o) base → (m : Option Member) → member (map_of u) base c.method.name ≡ m → IfThere (MemberIn k.Held) m → ChosenOk k c → Keeps k (MeantOk k) (super_of at c base m)
super_of_keeps k u st at c o base own l None e i h = (tt, none)
super_of_keeps k u st at c o base own l (Some (AField owner f)) e i h = (tt, none)
super_of_keeps k u st at c o base own l (Some (AMethod owner m)) e i h = (record { receiver = h.receiver; pointed = h.pointed; signature = i; call = (o, own, member_leads k (map_of u) st.says (ref.Named o) base c.method.name (AMethod owner m) l e) }, none)

super_in_keeps : (k : Setting) (u : Around) → Stands k u → (at : Pos) (c : Chosen) (o : QName) → k.Own o → (b : Option QName) → base_record (map_of u) o ≡ b → ChosenOk k c → Keeps k (MeantOk k) (super_in (map_of u) at c b)
super_in_keeps k u st at c o own None e h = (tt, none)
super_in_keeps k u st at c o own (Some base) e h = super_of_keeps k u st at c o base own (base_leads k (map_of u) st.says o base e) (member (map_of u) base c.method.name) refl (member_in k.Held (map_of u) st.named base c.method.name) h

super_if_keeps : (k : Setting) (u : Around) → Stands k u → (b : Bool) (at : Pos) (c : Chosen) (owner : QName) → k.Own owner → ChosenOk k c → Keeps k (MeantOk k) (super_if b (map_of u) at c owner)
super_if_keeps k u st true at c owner own h = super_in_keeps k u st at c owner own (base_record (map_of u) owner) refl h
super_if_keeps k u st false at c owner own h = (tt, none)

super_keeps : (k : Setting) (u : Around) → Stands k u → (at : Pos) (c : Chosen) (o : Option Received) → u.receiver ≡ o → ChosenOk k c → Keeps k (MeantOk k) (super (map_of u) at c o)
super_keeps k u st at c None e h = (tt, none)
super_keeps k u st at c (Some r) e h = super_if_keeps k u st (same_variable c.receiver.root r.variable && not c.receiver.selected) at c r.owner (st.receiver r e) h

-- ---- selectors

abbrev pub BehindOk : Setting → Behind → Type 0
BehindOk k (Dot at x) = Unit {0}
BehindOk k (Index at i) = PhraseOk k i
BehindOk k (Up at) = Unit {0}
BehindOk k (Round at ps) = ArePhrases k ps

as_call_keeps : (k : Setting) (j : Judged Valued) → Keeps k (ValuedOk k) j → Keeps k (MeantOk k) (as_call j)
as_call_keeps k j h = then_keeps k (ValuedOk k) (MeantOk k) j (λ v. sound (means.Call v)) h (λ v q. (q, none))

visit_said : (k : Setting) (u : Around) → Stands k u → (p : Phrase) → PhraseOk k p → (b : Bool) → Said k (visit b u p)
visit_said k u st p g true = none
visit_said k u st p g false = (g.0 u st).1

visited_said : (k : Setting) (u : Around) → Stands k u → (ps : List Phrase) → ArePhrases k ps → Said k (visited u ps)
visited_said k u st [] g = none
visited_said k u st (p ∷ ps) g = said_both k (visit (is_one_type u p.name) u p) (visited u ps) (visit_said k u st p g.0 (is_one_type u p.name)) (visited_said k u st ps g.1)

all_said : (k : Setting) (u : Around) → Stands k u → (bs : List Behind) → AllByRecursion (BehindOk k) bs → Said k (all_visited u bs)
all_said k u st [] g = none
all_said k u st (Index at i ∷ bs) g = said_both k (i.value u).notes (all_visited u bs) (g.0.0 u st).1 (all_said k u st bs g.1)
all_said k u st (Round at ps ∷ bs) g = said_both k (visited u ps) (all_visited u bs) (visited_said k u st ps g.0) (all_said k u st bs g.1)
all_said k u st (Dot at x ∷ bs) g = all_said k u st bs g.1
all_said k u st (Up at ∷ bs) g = all_said k u st bs g.1

visited_breaks : (k : Setting) (u : Around) → Stands k u → (at : Pos) (ps : List Phrase) → ArePhrases k ps → Keeps k (MeantOk k) (noted (visited u ps) (breaks rule.UnfitSelector at))
visited_breaks k u st at ps g = (tt, said_both k (visited u ps) (broken_at rule.UnfitSelector at) (visited_said k u st ps g) none)

-- what a procedure type says is held where the type is
signature_ok : (k : Setting) (map : Map) → Naming k map → (t : TypeRef) → In k t → (o : Option Signature) → signature_at map t ≡ o → IfThere (λ s. AreIn k.Held (signature_types s)) o
signature_ok k map n t i None e = tt
signature_ok k map n t i (Some s) e = signature_at_in k.Held map map (held_agree k.Held map n) t s i e

pub signature_held : (k : Setting) (u : Around) → Stands k u → (p : Place) → PlaceOk k p → IfThere (λ s. AreIn k.Held (signature_types s)) (signature_at (map_of u) p.of)
signature_held k u st p h = signature_ok k (map_of u) st.named p.of h.1 (signature_at (map_of u) p.of) refl

place_round_keeps : (k : Setting) (u : Around) → Stands k u → (w : Where) (start at : Pos) (p : Place) (ps : List Phrase) → ArePhrases k ps → PlaceOk k p → (q : Option Qualident) (s : Option Signature) → IfThere (λ s. AreIn k.Held (signature_types s)) s → Keeps k (MeantOk k) (place_round u w start at p ps q s)
place_round_keeps k u st w start at p ps g h (Some q) s i = then_keeps k (In k) (MeantOk k) (type_named u q) (guard (map_of u) at p) (type_keeps k u st q) (λ t r. guard_keeps k (map_of u) st.named at p t r h)
place_round_keeps k u st w start at p ps g h None (Some s) i = as_call_keeps k (call_variable u w start p s ps) (call_variable_keeps k u st w start p s i ps g h)
place_round_keeps k u st w start at p ps g h None None i = visited_breaks k u st at ps g

pub call_meant_keeps : (k : Setting) (u : Around) → Stands k u → (w : Where) (start : Pos) (m : Meant) (ps : List Phrase) → ArePhrases k ps → MeantOk k m → Keeps k (MeantOk k) (call_meant u w start m ps)
call_meant_keeps k u st w start (means.Procedure q s) ps g h = as_call_keeps k (call_procedure u w start q s ps) (call_procedure_keeps k u st w start q s ps g h)
call_meant_keeps k u st w start (means.Bound c) ps g h = as_call_keeps k (call_bound u w start c ps) (call_bound_keeps k u st w start c ps g h)
call_meant_keeps k u st w start (means.Out p) ps g h = as_call_keeps k (call_out u w start p ps) (call_out_keeps k u st w start p ps g)
call_meant_keeps k u st w start (means.Predeclared f) ps g h = predeclared_keeps k u st w start f ps g
call_meant_keeps k u st w start m ps g h = (tt, none)

other_round_keeps : (k : Setting) (u : Around) → Stands k u → (w : Where) (start at : Pos) (m : Meant) (ps : List Phrase) → ArePhrases k ps → MeantOk k m → (q : Option Qualident) (a b c : Bool) → Keeps k (MeantOk k) (other_round u w start at m ps q a b c)
other_round_keeps k u st w start at m ps g h q true b c = call_meant_keeps k u st w start m ps g h
other_round_keeps k u st w start at m ps g h (Some q) false true c = then_keeps k (In k) (MeantOk k) (type_named u q) _ (type_keeps k u st q) (λ t r. (tt, none))
other_round_keeps k u st w start at m ps g h (Some q) false false c = visited_breaks k u st at ps g
other_round_keeps k u st w start at m ps g h None false b true = call_meant_keeps k u st w start m ps g h
other_round_keeps k u st w start at m ps g h None false b false = visited_breaks k u st at ps g

dot_keeps : (k : Setting) (u : Around) → Stands k u → (start at : Pos) (x : Ident) (last : Bool) (m : Meant) → MeantOk k m → Keeps k (MeantOk k) (step_dot u start at x last m)
dot_keeps k u st start at x last (means.Place p) h = select_keeps k u st start at x p last h
dot_keeps k u st start at x last m h = (tt, none)

index_breaks : (k : Setting) (at : Pos) (i : Judged Valued) → Keeps k (ValuedOk k) i → Keeps k (MeantOk k) (noted i.notes (breaks rule.UnfitSelector at))
index_breaks k at i g = (tt, said_both k i.notes (broken_at rule.UnfitSelector at) g.1 none)

index_step_keeps : (k : Setting) (map : Map) → Naming k map → (at : Pos) (i : Judged Valued) (m : Meant) → MeantOk k m → Keeps k (ValuedOk k) i → Keeps k (MeantOk k) (step_index map at i m)
index_step_keeps k map n at i (means.Place p) h g = then_keeps k (PlaceOk k) (MeantOk k) (index map at p i) (λ q. sound (means.Place q)) (index_keeps k map n at p i h g) (λ q r. (r, none))
index_step_keeps k map n at i m h g = index_breaks k at i g

up_keeps : (k : Setting) (u : Around) → Stands k u → (at : Pos) (m : Meant) → MeantOk k m → Keeps k (MeantOk k) (step_up u at m)
up_keeps k u st at (means.Place p) h =
    then_keeps k (PlaceOk k) (MeantOk k) (dereference (map_of u) at p) (λ q. sound (means.Place q))
    (deref_keeps k (map_of u) at p (pointed (map_of u) p.of) (pointed_ok k (map_of u) st.named p.of h.1 (pointed (map_of u) p.of) refl) h) (λ q r. (r, none))
up_keeps k u st at (means.Bound c) h = super_keeps k u st at c u.receiver refl h
up_keeps k u st at m h = (tt, none)

round_keeps : (k : Setting) (u : Around) → Stands k u → (w : Where) (start at : Pos) (ps : List Phrase) → ArePhrases k ps → (m : Meant) → MeantOk k m → Keeps k (MeantOk k) (step_round u w start at ps m)
round_keeps k u st w start at ps g (means.Place p) h = place_round_keeps k u st w start at p ps g h (type_in_round u ps) (signature_at (map_of u) p.of) (signature_held k u st p h)
round_keeps k u st w start at ps g m h = other_round_keeps k u st w start at m ps g h (type_in_round u ps) (takes_type m) (is_guardable m) (is_callable m)

step_keeps : (k : Setting) (u : Around) → Stands k u → (w : Where) (start : Pos) (m : Meant) → MeantOk k m → (b : Behind) → BehindOk k b → (last : Bool) → Keeps k (MeantOk k) (step u w start m b last)
step_keeps k u st w start m h (Dot at x) g last = dot_keeps k u st start at x last m h
step_keeps k u st w start m h (Index at i) g last = index_step_keeps k (map_of u) st.named at (i.value u) m h (g.0 u st)
step_keeps k u st w start m h (Up at) g last = up_keeps k u st at m h
step_keeps k u st w start m h (Round at ps) g last = round_keeps k u st w start at ps g m h

on_keeps : (k : Setting) (u : Around) → Stands k u → (bs : List Behind) → AllByRecursion (BehindOk k) bs → (j : Judged Meant) (f : Meant → Judged Meant) → Keeps k (MeantOk k) j → ((m : Meant) → MeantOk k m → Keeps k (MeantOk k) (f m)) → Keeps k (MeantOk k) (go_on u bs j f)
on_keeps k u st bs a j f h g = noted_keeps k (MeantOk k) j.notes (go_on_with u bs f j.node) h.1 (with_node j.node h.0)
  where
    with_node : (o : Option Meant) → IfThere (MeantOk k) o → Keeps k (MeantOk k) (go_on_with u bs f o)
    with_node None q = (tt, said_both k (all_visited u bs) no_notes (all_said k u st bs a) none)
    with_node (Some m) q = g m q

through_keeps : (k : Setting) (u : Around) → Stands k u → (w : Where) (start : Pos) (bs : List Behind) → AllByRecursion (BehindOk k) bs → (m : Meant) → MeantOk k m → Keeps k (MeantOk k) (through u w start bs m)
through_keeps k u st w start [] g m h = (h, none)
through_keeps k u st w start (b ∷ bs) g m h = on_keeps k u st bs g.1 (step u (where_of w (nothing_behind bs)) start m b (nothing_behind bs)) (λ n. through u w start bs n) (step_keeps k u st (where_of w (nothing_behind bs)) start m h b g.0 (nothing_behind bs)) (λ n q. through_keeps k u st w start bs g.1 n q)

-- ---- the name at the front

of_variable_keeps : (k : Setting) (j : Judged Place) → Keeps k (PlaceOk k) j → Keeps k (MeantOk k) (of_variable j)
of_variable_keeps k j h = then_keeps k (PlaceOk k) (MeantOk k) j (λ q. sound (means.Place q)) h (λ q r. (r, none))

meant_exported : (k : Setting) (u : Around) → Stands k u → (start at : Pos) (m x : List ℕ) (d : Desc) → NamesIn k.Held d → Keeps k (MeantOk k) (exported_meant u start at m x d)
meant_exported k u st start at m x (desc.Const v) h = (tt, none)
meant_exported k u st start at m x (desc.Var a t) h = of_variable_keeps k (variable_named u start (variable.Module m x) t _) (variable_keeps k u st start (variable.Module m x) t _ h.0)
meant_exported k u st start at m x (desc.Proc s) h = (h, none)
meant_exported k u st start at m x d h = (tt, none)

out_keeps : (k : Setting) (at : Pos) (o : Option OutProcedure) → Keeps k (MeantOk k) (out_meant at o)
out_keeps k at None = (tt, none)
out_keeps k at (Some p) = (tt, none)

in_module_keeps : (k : Setting) (u : Around) → Stands k u → (start : Pos) (m : List ℕ) (x : Ident) (b : Bool) → Keeps k (MeantOk k) (in_module b u start m x)
in_module_keeps k u st start m x true = out_keeps k x.pos (out_procedure x.name)
in_module_keeps k u st start m x false = then_keeps k (ExportOk k) (MeantOk k) (exported u m x) (λ d. exported_meant u start x.pos m x.name d.1) (exported_keeps k u st m x) (λ d h. meant_exported k u st start x.pos m x.name d.1 h.1)

module_front_keeps : (k : Setting) (u : Around) → Stands k u → (start : Pos) (m : List ℕ) (o : Option Ident) → Keeps k (MeantOk k) (module_front u start m o)
module_front_keeps k u st start m None = (tt, none)
module_front_keeps k u st start m (Some y) = in_module_keeps k u st start m y (is_out m)

front_of_keeps : (k : Setting) (u : Around) → Stands k u → (x : Ident) (e : Entity) → EntityOk k e → (o : Option Ident) → Keeps k (MeantOk k) (front_of u x e o)
front_of_keeps k u st x (entity.Constant v) h o = (tt, none)
front_of_keeps k u st x (entity.Variable v t) h o = of_variable_keeps k (variable_named u x.pos v t false) (variable_keeps k u st x.pos v t false h)
front_of_keeps k u st x (entity.Procedure q s) h o = (h, none)
front_of_keeps k u st x (entity.Forward q s) h o = (h, none)
front_of_keeps k u st x (entity.Predeclared f) h o = (tt, none)
front_of_keeps k u st x (entity.Module m) h o = module_front_keeps k u st x.pos m o
front_of_keeps k u st x e h o = (tt, none)

behind_all : (k : Setting) (b : Bool) (bs : List Behind) → AllByRecursion (BehindOk k) bs → AllByRecursion (BehindOk k) (behind b bs)
behind_all k true [] g = tt
behind_all k true (b ∷ bs) g = g.1
behind_all k false bs g = g

abbrev FrontOk : Setting → Meant × List Behind → Type 0
FrontOk k m = MeantOk k m.0 × AllByRecursion (BehindOk k) m.1

front_keeps : (k : Setting) (u : Around) → Stands k u → (x : Ident) (bs : List Behind) → AllByRecursion (BehindOk k) bs → Keeps k (FrontOk k) (front u x bs (named u x))
front_keeps k u st x bs g =
    then_keeps k (EntityOk k) (FrontOk k) (named u x) (λ e. made (λ m. (m, behind (is_module e) bs)) (front_of u x e (dot_of bs))) (named_keeps k u st x)
    (λ e h. made_keeps k (MeantOk k) (FrontOk k) (λ m. (m, behind (is_module e) bs)) (front_of u x e (dot_of bs)) (front_of_keeps k u st x e h (dot_of bs)) (λ m q. (q, behind_all k (is_module e) bs g)))

pub designates_keeps : (k : Setting) (u : Around) → Stands k u → (w : Where) (x : Ident) (bs : List Behind) → AllByRecursion (BehindOk k) bs → Keeps k (MeantOk k) (designates u w x bs)
designates_keeps k u st w x bs g =
    let j = front u x bs (named u x) in
    let h = front_keeps k u st x bs g in
    noted_keeps k (MeantOk k) j.notes (from_front_with u w x.pos bs j.node) h.1 (with_node j.node h.0)
  where
    with_node : (o : Option (Meant × List Behind)) → IfThere (FrontOk k) o → Keeps k (MeantOk k) (from_front_with u w x.pos bs o)
    with_node None q = (tt, said_both k (all_visited u bs) no_notes (all_said k u st bs g) none)
    with_node (Some m) q = through_keeps k u st w x.pos m.1 q.1 m.0 q.0
