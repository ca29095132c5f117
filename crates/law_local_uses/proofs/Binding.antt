-- Bound procedures leave the types of the module what they are but for their bound procedures, whose parameters and results are held.
use Rattle.std.proofs.Common.{◌≡◌, Bool, true, false, List, [], ◌∷◌, ◌++◌, map as each, Option, Some, None, refl, cond}
use Rattle.std.specs.List.{AllByRecursion, flat_map, filter}
use Rattle.std.specs.Prelude.{bytes_eq, not, ◌&&◌, ℕ, ◌||◌}
use Rattle.ob_tree.specs.declared.names.QName.{QName}
use Rattle.ob_types.specs.declared.desc.Desc.TheVariants as desc
use Rattle.ob_types.specs.declared.desc.Method.{Method}
use Rattle.ob_types.specs.declared.desc.RecordDesc.{RecordDesc}
use Rattle.ob_types.specs.declared.typed.TypedType.{TypedType}
use Rattle.ob_types.specs.Maps.{listed, signature_types}
use Rattle.ob_rules.specs.declared.broken.Rule.TheVariants as rule
use Rattle.ob_rules.specs.Judged.{notes_if, broken_at, no_notes}
use Rattle.ob_rules.specs.Shapes.{Map, Member, AField, AMethod, member}
use Rattle.ob_rules.specs.Names.{Around, map_of}
use Rattle.ob_rules.specs.Types.{Parameters}
use Rattle.ob_rules.specs.Headings.{Head, BoundAs, Binding, signature_if, signature_or_none, new_method, with_method, change_desc, changed_if, change_type, redefined, introduced_sound, bind_method, bind_by, bind_one, bind_all, of_record, bind_records, reversed, counts, counted, bindings, same_kind, differ}
use Rattle.law_local_judged.specs.Agreement.{IsIn, AreIn}
use Rattle.law_local_judged.proofs.Near.{left_in, right_in}
use Rattle.law_local_uses.specs.Settled.{core, NamesIn}
use Rattle.law_local_uses.proofs.Setting.{none}
use Rattle.law_local_uses.proofs.Around.{Given}
use Rattle.law_local_uses.proofs.Typings.{ParametersOk, signature_ok}
use Rattle.law_local_uses.proofs.Quiet.{Names, if_names, both_name}
use Rattle.law_lists.proofs.Lists.{IfThere, all_both}

-- what a type keeps where a bound procedure that is held is added to it
pub record Stays (g : Given) (Q : TypedType → Type 0) : Type 0 where
  pub keeps : (t : TypedType) (f : RecordDesc → RecordDesc) → ((r : RecordDesc) → NamesIn g.Held (desc.Record r) → NamesIn g.Held (desc.Record (f r))) → ((r : RecordDesc) → core (desc.Record (f r)) ≡ core (desc.Record r)) → Q t → Q (record { name = t.name; desc = change_desc f t.desc })

methods_join : (g : Given) (ms : List Method) (m : Method) → AreIn g.Held (flat_map (λ m. signature_types m.signature) ms) → AreIn g.Held (signature_types m.signature) → AreIn g.Held (flat_map (λ m. signature_types m.signature) (ms ++ m ∷ []))
methods_join g [] m h i = all_both (IsIn g.Held) (signature_types m.signature) [] i tt
methods_join g (x ∷ ms) m h i =
    all_both (IsIn g.Held) (signature_types x.signature) (flat_map (λ m. signature_types m.signature) (ms ++ m ∷ [])) (left_in g.Held (signature_types x.signature) (flat_map (λ m. signature_types m.signature) ms) h)
    (methods_join g ms m (right_in g.Held (signature_types x.signature) (flat_map (λ m. signature_types m.signature) ms) h) i)

method_named : (g : Given) (m : Method) → AreIn g.Held (signature_types m.signature) → (r : RecordDesc) → NamesIn g.Held (desc.Record r) → NamesIn g.Held (desc.Record (with_method r m))
method_named g m i r h =
    let front = listed r.base ++ each (λ f. f.of) r.fields in
    all_both (IsIn g.Held) front (flat_map (λ m. signature_types m.signature) (r.methods ++ m ∷ [])) (left_in g.Held front (flat_map (λ m. signature_types m.signature) r.methods) h) (methods_join g r.methods m (right_in g.Held front (flat_map (λ m. signature_types m.signature) r.methods) h) i)

module _ (g : Given) (Q : TypedType → Type 0) (stays : Stays g Q) where
  if_changed : (b : Bool) (m : Method) → AreIn g.Held (signature_types m.signature) → (t : TypedType) → Q t → Q (changed_if b (λ r. with_method r m) t)
  if_changed true m i t h = stays.keeps t (λ r. with_method r m) (method_named g m i) (λ r. refl) h
  if_changed false m i t h = h

  changed : (x : List ℕ) (m : Method) → AreIn g.Held (signature_types m.signature) → (ts : List TypedType) → AllByRecursion Q ts → AllByRecursion Q (change_type x (λ r. with_method r m) ts)
  changed x m i [] h = tt
  changed x m i (t ∷ ts) h = (if_changed (bytes_eq t.name x) m i t h.0, changed x m i ts h.1)

  signature_held : (o : Option Parameters) → IfThere (ParametersOk g) o → AreIn g.Held (signature_types (signature_or_none (signature_if o)))
  signature_held None h = tt
  signature_held (Some p) h = signature_ok g p h

  -- the types keep it, and the notes name what is held
  pub record BindingOk (s : Binding) : Type 0 where
    pub own : AllByRecursion Q s.own
    pub notes : Names g s.notes

  redefined_ok : (b : Bool) (s : Binding) (h : Head) (b' : BoundAs) → BindingOk s → BindingOk (redefined b s h b')
  redefined_ok true s h b' k = record { own = k.own; notes = both_name g s.notes (broken_at rule.UnmatchedRedefinition h.at) k.notes none }
  redefined_ok false s h b' k = record { own = k.own; notes = k.notes }

  method_ok : (b : Bool) (u : Around) (map : Map) (s : Binding) (h : Head) (b' : BoundAs) (o : QName) (m : Method) → BindingOk s → BindingOk (bind_method b u map s h b' o m)
  method_ok true u map s h b' o m k = k
  method_ok false u map s h b' o m k = redefined_ok (not (same_kind m.receiver b'.receiver) || differ map h m (introduced_sound u s.bound o m.name)) s h b' k

  by_ok : (u : Around) (map : Map) (s : Binding) (h : Head) → IfThere (ParametersOk g) h.parameters → (b : BoundAs) (o : Option Member) → BindingOk s → BindingOk (bind_by u map s h b o)
  by_ok u map s h p b None k = record { own = changed b.owner.object (new_method h b) (signature_held h.parameters p) s.own k.own; notes = k.notes }
  by_ok u map s h p b (Some (AField o f)) k = record { own = k.own; notes = both_name g s.notes (notes_if (not h.forward) rule.DeclaredTwice h.at) k.notes (if_names g (not h.forward) rule.DeclaredTwice h.at) }
  by_ok u map s h p b (Some (AMethod o m)) k = method_ok (bytes_eq o.object b.owner.object && bytes_eq o.module u.unit) u map s h b o m k

  one_ok : (u : Around) (s : Binding) (h : Head) → IfThere (ParametersOk g) h.parameters → (o : Option BoundAs) → BindingOk s → BindingOk (bind_one u s h o)
  one_ok u s h p None k = k
  one_ok u s h p (Some b) k = by_ok u (map_of (record u { own = s.own })) s h p b (member (map_of (record u { own = s.own })) b.owner h.name) k

  abbrev HeadsHeld : List Head → Type 0
  HeadsHeld hs = AllByRecursion (λ (h : Head). IfThere (ParametersOk g) h.parameters) hs

  all_ok : (u : Around) (hs : List Head) → HeadsHeld hs → (s : Binding) → BindingOk s → BindingOk (bind_all u s hs)
  all_ok u [] p s k = k
  all_ok u (h ∷ hs) p s k = all_ok u hs p.1 (bind_one u s h h.bound) (one_ok u s h p.0 h.bound k)

  filter_if : (b : Bool) (h : Head) (hs : List Head) → IfThere (ParametersOk g) h.parameters → HeadsHeld hs → HeadsHeld (cond b (h ∷ hs) hs)
  filter_if true h hs p k = (p, k)
  filter_if false h hs p k = k

  filter_ok : (test : Head → Bool) (hs : List Head) → HeadsHeld hs → HeadsHeld (filter test hs)
  filter_ok test [] p = tt
  filter_ok test (h ∷ hs) p = filter_if (test h) h (filter test hs) p.0 (filter_ok test hs p.1)

  records_ok : (u : Around) (hs : List Head) → HeadsHeld hs → (ts : List TypedType) (s : Binding) → BindingOk s → BindingOk (bind_records u hs s ts)
  records_ok u hs p [] s k = k
  records_ok u hs p (t ∷ ts) s k = records_ok u hs p ts (bind_all u s (filter (of_record t.name) hs)) (all_ok u (filter (of_record t.name) hs) (filter_ok (of_record t.name) hs p) s k)

  pub bindings_ok : (u : Around) → AllByRecursion Q u.own → (hs : List Head) → HeadsHeld hs → BindingOk (bindings u hs)
  bindings_ok u o hs p = records_ok u (counted hs) (counted_ok hs p) (reversed u.own) (record { own = u.own; bound = []; notes = no_notes }) (record { own = o; notes = none })
    where
      counted_ok : (hs : List Head) → HeadsHeld hs → HeadsHeld (counted hs)
      counted_ok hs p = filter_ok (counts hs) hs p
