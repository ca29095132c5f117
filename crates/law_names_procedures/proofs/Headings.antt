-- Headings, where nothing is broken: each receiver is sound, and no two procedures of a sequence have one key.
use Rattle.std.proofs.Common.{◌≡◌, ℕ, Bool, true, false, List, [], ◌++◌, Option, Some, None, refl, sym, ap, subst, ◌∙◌, inl, inr}
use Rattle.std.specs.Prelude.{bytes_eq, is_some, not, ◌&&◌, ◌==◌}
use Rattle.std.specs.Option.{option_map}
use Rattle.std.specs.List.{find, list_any}
use Rattle.std.proofs.lemmas.Bool.{false≢true, and_parts}
use Rattle.ob_tree.specs.declared.pos.Pos.{Pos}
use Rattle.ob_tree.specs.declared.names.QName.{QName}
use Rattle.ob_tree.specs.declared.ident.Mark.{Mark}
use Rattle.ob_tree.specs.declared.decl.Receiver.{Receiver as RawReceiver}
use Rattle.ob_types.specs.declared.types.TypeRef.{TypeRef}
use Rattle.ob_types.specs.declared.types.TypeRef.TheVariants as ref
use Rattle.ob_types.specs.declared.desc.Desc.{Desc}
use Rattle.ob_types.specs.declared.desc.Desc.TheVariants as desc
use Rattle.ob_types.specs.declared.typed.TypedType.{TypedType}
use Rattle.ob_types.specs.Tests.{target, shape_at, pointer_of}
use Rattle.ob_rules.specs.declared.entity.Known.{Known}
use Rattle.ob_rules.specs.declared.broken.Rule.TheVariants as rule
use Rattle.ob_rules.specs.Judged.{both, paired, if_sound}
use Rattle.ob_rules.specs.Shapes.{is_held, pointed, same_name}
use Rattle.ob_rules.specs.Names.{Around, map_of, type_desc, own_desc, out_string, in_unit, is_among, type_named}
use Rattle.ob_rules.specs.Types.{Parameters, with_types, is_module_level, marked, inner, parameters_in}
use Rattle.ob_rules.specs.Headings.{BoundAs, silent_base, is_own, if_own, own_record, received_record, bound_to, owner_of, owner_if, knows_receiver, WrittenHeading, Head, path_by, forward_name, bound_in, as_parameters, heading_parameters, head_of, made_anew, are_there}
use Rattle.law_names_procedures.specs.Procedures.{IsShown, ShowBases}
use Rattle.law_names_procedures.proofs.Judges.{Has, Speaks, paired_has, has_more, breaks_speaks, then_speaks, made_speaks, unless_speaks}
use Rattle.law_names_procedures.proofs.Knowing.{IsKnown, AreKnown, find_has, filter_has, name_speaks}
use Rattle.law_names_procedures.proofs.Points.{holds, back_covers, IsLater, PointsWell, ArePointed, Points, points_more, points_alike}
use Rattle.law_names_procedures.proofs.Typings.{AreWellSections, parameters_well, mark_speaks}
use Rattle.law_names_procedures.proofs.Apart.{Lacks, IsPlain, lacks_from}
use Rattle.law_lists.proofs.Lists.{Anything, IfThere, all_both, back_empty, bytes_itself, front_empty, not_false}

-- ---- the bases of pointers

-- where all types of the scope are declared
pub record AreBased (u : Around) : Type 0 where
  pub pointed : ArePointed u u.own
  pub later : (x : List ℕ) → is_among x u.later_types ≡ true → holds u.own (u.path ++ x) ≡ true
  pub shown : ShowBases u.shown u.unit

own_held : (u : Around) (x : List ℕ) (b c : Bool) → b ≡ true → holds u.own x ≡ true → is_some (type_desc b c u (in_unit u x)) ≡ true
own_held u x true c e h = h
own_held u x false c e h = absurd (false≢true e)

shown_held : (u : Around) (p : QName) (b c : Bool) → b ≡ false → is_some (u.shown p) ≡ true → is_some (type_desc b c u p) ≡ true
shown_held u p true c e h = absurd (false≢true (sym e))
shown_held u p false true e h = refl
shown_held u p false false e h = h

base_shown : (u : Around) (b : TypeRef) → IsShown u.shown u.unit b → is_held (map_of u) b ≡ true
base_shown u (ref.Basic b) h = refl
base_shown u (ref.Named p) h = shown_held u p (bytes_eq p.«module» u.unit) (same_name p out_string) h.0 h.1

later_held : (u : Around) → AreBased u → (b : TypeRef) → IsLater u b → is_held (map_of u) b ≡ true
later_held u g b h =
    let k : is_held (map_of u) (ref.Named (in_unit u (u.path ++ h.0))) ≡ true = own_held u (u.path ++ h.0) (bytes_eq u.unit u.unit) (same_name (in_unit u (u.path ++ h.0)) out_string) (bytes_itself u.unit) (g.later h.0 h.1) in
    subst (λ t. is_held (map_of u) t ≡ true) (sym h.2) k

desc_base : (u : Around) → AreBased u → (d : Desc) → PointsWell u d → (b : TypeRef) → pointer_of (Some d) ≡ Some b → is_held (map_of u) b ≡ true
desc_base u g (desc.Pointer m t) (inl h) b e = let i : t ≡ b = cc in subst (λ t. is_held (map_of u) t ≡ true) i h
desc_base u g (desc.Pointer m t) (inr h) b e = let i : t ≡ b = cc in subst (λ t. is_held (map_of u) t ≡ true) i (later_held u g t h)
desc_base u g (desc.Const x) h b e = absurd cc
desc_base u g (desc.Var m t) h b e = absurd cc
desc_base u g (desc.Proc s) h b e = absurd cc
desc_base u g (desc.Alias m t) h b e = absurd cc
desc_base u g (desc.Array m n t) h b e = absurd cc
desc_base u g (desc.OpenArray m t) h b e = absurd cc
desc_base u g (desc.ProcType m s) h b e = absurd cc
desc_base u g (desc.Record r) h b e = absurd cc

found_base : (u : Around) → AreBased u → (o : Option TypedType) → IfThere (λ t. PointsWell u t.desc) o → (b : TypeRef) → pointer_of (own_desc o) ≡ Some b → is_held (map_of u) b ≡ true
found_base u g None h b e = absurd cc
found_base u g (Some t) h b e = desc_base u g t.desc h b e

at_base : (u : Around) → AreBased u → (q : QName) (c d : Bool) (b : TypeRef) → pointer_of (type_desc c d u q) ≡ Some b → is_held (map_of u) b ≡ true
at_base u g q true d b e = found_base u g (find (λ t. bytes_eq t.name q.object) u.own) (find_has (λ t. PointsWell u t.desc) (λ t. bytes_eq t.name q.object) u.own g.pointed) b e
at_base u g q false true b e = absurd cc
at_base u g q false false b e = base_shown u b (g.shown q b e)

target_base : (u : Around) → AreBased u → (t b : TypeRef) → pointer_of (shape_at (map_of u) t) ≡ Some b → is_held (map_of u) b ≡ true
target_base u g (ref.Basic x) b e = absurd cc
target_base u g (ref.Named q) b e = at_base u g q (bytes_eq q.«module» u.unit) (same_name q out_string) b e

pointed_base : (u : Around) → AreBased u → (t b : TypeRef) → pointed (map_of u) t ≡ Some b → is_held (map_of u) b ≡ true
pointed_base u g t b e = target_base u g (target (map_of u) 201 t) b e

pub more_based : (u : Around) (ts : List TypedType) → Points u ts → AreBased u → AreBased (with_types u ts)
more_based u ts h g = record {
  pointed = all_both (λ t. PointsWell (with_types u ts) t.desc) ts u.own h (points_more u u.own (ts ++ u.own) (back_covers ts u.own) u.own g.pointed);
  later = λ x e. back_covers ts u.own (u.path ++ x) (g.later x e);
  shown = g.shown;
}

pub known_based : (u : Around) (ks : List Known) → AreBased u → AreBased (record u { known = ks })
known_based u ks g = record { pointed = points_alike u (record u { known = ks }) (record { unit = refl; shown = refl; own = refl; later_types = refl; path = refl }) u.own g.pointed; later = g.later; shown = g.shown }

-- ---- receivers

abbrev pub IsOwner : BoundAs → Type 0
IsOwner b = Lacks 47 b.owner.object

own_lacks : (u : Around) (q : QName) (l b : Bool) → (is_own u q && l) ≡ b → IfThere (λ (q : QName). Lacks 47 q.object) (if_own b q)
own_lacks u q l false e = tt
own_lacks u q l true e =
    let p = and_parts (is_own u q) l e in
    lacks_from 47 q.object refl (not_false (list_any (λ c. c == 47) q.object) (and_parts (bytes_eq q.«module» u.unit) (not (list_any (λ c. c == 47) q.object)) p.0).1)

record_lacks : (u : Around) (o : Option QName) → IfThere (λ (q : QName). Lacks 47 q.object) (own_record u o)
record_lacks u None = tt
record_lacks u (Some q) = own_lacks u q (is_module_level u) (is_own u q && is_module_level u) refl

bound_speaks : (at : Pos) (var : Bool) (t : TypeRef) (quiet : Bool) (o : Option QName) → (quiet ≡ true → ⊥) → IfThere (λ (q : QName). Lacks 47 q.object) o → Speaks IsOwner (bound_to at var t quiet o)
bound_speaks at var t quiet (Some q) n h = λ e. h
bound_speaks at var t true None n h = absurd (n refl)
bound_speaks at var t false None n h = breaks_speaks IsOwner rule.UnfitReceiver at

silent_not : (u : Around) (var : Bool) (o : Option TypeRef) → ((b : TypeRef) → o ≡ Some b → is_held (map_of u) b ≡ true) → silent_base (map_of u) var o ≡ true → ⊥
silent_not u true o h e = false≢true e
silent_not u false None h e = false≢true e
silent_not u false (Some b) h e = false≢true (sym (not_false (is_held (map_of u) b) e) ∙ h b refl)

pub owner_speaks : (u : Around) (r : RawReceiver) → AreKnown u.known → (is_module_level u ≡ true → AreBased u) → Speaks IsOwner (owner_of u r)
owner_speaks u r k g =
    then_speaks Anything IsOwner (type_named u (record { qualifier = None; ident = r.owner })) (λ t. bound_to r.owner.pos r.is_var t (is_module_level u && silent_base (map_of u) r.is_var (pointed (map_of u) t)) (own_record u (received_record (map_of u) r.is_var t)))
    (name_speaks u (record { qualifier = None; ident = r.owner }) k)
    (λ t h. bound_speaks r.owner.pos r.is_var t _ _ (λ e.
    let p = and_parts (is_module_level u) (silent_base (map_of u) r.is_var (pointed (map_of u) t)) e in
    silent_not u r.is_var (pointed (map_of u) t) (λ b i. pointed_base u (g p.0) t b i) p.1) (record_lacks u (received_record (map_of u) r.is_var t)))

-- bound exactly where there is a receiver
abbrev IsBoundBy : Option RawReceiver → Option BoundAs → Type 0
IsBoundBy r o = IfThere IsOwner o × (is_some o ≡ is_some r)

owner_if_speaks : (u : Around) (r : Option RawReceiver) → AreKnown u.known → (is_module_level u ≡ true → AreBased u) → Speaks (IsBoundBy r) (owner_if u r)
owner_if_speaks u None k g = λ e. (tt, refl)
owner_if_speaks u (Some r) k g = made_speaks IsOwner (IsBoundBy (Some r)) (λ b. Some b) (owner_of u r) (owner_speaks u r k g) (λ b h. (h, refl))

-- ---- one heading

pub record IsHead (u : Around) (h : Head) : Type 0 where
  pub path : h.path ≡ u.path ++ path_by (Some h.bound) h.name
  pub bound : is_some h.bound ≡ h.is_bound
  pub owner : IfThere IsOwner h.bound
  pub plain : IsPlain h.name
  pub parameters : Has (λ p. Points u p.made) h.parameters
  pub inside : AreKnown h.inside

path_in : (P : Option BoundAs → Type 0) (n : Option (Option BoundAs)) (x : List ℕ) → Has P n → path_by n x ≡ path_by (Some (bound_in n)) x
path_in P None x h = absurd h
path_in P (Some o) x h = refl

bound_is : (r : Option RawReceiver) (n : Option (Option BoundAs)) → Has (IsBoundBy r) n → IsBoundBy r (bound_in n)
bound_is r None h = absurd h
bound_is r (Some o) h = h

receiver_known : (u : Around) (r : Option RawReceiver) (n : Option (Option BoundAs)) → Has (IsBoundBy r) n → AreKnown u.known → AreKnown (knows_receiver u r n).known
receiver_known u None n h k = k
receiver_known u (Some r) None h k = absurd h
receiver_known u (Some r) (Some None) h k = absurd (false≢true h.1)
receiver_known u (Some r) (Some (Some b)) h k = (tt, k)

receiver_points : (u : Around) (r : Option RawReceiver) (n : Option (Option BoundAs)) (ts : List TypedType) → Points (knows_receiver u r n) ts → Points u ts
receiver_points u None n ts h = h
receiver_points u (Some r) None ts h = points_alike (with_types (knows_receiver u (Some r) None) ts) (with_types u ts) (record { unit = refl; shown = refl; own = refl; later_types = refl; path = refl }) ts h
receiver_points u (Some r) (Some None) ts h = points_alike (with_types (knows_receiver u (Some r) (Some None)) ts) (with_types u ts) (record { unit = refl; shown = refl; own = refl; later_types = refl; path = refl }) ts h
receiver_points u (Some r) (Some (Some b)) ts h = points_alike (with_types (knows_receiver u (Some r) (Some (Some b))) ts) (with_types u ts) (record { unit = refl; shown = refl; own = refl; later_types = refl; path = refl }) ts h

as_has : (P : Parameters → Type 0) (o : Option ((Mark × Option BoundAs) × Parameters)) → Has (λ (p : (Mark × Option BoundAs) × Parameters). Unit {0} × P p.1) o → Has P (as_parameters o)
as_has P None h = absurd h
as_has P (Some p) h = h.1

some_mapped : {A B : Type 0} (f : A → B) (o : Option A) → is_some (option_map f o) ≡ is_some o
some_mapped f None = refl
some_mapped f (Some x) = refl

pub head_good : (u : Around) (w : WrittenHeading) (forward : Bool) → AreWellSections w.parameters.sections → IsPlain w.name.ident.name → AreKnown u.known → (is_module_level u ≡ true → AreBased u) → (head_of u w forward).notes.broken ≡ [] → IsHead u (head_of u w forward)
head_good u w forward g pl k based e =
    let m = marked u false w.name in
    let b = owner_if u w.receiver in
    let s = heading_parameters u w forward b in
    let v = knows_receiver (inner u) w.receiver b.node in
    let two : m.notes.broken ++ b.notes.broken ≡ [] = front_empty (m.notes.broken ++ b.notes.broken) s.found.notes.broken e in
    let three : s.found.notes.broken ≡ [] = back_empty (m.notes.broken ++ b.notes.broken) s.found.notes.broken e in
    let i : Has Anything m.node = mark_speaks u false w.name (front_empty m.notes.broken b.notes.broken two) in
    let n : Has (IsBoundBy w.receiver) b.node = owner_if_speaks u w.receiver k based (back_empty m.notes.broken b.notes.broken two) in
    let inside = parameters_in v (forward_name forward (u.path ++ path_by b.node w.name.ident.name)) w.parameters in
    let at = w.name.ident.«pos» in
    let p = parameters_well v (forward_name forward (u.path ++ path_by b.node w.name.ident.name)) w.parameters g (receiver_known (inner u) w.receiver b.node n k) (front_empty inside.found.notes.broken (if_sound inside.found.node (made_anew u at)).notes.broken three) in
    let r : Has (λ p. Points v p.made) s.found.node = then_speaks (λ p. Points v p.made) (λ p. Points v p.made) inside.found (made_anew u at) (λ i. p.0) (λ x i. unless_speaks (λ p. Points v p.made) (are_there u x.made) rule.DeclaredTwice at x i) three in
    let q : Has (λ p. Points u p.made) s.found.node = has_more (λ p. Points v p.made) (λ p. Points u p.made) s.found.node (λ p h. points_alike (with_types (inner u) p.made) (with_types u p.made) (record { unit = refl; shown = refl; own = refl; later_types = refl; path = refl }) p.made (receiver_points (inner u) w.receiver b.node p.made h)) r in
    let a = bound_is w.receiver b.node n in
    record {
      path = ap (λ x. u.path ++ x) (path_in (IsBoundBy w.receiver) b.node w.name.ident.name n);
      bound = a.1;
      owner = a.0;
      plain = pl;
      parameters = as_has (λ p. Points u p.made) (both (both m b) s.found).node (paired_has Anything (λ p. Points u p.made) (both m b).node s.found.node (paired_any m.node b.node i n) q);
      inside = filter_has (λ k. IsKnown k.what) _ s.known p.1;
    }
  where
    paired_any : (m : Option Mark) (b : Option (Option BoundAs)) → Has Anything m → Has (IsBoundBy w.receiver) b → Has Anything (paired m b)
    paired_any None b i n = absurd i
    paired_any (Some m) None i n = absurd n
    paired_any (Some m) (Some b) i n = tt
