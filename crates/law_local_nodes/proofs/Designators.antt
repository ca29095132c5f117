-- Designators: a name, and each selector behind it, has a node, or breaks a rule.
use Rattle.std.proofs.Common.{◌≡◌, refl, sym, ap, subst, ℕ, Bool, true, false, List, [], ◌∷◌, Option, Some, None}
use Rattle.std.specs.Prelude.{◌&&◌, not, is_some}
use Rattle.std.specs.List.{AllByRecursion, list_any}
use Rattle.std.proofs.lemmas.Bool.{false≢true}
use Rattle.ob_tree.specs.declared.pos.Pos.{Pos}
use Rattle.ob_tree.specs.declared.names.QName.{QName}
use Rattle.ob_tree.specs.declared.ident.Ident.{Ident}
use Rattle.ob_tree.specs.declared.ident.Mark.{Mark}
use Rattle.ob_tree.specs.declared.ident.Mark.TheVariants as mark
use Rattle.ob_tree.specs.declared.ident.Qualident.{Qualident}
use Rattle.ob_types.specs.declared.types.TypeRef.{TypeRef}
use Rattle.ob_types.specs.declared.types.Signature.{Signature}
use Rattle.ob_types.specs.declared.desc.Desc.{Desc}
use Rattle.ob_types.specs.declared.desc.Desc.TheVariants as desc
use Rattle.ob_types.specs.declared.desc.Receiver.{Receiver}
use Rattle.ob_types.specs.declared.desc.Receiver.TheVariants as receiver
use Rattle.ob_types.specs.declared.typed.Guarded.{Guarded}
use Rattle.ob_types.specs.declared.typed.OutProcedure.{OutProcedure}
use Rattle.ob_types.specs.declared.typed.Variable.{Variable}
use Rattle.ob_types.specs.declared.typed.Variable.TheVariants as variable
use Rattle.ob_rules.specs.declared.entity.Entity.{Entity}
use Rattle.ob_rules.specs.declared.entity.Entity.TheVariants as entity
use Rattle.ob_rules.specs.declared.entity.Known.{Known}
use Rattle.ob_rules.specs.declared.entity.Received.{Received}
use Rattle.ob_rules.specs.declared.meant.Chosen.{Chosen}
use Rattle.ob_rules.specs.declared.meant.Meant.{Meant}
use Rattle.ob_rules.specs.declared.meant.Meant.TheVariants as means
use Rattle.ob_rules.specs.declared.meant.Where.{Where}
use Rattle.ob_rules.specs.declared.meant.Where.TheVariants.{InExpression, AsStatement, Elsewhere}
use Rattle.ob_rules.specs.declared.broken.Predeclared.{Predeclared}
use Rattle.ob_rules.specs.declared.values.Place.{Place}
use Rattle.ob_rules.specs.declared.values.Valued.{Valued}
use Rattle.ob_rules.specs.declared.broken.Rule.TheVariants as rule
use Rattle.ob_rules.specs.declared.broken.Rule.{Rule}
use Rattle.ob_rules.specs.Judged.{Judged, Notes, if_sound, sound, breaks, wants, found_or, noted, made, ◌▷◌}
use Rattle.ob_rules.specs.Shapes.{Map, Member, AField, AMethod, member, pointed, record_of, array_of, is_array, is_held, signature_at, base_record}
use Rattle.ob_rules.specs.Names.{Around, map_of, find_name, variable_known, is_enclosing, entity_known, name_known, named, unless_hidden, record_unless_hidden, shown_of, export_known, exported, is_out, out_procedure, type_named}
use Rattle.ob_rules.specs.Values.{is_integer}
use Rattle.ob_rules.specs.Phrases.{dereferenced, Phrase, Behind, Dot, Index, Up, Round}
use Rattle.ob_rules.specs.Calls.{call_procedure, call_variable, call_out, call_bound}
use Rattle.ob_rules.specs.Designators.{same_variable, guarded_by, guard_of, variable_named, guard, if_so_held, dereference_of, dereference, through_if, implicitly, indexed, index_into, index_if, index, is_read_only, field_of, chosen, with_receiver, select_bound, comes_as, comes, nothing_behind, not_there, member_found, member_of, select_of, select_through, select, super_of, super_in, super_if, super, visited, all_visited, type_in_round, as_call, place_round, call_meant, takes_type, is_callable, is_guardable, other_round, step_dot, step_index, step_up, step_round, step, where_of, go_on_with, go_on, through, of_variable, exported_meant, out_meant, in_module, dot_of, module_front, front_of, is_module, behind, front, from_front_with, from_front, designates}
use Rattle.law_names_procedures.proofs.Judges.{Has, Speaks, not_empty, has_more, speaks_more, breaks_speaks, then_speaks, made_speaks, wants_speaks}
use Rattle.law_names_procedures.proofs.Knowing.{IsKnown, find_has, name_speaks}
use Rattle.law_local_nodes.specs.Quiet.{IsQuiet}
use Rattle.law_local_nodes.proofs.Operators.{There}
use Rattle.law_local_nodes.proofs.Predeclared.{IsNoStatement, Fits, fits, IsCall, Comes, calls_come, comes_fits, IsHeld, PhraseThere, PhrasesThere, predeclared_there}
use Rattle.law_local_nodes.proofs.Calls.{procedure_there, held_there, out_there, bound_there}
use Rattle.law_local_nodes.proofs.Guards.{Means, plain, behind as behind_dot, Quiet, are_known, found_in}
use Rattle.law_lists.proofs.Lists.{Anything, back_empty, front_empty}

pub noted_breaks : {A : Type 0} (P : A → Type 0) (n : Notes) (which : Rule) (at : Pos) → Speaks P (noted n (breaks {A = A} which at))
noted_breaks P n which at = λ e. not_empty _ [] (back_empty n.broken _ e)

pub found_there : {A : Type 0} (which : Rule) (at : Pos) (o : Option A) → There (found_or which at o)
found_there {A} which at None = breaks_speaks {A = A} Anything which at
found_there which at (Some x) = λ n. tt

abbrev No : Judged Meant → Type 0
No j = Speaks IsNoStatement j

no_fits : (w : Where) (j : Judged Meant) → No j → Speaks (Fits w) j
no_fits w j h = speaks_more IsNoStatement (Fits w) j (fits w) h

-- ---- through pointers

held_has : (b : Bool) (p : Place) → b ≡ true → Has Anything (if_so_held b p).node
held_has true p e = tt
held_has false p e = absurd (false≢true e)

module _ (map : Map) (held : IsHeld map) where
  implicit_by : (wanted : TypeRef → Bool) (at : Pos) (p : Place) (o : Option TypeRef) → ((t : TypeRef) → o ≡ Some t → is_held map t ≡ true) → Has Anything (implicitly map wanted at p o).node
  implicit_by wanted at p None h = tt
  implicit_by wanted at p (Some t) h = held_has (is_held map t) (through_if (wanted t) p (dereferenced p at t false)) (h t refl)

  implicit_there : (wanted : TypeRef → Bool) (at : Pos) (p : Place) → Has Anything (implicitly map wanted at p (pointed map p.of)).node
  implicit_there wanted at p = implicit_by wanted at p (pointed map p.of) (λ t e. held p.of t e)

  deref_by : (at : Pos) (p : Place) (o : Option TypeRef) → ((t : TypeRef) → o ≡ Some t → is_held map t ≡ true) → There (dereference_of map at p o)
  deref_by at p None h = breaks_speaks {A = Place} Anything rule.UnfitSelector at
  deref_by at p (Some t) h = λ n. held_has (is_held map t) (dereferenced p at t true) (h t refl)

  dereference_there : (at : Pos) (p : Place) → There (dereference map at p)
  dereference_there at p = deref_by at p (pointed map p.of) (λ t e. held p.of t e)

  into_there : (at : Pos) (p : Place) (i : Judged Valued) (o : Option (Option ℕ × TypeRef)) → There i → There (index_into map at p i o)
  into_there at p i None h = noted_breaks {A = Place} Anything i.notes rule.UnfitSelector at
  into_there at p i (Some a) h = then_speaks Anything Anything i (λ x. wants (is_integer map x) rule.UnfitSelector at (indexed p at x a)) h (λ x t. wants_speaks Anything (is_integer map x) rule.UnfitSelector at (indexed p at x a) tt)

  if_there : (o : Option Place) (at : Pos) (i : Judged Valued) → Has Anything o → There i → There (index_if o i (λ q. index_into map at q i (array_of map q.of)))
  if_there None at i h k = absurd h
  if_there (Some q) at i h k = into_there at q i (array_of map q.of) k

  index_there : (at : Pos) (p : Place) (i : Judged Valued) → There i → There (index map at p i)
  index_there at p i h = if_there (implicitly map (is_array map) at p (pointed map p.of)).node at i (implicit_there (is_array map) at p) h

  -- ---- P^

  of_super : (at : Pos) (c : Chosen) (base : QName) (o : Option Member) → No (super_of at c base o)
  of_super at c base None = breaks_speaks IsNoStatement rule.UnfitSuperCall at
  of_super at c base (Some (AField owner f)) = breaks_speaks IsNoStatement rule.UnfitSuperCall at
  of_super at c base (Some (AMethod owner m)) = λ n. tt

  in_super : (at : Pos) (c : Chosen) (o : Option QName) → No (super_in map at c o)
  in_super at c None = breaks_speaks IsNoStatement rule.UnfitSuperCall at
  in_super at c (Some base) = of_super at c base (member map base c.method.name)

  if_super : (b : Bool) (at : Pos) (c : Chosen) (owner : QName) → No (super_if b map at c owner)
  if_super true at c owner = in_super at c (base_record map owner)
  if_super false at c owner = breaks_speaks IsNoStatement rule.UnfitSuperCall at

  super_there : (at : Pos) (c : Chosen) (o : Option Received) → No (super map at c o)
  super_there at c None = breaks_speaks IsNoStatement rule.UnfitSuperCall at
  super_there at c (Some r) = if_super (same_variable c.receiver.root r.variable && not c.receiver.selected) at c r.owner

guard_there : (map : Map) (at : Pos) (p : Place) (t : TypeRef) → No (guard map at p t)
guard_there map at p t =
    then_speaks Anything IsNoStatement (found_or rule.UnfitTypeTest at (guard_of map p t)) (λ g. sound (means.Place (guarded_by p g t at true))) (found_there rule.UnfitTypeTest at (guard_of map p t)) (λ g h. λ n. tt)

as_place : (j : Judged Place) → There j → No (j ▷ λ q. sound (means.Place q))
as_place j h = then_speaks Anything IsNoStatement j (λ q. sound (means.Place q)) h (λ q t. λ n. tt)

call_there : (w : Where) (j : Judged Valued) → There j → Speaks (Comes w) (as_call j)
call_there w j h = then_speaks Anything (Comes w) j (λ v. sound (means.Call v)) h (λ v t. λ n. calls_come w (means.Call v) tt)

call_no : (j : Judged Valued) → There j → No (as_call j)
call_no j h = then_speaks Anything IsNoStatement j (λ v. sound (means.Call v)) h (λ v t. λ n. tt)

-- ---- what imported modules show

unhidden : (m : Mark) (d e : Desc) → unless_hidden m d ≡ Some e → d ≡ e
unhidden mark.Hidden d e h = absurd cc
unhidden mark.Full d e h = cc
unhidden mark.ReadOnly d e h = cc

as_shown : (d e : Desc) → record_unless_hidden d ≡ Some e → d ≡ e
as_shown (desc.Const v) e h = cc
as_shown (desc.Proc s) e h = cc
as_shown (desc.Var m t) e h = unhidden m (desc.Var m t) e h
as_shown (desc.Alias m t) e h = unhidden m (desc.Alias m t) e h
as_shown (desc.Array m n t) e h = unhidden m (desc.Array m n t) e h
as_shown (desc.OpenArray m t) e h = unhidden m (desc.OpenArray m t) e h
as_shown (desc.Pointer m t) e h = unhidden m (desc.Pointer m t) e h
as_shown (desc.ProcType m s) e h = unhidden m (desc.ProcType m s) e h
as_shown (desc.Record r) e h = unhidden r.mark (desc.Record r) e h

is_shown : (o : Option Desc) (e : Desc) → shown_of o ≡ Some e → o ≡ Some e
is_shown None e h = absurd cc
is_shown (Some d) e h = ap (λ d. Some d) (as_shown d e h)

export_is : (q : QName) (at : Pos) (o : Option Desc) → Speaks (λ (e : QName × Desc). o ≡ Some e.1) (export_known q at o)
export_is q at None = breaks_speaks (λ (e : QName × Desc). None ≡ Some e.1) rule.NotDeclared at
export_is q at (Some d) = λ n. refl

module _ (u : Around) (q : Quiet u) where
  pub known_there : AllByRecursion (λ (k : Known). IsKnown k.what) u.known
  known_there = are_known u.known q.quiet.known

  -- ---- members

  bound_by : (r : Receiver) (b : Bool) (at : Pos) (c : Chosen) → No (with_receiver r b at c)
  bound_by receiver.Pointer false at c = breaks_speaks IsNoStatement rule.UnfitSelector at
  bound_by receiver.Pointer true at c = λ n. tt
  bound_by receiver.Record b at c = λ n. tt

  member_there : (start at : Pos) (x : Ident) (p r : Place) (o : Option TypeRef) (rec : QName) (last : Bool) (m : Option Member) → No (member_of u start at x p r o rec last m)
  member_there start at x p r o rec last None = subst (λ cs. No (not_there (list_any (λ c. comes_as u rec x.name c) cs) last start x)) (sym q.quiet.coming) (breaks_speaks IsNoStatement rule.NotDeclared x.pos)
  member_there start at x p r o rec last (Some (AField owner f)) = λ n. tt
  member_there start at x p r o rec last (Some (AMethod owner m)) = bound_by m.receiver (is_some o) at (chosen start p o rec owner m)

  of_there : (start at : Pos) (x : Ident) (p r : Place) (o : Option TypeRef) (last : Bool) (rec : Option QName) → No (select_of u start at x p r o last rec)
  of_there start at x p r o last None = breaks_speaks IsNoStatement rule.UnfitSelector at
  of_there start at x p r o last (Some rec) = member_there start at x p r o rec last (member (map_of u) rec x.name)

  select_there : (start at : Pos) (x : Ident) (p : Place) (last : Bool) → No (select u start at x p last)
  select_there start at x p last =
      then_speaks Anything IsNoStatement (implicitly (map_of u) (λ t. true) at p (pointed (map_of u) p.of)) (λ r. select_of u start at x p r (pointed (map_of u) p.of) last (record_of (map_of u) r.of))
      (λ n. implicit_there (map_of u) q.quiet.held (λ t. true) at p) (λ r h. of_there start at x p r (pointed (map_of u) p.of) last (record_of (map_of u) r.of))

  -- ---- round brackets

  pub callable_there : (w : Where) (start : Pos) (m : Meant) (ps : List Phrase) → is_callable m ≡ true → PhrasesThere u ps → Speaks (Comes w) (call_meant u w start m ps)
  callable_there w start (means.Procedure name s) ps e h = call_there w (call_procedure u w start name s ps) (procedure_there u w start name s ps h)
  callable_there w start (means.Bound c) ps e h = call_there w (call_bound u w start c ps) (bound_there u q.quiet.bound w start c ps h)
  callable_there w start (means.Out p) ps e h = call_there w (call_out u w start p ps) (out_there u w start p ps h)
  callable_there w start (means.Predeclared f) ps e h = predeclared_there u known_there q.quiet.held f w start ps h
  callable_there w start m ps e h = absurd (false≢true e)

  come_there : (w : Where) (start : Pos) (m : Meant) (ps : List Phrase) → is_callable m ≡ true → PhrasesThere u ps → Speaks (Fits w) (call_meant u w start m ps)
  come_there w start m ps e h = speaks_more (Comes w) (Fits w) (call_meant u w start m ps) (comes_fits w) (callable_there w start m ps e h)

  type_callable : (m : Meant) → takes_type m ≡ true → is_callable m ≡ true
  type_callable (means.Predeclared f) e = refl
  type_callable m e = absurd (false≢true e)

  place_there : (w : Where) (start at : Pos) (p : Place) (ps : List Phrase) (o : Option Qualident) (s : Option Signature) → PhrasesThere u ps → No (place_round u w start at p ps o s)
  place_there w start at p ps (Some k) s h = then_speaks Anything IsNoStatement (type_named u k) (guard (map_of u) at p) (name_speaks u k known_there) (λ t i. guard_there (map_of u) at p t)
  place_there w start at p ps None (Some s) h = call_no (call_variable u w start p s ps) (held_there u w start p s ps h)
  place_there w start at p ps None None h = noted_breaks IsNoStatement (visited u ps) rule.UnfitSelector at

  other_there : (w : Where) (start at : Pos) (m : Meant) (ps : List Phrase) (o : Option Qualident) (t g c : Bool) → takes_type m ≡ t → is_callable m ≡ c → PhrasesThere u ps → Speaks (Fits w) (other_round u w start at m ps o t g c)
  other_there w start at m ps o true g c e f h = come_there w start m ps (type_callable m e) h
  other_there w start at m ps (Some k) false true c e f h = then_speaks Anything (Fits w) (type_named u k) (λ t. breaks rule.UnfitTypeTest at) (name_speaks u k known_there) (λ t i. breaks_speaks (Fits w) rule.UnfitTypeTest at)
  other_there w start at m ps None false g true e f h = come_there w start m ps f h
  other_there w start at m ps (Some k) false false c e f h = noted_breaks (Fits w) (visited u ps) rule.UnfitSelector at
  other_there w start at m ps None false g false e f h = noted_breaks (Fits w) (visited u ps) rule.UnfitSelector at

  others_there : (w : Where) (start at : Pos) (m : Meant) (ps : List Phrase) → PhrasesThere u ps → Speaks (Fits w) (other_round u w start at m ps (type_in_round u ps) (takes_type m) (is_guardable m) (is_callable m))
  others_there w start at m ps h = other_there w start at m ps (type_in_round u ps) (takes_type m) (is_guardable m) (is_callable m) refl refl h

  round_there : (w : Where) (start at : Pos) (ps : List Phrase) (m : Meant) → PhrasesThere u ps → Speaks (Fits w) (step_round u w start at ps m)
  round_there w start at ps (means.Place p) h = no_fits w (place_round u w start at p ps (type_in_round u ps) (signature_at (map_of u) p.of)) (place_there w start at p ps (type_in_round u ps) (signature_at (map_of u) p.of) h)
  round_there w start at ps m h = others_there w start at m ps h

  -- ---- each selector

  dot_there : (start at : Pos) (x : Ident) (last : Bool) (m : Meant) → No (step_dot u start at x last m)
  dot_there start at x last (means.Place p) = select_there start at x p last
  dot_there start at x last m = breaks_speaks IsNoStatement rule.UnfitSelector at

  at_there : (at : Pos) (i : Judged Valued) (m : Meant) → There i → No (step_index (map_of u) at i m)
  at_there at i (means.Place p) h = as_place (index (map_of u) at p i) (index_there (map_of u) q.quiet.held at p i h)
  at_there at i m h = noted_breaks IsNoStatement i.notes rule.UnfitSelector at

  up_there : (at : Pos) (m : Meant) → No (step_up u at m)
  up_there at (means.Place p) = as_place (dereference (map_of u) at p) (dereference_there (map_of u) q.quiet.held at p)
  up_there at (means.Bound c) = super_there (map_of u) q.quiet.held at c u.receiver
  up_there at m = breaks_speaks IsNoStatement rule.UnfitSelector at

  -- a selector whose parts have nodes, or break a rule
  abbrev pub BehindThere : Behind → Type 0
  BehindThere (Dot at x) = Unit {0}
  BehindThere (Index at i) = PhraseThere u i
  BehindThere (Up at) = Unit {0}
  BehindThere (Round at ps) = PhrasesThere u ps

  abbrev pub AreBehind : List Behind → Type 0
  AreBehind bs = AllByRecursion BehindThere bs

  step_there : (w : Where) (start : Pos) (m : Meant) (b : Behind) (last : Bool) → BehindThere b → Speaks (Fits w) (step u w start m b last)
  step_there w start m (Dot at x) last h = no_fits w (step_dot u start at x last m) (dot_there start at x last m)
  step_there w start m (Index at i) last h = no_fits w (step_index (map_of u) at (i.value u) m) (at_there at (i.value u) m h.value)
  step_there w start m (Up at) last h = no_fits w (step_up u at m) (up_there at m)
  step_there w start m (Round at ps) last h = round_there w start at ps m h

  go_by : (P Q : Meant → Type 0) (bs : List Behind) (o : Option Meant) (f : Meant → Judged Meant) → Has P o → ((m : Meant) → P m → Speaks Q (f m)) → Speaks Q (go_on_with u bs f o)
  go_by P Q bs None f h k = absurd h
  go_by P Q bs (Some m) f h k = k m h

  go_there : (P Q : Meant → Type 0) (bs : List Behind) (j : Judged Meant) (f : Meant → Judged Meant) → Speaks P j → ((m : Meant) → P m → Speaks Q (f m)) → Speaks Q (go_on u bs j f)
  go_there P Q bs j f h k = λ e. go_by P Q bs j.node f (h (front_empty j.notes.broken (go_on_with u bs f j.node).notes.broken e)) k (back_empty j.notes.broken (go_on_with u bs f j.node).notes.broken e)

  -- what is meant in the end stands where it fits
  abbrev LastFits : Where → List Behind → Meant → Type 0
  LastFits w [] m = Fits w m
  LastFits w (b ∷ bs) m = Unit {0}

  at_last : (w : Where) (bs : List Behind) (m : Meant) → Fits (where_of w (nothing_behind bs)) m → LastFits w bs m
  at_last InExpression [] m h = h
  at_last AsStatement [] m h = tt
  at_last Elsewhere [] m h = tt
  at_last w (b ∷ bs) m h = tt

  pub through_there : (w : Where) (start : Pos) (bs : List Behind) (m : Meant) → LastFits w bs m → AreBehind bs → Speaks (Fits w) (through u w start bs m)
  through_there w start [] m l h = λ n. l
  through_there w start (b ∷ bs) m l h =
      go_there (Fits (where_of w (nothing_behind bs))) (Fits w) bs (step u (where_of w (nothing_behind bs)) start m b (nothing_behind bs)) (λ n. through u w start bs n)
      (step_there (where_of w (nothing_behind bs)) start m b (nothing_behind bs) h.0) (λ n k. through_there w start bs n (at_last w bs n k) h.1)

  -- ---- the name at the front

  -- a name is known, and sound
  pub record NameIs (x : List ℕ) (e : Entity) : Type 0 where
    pub k : Known
    pub found : find_name u.known x ≡ Some k
    pub what : k.what ≡ e

  variable_by : (x : List ℕ) (b : Bool) (at : Pos) (e : Entity) → NameIs x e → Speaks (NameIs x) (variable_known b at e)
  variable_by x true at e h = breaks_speaks (NameIs x) rule.OuterVariable at
  variable_by x false at e h = λ n. h

  entity_by : (x : List ℕ) (at : Pos) (scope : ℕ) (e : Entity) → IsKnown e → NameIs x e → Speaks (NameIs x) (entity_known u at scope e)
  entity_by x at scope entity.LeftOut h i = breaks_speaks (NameIs x) rule.LeftOut at
  entity_by x at scope entity.Unsound h i = absurd h
  entity_by x at scope (entity.Variable v t) h i = variable_by x (is_enclosing u scope) at (entity.Variable v t) i
  entity_by x at scope e h i = λ n. i

  name_by : (x : List ℕ) (at : Pos) (o : Option Known) → find_name u.known x ≡ o → Speaks (NameIs x) (name_known u at o)
  name_by x at None e = breaks_speaks (NameIs x) rule.NotDeclared at
  name_by x at (Some k) e = entity_by x at k.scope k.what (found_in (λ k. IsKnown k.what) u.known x k known_there e) (record { k = k; found = e; what = refl })

  pub named_there : (x : Ident) → Speaks (NameIs x.name) (named u x)
  named_there x = name_by x.name x.pos (find_name u.known x.name) refl

  -- what is meant by a name, with one behind a dot: of a variable, the one that is meant so, under its guards
  pub record PlaceIs (x : List ℕ) (dot : Option Ident) (p : Place) : Type 0 where
    pub v : Variable
    pub t : TypeRef
    pub means : Means u.known u.shown x dot v t
    pub at : Pos
    pub read_only : Bool
    pub is : (variable_named u at v t read_only).node ≡ Some p

  abbrev pub FrontIs : List ℕ → Option Ident → Meant → Type 0
  FrontIs x dot (means.Place p) = PlaceIs x dot p
  FrontIs x dot m = IsNoStatement m

  place_by : (x : List ℕ) (dot : Option Ident) (o : Option Place) → Has Anything o → ((p : Place) → o ≡ Some p → PlaceIs x dot p) → Has (FrontIs x dot) (if_sound o (λ q. sound (means.Place q))).node
  place_by x dot None h k = absurd h
  place_by x dot (Some p) h k = k p refl

  variable_there : (x : List ℕ) (dot : Option Ident) (at : Pos) (v : Variable) (t : TypeRef) (ro : Bool) → Means u.known u.shown x dot v t → Speaks (FrontIs x dot) (of_variable (variable_named u at v t ro))
  variable_there x dot at v t ro m = λ n. place_by x dot (variable_named u at v t ro).node (q.guards x dot v t m at ro) (λ p e. record { v = v; t = t; means = m; at = at; read_only = ro; is = e })

  exported_there : (x : List ℕ) (k : Known) (m : List ℕ) (start at : Pos) (y : Ident) (d : Desc) → find_name u.known x ≡ Some k → k.what ≡ entity.Module m → u.shown (record { «module» = m; object = y.name }) ≡ Some d → Speaks (FrontIs x (Some y)) (exported_meant u start at m y.name d)
  exported_there x k m start at y (desc.Const v) f w s = λ n. tt
  exported_there x k m start at y (desc.Var mk t) f w s = variable_there x (Some y) start (variable.Module m y.name) t (is_read_only mk) (behind_dot k m y mk f w refl s)
  exported_there x k m start at y (desc.Proc g) f w s = λ n. tt
  exported_there x k m start at y d f w s = breaks_speaks (FrontIs x (Some y)) rule.WrongKind at

  out_by : (x : List ℕ) (dot : Option Ident) (at : Pos) (o : Option OutProcedure) → Speaks (FrontIs x dot) (out_meant at o)
  out_by x dot at None = breaks_speaks (FrontIs x dot) rule.NotDeclared at
  out_by x dot at (Some p) = λ n. tt

  module_by : (x : List ℕ) (b : Bool) (k : Known) (m : List ℕ) (start : Pos) (y : Ident) → find_name u.known x ≡ Some k → k.what ≡ entity.Module m → Speaks (FrontIs x (Some y)) (in_module b u start m y)
  module_by x true k m start y f w = out_by x (Some y) y.pos (out_procedure y.name)
  module_by x false k m start y f w =
      let n : QName = record { «module» = m; object = y.name } in
      then_speaks (λ (e : QName × Desc). shown_of (u.shown n) ≡ Some e.1) (FrontIs x (Some y)) (exported u m y) (λ e. exported_meant u start y.pos m y.name e.1) (export_is n y.pos (shown_of (u.shown n)))
      (λ e h. exported_there x k m start y.pos y e.1 f w (is_shown (u.shown n) e.1 h))

  dotted : (x : List ℕ) (k : Known) (m : List ℕ) (at : Pos) (dot : Option Ident) → find_name u.known x ≡ Some k → k.what ≡ entity.Module m → Speaks (FrontIs x dot) (module_front u at m dot)
  dotted x k m at None f w = breaks_speaks (FrontIs x None) rule.WrongKind at
  dotted x k m at (Some y) f w = module_by x (is_out m) k m at y f w

  front_by : (x : Ident) (k : Known) (e : Entity) (dot : Option Ident) → find_name u.known x.name ≡ Some k → k.what ≡ e → Speaks (FrontIs x.name dot) (front_of u x e dot)
  front_by x k (entity.Constant v) dot f w = λ n. tt
  front_by x k (entity.Variable v t) dot f w = variable_there x.name dot x.pos v t false (plain k f w)
  front_by x k (entity.Procedure name s) dot f w = λ n. tt
  front_by x k (entity.Forward name s) dot f w = λ n. tt
  front_by x k (entity.Predeclared g) dot f w = λ n. tt
  front_by x k (entity.Module m) dot f w = dotted x.name k m x.pos dot f w
  front_by x k e dot f w = breaks_speaks (FrontIs x.name dot) rule.WrongKind x.pos

  -- the front, and what is left behind it
  pub record FrontThere (x : Ident) (bs : List Behind) (p : Meant × List Behind) : Type 0 where
    pub k : Known
    pub found : find_name u.known x.name ≡ Some k
    pub front : FrontIs x.name (dot_of bs) p.0
    pub rest : p.1 ≡ behind (is_module k.what) bs

  pub front_there : (x : Ident) (bs : List Behind) → Speaks (FrontThere x bs) (front u x bs (named u x))
  front_there x bs =
      then_speaks (NameIs x.name) (FrontThere x bs) (named u x) (λ e. made (λ m. (m, behind (is_module e) bs)) (front_of u x e (dot_of bs))) (named_there x)
      (λ e h. made_speaks (FrontIs x.name (dot_of bs)) (FrontThere x bs) (λ m. (m, behind (is_module e) bs)) (front_of u x e (dot_of bs)) (front_by x h.k e (dot_of bs) h.found h.what)
      (λ m i. record { k = h.k; found = h.found; front = i; rest = ap (λ e. behind (is_module e) bs) (sym h.what) }))

  from_by : (P : Meant × List Behind → Type 0) (Q : Meant → Type 0) (w : Where) (start : Pos) (bs : List Behind) (o : Option (Meant × List Behind)) → Has P o → ((m : Meant × List Behind) → P m → Speaks Q (through u w start m.1 m.0)) → Speaks Q (from_front_with u w start bs o)
  from_by P Q w start bs None h k = absurd h
  from_by P Q w start bs (Some m) h k = k m h

  pub from_there : (P : Meant × List Behind → Type 0) (Q : Meant → Type 0) (w : Where) (start : Pos) (bs : List Behind) (j : Judged (Meant × List Behind)) → Speaks P j → ((m : Meant × List Behind) → P m → Speaks Q (through u w start m.1 m.0)) → Speaks Q (from_front u w start bs j)
  from_there P Q w start bs j h k = λ e. from_by P Q w start bs j.node (h (front_empty j.notes.broken (from_front_with u w start bs j.node).notes.broken e)) k (back_empty j.notes.broken (from_front_with u w start bs j.node).notes.broken e)

  behind_there : (b : Bool) (bs : List Behind) → AreBehind bs → AreBehind (behind b bs)
  behind_there true [] h = h
  behind_there true (b ∷ bs) h = h.1
  behind_there false bs h = h

  front_no : (x : List ℕ) (dot : Option Ident) (m : Meant) → FrontIs x dot m → IsNoStatement m
  front_no x dot (means.Place p) h = tt
  front_no x dot (means.Statement s) h = h
  front_no x dot m h = tt

  front_last : (w : Where) (bs : List Behind) (m : Meant) → IsNoStatement m → LastFits w bs m
  front_last w [] m h = fits w m h
  front_last w (b ∷ bs) m h = tt

  -- A DESIGNATOR
  pub designates_there : (w : Where) (x : Ident) (bs : List Behind) → AreBehind bs → Speaks (Fits w) (designates u w x bs)
  designates_there w x bs h =
      from_there (FrontThere x bs) (Fits w) w x.pos bs (front u x bs (named u x)) (front_there x bs)
      (λ m f. through_there w x.pos m.1 m.0 (front_last w m.1 m.0 (front_no x.name (dot_of bs) m.0 f.front)) (subst AreBehind (sym f.rest) (behind_there (is_module f.k.what) bs h)))
