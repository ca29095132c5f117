-- Headings of procedures, with other interfaces around.
use Rattle.std.proofs.Common.{◌≡◌, refl, sym, ap, ◌∙◌, subst, List, [], ◌∷◌, ◌++◌, Option, Some, None, Bool, true, false, not}
use Rattle.std.specs.Prelude.{◌&&◌, nat_lt, cond}
use Rattle.std.specs.List.{AllByRecursion, filter}
use Rattle.ob_tree.specs.declared.pos.Pos.{Pos}
use Rattle.ob_tree.specs.declared.names.QName.{QName}
use Rattle.ob_tree.specs.declared.ident.Ident.{Ident}
use Rattle.ob_tree.specs.declared.ident.Mark.{Mark}
use Rattle.ob_tree.specs.declared.decl.Heading.{Heading}
use Rattle.ob_tree.specs.declared.decl.Receiver.{Receiver as RawReceiver}
use Rattle.ob_types.specs.declared.types.TypeRef.{TypeRef}
use Rattle.ob_types.specs.declared.desc.Desc.{Desc}
use Rattle.ob_rules.specs.declared.entity.Entity.TheVariants as entity
use Rattle.ob_rules.specs.declared.broken.Rule.TheVariants as rule
use Rattle.ob_rules.specs.Judged.{silent, breaks, both, unless, if_sound, ◌▷◌, Judged}
use Rattle.ob_rules.specs.Shapes.{pointed}
use Rattle.ob_rules.specs.Names.{Around, map_of, in_unit, type_named}
use Rattle.ob_rules.specs.Types.{Parameters, Sections, is_module_level, marked, parameters_in, inner, with_types}
use Rattle.ob_rules.specs.Headings.{BoundAs, kind_of, received_record, is_own, if_own, own_record, silent_base, bound_to, owner_of, owner_if, self_of, knows_receiver, WrittenHeading, heading_of, Head, path_by, forward_name, bound_in, as_parameters, head_from, heading_parameters, head_with, head_of, entity_as, head_entity, twice_by, name_twice, declared_head, knows_procedure, known_behind, Heads, add_judged, types_of, add_typed, add_heading, anew, made_anew, are_there}
use Rattle.ob_rules.specs.Declarations.{received_by, result_in, around_body, Written_procedure, headings_in_order}
use Rattle.law_local_judged.specs.Agreement.{IsIn, Agree}
use Rattle.law_local_judged.specs.Said.{SaidIn}
use Rattle.law_local_judged.specs.Followed.{beside, EntityIn, TypeIn, ReceivedIn, Agrees}
use Rattle.law_local_judged.specs.Declared.{MadeIn, OwnIn}
use Rattle.law_local_judged.specs.Headed.{KnownIn, BoundIn, ThereIn, FromGrammar, HeadSaid, HeadIn, HeadsSame}
use Rattle.law_local_judged.proofs.Tests.{two, held_same, pointed_same, pointed_in, record_same, record_in, pointed_record_same, pointed_record_in}
use Rattle.law_local_judged.proofs.Following.{said_left, said_right, follows_none, follows_sound, follows_to, follows_then, follows_made, both_node}
use Rattle.law_local_judged.proofs.Names.{maps_agree, type_named_follows}
use Rattle.law_local_judged.proofs.Typings.{TF, agrees_with}
use Rattle.law_local_judged.proofs.Parameters.{agrees_known, agrees_inner, knows_agrees, parameters_follow}
use Rattle.law_local_judged.proofs.Written.{written_parameters_follow}
use Rattle.law_lists.proofs.Lists.{all_both, none_some, some_same}

pub kept_filter : {A : Type 0} (P : A → Type 0) (f : A → Bool) (xs : List A) → AllByRecursion P xs → AllByRecursion P (filter f xs)
kept_filter P f [] h = tt
kept_filter P f (x ∷ xs) h = by (f x) (kept_filter P f xs h.1)
  where
    by : (b : Bool) → AllByRecursion P (filter f xs) → AllByRecursion P (cond b (x ∷ filter f xs) (filter f xs))
    by true k = (h.0, k)
    by false k = k

module _ (P : QName → Type 0) (s : QName → Option Desc) where
  abbrev OwnerIn : BoundAs → Type 0
  OwnerIn b = IsIn P b.of × P b.owner

  module _ (u : Around) (a : Agrees P u s) (own : OwnIn P u.unit) where
    abbrev v : Around
    v = beside u s

    abbrev maps : Agree P (map_of u) (map_of v)
    maps = maps_agree P u s a

    -- ---- receivers

    received_same : (b : Bool) (t : TypeRef) → IsIn P t → received_record (map_of v) b t ≡ received_record (map_of u) b t
    received_same true t h = record_same P (map_of u) (map_of v) maps t h
    received_same false t h = pointed_record_same P (map_of u) (map_of v) maps t h

    received_in : (b : Bool) (t : TypeRef) (q : QName) → IsIn P t → received_record (map_of u) b t ≡ Some q → P q
    received_in true t q h e = record_in P (map_of u) (map_of v) maps t q h e
    received_in false t q h e = pointed_record_in P (map_of u) (map_of v) maps t q h e

    silent_by : (b : Bool) (o : Option TypeRef) → ((t : TypeRef) → o ≡ Some t → IsIn P t) → silent_base (map_of v) b o ≡ silent_base (map_of u) b o
    silent_by false (Some t) h = ap not (held_same P (map_of u) (map_of v) maps t (h t refl))
    silent_by false None h = refl
    silent_by true o h = refl

    silent_same : (b : Bool) (t : TypeRef) → IsIn P t → silent_base (map_of v) b (pointed (map_of v) t) ≡ silent_base (map_of u) b (pointed (map_of u) t)
    silent_same b t h = ap (silent_base (map_of v) b) (pointed_same P (map_of u) (map_of v) maps t h) ∙ silent_by b (pointed (map_of u) t) (λ w e. pointed_in P (map_of u) (map_of v) maps t w h e)

    own_same : (o : Option QName) → own_record v o ≡ own_record u o
    own_same None = refl
    own_same (Some q) = refl

    if_in : (b : Bool) (q r : QName) → P q → if_own b q ≡ Some r → P r
    if_in true q r h e = subst P (some_same e) h
    if_in false q r h e = none_some e

    own_in : (o : Option QName) (r : QName) → ((q : QName) → o ≡ Some q → P q) → own_record u o ≡ Some r → P r
    own_in None r h e = none_some e
    own_in (Some q) r h e = if_in (is_own u q && is_module_level u) q r (h q refl) e

    bound_self : (at : Pos) (b : Bool) (t : TypeRef) (c : Bool) (o : Option QName) → IsIn P t → ((q : QName) → o ≡ Some q → P q) → TF P OwnerIn (bound_to at b t c o) (bound_to at b t c o)
    bound_self at b t c (Some q) h i = follows_sound P OwnerIn (λ x. Unit {0}) (Unit {0}) (record { of = t; owner = q; receiver = kind_of b }) (h, i q refl) (λ m. tt)
    bound_self at b t true None h i = follows_none P OwnerIn (λ x. Unit {0}) (Unit {0}) silent silent refl
    bound_self at b t false None h i = follows_none P OwnerIn (λ x. Unit {0}) (Unit {0}) (breaks rule.UnfitReceiver at) (breaks rule.UnfitReceiver at) refl

    owner_follows : (r : RawReceiver) → TF P OwnerIn (owner_of u r) (owner_of v r)
    owner_follows r =
        follows_then P (IsIn P) (λ t. Unit {0}) OwnerIn (λ t. Unit {0}) (Unit {0}) (type_named u (record { qualifier = None; ident = r.owner })) (type_named v (record { qualifier = None; ident = r.owner }))
        (λ t. bound_to r.owner.pos r.is_var t (is_module_level u && silent_base (map_of u) r.is_var (pointed (map_of u) t)) (own_record u (received_record (map_of u) r.is_var t)))
        (λ t. bound_to r.owner.pos r.is_var t (is_module_level v && silent_base (map_of v) r.is_var (pointed (map_of v) t)) (own_record v (received_record (map_of v) r.is_var t)))
        (type_named_follows P u s a (record { qualifier = None; ident = r.owner }))
        (λ t h. follows_to P OwnerIn (λ x. Unit {0}) (Unit {0})
        (bound_to r.owner.pos r.is_var t (is_module_level u && silent_base (map_of u) r.is_var (pointed (map_of u) t)) (own_record u (received_record (map_of u) r.is_var t)))
        (bound_to r.owner.pos r.is_var t (is_module_level v && silent_base (map_of v) r.is_var (pointed (map_of v) t)) (own_record v (received_record (map_of v) r.is_var t)))
        (bound_self r.owner.pos r.is_var t (is_module_level u && silent_base (map_of u) r.is_var (pointed (map_of u) t)) (own_record u (received_record (map_of u) r.is_var t)) h (λ q e. own_in (received_record (map_of u) r.is_var t) q (λ w k. received_in r.is_var t w h k) e))
        (λ m. two (λ b o. bound_to r.owner.pos r.is_var t (is_module_level u && b) o) (silent_same r.is_var t h) (ap (own_record v) (received_same r.is_var t h) ∙ own_same (received_record (map_of u) r.is_var t))))

    owner_if_follows : (o : Option RawReceiver) → TF P (BoundIn P) (owner_if u o) (owner_if v o)
    owner_if_follows None = follows_sound P (BoundIn P) (λ x. Unit {0}) (Unit {0}) None tt (λ m. tt)
    owner_if_follows (Some r) = follows_made P OwnerIn (λ x. Unit {0}) (BoundIn P) (λ x. Unit {0}) (Unit {0}) (λ b. Some b) (owner_of u r) (owner_of v r) (owner_follows r) (λ b h. h) (λ b h m. tt)

  -- the receiver is known
  receiver_agrees : (u : Around) (r : Option RawReceiver) (b : Option BoundAs) → Agrees P u s → BoundIn P b → Agrees P (knows_receiver u r (Some b)) s
  receiver_agrees u None b a h = a
  receiver_agrees u (Some r) (Some b) a h = knows_agrees P s u r.ident (entity.Variable (self_of r.ident b.receiver) b.of) a h.0
  receiver_agrees u (Some r) None a h = knows_agrees P s u r.ident entity.Unsound a tt

  receiver_beside : (u : Around) (r : Option RawReceiver) (b : Option BoundAs) → knows_receiver (beside u s) r (Some b) ≡ beside (knows_receiver u r (Some b)) s
  receiver_beside u None b = refl
  receiver_beside u (Some r) (Some b) = refl
  receiver_beside u (Some r) None = refl

  receiver_unit : (u : Around) (r : Option RawReceiver) (b : Option BoundAs) → (knows_receiver u r (Some b)).unit ≡ u.unit
  receiver_unit u None b = refl
  receiver_unit u (Some r) (Some b) = refl
  receiver_unit u (Some r) None = refl

  parameters_there : (o : Option ((Mark × Option BoundAs) × Parameters)) (p : Parameters) → as_parameters o ≡ Some p → (q : (Mark × Option BoundAs) × Parameters) × ((o ≡ Some q) × (q.1 ≡ p))
  parameters_there None p e = none_some e
  parameters_there (Some q) p e = (q, (refl, some_same e))

  anew_node : (u : Around) (at : Pos) (j : Judged Parameters) (p : Parameters) → (j ▷ made_anew u at).node ≡ Some p → j.node ≡ Some p
  anew_node u at j p e = by j.node e
    where
      one : (q : Parameters) (b : Bool) → (unless b rule.DeclaredTwice at q).node ≡ Some p → Some q ≡ Some p
      one q true e = none_some e
      one q false e = e

      by : (o : Option Parameters) → (if_sound o (made_anew u at)).node ≡ Some p → o ≡ Some p
      by None e = none_some e
      by (Some q) e = one q (are_there u q.made) e

  -- ---- a heading

  pub record HeadFollows (u : Around) (h : Heading) (forward : Bool) : Type 0 where
    pub same : head_of (beside u s) (heading_of h) forward ≡ head_of u (heading_of h) forward
    pub said : HeadIn P (head_of u (heading_of h) forward)

  head_follows : (u : Around) → Agrees P u s → OwnIn P u.unit → (h : Heading) (forward : Bool) → HeadSaid P (head_of u (heading_of h) forward) → HeadFollows u h forward
  head_follows u a own h forward k =
      let v = beside u s in
      let g = heading_of h in
      let m = marked u false g.name in
      let b = owner_if u g.receiver in
      let x = heading_parameters u g forward b in
      let at = g.name.ident.«pos» in
      let inside = parameters_in (knows_receiver (inner u) g.receiver b.node) (forward_name forward (u.path ++ path_by b.node g.name.ident.name)) g.parameters in
      let t = parameters_there (both (both m b) x.found).node k.parameters.0 k.parameters.1 in
      let q = both_node (both m b) x.found t.0 t.1.0 in
      let r = both_node m b t.0.0 q.0 in
      let said_mb = said_left P (both m b).notes x.found.notes k.notes in
      let said_b = said_right P m.notes b.notes said_mb in
      let said_x = said_right P (both m b).notes x.found.notes k.notes in
      let f = owner_if_follows u a own g.receiver in
      let bound = f.keeps t.0.0.1 r.1 said_b in
      let same_b = (f.same t.0.0.1 r.1 said_b tt).1 in
      let w = knows_receiver (inner u) g.receiver (Some t.0.0.1) in
      let name = forward_name forward (u.path ++ path_by (Some t.0.0.1) g.name.ident.name) in
      let p = parameters_follow P s w (receiver_agrees (inner u) g.receiver t.0.0.1 (agrees_inner P u s a) bound) (subst (OwnIn P) (sym (receiver_unit (inner u) g.receiver t.0.0.1)) own) name g.parameters (written_parameters_follow P h.parameters) in
      let at_node : (o : Option (Option BoundAs)) → Sections = λ o. parameters_in (knows_receiver (inner u) g.receiver o) (forward_name forward (u.path ++ path_by o g.name.ident.name)) g.parameters in
      let at_beside : (o : Option (Option BoundAs)) → Sections = λ o. parameters_in (knows_receiver (inner v) g.receiver o) (forward_name forward (u.path ++ path_by o g.name.ident.name)) g.parameters in
      let x_is : inside ≡ parameters_in w name g.parameters = ap at_node r.1 in
      let node_is : (parameters_in w name g.parameters).found.node ≡ Some t.0.1 = sym (ap (λ (z : Sections). z.found.node) x_is) ∙ anew_node u at inside.found t.0.1 q.1 in
      let said_w = subst (λ (z : Sections). SaidIn P z.found.notes) x_is (said_left P inside.found.notes (if_sound inside.found.node (made_anew u at)).notes said_x) in
      let known = p.known t.0.1 node_is said_w in
      let found = (p.found.same t.0.1 node_is said_w tt).1 in
      let moved_x : heading_parameters v g forward b ≡ anew v at (parameters_in (beside w s) name g.parameters) = ap (λ o. anew v at (at_beside o)) r.1 ∙ ap (λ z. anew v at (parameters_in z name g.parameters)) (receiver_beside (inner u) g.receiver t.0.0.1) in
      let found_same : (heading_parameters v g forward b).found ≡ x.found = ap (λ (z : Sections). z.found) moved_x ∙ (ap (λ (j : Judged Parameters). j ▷ made_anew u at) found ∙ sym (ap (λ (z : Sections). (anew u at z).found) x_is)) in
      let known_same : (heading_parameters v g forward b).known ≡ x.known = ap (λ (z : Sections). z.known) moved_x ∙ (known.0 ∙ sym (ap (λ (z : Sections). z.known) x_is)) in
      record {
        same = ap (λ z. head_with v g forward m z) same_b ∙ two (λ i ks. head_from u g forward m b (record { found = i; known = ks })) found_same known_same;
        said = record {
          parameters = subst (λ o. ThereIn P (as_parameters o)) (sym t.1.0) (p.found.keeps t.0.1 node_is said_w);
          bound = subst (λ o. BoundIn P (bound_in o)) (sym r.1) bound;
          inside = kept_filter (λ k. EntityIn P k.what) (λ k. nat_lt u.scope k.scope) x.known (subst (λ (z : Sections). KnownIn P z.known) (sym x_is) known.1);
          known = a.known;
        };
      }

  -- ---- headings in order

  made_there : (o : Option Parameters) → ThereIn P o → MadeIn P (types_of o)
  made_there None h = absurd h
  made_there (Some p) h = h.1

  entity_in : (u : Around) (h : Head) (o : Option Parameters) → EntityIn P (head_entity u h o)
  entity_in u h None = tt
  entity_in u h (Some p) = by h.forward
    where
      by : (b : Bool) → EntityIn P (entity_as b (in_unit u h.path) p.signature)
      by true = tt
      by false = tt

  procedure_agrees : (u : Around) (h : Head) (b : Bool) → Agrees P u s → Agrees P (knows_procedure u h b) s
  procedure_agrees u h true a = a
  procedure_agrees u h false a = agrees_known P u s (record { name = h.name; scope = u.scope; what = head_entity u h h.parameters } ∷ u.known) a (entity_in u h h.parameters, a.known)

  entity_same : (u : Around) (h : Head) (o : Option Parameters) → head_entity (beside u s) h o ≡ head_entity u h o
  entity_same u h None = refl
  entity_same u h (Some p) = refl

  procedure_beside : (u : Around) (h : Head) (b : Bool) → knows_procedure (beside u s) h b ≡ beside (knows_procedure u h b) s
  procedure_beside u h true = refl
  procedure_beside u h false = ap (λ e. beside (record u { known = record { name = h.name; scope = u.scope; what = e } ∷ u.known }) s) (entity_same u h h.parameters)

  procedure_unit : (u : Around) (h : Head) (b : Bool) → (knows_procedure u h b).unit ≡ u.unit
  procedure_unit u h true = refl
  procedure_unit u h false = refl

  twice_none : (h : Head) (u : Around) → HeadSaid P (declared_head true h u) → ⊥
  twice_none h u k = none_some k.parameters.1

  name_same : (u : Around) (hs : List Head) (h : Head) → name_twice (beside u s) hs h ≡ name_twice u hs h
  name_same u hs h = by h.is_bound h.bound
    where
      by : (b : Bool) (o : Option BoundAs) → twice_by (beside u s) hs h b o ≡ twice_by u hs h b o
      by false o = refl
      by true None = refl
      by true (Some b) = refl

  added : (t : Bool) (hs : Heads) (h : Head) → HeadIn P h → AllByRecursion (HeadIn P) hs.before → Agrees P hs.around s → HeadSaid P (declared_head t h (known_behind hs.around t h)) → HeadsSame P s (add_judged hs h t) (add_judged (record { around = beside hs.around s; before = hs.before }) h t)
  added true hs h i before a k = absurd (twice_none h (known_behind hs.around true h) k)
  added false hs h i before a k =
      let w = knows_procedure hs.around h h.is_bound in
      record {
        before = ap (λ (u : Around). declared_head false h u ∷ hs.before) (procedure_beside hs.around h h.is_bound);
        around = procedure_beside hs.around h h.is_bound;
        agrees = procedure_agrees hs.around h h.is_bound a;
        heads = (record { parameters = i.parameters; bound = i.bound; inside = i.inside; known = (procedure_agrees hs.around h h.is_bound a).known }, before);
      }

  said_before : (t : Bool) (h : Head) (u : Around) → HeadSaid P (declared_head t h u) → HeadSaid P h
  said_before true h u k = absurd (twice_none h u k)
  said_before false h u k = record { parameters = k.parameters; notes = k.notes }

  -- ONE MORE HEADING
  pub heading_same : (hs : Heads) → Agrees P hs.around s → OwnIn P hs.around.unit → AllByRecursion (HeadIn P) hs.before → (h : Heading) (forward : Bool) → AllByRecursion (HeadSaid P) (add_heading hs (heading_of h) forward).before
      → HeadsSame P s (add_heading hs (heading_of h) forward) (add_heading (record { around = beside hs.around s; before = hs.before }) (heading_of h) forward)
  heading_same hs a own before h forward k =
      let u = hs.around in
      let x = head_of u (heading_of h) forward in
      let w = with_types u (types_of x.parameters) in
      let t = name_twice w hs.before x in
      let f = head_follows u a own h forward (said_before t x (known_behind w t x) k.0) in
      let b = agrees_with P u s (types_of x.parameters) a (made_there x.parameters f.said.parameters) in
      let g = added t (record { around = w; before = hs.before }) x f.said before b k.0 in
      let moved = ap (add_typed (record { around = beside u s; before = hs.before })) f.same ∙ ap (add_judged (record { around = beside w s; before = hs.before }) x) (name_same w hs.before x) in
      record {
        before = ap (λ (z : Heads). z.before) moved ∙ g.before;
        around = ap (λ (z : Heads). z.around) moved ∙ g.around;
        agrees = g.agrees;
        heads = g.heads;
      }

  heading_unit : (hs : Heads) (g : WrittenHeading) (forward : Bool) → (add_heading hs g forward).around.unit ≡ hs.around.unit
  heading_unit hs g forward =
      let x = head_of hs.around g forward in
      let w = with_types hs.around (types_of x.parameters) in
      by w (name_twice w hs.before x) x
    where
      by : (w : Around) (t : Bool) (x : Head) → (known_behind w t x).unit ≡ w.unit
      by w true x = refl
      by w false x = procedure_unit w x x.is_bound

  before_said : (ps : List Written_procedure) (hs : Heads) → AllByRecursion (HeadSaid P) (headings_in_order ps hs).before → AllByRecursion (HeadSaid P) hs.before
  before_said [] hs k = k
  before_said (p ∷ ps) hs k = (before_said ps (add_heading hs p.heading p.forward) k).1

  -- HEADINGS in their order
  pub headings_same : (ps : List Written_procedure) → AllByRecursion FromGrammar ps → (hs : Heads) → Agrees P hs.around s → OwnIn P hs.around.unit → AllByRecursion (HeadIn P) hs.before → AllByRecursion (HeadSaid P) (headings_in_order ps hs).before
      → HeadsSame P s (headings_in_order ps hs) (headings_in_order ps (record { around = beside hs.around s; before = hs.before }))
  headings_same [] g hs a own before k = record { before = refl; around = refl; agrees = a; heads = before }
  headings_same (p ∷ ps) g hs a own before k =
      let x = add_heading hs p.heading p.forward in
      let said = before_said ps x k in
      let f = subst (λ w. AllByRecursion (HeadSaid P) (add_heading hs w p.forward).before → HeadsSame P s (add_heading hs w p.forward) (add_heading (record { around = beside hs.around s; before = hs.before }) w p.forward)) (sym g.0.1) (heading_same hs a own before g.0.0 p.forward) said in
      let i = headings_same ps g.1 x f.agrees (subst (OwnIn P) (sym (heading_unit hs p.heading p.forward)) own) f.heads k in
      let moved = two (λ u b. headings_in_order ps (record { around = u; before = b })) f.around f.before in
      record {
        before = ap (λ (z : Heads). z.before) moved ∙ i.before;
        around = ap (λ (z : Heads). z.around) moved ∙ i.around;
        agrees = i.agrees;
        heads = i.heads;
      }

  -- ---- the body of a procedure

  receiver_there : (x : Option Ident) (b : Option BoundAs) → BoundIn P b → ReceivedIn P (received_by x b)
  receiver_there None b h = tt
  receiver_there (Some x) None h = tt
  receiver_there (Some x) (Some b) h = h.1

  result_there : (o : Option Parameters) → ThereIn P o → TypeIn P (result_in o)
  result_there None h = absurd h
  result_there (Some p) h = h.0.1

  -- WHAT STANDS AROUND THE BODY of a procedure agrees
  pub body_agrees : (u : Around) → Agrees P u s → (h : Head) → HeadIn P h → Agrees P (around_body u h) s × (around_body (beside u s) h ≡ beside (around_body u h) s)
  body_agrees u a h i = (
    record {
      same = a.same;
      near = a.near;
      out = a.out;
      own = a.own;
      known = all_both (λ k. EntityIn P k.what) h.inside h.known i.inside i.known;
      guards = tt;
      receiver = receiver_there h.self h.bound i.bound;
      result = result_there h.parameters i.parameters;
    },
    refl,
  )
