-- Variables, guards, dereferences, indices, fields and bound procedures, with other interfaces around.
use Rattle.std.proofs.Common.{◌≡◌, refl, ap, ◌∙◌, subst, ℕ, List, [], ◌∷◌, Option, Some, None, Bool, true, false, not}
use Rattle.std.specs.Prelude.{◌&&◌, is_some}
use Rattle.std.specs.List.{AllByRecursion}
use Rattle.ob_tree.specs.declared.pos.Pos.{Pos}
use Rattle.ob_tree.specs.declared.names.QName.{QName}
use Rattle.ob_tree.specs.declared.ident.Ident.{Ident}
use Rattle.ob_types.specs.declared.types.TypeRef.{TypeRef}
use Rattle.ob_types.specs.declared.types.TypeRef.TheVariants as ref
use Rattle.ob_types.specs.declared.desc.Desc.{Desc}
use Rattle.ob_types.specs.declared.desc.Receiver.{Receiver}
use Rattle.ob_types.specs.declared.desc.Receiver.TheVariants as receiver
use Rattle.ob_types.specs.declared.typed.Guarded.{Guarded}
use Rattle.ob_types.specs.declared.typed.Guarded.TheVariants as guarded
use Rattle.ob_types.specs.declared.typed.Variable.{Variable}
use Rattle.ob_rules.specs.declared.entity.Received.{Received}
use Rattle.ob_rules.specs.declared.meant.Chosen.{Chosen}
use Rattle.ob_rules.specs.declared.meant.Meant.{Meant}
use Rattle.ob_rules.specs.declared.meant.Meant.TheVariants as means
use Rattle.ob_rules.specs.declared.values.Place.{Place}
use Rattle.ob_rules.specs.declared.values.Valued.{Valued}
use Rattle.ob_rules.specs.declared.broken.Rule.TheVariants as rule
use Rattle.ob_rules.specs.Judged.{Judged, sound, silent, breaks, wants, noted, found_or, ◌▷◌}
use Rattle.ob_rules.specs.Shapes.{Map, Member, AField, AMethod, member, pointed, pointed_record, record_of, array_of, is_array, is_held, base_record}
use Rattle.ob_rules.specs.Names.{Around, map_of}
use Rattle.ob_rules.specs.Values.{is_integer, tree}
use Rattle.ob_rules.specs.Phrases.{dereferenced}
use Rattle.ob_rules.specs.Designators.{variable_at, same_variable, if_so, if_extends, on_record, guard_kind, guard_of, guarded_by, with_guard, guard_if, guard_same, with_guards, variable_named, guard, if_so_held, dereference_of, dereference, through_if, implicitly, indexed, index_into, index_if, index, field_of, chosen, with_receiver, comes, not_there, member_found, member_of, select_of, select_through, select, super_of, super_in, super_if, super}
use Rattle.law_local_judged.specs.Agreement.{IsIn, Agree}
use Rattle.law_local_judged.specs.Said.{PlaceIn, PlaceTied, ValuedIn, ValuedTied, MeantIn, MeantTied, ChosenIn}
use Rattle.law_local_judged.specs.Followed.{beside, TypeIn, ReceivedIn, Agrees, Follows}
use Rattle.law_local_judged.proofs.Tests.{two, pointed_same, pointed_in, pointed_record_same, pointed_record_in, record_same, record_in, array_same, is_array_same, held_same, extends_same, base_same, base_record_in, member_same}
use Rattle.law_local_judged.proofs.Following.{follows_none, follows_sound, follows_to, follows_with, follows_wants, follows_found, follows_then}
use Rattle.law_local_judged.proofs.Mentioned.{variable_mentions, field_mentions, index_mentions, deref_mentions, guard_mentions, tree_mentions}
use Rattle.law_local_judged.proofs.Names.{maps_agree}
use Rattle.law_local_judged.proofs.Values.{integer_same}
use Rattle.law_lists.proofs.Lists.{none_some, some_same}

module _ (P : QName → Type 0) where
  abbrev PF : Type 0 → Judged Place → Judged Place → Type 0
  PF R i j = Follows P (PlaceTied P) (PlaceIn P) R i j

  abbrev MF : Type 0 → Judged Meant → Judged Meant → Type 0
  MF R i j = Follows P (MeantTied P) (MeantIn P) R i j

  place_none : (R : Type 0) (i j : Judged Place) → i.node ≡ None → PF R i j
  place_none R i j e = follows_none P (PlaceTied P) (PlaceIn P) R i j e

  meant_none : (R : Type 0) (i j : Judged Meant) → i.node ≡ None → MF R i j
  meant_none R i j e = follows_none P (MeantTied P) (MeantIn P) R i j e

  pub of_variable_follows : (R : Type 0) (i j : Judged Place) → PF R i j → MF R (i ▷ λ q. sound (means.Place q)) (j ▷ λ q. sound (means.Place q))
  of_variable_follows R i j h = follows_then P (PlaceTied P) (PlaceIn P) (MeantTied P) (MeantIn P) R i j (λ q. sound (means.Place q)) (λ q. sound (means.Place q)) h (λ q t. follows_sound P (MeantTied P) (MeantIn P) (PlaceIn P q) (means.Place q) t (λ m. m))

  -- ---- what stands behind a variable mentions it

  guarded_tied : (p : Place) (k : Guarded × QName) (t : TypeRef) (at : Pos) (w : Bool) → PlaceTied P (guarded_by p k t at w)
  guarded_tied p k t at w = λ m. (guard_mentions P p.designator.inner k.0 k.1 at t m).1.0

  guarded_mentions : (p : Place) (k : Guarded × QName) (t : TypeRef) (at : Pos) (w : Bool) → PlaceIn P (guarded_by p k t at w) → PlaceIn P p
  guarded_mentions p k t at w m = (guard_mentions P p.designator.inner k.0 k.1 at t m).0

  deref_tied : (p : Place) (at : Pos) (t : TypeRef) (w : Bool) → PlaceTied P (dereferenced p at t w)
  deref_tied p at t w = λ m. (deref_mentions P p.designator.inner at t m).1

  module _ (f g : Map) (agree : Agree P f g) where
    -- ---- guards

    if_extends_same : (k : Guarded) (o p : Option QName) → ((q : QName) → o ≡ Some q → P q) → ((q : QName) → p ≡ Some q → P q) → if_extends g k o p ≡ if_extends f k o p
    if_extends_same k None p h i = refl
    if_extends_same k (Some a) None h i = refl
    if_extends_same k (Some a) (Some b) h i = ap (λ t. if_so t (k, b)) (extends_same P f g agree (ref.Named b) (ref.Named a) (i b refl) (h a refl))

    pub extends_if_same : (k : Guarded) (a : QName) (t : TypeRef) → P a → IsIn P t → if_extends g k (Some a) (pointed_record g t) ≡ if_extends f k (Some a) (pointed_record f t)
    extends_if_same k a t h i = ap (if_extends g k (Some a)) (pointed_record_same P f g agree t i) ∙ if_extends_same k (Some a) (pointed_record f t) (λ q e. subst P (some_same e) h) (λ q e. pointed_record_in P f g agree t q i e)

    on_record_same : (b : Bool) (p : Place) (t : TypeRef) → IsIn P p.of → IsIn P t → on_record b g p t ≡ on_record b f p t
    on_record_same true p t h i = two (if_extends g guarded.Record) (record_same P f g agree p.of h) (record_same P f g agree t i) ∙ if_extends_same guarded.Record (record_of f p.of) (record_of f t) (λ q e. record_in P f g agree p.of q h e) (λ q e. record_in P f g agree t q i e)
    on_record_same false p t h i = refl

    guard_kind_same : (p : Place) (t : TypeRef) (o : Option QName) → IsIn P p.of → IsIn P t → ((q : QName) → o ≡ Some q → P q) → guard_kind g p t o ≡ guard_kind f p t o
    guard_kind_same p t (Some a) h i k = extends_if_same guarded.Pointer a t (k a refl) i
    guard_kind_same p t None h i k = on_record_same p.var_record p t h i

    pub guard_of_same : (p : Place) (t : TypeRef) → IsIn P p.of → IsIn P t → guard_of g p t ≡ guard_of f p t
    guard_of_same p t h i = ap (guard_kind g p t) (pointed_record_same P f g agree p.of h) ∙ guard_kind_same p t (pointed_record f p.of) h i (λ q e. pointed_record_in P f g agree p.of q h e)

    with_guard_self : (at : Pos) (p : Place) (o : Option (Guarded × QName)) (t : TypeRef) → PF (PlaceIn P p) (with_guard f at p o t) (with_guard f at p o t)
    with_guard_self at p None t = place_none (PlaceIn P p) silent silent refl
    with_guard_self at p (Some k) t = follows_sound P (PlaceTied P) (PlaceIn P) (PlaceIn P p) (guarded_by p k t at false) (guarded_tied p k t at false) (guarded_mentions p k t at false)

    same_guard : (at : Pos) (p : Place) (o : Option (Guarded × QName)) (t : TypeRef) → with_guard g at p o t ≡ with_guard f at p o t
    same_guard at p None t = refl
    same_guard at p (Some k) t = refl

    guard_if_follows : (at : Pos) (p : Place) (o : Option TypeRef) → PlaceTied P p → TypeIn P o → PF (PlaceIn P p) (guard_if f at p o) (guard_if g at p o)
    guard_if_follows at p None t h = place_none (PlaceIn P p) silent silent refl
    guard_if_follows at p (Some y) t h =
        follows_to P (PlaceTied P) (PlaceIn P) (PlaceIn P p) (with_guard f at p (guard_of f p y) y) (with_guard g at p (guard_of g p y) y) (with_guard_self at p (guard_of f p y) y)
        (λ m. ap (λ o. with_guard g at p o y) (guard_of_same p y (t m) h) ∙ same_guard at p (guard_of f p y) y)

    guard_same_follows : (b : Bool) (at : Pos) (R : Type 0) (i j : Judged Place) (o : Option TypeRef) → TypeIn P o → PF R i j → PF R (guard_same b f at i o) (guard_same b g at j o)
    guard_same_follows true at R i j o h k = follows_then P (PlaceTied P) (PlaceIn P) (PlaceTied P) (PlaceIn P) R i j (λ q. guard_if f at q o) (λ q. guard_if g at q o) k (λ q t. guard_if_follows at q o t h)
    guard_same_follows false at R i j o h k = k

    with_guards_follow : (at : Pos) (w : Variable) (R : Type 0) (gs : List (Variable × Option TypeRef)) (i j : Judged Place) → AllByRecursion (λ g. TypeIn P g.1) gs → PF R i j → PF R (with_guards f at w gs i) (with_guards g at w gs j)
    with_guards_follow at w R [] i j h k = k
    with_guards_follow at w R (x ∷ gs) i j h k = with_guards_follow at w R gs (guard_same (same_variable w x.0) f at i x.1) (guard_same (same_variable w x.0) g at j x.1) h.1 (guard_same_follows (same_variable w x.0) at R i j x.1 h.0 k)

    pub guard_follows : (at : Pos) (p : Place) (t : TypeRef) → PlaceTied P p → IsIn P t → MF (PlaceIn P p) (guard f at p t) (guard g at p t)
    guard_follows at p t h i =
        follows_then P (λ k. Unit {0}) (λ k. PlaceIn P p) (MeantTied P) (MeantIn P) (PlaceIn P p) (found_or rule.UnfitTypeTest at (guard_of f p t)) (found_or rule.UnfitTypeTest at (guard_of g p t)) (λ k. sound (means.Place (guarded_by p k t at true))) (λ k. sound (means.Place (guarded_by p k t at true)))
        (follows_found P (λ k. Unit {0}) (λ k. PlaceIn P p) (PlaceIn P p) rule.UnfitTypeTest at (guard_of f p t) (guard_of g p t) (λ k e. tt) (λ k e m. (m, guard_of_same p t (h m) i)))
        (λ k u. follows_sound P (MeantTied P) (MeantIn P) (PlaceIn P p) (means.Place (guarded_by p k t at true)) (guarded_tied p k t at true) (guarded_mentions p k t at true))

    -- ---- dereferences

    held_self : (R : Type 0) (b : Bool) (q : Place) → PlaceTied P q → (PlaceIn P q → R) → PF R (if_so_held b q) (if_so_held b q)
    held_self R true q t r = follows_sound P (PlaceTied P) (PlaceIn P) R q t r
    held_self R false q t r = place_none R silent silent refl

    dereference_self : (at : Pos) (p : Place) (o : Option TypeRef) → PF (PlaceIn P p) (dereference_of f at p o) (dereference_of f at p o)
    dereference_self at p None = place_none (PlaceIn P p) (breaks rule.UnfitSelector at) (breaks rule.UnfitSelector at) refl
    dereference_self at p (Some t) = held_self (PlaceIn P p) (is_held f t) (dereferenced p at t true) (deref_tied p at t true) (λ m. (deref_mentions P p.designator.inner at t m).0)

    dereference_by : (at : Pos) (p : Place) (o : Option TypeRef) → TypeIn P o → dereference_of g at p o ≡ dereference_of f at p o
    dereference_by at p None h = refl
    dereference_by at p (Some t) h = ap (λ b. if_so_held b (dereferenced p at t true)) (held_same P f g agree t h)

    type_there : (o : Option TypeRef) → ((t : TypeRef) → o ≡ Some t → IsIn P t) → TypeIn P o
    type_there None h = tt
    type_there (Some t) h = h t refl

    pub pointee_in : (t : TypeRef) → IsIn P t → TypeIn P (pointed f t)
    pointee_in t h = type_there (pointed f t) (λ w e. pointed_in P f g agree t w h e)

    pub dereference_follows : (at : Pos) (p : Place) → PlaceTied P p → PF (PlaceIn P p) (dereference f at p) (dereference g at p)
    dereference_follows at p t =
        follows_to P (PlaceTied P) (PlaceIn P) (PlaceIn P p) (dereference f at p) (dereference g at p) (dereference_self at p (pointed f p.of))
        (λ m. ap (dereference_of g at p) (pointed_same P f g agree p.of (t m)) ∙ dereference_by at p (pointed f p.of) (pointee_in p.of (t m)))

    -- a variable, or what it points to
    pub record Reached (p q : Place) : Type 0 where
      pub back : PlaceIn P q → PlaceIn P p
      pub tied : PlaceTied P q
      pub typed : PlaceIn P p → IsIn P q.of

    through_reached : (b : Bool) (p : Place) (at : Pos) (t : TypeRef) → PlaceTied P p → (PlaceIn P p → IsIn P t) → Reached p (through_if b p (dereferenced p at t false))
    through_reached true p at t h i = record { back = λ m. (deref_mentions P p.designator.inner at t m).0; tied = deref_tied p at t false; typed = i }
    through_reached false p at t h i = record { back = λ m. m; tied = h; typed = h }

    held_reached : (b : Bool) (p q r : Place) → Reached p q → (if_so_held b q).node ≡ Some r → Reached p r
    held_reached true p q r h e = subst (Reached p) (some_same e) h
    held_reached false p q r h e = none_some e

    implicit_reached : (wanted : TypeRef → Bool) (at : Pos) (p r : Place) (o : Option TypeRef) → PlaceTied P p → (PlaceIn P p → TypeIn P o) → (implicitly f wanted at p o).node ≡ Some r → Reached p r
    implicit_reached wanted at p r None h i e = subst (Reached p) (some_same e) (record { back = λ m. m; tied = h; typed = h })
    implicit_reached wanted at p r (Some t) h i e = held_reached (is_held f t) p (through_if (wanted t) p (dereferenced p at t false)) r (through_reached (wanted t) p at t h i) e

    implicit_same : (F G : TypeRef → Bool) (at : Pos) (p : Place) (o : Option TypeRef) → TypeIn P o → ((t : TypeRef) → IsIn P t → G t ≡ F t) → implicitly g G at p o ≡ implicitly f F at p o
    implicit_same F G at p None h k = refl
    implicit_same F G at p (Some t) h k = two (λ b w. if_so_held b (through_if w p (dereferenced p at t false))) (held_same P f g agree t h) (k t h)

    -- ---- indices

    abbrev place_at : Place → Pos → Judged Place
    place_at p at = implicitly f (is_array f) at p (pointed f p.of)

    into_follows : (at : Pos) (q : Place) (i j : Judged Valued) (o : Option (Option ℕ × TypeRef)) → Follows P (ValuedTied P) (ValuedIn P) (Unit {0}) i j → PF (PlaceIn P q) (index_into f at q i o) (index_into g at q j o)
    into_follows at q i j None h = place_none (PlaceIn P q) (index_into f at q i None) (index_into g at q j None) refl
    into_follows at q i j (Some a) h =
        follows_then P (ValuedTied P) (λ x. ValuedIn P x × PlaceIn P q) (PlaceTied P) (PlaceIn P) (PlaceIn P q) i j (λ x. wants (is_integer f x) rule.UnfitSelector at (indexed q at x a)) (λ x. wants (is_integer g x) rule.UnfitSelector at (indexed q at x a))
        (follows_with P (ValuedTied P) (ValuedIn P) (PlaceIn P q) i j h)
        (λ x t. follows_wants P (PlaceTied P) (PlaceIn P) (ValuedIn P x × PlaceIn P q) (is_integer f x) (is_integer g x) rule.UnfitSelector at (indexed q at x a)
        (λ m. (index_mentions P q.designator.inner a.0 (tree x) at a.1 m).1.1) (λ m. let k = index_mentions P q.designator.inner a.0 (tree x) at a.1 m in (tree_mentions P x k.1.0, k.0)) (λ r. integer_same P f g agree x (t r.0)))

    pub index_follows : (at : Pos) (p : Place) (i j : Judged Valued) → PlaceTied P p → Follows P (ValuedTied P) (ValuedIn P) (Unit {0}) i j → PF (PlaceIn P p) (index f at p i) (index g at p j)
    index_follows at p i j t h = by (place_at p at).node refl
      where
        there : PlaceIn P p → implicitly g (is_array g) at p (pointed g p.of) ≡ place_at p at
        there m = ap (implicitly g (is_array g) at p) (pointed_same P f g agree p.of (t m)) ∙ implicit_same (is_array f) (is_array g) at p (pointed f p.of) (pointee_in p.of (t m)) (λ y k. is_array_same P f g agree y k)

        by : (o : Option Place) → (place_at p at).node ≡ o → PF (PlaceIn P p) (index_if o i (λ q. index_into f at q i (array_of f q.of))) (index g at p j)
        by None e = place_none (PlaceIn P p) (noted i.notes silent) (index g at p j) refl
        by (Some q) e =
            let r = implicit_reached (is_array f) at p q (pointed f p.of) t (λ m. pointee_in p.of (t m)) e in
            let k = into_follows at q i j (array_of f q.of) h in
            record {
              keeps = k.keeps;
              same = λ x l said m.
                  let s = k.same x l said m in
                  let n = r.back s.0 in
                  (n, ap (λ o. index_if o j (λ q. index_into g at q j (array_of g q.of))) (ap (λ (y : Judged Place). y.node) (there n) ∙ e) ∙ (ap (index_into g at q j) (array_same P f g agree q.of (r.typed n)) ∙ s.1));
            }

  module _ (u : Around) (s : QName → Option Desc) (a : Agrees P u s) where
    abbrev v : Around
    v = beside u s

    abbrev maps : Agree P (map_of u) (map_of v)
    maps = maps_agree P u s a

    pub variable_follows : (at : Pos) (w : Variable) (t : TypeRef) (b : Bool) → PF (Unit {0}) (variable_named u at w t b) (variable_named v at w t b)
    variable_follows at w t b = with_guards_follow (map_of u) (map_of v) maps at w (Unit {0}) u.guards (sound (variable_at w t b)) (sound (variable_at w t b)) a.guards (follows_sound P (PlaceTied P) (PlaceIn P) (Unit {0}) (variable_at w t b) (λ m. variable_mentions P w t m) (λ m. tt))

    -- ---- fields and bound procedures

    receiver_self : (k : Receiver) (b : Bool) (at : Pos) (c : Chosen) → (PlaceIn P c.receiver → ChosenIn P c) → MF (PlaceIn P c.receiver) (with_receiver k b at c) (with_receiver k b at c)
    receiver_self receiver.Pointer false at c h = meant_none (PlaceIn P c.receiver) (breaks rule.UnfitSelector at) (breaks rule.UnfitSelector at) refl
    receiver_self receiver.Pointer true at c h = follows_sound P (MeantTied P) (MeantIn P) (PlaceIn P c.receiver) (means.Bound c) h (λ m. m)
    receiver_self receiver.Record b at c h = follows_sound P (MeantTied P) (MeantIn P) (PlaceIn P c.receiver) (means.Bound c) h (λ m. m)

    found_self : (start at : Pos) (p q : Place) (o : Option TypeRef) (rec : QName) (m : Member) → PlaceTied P p → Reached (map_of u) (map_of v) maps p q → (PlaceIn P p → P rec) → MF (PlaceIn P p) (member_found u start at p q o rec m) (member_found u start at p q o rec m)
    found_self start at p q o rec (AField owner d) t r h =
        follows_sound P (MeantTied P) (MeantIn P) (PlaceIn P p) (means.Place (field_of u q owner d)) (λ m. (field_mentions P q.designator.inner owner d.name d.of m).1) (λ m. r.back (field_mentions P q.designator.inner owner d.name d.of m).0)
    found_self start at p q o rec (AMethod owner d) t r h =
        receiver_self d.receiver (is_some o) at (chosen start p o rec owner d) (λ m. record { receiver = t m; owner = h m; base = λ b e. none_some e })

    missing_none : (b last : Bool) (start : Pos) (x : Ident) → (not_there b last start x).node ≡ None
    missing_none true true start x = refl
    missing_none true false start x = refl
    missing_none false last start x = refl

    member_self : (start at : Pos) (x : Ident) (p q : Place) (o : Option TypeRef) (rec : QName) (last : Bool) (m : Option Member) → PlaceTied P p → Reached (map_of u) (map_of v) maps p q → (PlaceIn P p → P rec) → MF (PlaceIn P p) (member_of u start at x p q o rec last m) (member_of v start at x p q o rec last m)
    member_self start at x p q o rec last None t r h = meant_none (PlaceIn P p) (member_of u start at x p q o rec last None) (member_of v start at x p q o rec last None) (missing_none (comes u rec x.name) last start x)
    member_self start at x p q o rec last (Some (AField owner d)) t r h = found_self start at p q o rec (AField owner d) t r h
    member_self start at x p q o rec last (Some (AMethod owner d)) t r h = found_self start at p q o rec (AMethod owner d) t r h

    select_self : (start at : Pos) (x : Ident) (p q : Place) (o : Option TypeRef) (last : Bool) (rec : Option QName) → PlaceTied P p → Reached (map_of u) (map_of v) maps p q → ((y : QName) → rec ≡ Some y → PlaceIn P p → P y) → MF (PlaceIn P p) (select_of u start at x p q o last rec) (select_of v start at x p q o last rec)
    select_self start at x p q o last None t r h = meant_none (PlaceIn P p) (breaks rule.UnfitSelector at) (breaks rule.UnfitSelector at) refl
    select_self start at x p q o last (Some rec) t r h =
        let k = member_self start at x p q o rec last (member (map_of u) rec x.name) t r (h rec refl) in
        record {
          keeps = k.keeps;
          same = λ y l said m. let z = k.same y l said m in (z.0, ap (member_of v start at x p q o rec last) (member_same P (map_of u) (map_of v) maps rec x.name (h rec refl z.0)) ∙ z.1);
        }

    select_by : (start at : Pos) (x : Ident) (p : Place) (last : Bool) (o : Option TypeRef) → PlaceTied P p → (PlaceIn P p → TypeIn P o) → MF (PlaceIn P p) (select_through u start at x p last o) (select_through v start at x p last o)
    select_by start at x p last o t i =
        follows_then P (Reached (map_of u) (map_of v) maps p) (λ q. PlaceIn P p) (MeantTied P) (MeantIn P) (PlaceIn P p) (implicitly (map_of u) (λ t. true) at p o) (implicitly (map_of v) (λ t. true) at p o)
        (λ q. select_of u start at x p q o last (record_of (map_of u) q.of)) (λ q. select_of v start at x p q o last (record_of (map_of v) q.of))
        (record {
          keeps = λ q e said. implicit_reached (map_of u) (map_of v) maps (λ t. true) at p q o t i e;
          same = λ q e said m. (m, implicit_same (map_of u) (map_of v) maps (λ t. true) (λ t. true) at p o (i m) (λ y k. refl));
        })
        (λ q r. behind q r)
      where
        behind : (q : Place) → Reached (map_of u) (map_of v) maps p q → MF (PlaceIn P p) (select_of u start at x p q o last (record_of (map_of u) q.of)) (select_of v start at x p q o last (record_of (map_of v) q.of))
        behind q r =
            let k = select_self start at x p q o last (record_of (map_of u) q.of) t r (λ y e m. record_in P (map_of u) (map_of v) maps q.of y (r.typed m) e) in
            record {
              keeps = k.keeps;
              same = λ y l said m. let z = k.same y l said m in (z.0, ap (select_of v start at x p q o last) (record_same P (map_of u) (map_of v) maps q.of (r.typed z.0)) ∙ z.1);
            }

    pub select_follows : (start at : Pos) (x : Ident) (p : Place) (last : Bool) → PlaceTied P p → MF (PlaceIn P p) (select u start at x p last) (select v start at x p last)
    select_follows start at x p last t =
        let k = select_by start at x p last (pointed (map_of u) p.of) t (λ m. pointee_in (map_of u) (map_of v) maps p.of (t m)) in
        record {
          keeps = k.keeps;
          same = λ y l said m. let z = k.same y l said m in (z.0, ap (select_through v start at x p last) (pointed_same P (map_of u) (map_of v) maps p.of (t z.0)) ∙ z.1);
        }

    -- ---- super calls

    super_of_self : (at : Pos) (c : Chosen) (base : QName) (o : Option Member) → P base → (PlaceIn P c.receiver → ChosenIn P c) → MF (PlaceIn P c.receiver) (super_of at c base o) (super_of at c base o)
    super_of_self at c base (Some (AMethod owner m)) b h =
        follows_sound P (MeantTied P) (MeantIn P) (PlaceIn P c.receiver) (means.Bound (record { receiver = c.receiver; start = c.start; pointed = c.pointed; owner = c.owner; introduced = owner; method = m; base = Some base }))
        (λ k. let i = h k in record { receiver = i.receiver; owner = i.owner; base = λ q e. subst P (some_same e) b }) (λ m. m)
    super_of_self at c base (Some (AField owner m)) b h = meant_none (PlaceIn P c.receiver) (breaks rule.UnfitSuperCall at) (breaks rule.UnfitSuperCall at) refl
    super_of_self at c base None b h = meant_none (PlaceIn P c.receiver) (breaks rule.UnfitSuperCall at) (breaks rule.UnfitSuperCall at) refl

    super_in_follows : (at : Pos) (c : Chosen) (o : Option QName) → ((b : QName) → o ≡ Some b → P b) → (PlaceIn P c.receiver → ChosenIn P c) → MF (PlaceIn P c.receiver) (super_in (map_of u) at c o) (super_in (map_of v) at c o)
    super_in_follows at c None k h = meant_none (PlaceIn P c.receiver) (breaks rule.UnfitSuperCall at) (breaks rule.UnfitSuperCall at) refl
    super_in_follows at c (Some b) k h =
        follows_to P (MeantTied P) (MeantIn P) (PlaceIn P c.receiver) (super_in (map_of u) at c (Some b)) (super_in (map_of v) at c (Some b)) (super_of_self at c b (member (map_of u) b c.method.name) (k b refl) h)
        (λ m. ap (super_of at c b) (member_same P (map_of u) (map_of v) maps b c.method.name (k b refl)))

    super_if_follows : (t : Bool) (at : Pos) (c : Chosen) (owner : QName) → P owner → (PlaceIn P c.receiver → ChosenIn P c) → MF (PlaceIn P c.receiver) (super_if t (map_of u) at c owner) (super_if t (map_of v) at c owner)
    super_if_follows false at c owner k h = meant_none (PlaceIn P c.receiver) (breaks rule.UnfitSuperCall at) (breaks rule.UnfitSuperCall at) refl
    super_if_follows true at c owner k h =
        let i = super_in_follows at c (base_record (map_of u) owner) (λ b e. base_record_in P (map_of u) (map_of v) maps owner b k e) h in
        record {
          keeps = i.keeps;
          same = λ y l said m. let z = i.same y l said m in (z.0, ap (super_in (map_of v) at c) (base_same P (map_of u) (map_of v) maps owner k) ∙ z.1);
        }

    super_by : (at : Pos) (c : Chosen) (o : Option Received) → ReceivedIn P o → (PlaceIn P c.receiver → ChosenIn P c) → MF (PlaceIn P c.receiver) (super (map_of u) at c o) (super (map_of v) at c o)
    super_by at c None k h = meant_none (PlaceIn P c.receiver) (breaks rule.UnfitSuperCall at) (breaks rule.UnfitSuperCall at) refl
    super_by at c (Some r) k h = super_if_follows (same_variable c.receiver.root r.variable && not c.receiver.selected) at c r.owner k h

    pub super_follows : (at : Pos) (c : Chosen) → (PlaceIn P c.receiver → ChosenIn P c) → MF (PlaceIn P c.receiver) (super (map_of u) at c u.receiver) (super (map_of v) at c u.receiver)
    super_follows at c h = super_by at c u.receiver a.receiver h
