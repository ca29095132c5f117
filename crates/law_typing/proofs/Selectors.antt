-- Selectors behind what is well typed.
use Rattle.std.proofs.Common.{◌≡◌, refl, sym, ap, ◌∙◌, subst, ℕ, List, [], ◌∷◌, Option, Some, None, Bool, true, false}
use Rattle.std.specs.Prelude.{is_some, ◌&&◌, not}
use Rattle.ob_tree.specs.declared.pos.Pos.{Pos}
use Rattle.ob_tree.specs.declared.names.QName.{QName}
use Rattle.ob_tree.specs.declared.ident.Ident.{Ident}
use Rattle.ob_tree.specs.declared.ident.Qualident.{Qualident}
use Rattle.ob_types.specs.declared.types.TypeRef.{TypeRef}
use Rattle.ob_types.specs.declared.types.Signature.{Signature}
use Rattle.ob_types.specs.declared.typed.Guarded.{Guarded}
use Rattle.ob_meaning.specs.Values.{Program, Formals, Held}
use Rattle.ob_rules.specs.declared.meant.Meant.{Meant}
use Rattle.ob_rules.specs.declared.meant.Meant.TheVariants as means
use Rattle.ob_rules.specs.declared.meant.Where.{Where}
use Rattle.ob_rules.specs.declared.meant.Where.TheVariants.{InExpression, AsStatement, Elsewhere}
use Rattle.ob_rules.specs.declared.values.Place.{Place}
use Rattle.ob_rules.specs.declared.values.Valued.{Valued}
use Rattle.ob_rules.specs.Judged.{Judged, sound, breaks, found_or, ◌▷◌}
use Rattle.ob_rules.specs.Shapes.{Member, AField, AMethod, member, pointed, is_held, base_record, record_of, signature_at}
use Rattle.ob_rules.specs.Names.{Around, map_of, type_named}
use Rattle.ob_rules.specs.declared.entity.Received.{Received}
use Rattle.ob_rules.specs.declared.meant.Chosen.{Chosen}
use Rattle.ob_rules.specs.declared.broken.Rule.TheVariants as rule
use Rattle.ob_types.specs.declared.desc.Receiver.{Receiver}
use Rattle.ob_types.specs.declared.desc.Receiver.TheVariants as receiver
use Rattle.ob_rules.specs.Calls.{call_procedure, call_variable, call_out, call_bound}
use Rattle.ob_rules.specs.Phrases.{Phrase, Behind, Dot, Index, Up, Round}
use Rattle.ob_rules.specs.Designators.{chosen, with_receiver, same_variable, super_of, super_in, super_if, super, comes, guard_of, guarded_by, guard, implicitly, dereference, index, not_there, member_found, member_of, select_of, select, type_in_round, as_call, place_round, call_meant, takes_type, is_callable, is_guardable, other_round, step_dot, step_index, step_up, step_round, step, where_of, nothing_behind, go_on_with, through}
use Rattle.law_typing.specs.Makes.{IfThere, Makes}
use Rattle.law_typing.specs.Forms.{IsKnown}
use Rattle.law_typing.specs.Known.{pointee, IsScoped}
use Rattle.law_typing.specs.Kept.{PlaceIs, ValuedIs}
use Rattle.law_typing.specs.Meant.{GuardIs, RootIs, ChosenIs, CalledIs, MeantIs, ArePhrases, BehindIs, AreBehind}
use Rattle.law_simulation_relation.proofs.Actuals.{sub_on}
use Rattle.law_typing.proofs.Unguarded.{field_unguarded, guard_unguarded}
use Rattle.law_typing.proofs.Basics.{not_true}
use Rattle.law_typing.proofs.Operators.{and_is}
use Rattle.law_typing.proofs.Makes.{makes_then}
use Rattle.law_typing.proofs.Designators.{or_true, through_pointer, dereference_is, index_is, field_is, guarded_is}
use Rattle.law_typing.proofs.Types.{type_named_is}
use Rattle.law_typing.proofs.Calls.{call_procedure_is, call_variable_is, call_out_is}
use Rattle.law_typing.proofs.Bound.{call_bound_is}
use Rattle.law_typing.proofs.Functions.{call_predeclared_is}

go_on_there : (P Q : Meant → Type 0) (u : Around) (bs : List Behind) (f : Meant → Judged Meant) (o : Option Meant) → IfThere P o → ((m : Meant) → P m → Makes Q (f m)) → IfThere Q (go_on_with u bs f o).node
go_on_there P Q u bs f None h k = tt
go_on_there P Q u bs f (Some m) h k = (k m h).node

module _ (program : Program) (Has : Formals → QName → Type 0) (unit : List ℕ) (held : List Held) (result : Option TypeRef) (u : Around) (scoped : IsScoped program Has unit held result u) where
  abbrev M : Where → Meant → Type 0
  M w m = MeantIs program Has unit held result (map_of u) u.receiver w m

  abbrev P : Place → Type 0
  P p = PlaceIs program Has unit held result (map_of u) p

  -- FIELDS

  missing : (w : Where) (a b : Bool) (start : Pos) (x : Ident) → Makes (M w) (not_there a b start x)
  missing w true true start x = record { node = tt }
  missing w true false start x = record { node = tt }
  missing w false b start x = record { node = tt }

  -- what a member is selected of
  pub record SelectedOf (p q : Place) (o : Option TypeRef) (rec : QName) : Type 0 where
    pub variable : P p
    pub rooted : RootIs program Has unit held result (map_of u) u.receiver p
    pub pointed_is : pointed (map_of u) p.of ≡ o
    pub held_is : (t : TypeRef) → o ≡ Some t → is_held (map_of u) t ≡ true
    pub place : P q
    pub same_type : q.of ≡ pointee p.of o
    pub record_is : record_of (map_of u) q.of ≡ Some rec

  bound_there : (w : Where) (at : Pos) (c : Chosen) (k : Receiver) (b : Bool) → c.method.receiver ≡ k → is_some c.pointed ≡ b → ((c.method.receiver ≡ receiver.Pointer → is_some c.pointed ≡ true) → ChosenIs program Has unit held result (map_of u) u.receiver c) → Makes (M w) (with_receiver k b at c)
  bound_there w at c receiver.Pointer false e f h = record { node = tt }
  bound_there w at c receiver.Pointer true e f h = record { node = h (λ g. f) }
  bound_there w at c receiver.Record b e f h = record { node = h (λ g. absurd (different (sym e ∙ g))) }
    where
      different : receiver.Record ≡ receiver.Pointer → ⊥
      different e = absurd cc

  found : (w : Where) (start at : Pos) (x : Ident) (p q : Place) (o : Option TypeRef) (rec : QName) (m : Member) → SelectedOf p q o rec → member (map_of u) rec x.name ≡ Some m → Makes (M w) (member_found u start at p q o rec m)
  found w start at x p q o rec (AField owner f) h k = record { node = (field_is program Has unit held result (map_of u) scoped.forms u q rec owner x.name f h.place h.record_is k, λ r e f g. not_true (sym g), field_unguarded u q owner f) }
  found w start at x p q o rec (AMethod owner m) h k =
      bound_there w at (chosen start p o rec owner m) m.receiver (is_some o) refl refl λ g.
      record { receiver = h.variable; rooted = h.rooted; pointed_is = h.pointed_is; held_is = h.held_is; owner_is = ap (record_of (map_of u)) (sym h.same_type) ∙ h.record_is; by_pointer = g; named = record { introduced = owner; method = m; there = ap (member (map_of u) rec) (scoped.names rec owner x.name m k) ∙ k; kind = refl }; calls = (x.name, k) }

  member_is : (w : Where) (start at : Pos) (x : Ident) (p q : Place) (o : Option TypeRef) (rec : QName) (last : Bool) (m : Option Member) → SelectedOf p q o rec → member (map_of u) rec x.name ≡ m → Makes (M w) (member_of u start at x p q o rec last m)
  member_is w start at x p q o rec last None h k = missing w (comes u rec x.name) last start x
  member_is w start at x p q o rec last (Some m) h k = found w start at x p q o rec m h k

  selected : (w : Where) (start at : Pos) (x : Ident) (p q : Place) (o : Option TypeRef) (last : Bool) (r : Option QName) → record_of (map_of u) q.of ≡ r → ((rec : QName) → record_of (map_of u) q.of ≡ Some rec → SelectedOf p q o rec) → Makes (M w) (select_of u start at x p q o last r)
  selected w start at x p q o last None e h = record { node = tt }
  selected w start at x p q o last (Some rec) e h = member_is w start at x p q o rec last (member (map_of u) rec x.name) (h rec e) refl

  select_is : (w : Where) (start at : Pos) (x : Ident) (p : Place) (last : Bool) → P p × RootIs program Has unit held result (map_of u) u.receiver p → Makes (M w) (select u start at x p last)
  select_is w start at x p last h =
      let o = pointed (map_of u) p.of in
      makes_then (λ q. P q × (q.of ≡ pointee p.of o) × ((t : TypeRef) → o ≡ Some t → is_held (map_of u) t ≡ true)) (M w) (implicitly (map_of u) (λ t. true) at p o) (λ q. select_of u start at x p q o last (record_of (map_of u) q.of))
      (through_pointer program Has unit held result (map_of u) scoped.forms at p o h.0 refl)
      (λ q k. selected w start at x p q o last (record_of (map_of u) q.of) refl (λ rec e. record { variable = h.0; rooted = h.1; pointed_is = refl; held_is = k.2; place = k.0; same_type = k.1; record_is = e }))

  dot_is : (w v : Where) (start at : Pos) (x : Ident) (last : Bool) (m : Meant) → M v m → Makes (M w) (step_dot u start at x last m)
  dot_is w v start at x last (means.Place p) h = select_is w start at x p last (h.0, h.1)
  dot_is w v start at x last (means.Constant c) h = record { node = tt }
  dot_is w v start at x last (means.Procedure q s) h = record { node = tt }
  dot_is w v start at x last (means.Bound c) h = record { node = tt }
  dot_is w v start at x last (means.Out o) h = record { node = tt }
  dot_is w v start at x last (means.Predeclared f) h = record { node = tt }
  dot_is w v start at x last (means.Call c) h = record { node = tt }
  dot_is w v start at x last (means.Statement s) h = record { node = tt }

  -- INDICES AND DEREFERENCES

  index_step : (w v : Where) (at : Pos) (i : Judged Valued) (m : Meant) → M v m → Makes (ValuedIs program Has unit held result (map_of u)) i → Makes (M w) (step_index (map_of u) at i m)
  index_step w v at i (means.Place p) h k = makes_then (λ q. P q × (q.selected ≡ true) × GuardIs q) (M w) (index (map_of u) at p i) (λ q. sound (means.Place q)) (index_is program Has unit held result (map_of u) scoped.forms at p i h.0 k) (λ q l. record { node = (l.0, λ r e f g. not_true (sym g ∙ l.1), l.2) })
  index_step w v at i (means.Constant c) h k = record { node = tt }
  index_step w v at i (means.Procedure q s) h k = record { node = tt }
  index_step w v at i (means.Bound c) h k = record { node = tt }
  index_step w v at i (means.Out o) h k = record { node = tt }
  index_step w v at i (means.Predeclared f) h k = record { node = tt }
  index_step w v at i (means.Call c) h k = record { node = tt }
  index_step w v at i (means.Statement s) h k = record { node = tt }

  off : (b : Bool) → not b ≡ true → b ≡ false
  off true e = not_true e
  off false e = refl

  abbrev Ch : Chosen → Type 0
  Ch c = ChosenIs program Has unit held result (map_of u) u.receiver c

  super_there : (w : Where) (at : Pos) (c : Chosen) (r : Received) (b : QName) (m : Option Member) → Ch c → same_variable c.receiver.root r.variable && not c.receiver.selected ≡ true → u.receiver ≡ Some r → base_record (map_of u) r.owner ≡ Some b → member (map_of u) b c.method.name ≡ m → Makes (M w) (super_of at c b m)
  super_there w at c r b (Some (AMethod o m)) h x e f g =
      let p = and_is (same_variable c.receiver.root r.variable) (not c.receiver.selected) x in
      let root = h.rooted r e p.0 (off c.receiver.selected p.1) in
      let s = scoped.supers r.owner b o c.method.name m f g in
      let below = sub_on (root.below c.owner (ap (λ z. record_of (map_of u) (pointee c.receiver.of z)) h.pointed_is ∙ h.owner_is)) s.1 in
      let kind : h.named.method.receiver ≡ m.receiver = scoped.kinds c.owner b h.named.introduced o c.method.name h.named.method m below h.named.there g in
      record {
        node = record {
          receiver = h.receiver;
          rooted = h.rooted;
          pointed_is = h.pointed_is;
          held_is = h.held_is;
          owner_is = h.owner_is;
          by_pointer = λ k. h.by_pointer (sym h.named.kind ∙ kind ∙ k);
          named = record { introduced = h.named.introduced; method = h.named.method; there = ap (member (map_of u) c.owner) (scoped.names b o c.method.name m g) ∙ h.named.there; kind = kind };
          calls = (s.0, below);
        };
      }
  super_there w at c r b (Some (AField o f)) h x e g k = record { node = tt }
  super_there w at c r b None h x e f g = record { node = tt }

  super_from : (w : Where) (at : Pos) (c : Chosen) (r : Received) (b : Option QName) → Ch c → same_variable c.receiver.root r.variable && not c.receiver.selected ≡ true → u.receiver ≡ Some r → base_record (map_of u) r.owner ≡ b → Makes (M w) (super_in (map_of u) at c b)
  super_from w at c r None h x e f = record { node = tt }
  super_from w at c r (Some b) h x e f = super_there w at c r b (member (map_of u) b c.method.name) h x e f refl

  super_by : (w : Where) (at : Pos) (c : Chosen) (r : Received) (b : Bool) → Ch c → same_variable c.receiver.root r.variable && not c.receiver.selected ≡ b → u.receiver ≡ Some r → Makes (M w) (super_if b (map_of u) at c r.owner)
  super_by w at c r true h x e = super_from w at c r (base_record (map_of u) r.owner) h x e refl
  super_by w at c r false h x e = record { node = tt }

  super_is : (w : Where) (at : Pos) (c : Chosen) (o : Option Received) → Ch c → u.receiver ≡ o → Makes (M w) (super (map_of u) at c o)
  super_is w at c None h e = record { node = tt }
  super_is w at c (Some r) h e = super_by w at c r (same_variable c.receiver.root r.variable && not c.receiver.selected) h refl e

  up_is : (w v : Where) (at : Pos) (m : Meant) → M v m → Makes (M w) (step_up u at m)
  up_is w v at (means.Place p) h = makes_then (λ q. P q × (q.selected ≡ true) × GuardIs q) (M w) (dereference (map_of u) at p) (λ q. sound (means.Place q)) (dereference_is program Has unit held result (map_of u) scoped.forms at p h.0) (λ q l. record { node = (l.0, λ r e f g. not_true (sym g ∙ l.1), l.2) })
  up_is w v at (means.Bound c) h = super_is w at c u.receiver h refl
  up_is w v at (means.Constant c) h = record { node = tt }
  up_is w v at (means.Procedure q s) h = record { node = tt }
  up_is w v at (means.Out o) h = record { node = tt }
  up_is w v at (means.Predeclared f) h = record { node = tt }
  up_is w v at (means.Call c) h = record { node = tt }
  up_is w v at (means.Statement s) h = record { node = tt }

  -- ROUND BRACKETS

  as_call_is : (w : Where) (x : Judged Valued) → Makes (CalledIs program Has unit held result (map_of u) w) x → Makes (M w) (as_call x)
  as_call_is w x h = makes_then (CalledIs program Has unit held result (map_of u) w) (M w) x (λ v. sound (means.Call v)) h (λ v k. record { node = k })

  guard_there : (w : Where) (p : Place) (t : TypeRef) (at : Pos) (o : Option (Guarded × QName)) → P p → IsKnown (map_of u) t → guard_of (map_of u) p t ≡ o → Makes (M w) (found_or rule.UnfitTypeTest at o ▷ λ g. sound (means.Place (guarded_by p g t at true)))
  guard_there w p t at None h d e = record { node = tt }
  guard_there w p t at (Some g) h d e = record { node = (guarded_is program Has unit held result (map_of u) scoped.forms p g t at true h d e, λ r x f k. not_true (sym k ∙ or_true p.selected), guard_unguarded p g t at true) }

  place_round_is : (w : Where) (start at : Pos) (p : Place) (ps : List Phrase) (q : Option Qualident) (s : Option Signature) → P p → ArePhrases program Has unit held result ps → signature_at (map_of u) p.of ≡ s → Makes (M w) (place_round u w start at p ps q s)
  place_round_is w start at p ps (Some q) s h k e = makes_then (IsKnown (map_of u)) (M w) (type_named u q) (guard (map_of u) at p) (type_named_is program Has unit held result u scoped q) (λ t d. guard_there w p t at (guard_of (map_of u) p t) h d refl)
  place_round_is w start at p ps None (Some s) h k e = as_call_is w (call_variable u w start p s ps) (call_variable_is program Has unit held result u scoped w start p s ps h e k)
  place_round_is w start at p ps None None h k e = record { node = tt }

  pub call_meant_is : (w v : Where) (start : Pos) (m : Meant) (ps : List Phrase) → M v m → ArePhrases program Has unit held result ps → Makes (M w) (call_meant u w start m ps)
  call_meant_is w v start (means.Procedure q s) ps h k = as_call_is w (call_procedure u w start q s ps) (call_procedure_is program Has unit held result u scoped w start q s ps h k)
  call_meant_is w v start (means.Bound c) ps h k = as_call_is w (call_bound u w start c ps) (call_bound_is program Has unit held result u scoped w start c ps h k)
  call_meant_is w v start (means.Out o) ps h k = as_call_is w (call_out u w start o ps) (call_out_is program Has unit held result u scoped w start o ps k)
  call_meant_is w v start (means.Predeclared f) ps h k = call_predeclared_is program Has unit held result u scoped w start f ps k
  call_meant_is w v start (means.Place p) ps h k = record { node = tt }
  call_meant_is w v start (means.Constant c) ps h k = record { node = tt }
  call_meant_is w v start (means.Call c) ps h k = record { node = tt }
  call_meant_is w v start (means.Statement s) ps h k = record { node = tt }

  other_is : (w v : Where) (start at : Pos) (m : Meant) (ps : List Phrase) (q : Option Qualident) (a b c : Bool) → M v m → ArePhrases program Has unit held result ps → Makes (M w) (other_round u w start at m ps q a b c)
  other_is w v start at m ps q true b c h k = call_meant_is w v start m ps h k
  other_is w v start at m ps (Some q) false true c h k = makes_then (IsKnown (map_of u)) (M w) (type_named u q) (λ t. breaks rule.UnfitTypeTest at) (type_named_is program Has unit held result u scoped q) (λ t d. record { node = tt })
  other_is w v start at m ps (Some q) false false c h k = record { node = tt }
  other_is w v start at m ps None false b true h k = call_meant_is w v start m ps h k
  other_is w v start at m ps None false b false h k = record { node = tt }

  round_is : (w v : Where) (start at : Pos) (ps : List Phrase) (m : Meant) → M v m → ArePhrases program Has unit held result ps → Makes (M w) (step_round u w start at ps m)
  round_is w v start at ps (means.Place p) h k = place_round_is w start at p ps (type_in_round u ps) (signature_at (map_of u) p.of) h.0 k refl
  round_is w v start at ps (means.Constant c) h k = other_is w v start at (means.Constant c) ps (type_in_round u ps) (takes_type (means.Constant c)) (is_guardable (means.Constant c)) (is_callable (means.Constant c)) h k
  round_is w v start at ps (means.Procedure q s) h k = other_is w v start at (means.Procedure q s) ps (type_in_round u ps) (takes_type (means.Procedure q s)) (is_guardable (means.Procedure q s)) (is_callable (means.Procedure q s)) h k
  round_is w v start at ps (means.Bound c) h k = other_is w v start at (means.Bound c) ps (type_in_round u ps) (takes_type (means.Bound c)) (is_guardable (means.Bound c)) (is_callable (means.Bound c)) h k
  round_is w v start at ps (means.Out o) h k = other_is w v start at (means.Out o) ps (type_in_round u ps) (takes_type (means.Out o)) (is_guardable (means.Out o)) (is_callable (means.Out o)) h k
  round_is w v start at ps (means.Predeclared f) h k = other_is w v start at (means.Predeclared f) ps (type_in_round u ps) (takes_type (means.Predeclared f)) (is_guardable (means.Predeclared f)) (is_callable (means.Predeclared f)) h k
  round_is w v start at ps (means.Call c) h k = other_is w v start at (means.Call c) ps (type_in_round u ps) (takes_type (means.Call c)) (is_guardable (means.Call c)) (is_callable (means.Call c)) h k
  round_is w v start at ps (means.Statement s) h k = other_is w v start at (means.Statement s) ps (type_in_round u ps) (takes_type (means.Statement s)) (is_guardable (means.Statement s)) (is_callable (means.Statement s)) h k

  -- ONE SELECTOR, AND EACH IN TURN

  step_is : (w v : Where) (start : Pos) (m : Meant) (b : Behind) (last : Bool) → M v m → BehindIs program Has unit held result b → Makes (M w) (step u w start m b last)
  step_is w v start m (Dot at x) last h k = dot_is w v start at x last m h
  step_is w v start m (Index at i) last h k = index_step w v at (i.value u) m h (k.value u scoped)
  step_is w v start m (Up at) last h k = up_is w v at m h
  step_is w v start m (Round at ps) last h k = round_is w v start at ps m h k

  last_where : (w : Where) (bs : List Behind) → bs ≡ [] → where_of w (nothing_behind bs) ≡ w
  last_where w bs e = ap (λ b. where_of w (nothing_behind b)) e ∙ by w
    where
      by : (w : Where) → where_of w true ≡ w
      by InExpression = refl
      by AsStatement = refl
      by Elsewhere = refl

  pub through_is : (w v : Where) (start : Pos) (bs : List Behind) (m : Meant) → M v m → (bs ≡ [] → v ≡ w) → AreBehind program Has unit held result bs → Makes (M w) (through u w start bs m)
  through_is w v start [] m h e k = record { node = subst (λ z. M z m) (e refl) h }
  through_is w v start (b ∷ bs) m h e k = record { node = go_on_there (M (where_of w (nothing_behind bs))) (M w) u bs (λ n. through u w start bs n) (step u (where_of w (nothing_behind bs)) start m b (nothing_behind bs)).node (step_is (where_of w (nothing_behind bs)) v start m b (nothing_behind bs) h k.0).node (λ n l. through_is w (where_of w (nothing_behind bs)) start bs n l (last_where w bs) k.1) }
