-- CASE and FOR, with other interfaces around.
use Rattle.std.proofs.Common.{◌≡◌, refl, sym, ap, ◌∙◌, subst, List, [], ◌∷◌, ◌++◌, Option, Some, None, Bool, true, false}
use Rattle.std.specs.Prelude.{ℤ, pos, is_some}
use Rattle.std.specs.List.{AllByRecursion}
use Rattle.ob_tree.specs.declared.pos.Pos.{Pos}
use Rattle.ob_tree.specs.declared.names.QName.{QName}
use Rattle.ob_tree.specs.declared.ident.Ident.{Ident}
use Rattle.ob_types.specs.declared.types.Basic.TheVariants as basic
use Rattle.ob_types.specs.declared.types.TypeRef.{TypeRef}
use Rattle.ob_types.specs.declared.types.TypeRef.TheVariants as ref
use Rattle.ob_types.specs.declared.desc.Desc.{Desc}
use Rattle.ob_types.specs.declared.value.Value.{Value}
use Rattle.ob_types.specs.declared.typed.Guarded.{Guarded}
use Rattle.ob_types.specs.declared.typed.Guarded.TheVariants as guarded
use Rattle.ob_types.specs.declared.typed.Label.{Label}
use Rattle.ob_types.specs.declared.typed.Variable.{Variable}
use Rattle.ob_types.specs.declared.typed.Designator.{Designator}
use Rattle.ob_types.specs.declared.typed.Designator.TheVariants as d
use Rattle.ob_types.specs.declared.typed.TypedExpr.{TypedExpr}
use Rattle.ob_types.specs.declared.typed.TypedCase.{TypedCase, roll-TypedCase}
use Rattle.ob_types.specs.declared.typed.TypedStmt.{TypedStmt}
use Rattle.ob_types.specs.declared.typed.TypedStmt.TheVariants as stmt
use Rattle.ob_types.specs.TypedView.{designator_view}
use Rattle.ob_types.proofs.TypedViews.{view_variable, view_guard}
use Rattle.ob_uses_roots.specs.Counts.{Count, Shapes, Layouts, counts_of_designator}
use Rattle.ob_rules.specs.declared.entity.Entity.{Entity}
use Rattle.ob_rules.specs.declared.entity.Entity.TheVariants as entity
use Rattle.ob_rules.specs.declared.meant.Selects.{Selects}
use Rattle.ob_rules.specs.declared.values.Place.{Place}
use Rattle.ob_rules.specs.declared.values.Valued.{Valued}
use Rattle.ob_rules.specs.declared.broken.Rule.TheVariants as rule
use Rattle.ob_rules.specs.Judged.{Judged, sound, breaks, both, noted, joined, if_sound, ◌▷◌}
use Rattle.ob_rules.specs.Shapes.{Map, extends_record, width_of, basic_of, record_of, pointed_record}
use Rattle.ob_rules.specs.Names.{Around, map_of, named}
use Rattle.ob_rules.specs.Values.{fits, tree}
use Rattle.ob_rules.specs.Phrases.{Phrase}
use Rattle.ob_rules.specs.Designators.{variable_at, same_variable, if_so, if_extends, on_record, guard_kind, guard_of, with_guard, guard_if, guard_same, with_guards, variable_named}
use Rattle.ob_rules.specs.Expressions.{Ranged, constant_value}
use Rattle.ob_rules.specs.Statements.{Judging, one, in_turn, in_turn_if, selects_by, selects, case_value, both_ends, high_if, label_both, label, Labels, with_label, then_labels, labels_behind, labels, Labelled, case_of, case_behind, cases, selects_if, case_judged, case, integer_place, for_variable, for_bound, step_value, for_step, width_or_long, for_made, for_with, for}
use Rattle.law_local_judged.specs.Agreement.{IsIn, Agree}
use Rattle.law_local_judged.specs.Said.{CountsIn, DesignatorIn, ExprIn, StmtIn, SaidIn, PlaceIn, ValuedIn, ValuedTied}
use Rattle.law_local_judged.specs.Followed.{beside, EntityIn, TypeIn, Agrees, Follows}
use Rattle.law_local_judged.proofs.Tests.{two, target_basics, pointed_record_in, record_in}
use Rattle.law_local_judged.proofs.Following.{said_left, said_right, follows_none, follows_sound, follows_wants, follows_then, follows_made, follows_both, made_node, both_node, front_said}
use Rattle.law_local_judged.proofs.Mentioned.{tree_mentions}
use Rattle.law_local_judged.proofs.Names.{maps_agree, named_follows}
use Rattle.law_local_judged.proofs.Values.{is_same, width_same, fits_same}
use Rattle.law_local_judged.proofs.Actuals.{PhraseFollows}
use Rattle.law_local_judged.proofs.Selecting.{variable_follows}
use Rattle.law_local_judged.proofs.Nodes.{RangedFollows, IfFollows as IfPhrase}
use Rattle.law_local_judged.proofs.Expressions.{constant_value_follows}
use Rattle.law_local_judged.proofs.Bodies.{SF, StmtsIn, CaseIn, IfIn, BodyFollows, IfFollows, in_turn_follows, in_turn_if_follows, two_made, case_mentions, case_stmt_mentions, for_mentions}
use Rattle.law_lists.proofs.Lists.{none_some, some_same}

module _ (P : QName → Type 0) where
  -- what mentions nothing
  abbrev NF : {A : Type 0} → Judged A → Judged A → Type 0
  NF i j = Follows P (λ x. Unit {0}) (λ x. Unit {0}) (Unit {0}) i j

  follows_self : {A : Type 0} (T M : A → Type 0) (i : Judged A) → ((x : A) → T x) → Follows P T M (Unit {0}) i i
  follows_self T M i t = record { keeps = λ x e said. t x; same = λ x e said m. (tt, refl) }

  -- ---- a variable that is known mentions what counts

  counts_both : (cs ds : List Count) → CountsIn P cs → CountsIn P ds → CountsIn P (cs ++ ds)
  counts_both [] ds h k = k
  counts_both (Shapes t ∷ cs) ds h k = (h.0, counts_both cs ds h.1 k)
  counts_both (Layouts t ∷ cs) ds h k = counts_both cs ds h k

  guarded_in : (x : Designator) (g : Guarded) (q : QName) (at : Pos) (t : TypeRef) → DesignatorIn P x → IsIn P t → P q → DesignatorIn P (d.Guard x g q at t)
  guarded_in x g q at t h i k = subst (λ y. CountsIn P (counts_of_designator y)) (sym (view_guard x g q at t)) (counts_both (counts_of_designator (designator_view x)) (Shapes t ∷ Shapes (ref.Named q) ∷ []) h (i, (k, tt)))

  variable_in : (w : Variable) (t : TypeRef) → IsIn P t → DesignatorIn P (d.Variable w t)
  variable_in w t h = subst (λ y. CountsIn P (counts_of_designator y)) (sym (view_variable w t)) (h, tt)

  -- a place that is mentioned, and its type
  abbrev PlaceKnown : Place → Type 0
  PlaceKnown p = PlaceIn P p × IsIn P p.of

  abbrev AllKnown : Judged Place → Type 0
  AllKnown j = (p : Place) → j.node ≡ Some p → PlaceKnown p

  module _ (f g : Map) (agree : Agree P f g) where
    so_in : (b : Bool) (x k : Guarded × QName) → P x.1 → if_so b x ≡ Some k → P k.1
    so_in true x k h e = subst (λ (y : Guarded × QName). P y.1) (some_same e) h
    so_in false x k h e = none_some e

    extends_in : (c : Guarded) (o p : Option QName) (k : Guarded × QName) → ((q : QName) → p ≡ Some q → P q) → if_extends f c o p ≡ Some k → P k.1
    extends_in c (Some a) (Some b) k h e = so_in (extends_record f b a) (c, b) k (h b refl) e
    extends_in c None p k h e = none_some e
    extends_in c (Some a) None k h e = none_some e

    on_record_in : (b : Bool) (p : Place) (t : TypeRef) (k : Guarded × QName) → IsIn P t → on_record b f p t ≡ Some k → P k.1
    on_record_in true p t k h e = extends_in guarded.Record (record_of f p.of) (record_of f t) k (λ q e. record_in P f g agree t q h e) e
    on_record_in false p t k h e = none_some e

    kind_in : (p : Place) (t : TypeRef) (o : Option QName) (k : Guarded × QName) → IsIn P t → guard_kind f p t o ≡ Some k → P k.1
    kind_in p t (Some a) k h e = extends_in guarded.Pointer (Some a) (pointed_record f t) k (λ q e. pointed_record_in P f g agree t q h e) e
    kind_in p t None k h e = on_record_in p.var_record p t k h e

    with_known : (at : Pos) (p q : Place) (o : Option (Guarded × QName)) (t : TypeRef) → PlaceKnown p → IsIn P t → ((k : Guarded × QName) → o ≡ Some k → P k.1) → (with_guard f at p o t).node ≡ Some q → PlaceKnown q
    with_known at p q None t h i k e = none_some e
    with_known at p q (Some x) t h i k e = subst PlaceKnown (some_same e) (guarded_in p.designator.inner x.0 x.1 at t h.0 i (k x refl), i)

    if_known : (at : Pos) (p q : Place) (o : Option TypeRef) → PlaceKnown p → TypeIn P o → (guard_if f at p o).node ≡ Some q → PlaceKnown q
    if_known at p q None h i e = none_some e
    if_known at p q (Some t) h i e = with_known at p q (guard_of f p t) t h i (λ k e. kind_in p t (pointed_record f p.of) k i e) e

    then_known : (at : Pos) (i : Judged Place) (o : Option TypeRef) → AllKnown i → TypeIn P o → AllKnown (i ▷ λ q. guard_if f at q o)
    then_known at i o h t q e = by i.node refl e
      where
        by : (m : Option Place) → i.node ≡ m → (if_sound m (λ q. guard_if f at q o)).node ≡ Some q → PlaceKnown q
        by None k e = none_some e
        by (Some p) k e = if_known at p q o (h p k) t e

    same_known : (b : Bool) (at : Pos) (i : Judged Place) (o : Option TypeRef) → AllKnown i → TypeIn P o → AllKnown (guard_same b f at i o)
    same_known true at i o h t = then_known at i o h t
    same_known false at i o h t = h

    pub all_known : (at : Pos) (w : Variable) (gs : List (Variable × Option TypeRef)) (i : Judged Place) → AllByRecursion (λ g. TypeIn P g.1) gs → AllKnown i → AllKnown (with_guards f at w gs i)
    all_known at w [] i h k = k
    all_known at w (x ∷ gs) i h k = all_known at w gs (guard_same (same_variable w x.0) f at i x.1) h.1 (same_known (same_variable w x.0) at i x.1 k h.0)

  module _ (u : Around) (s : QName → Option Desc) (a : Agrees P u s) where
    abbrev v : Around
    v = beside u s

    abbrev maps : Agree P (map_of u) (map_of v)
    maps = maps_agree P u s a

    abbrev Ph : Phrase → Type 0
    Ph p = PhraseFollows P u s a p

    -- ---- labels

    high_follows : (o : Option Phrase) → IfPhrase P u s a o → NF (high_if u o) (high_if v o)
    high_follows None h = follows_self (λ x. Unit {0}) (λ x. Unit {0}) (sound None) (λ x. tt)
    high_follows (Some p) h = follows_made P (λ x. Unit {0}) (λ x. Unit {0}) (λ x. Unit {0}) (λ x. Unit {0}) (Unit {0}) (λ c. Some c) (constant_value u p) (constant_value v p) (constant_value_follows P u s a p h) (λ x t. tt) (λ x t m. tt)

    label_follows : (k : Option Selects) (before : List Label) (r : Ranged) → RangedFollows P u s a r → NF (label u k before r) (label v k before r)
    label_follows k before r h =
        let f = follows_then P (λ (p : Value × Option Value). Unit {0} × Unit {0}) (λ p. Unit {0} × Unit {0}) (λ x. Unit {0}) (λ x. Unit {0}) (Unit {0} × Unit {0}) (both (constant_value u r.low) (high_if u r.high)) (both (constant_value v r.low) (high_if v r.high))
        (λ p. label_both k r.low.start before (both_ends p.0 p.1)) (λ p. label_both k r.low.start before (both_ends p.0 p.1))
        (follows_both P (λ x. Unit {0}) (λ x. Unit {0}) (λ x. Unit {0}) (λ x. Unit {0}) (Unit {0}) (Unit {0}) (constant_value u r.low) (constant_value v r.low) (high_if u r.high) (high_if v r.high) (constant_value_follows P u s a r.low h.low) (high_follows r.high h.high))
        (λ p t. record { keeps = λ x e said. tt; same = λ x e said m. ((tt, tt), refl) }) in
        record { keeps = λ x e said. tt; same = λ x e said m. (tt, (f.same x e said tt).1) }

    labels_same : (k : Option Selects) (before : List Label) (rs : List Ranged) → AllByRecursion (RangedFollows P u s a) rs → (ls : List Label) → (labels u k before rs).found.node ≡ Some ls → SaidIn P (labels u k before rs).found.notes → labels v k before rs ≡ labels u k before rs
    labels_same k before [] h ls e said = refl
    labels_same k before (r ∷ rs) h ls e said =
        let l = label u k before r in
        let rest = labels u k (with_label before l.node) rs in
        let n = made_node (λ (p : Label × List Label). p.0 ∷ p.1) (both l rest.found) ls e in
        let q = both_node l rest.found n.0 n.1.0 in
        let t = front_said P (both l rest.found) (λ p. sound (p.0 ∷ p.1)) said in
        let one_same = ((label_follows k before r h.0).same n.0.0 q.0 (said_left P l.notes rest.found.notes t) tt).1 in
        ap (λ z. labels_behind z before (λ after. labels v k after rs)) one_same
        ∙ ap (then_labels l) (labels_same k (with_label before l.node) rs h.1 n.0.1 q.1 (said_right P l.notes rest.found.notes t))

    -- ---- CASE

    pub record LabelledFollows (c : Labelled) : Type 0 where
      pub labels_follow : AllByRecursion (RangedFollows P u s a) c.labels
      pub body : BodyFollows P c.body

    abbrev KF : Judged (List TypedCase) → Judged (List TypedCase) → Type 0
    KF i j = Follows P (λ x. Unit {0}) (AllByRecursion (CaseIn P)) (Unit {0}) i j

    case_of_follows : (ls : Judged (List Label)) (i j : Judged (List TypedStmt)) → SF P (Unit {0}) i j → Follows P (λ x. Unit {0}) (CaseIn P) (Unit {0}) (case_of ls i) (case_of ls j)
    case_of_follows ls i j h = two_made P (λ x. Unit {0}) (λ x. Unit {0}) (λ x. Unit {0}) (AllByRecursion (StmtIn P)) (λ x. Unit {0}) (CaseIn P) (λ p. roll-TypedCase (record { labels = p.0; body = p.1 })) ls ls i j (follows_self (λ x. Unit {0}) (λ x. Unit {0}) ls (λ x. tt)) h (λ p t. tt) (λ p m. (tt, case_mentions P p.0 p.1 m))

    cases_follow : (k : Option Selects) (before : List Label) (cs : List Labelled) → AllByRecursion LabelledFollows cs → KF (cases u k before cs) (cases v k before cs)
    cases_follow k before [] h = follows_sound P (λ x. Unit {0}) (AllByRecursion (CaseIn P)) (Unit {0}) [] tt (λ m. tt)
    cases_follow k before (c ∷ cs) h =
        let ls = labels u k before c.labels in
        let i = in_turn c.body u in
        let j = in_turn c.body v in
        let f = two_made P (λ x. Unit {0}) (CaseIn P) (λ x. Unit {0}) (AllByRecursion (CaseIn P)) (λ x. Unit {0}) (AllByRecursion (CaseIn P)) (λ p. p.0 ∷ p.1) (case_of ls.found i) (case_of ls.found j) (cases u k ls.before cs) (cases v k ls.before cs)
        (case_of_follows ls.found i j (in_turn_follows P c.body h.0.body u s a)) (cases_follow k ls.before cs h.1) (λ p t. tt) (λ p m. m) in
        record {
          keeps = λ x e said. tt;
          same = λ x e said m.
              let n = made_node (λ (p : TypedCase × List TypedCase). p.0 ∷ p.1) (both (case_of ls.found i) (cases u k ls.before cs)) x e in
              let q = both_node (case_of ls.found i) (cases u k ls.before cs) n.0 n.1.0 in
              let t = said_left P (case_of ls.found i).notes (cases u k ls.before cs).notes (front_said P (both (case_of ls.found i) (cases u k ls.before cs)) (λ p. sound (p.0 ∷ p.1)) said) in
              let w = made_node (λ (p : List Label × List TypedStmt). roll-TypedCase (record { labels = p.0; body = p.1 })) (both ls.found i) n.0.0 q.0 in
              let z = both_node ls.found i w.0 w.1.0 in
              let same = labels_same k before c.labels h.0.labels_follow w.0.0 z.0 (said_left P ls.found.notes i.notes (front_said P (both ls.found i) (λ p. sound (roll-TypedCase (record { labels = p.0; body = p.1 }))) t)) in
              (tt, ap (λ (l : Labels). case_behind l j (λ after. cases v k after cs)) same ∙ (f.same x e said m).1);
        }

    abbrev PairIn : List TypedCase × Option (List TypedStmt) → Type 0
    PairIn p = AllByRecursion (CaseIn P) p.0 × IfIn P p.1

    pair_follows : (i j : Judged (List TypedCase)) (k l : Judged (Option (List TypedStmt))) → KF i j → Follows P (λ o. Unit {0}) (IfIn P) (Unit {0}) k l → Follows P (λ p. Unit {0}) PairIn (Unit {0}) (both i k) (both j l)
    pair_follows i j k l h g =
        let f = follows_both P (λ x. Unit {0}) (AllByRecursion (CaseIn P)) (λ o. Unit {0}) (IfIn P) (Unit {0}) (Unit {0}) i j k l h g in
        record { keeps = λ x e said. tt; same = λ x e said m. (tt, (f.same x e said m).1) }

    selects_same : (x : Valued) → ValuedTied P x → ValuedIn P x → selects (map_of v) x ≡ selects (map_of u) x
    selects_same x t m = two selects_by (is_same P (map_of u) (map_of v) maps basic.Char x (t m)) (width_same P (map_of u) (map_of v) maps x (t m))

    judged_follows : (x : Phrase) → Ph x → Follows P (ValuedTied P) (ValuedIn P) (Unit {0}) (case_judged u x) (case_judged v x)
    judged_follows x h =
        follows_then P (ValuedTied P) (ValuedIn P) (ValuedTied P) (ValuedIn P) (Unit {0}) (x.value u) (x.value v) (case_value (map_of u) x.start) (case_value (map_of v) x.start) h.value
        (λ y t. follows_wants P (ValuedTied P) (ValuedIn P) (ValuedIn P y) (is_some (selects (map_of u) y)) (is_some (selects (map_of v) y)) rule.UnfitCase x.start y t (λ m. m) (λ r. ap (λ o. is_some o) (selects_same y t r)))

    pub case_follows : (at : Pos) (x : Phrase) (cs : List Labelled) (o : Option (List Judging)) → Ph x → AllByRecursion LabelledFollows cs → IfFollows P o → SF P (Unit {0}) (case u at x cs o) (case v at x cs o)
    case_follows at x cs o h k l = record { keeps = λ y e said. tt; same = λ y e said m. (tt, by y e said m) }
      where
        by : (y : List TypedStmt) → (case u at x cs o).node ≡ Some y → SaidIn P (case u at x cs o).notes → AllByRecursion (StmtIn P) y → case v at x cs o ≡ case u at x cs o
        by y e said m =
            let i : Judged Valued = case_judged u x in
            let made_of : Valued × (List TypedCase × Option (List TypedStmt)) → List TypedStmt = λ p. stmt.Case (tree p.0) p.1.0 p.1.1 at ∷ [] in
            let c = cases u (selects_if (map_of u) (case_judged u x).node) [] cs in
            let w = in_turn_if o u in
            let n = made_node made_of (both i (both c w)) y e in
            let q = both_node i (both c w) n.0 n.1.0 in
            let r = case_stmt_mentions P (tree n.0.0) n.0.1.0 n.0.1.1 at (subst (AllByRecursion (StmtIn P)) (sym n.1.1) m).0 in
            let z = tree_mentions P n.0.0 r.0 in
            let t = front_said P (both i (both c w)) (λ p. sound (made_of p)) said in
            let f = judged_follows x h in
            let said_x = said_left P i.notes (both c w).notes t in
            let tied = f.keeps n.0.0 q.0 said_x in
            let same = (f.same n.0.0 q.0 said_x z).1 in
            let chosen = ap (selects_if (map_of v)) (ap (λ (y : Judged Valued). y.node) same ∙ q.0) ∙ (selects_same n.0.0 tied z ∙ sym (ap (selects_if (map_of u)) q.0)) in
            let parts = two_made P (ValuedTied P) (ValuedIn P) (λ x. Unit {0}) (λ (p : List TypedCase × Option (List TypedStmt)). AllByRecursion (CaseIn P) p.0 × IfIn P p.1) (λ ys. Unit {0}) (AllByRecursion (StmtIn P)) made_of i (case_judged v x) (both c w) (both (cases v (selects_if (map_of u) (case_judged u x).node) [] cs) (in_turn_if o v)) f
            (pair_follows c (cases v (selects_if (map_of u) (case_judged u x).node) [] cs) w (in_turn_if o v) (cases_follow (selects_if (map_of u) (case_judged u x).node) [] cs k) (in_turn_if_follows P o l u s a))
            (λ p t. tt) (λ p m. let r = case_stmt_mentions P (tree p.0) p.1.0 p.1.1 at m.0 in (tree_mentions P p.0 r.0, r.1)) in
            ap (λ b. both (case_judged v x) (both (cases v b [] cs) (in_turn_if o v)) ▷ λ p. one (stmt.Case (tree p.0) p.1.0 p.1.1 at)) chosen ∙ (parts.same y e said m).1

    -- ---- FOR

    place_follows : (at : Pos) (w : Variable) (t : TypeRef) → IsIn P t → Follows P PlaceKnown (λ p. Unit {0}) (Unit {0}) (variable_named u at w t false) (variable_named v at w t false)
    place_follows at w t h =
        let f = variable_follows P u s a at w t false in
        let known = all_known (map_of u) (map_of v) maps at w u.guards (sound (variable_at w t false)) a.guards (λ p e. subst PlaceKnown (some_same e) (variable_in w t h, h)) in
        record { keeps = λ p e said. known p e; same = λ p e said m. f.same p e said (known p e).0 }

    integer_follows : (at : Pos) (p : Place) → PlaceKnown p → Follows P PlaceKnown (λ p. Unit {0}) (Unit {0}) (integer_place (map_of u) at p) (integer_place (map_of v) at p)
    integer_follows at p h = follows_wants P PlaceKnown (λ p. Unit {0}) (Unit {0}) (is_some (width_of (basic_of (map_of u) p.of))) (is_some (width_of (basic_of (map_of v) p.of))) rule.UnfitFor at p h (λ m. tt) (λ r. ap (λ o. is_some (width_of o)) (target_basics P (map_of u) (map_of v) maps p.of h.1))

    no_place : (i j : Judged Place) → i.node ≡ None → Follows P PlaceKnown (λ p. Unit {0}) (Unit {0}) i j
    no_place i j e = follows_none P PlaceKnown (λ p. Unit {0}) (Unit {0}) i j e

    entity_follows : (at : Pos) (x : Ident) (e : Entity) → EntityIn P e → Follows P PlaceKnown (λ p. Unit {0}) (Unit {0}) (for_variable u at x e) (for_variable v at x e)
    entity_follows at x (entity.Variable w t) h = follows_then P PlaceKnown (λ p. Unit {0}) PlaceKnown (λ p. Unit {0}) (Unit {0}) (variable_named u x.pos w t false) (variable_named v x.pos w t false) (λ p. integer_place (map_of u) at p) (λ p. integer_place (map_of v) at p) (place_follows x.pos w t h) (λ p k. integer_follows at p k)
    entity_follows at x (entity.TypeName t) h = no_place (breaks rule.WrongKind x.pos) (breaks rule.WrongKind x.pos) refl
    entity_follows at x (entity.Module m) h = no_place (breaks rule.WrongKind x.pos) (breaks rule.WrongKind x.pos) refl
    entity_follows at x (entity.Constant c) h = no_place (breaks rule.UnfitFor at) (breaks rule.UnfitFor at) refl
    entity_follows at x (entity.Procedure n g) h = no_place (breaks rule.UnfitFor at) (breaks rule.UnfitFor at) refl
    entity_follows at x (entity.Forward n g) h = no_place (breaks rule.UnfitFor at) (breaks rule.UnfitFor at) refl
    entity_follows at x (entity.Predeclared f) h = no_place (breaks rule.UnfitFor at) (breaks rule.UnfitFor at) refl
    entity_follows at x entity.LeftOut h = no_place (breaks rule.UnfitFor at) (breaks rule.UnfitFor at) refl
    entity_follows at x entity.Unsound h = no_place (breaks rule.UnfitFor at) (breaks rule.UnfitFor at) refl

    whole_variable : (at : Pos) (x : Ident) → Follows P PlaceKnown (λ p. Unit {0}) (Unit {0}) (named u x ▷ for_variable u at x) (named v x ▷ for_variable v at x)
    whole_variable at x = follows_then P (EntityIn P) (λ e. Unit {0}) PlaceKnown (λ p. Unit {0}) (Unit {0}) (named u x) (named v x) (for_variable u at x) (for_variable v at x) (named_follows P u s a x) (λ e h. entity_follows at x e h)

    bound_follows : (at : Pos) (p : Place) (i j : Judged Valued) → PlaceKnown p → Follows P (ValuedTied P) (ValuedIn P) (Unit {0}) i j → Follows P (λ x. Unit {0}) (ExprIn P) (Unit {0}) (i ▷ for_bound (map_of u) at p) (j ▷ for_bound (map_of v) at p)
    bound_follows at p i j k h =
        follows_then P (ValuedTied P) (ValuedIn P) (λ x. Unit {0}) (ExprIn P) (Unit {0}) i j (for_bound (map_of u) at p) (for_bound (map_of v) at p) h
        (λ y t. follows_wants P (λ x. Unit {0}) (ExprIn P) (ValuedIn P y) (fits (map_of u) p.of y) (fits (map_of v) p.of y) rule.UnfitFor at (tree y) tt (λ m. tree_mentions P y m) (λ r. fits_same P (map_of u) (map_of v) maps p.of y k.1 (t r)))

    step_follows : (at : Pos) (o : Option Phrase) → IfPhrase P u s a o → NF (for_step u at o) (for_step v at o)
    step_follows at None h = follows_self (λ x. Unit {0}) (λ x. Unit {0}) (sound (pos 1)) (λ x. tt)
    step_follows at (Some x) h = follows_then P (λ x. Unit {0}) (λ x. Unit {0}) (λ x. Unit {0}) (λ x. Unit {0}) (Unit {0}) (constant_value u x) (constant_value v x) (step_value at) (step_value at) (constant_value_follows P u s a x h) (λ c t. follows_self (λ x. Unit {0}) (λ x. Unit {0}) (step_value at c) (λ x. tt))

    -- two parts side by side
    side_follows : {A B : Type 0} (M : A → Type 0) (N : B → Type 0) (i j : Judged A) (k l : Judged B) → Follows P (λ x. Unit {0}) M (Unit {0}) i j → Follows P (λ x. Unit {0}) N (Unit {0}) k l → Follows P (λ p. Unit {0}) (λ p. M p.0 × N p.1) (Unit {0}) (both i k) (both j l)
    side_follows {A} {B} M N i j k l h g =
        let f = follows_both P (λ x. Unit {0}) M (λ x. Unit {0}) N (Unit {0}) (Unit {0}) i j k l h g in
        record { keeps = λ x e said. tt; same = λ x e said m. (tt, (f.same x e said m).1) }

    abbrev BoundsIn : TypedExpr × TypedExpr → Type 0
    BoundsIn p = ExprIn P p.0 × ExprIn P p.1

    abbrev RestIn : ℤ × List TypedStmt → Type 0
    RestIn p = Unit {0} × StmtsIn P p.1

    pub for_follows : (at : Pos) (x : Ident) (b c : Phrase) (o : Option Phrase) (body : List Judging) → Ph b → Ph c → IfPhrase P u s a o → BodyFollows P body → SF P (Unit {0}) (for u at x b c o body) (for v at x b c o body)
    for_follows at x b c o body hb hc ho h = record { keeps = λ y e said. tt; same = λ y e said m. (tt, by (named u x ▷ for_variable u at x).node refl y e said m) }
      where
        by : (p : Option Place) → (named u x ▷ for_variable u at x).node ≡ p → (y : List TypedStmt) → (for_with (map_of u) at p (b.value u) (c.value u) (for_step u at o) (in_turn body u)).node ≡ Some y
            → SaidIn P (joined (named u x ▷ for_variable u at x).notes (for_with (map_of u) at p (b.value u) (c.value u) (for_step u at o) (in_turn body u)).notes) → AllByRecursion (StmtIn P) y
            → for v at x b c o body ≡ noted (named u x ▷ for_variable u at x).notes (for_with (map_of u) at p (b.value u) (c.value u) (for_step u at o) (in_turn body u))
        by None k y e said m = none_some e
        by (Some p) k y e said m =
            let i = named u x ▷ for_variable u at x in
            let w = for_with (map_of u) at (Some p) (b.value u) (c.value u) (for_step u at o) (in_turn body u) in
            let f = whole_variable at x in
            let said_i = said_left P i.notes w.notes said in
            let known = f.keeps p k said_i in
            let same = (f.same p k said_i tt).1 in
            let made_of : (TypedExpr × TypedExpr) × (ℤ × List TypedStmt) → List TypedStmt = λ q. for_made (map_of u) at p q.0 q.1.0 q.1.1 ∷ [] in
            let bounds_u = both (b.value u ▷ for_bound (map_of u) at p) (c.value u ▷ for_bound (map_of u) at p) in
            let bounds_v = both (b.value v ▷ for_bound (map_of v) at p) (c.value v ▷ for_bound (map_of v) at p) in
            let rest_u = both (for_step u at o) (in_turn body u) in
            let rest_v = both (for_step v at o) (in_turn body v) in
            let parts = two_made P (λ q. Unit {0}) BoundsIn (λ q. Unit {0}) RestIn (λ ys. Unit {0}) (AllByRecursion (StmtIn P)) made_of bounds_u bounds_v rest_u rest_v
            (side_follows (ExprIn P) (ExprIn P) (b.value u ▷ for_bound (map_of u) at p) (b.value v ▷ for_bound (map_of v) at p) (c.value u ▷ for_bound (map_of u) at p) (c.value v ▷ for_bound (map_of v) at p) (bound_follows at p (b.value u) (b.value v) known hb.value) (bound_follows at p (c.value u) (c.value v) known hc.value))
            (side_follows (λ z. Unit {0}) (AllByRecursion (StmtIn P)) (for_step u at o) (for_step v at o) (in_turn body u) (in_turn body v) (step_follows at o ho) (in_turn_follows P body h u s a))
            (λ q t. tt) (λ q m. let r = for_mentions P p.root (width_or_long (width_of (basic_of (map_of u) p.of))) q.0.0 q.0.1 q.1.0 q.1.1 at m.0 in (r.0, (tt, r.1))) in
            let inner = (parts.same y e (said_right P i.notes w.notes said) m).1 in
            let widths = ap (λ z. width_or_long (width_of z)) (target_basics P (map_of u) (map_of v) maps p.of known.1) in
            ap (λ (z : Judged Place). noted z.notes (for_with (map_of v) at z.node (b.value v) (c.value v) (for_step v at o) (in_turn body v))) same
            ∙ (ap (λ z. noted i.notes (for_with (map_of v) at z (b.value v) (c.value v) (for_step v at o) (in_turn body v))) k
            ∙ ap (noted i.notes) (ap (λ z. both bounds_v rest_v ▷ λ q. one (stmt.For p.root z q.0.0 q.0.1 q.1.0 q.1.1 at)) widths ∙ inner))
