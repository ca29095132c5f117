-- Calls, with other interfaces around.
use Rattle.std.proofs.Common.{◌≡◌, refl, sym, ap, ◌∙◌, subst, ℕ, zero, suc, List, [], ◌∷◌, ◌++◌, Option, Some, None, Bool, true, false, length, arith}
use Rattle.std.proofs.lemmas.Bool.Decides.{nat_tests}
use Rattle.std.specs.Prelude.{◌&&◌, is_some, is_none, nat_eq, bytes_eq}
use Rattle.std.specs.List.{AllByRecursion}
use Rattle.ob_tree.specs.declared.pos.Pos.{Pos}
use Rattle.ob_tree.specs.declared.names.QName.{QName}
use Rattle.ob_types.specs.declared.types.Mode.{Mode}
use Rattle.ob_types.specs.declared.types.TypeRef.{TypeRef}
use Rattle.ob_types.specs.declared.types.TypeRef.TheVariants as ref
use Rattle.ob_types.specs.declared.types.Signature.{Signature}
use Rattle.ob_types.specs.declared.desc.Desc.{Desc}
use Rattle.ob_types.specs.declared.desc.Receiver.{Receiver}
use Rattle.ob_types.specs.declared.desc.Receiver.TheVariants as receiver
use Rattle.ob_types.specs.declared.typed.Passing.TheVariants as passing
use Rattle.ob_types.specs.declared.typed.OutProcedure.{OutProcedure}
use Rattle.ob_types.specs.declared.typed.OutProcedure.TheVariants as out
use Rattle.ob_types.specs.declared.typed.Callee.{Callee}
use Rattle.ob_types.specs.declared.typed.Callee.TheVariants as callee
use Rattle.ob_types.specs.declared.typed.Actual.{Actual}
use Rattle.ob_types.specs.declared.typed.TypedExpr.{TypedExpr}
use Rattle.ob_types.specs.declared.typed.TypedExpr.TheVariants as typed
use Rattle.ob_types.specs.Maps.{listed}
use Rattle.ob_types.specs.TypedKinds.{result_type}
use Rattle.ob_types.specs.TypedSyntax.{Expr}
use Rattle.ob_types.specs.TypedView.{designator_view, actual_view, actuals_view}
use Rattle.ob_types.proofs.TypedViews.{view_call, view_call_variable}
use Rattle.ob_uses_roots.specs.Counts.{shapes, has_receiver, without_receiver, formals, counts_of_designator, counts_of_expr, counts_of_actuals, counts_of_call, counts_of_held_call}
use Rattle.ob_rules.specs.declared.entity.Bound.{Bound}
use Rattle.ob_rules.specs.declared.meant.Chosen.{Chosen}
use Rattle.ob_rules.specs.declared.meant.Where.{Where}
use Rattle.ob_rules.specs.declared.values.Place.{Place}
use Rattle.ob_rules.specs.declared.values.Valued.{Valued}
use Rattle.ob_rules.specs.declared.broken.Rule.TheVariants as rule
use Rattle.ob_rules.specs.Judged.{Judged, sound, silent, also, wants, both, ◌▷◌}
use Rattle.ob_rules.specs.Shapes.{base_record}
use Rattle.ob_rules.specs.Names.{Around, map_of, bound_for}
use Rattle.ob_rules.specs.Values.{computed}
use Rattle.ob_rules.specs.Phrases.{Phrase, record_receiver, receiver_place}
use Rattle.ob_rules.specs.Calls.{actual, actuals, misplaced, called_with, called, call_procedure, call_variable, out_signature, call_out, bound_callee, receiver_actual, is_record_receiver, sound_or, nearest_sound, where_from, call_bound_sound, call_bound}
use Rattle.law_local_judged.specs.Said.{KindIn, CountsIn, ExprIn, SaidIn, PlaceIn, ValuedIn, ValuedTied, ActualIn, ChosenIn}
use Rattle.law_local_judged.specs.Followed.{beside, Agrees, Follows}
use Rattle.law_local_judged.proofs.Tests.{base_same, base_record_in}
use Rattle.law_local_judged.proofs.Following.{said_left, follows_none, follows_sound, follows_with, follows_wants, follows_also, follows_then, follows_both, none_then, then_node, both_nodes, front_said}
use Rattle.law_local_judged.proofs.Mentioned.{counts_left, counts_right, value_of_mentions, deref_mentions}
use Rattle.law_local_judged.proofs.Names.{maps_agree}
use Rattle.law_local_judged.proofs.Actuals.{actual_expr, actuals_mention, PhraseFollows, PhrasesFollow, NameSame, actual_follows, actual_named}
use Rattle.law_lists.proofs.Lists.{none_some}

nat_is : (n m : ℕ) → nat_eq n m ≡ true → n ≡ m
nat_is n m e = grind (arith, nat_tests)

suc_not : {A : Type 0} (n : ℕ) → suc n ≡ zero → A
suc_not n e = absurd cc

suc_same : (n m : ℕ) → suc n ≡ suc m → n ≡ m
suc_same n m e = omega (arith, e)

module _ (P : QName → Type 0) where
  abbrev AI : List Actual → Type 0
  AI xs = AllByRecursion (ActualIn P) xs

  abbrev VF : Type 0 → Judged Valued → Judged Valued → Type 0
  VF R i j = Follows P (ValuedTied P) (ValuedIn P) R i j

  abbrev EI : Expr → Type 0
  EI x = CountsIn P (counts_of_expr x)

  -- ---- what calls mention

  result_in : (o : Option TypeRef) → CountsIn P (shapes (listed o)) → KindIn P (result_type o)
  result_in None h = tt
  result_in (Some t) h = h.0

  pub call_mentions : (c : Callee) (xs : List Actual) (at : Pos) (o : Option TypeRef) → has_receiver c ≡ false → ExprIn P (typed.Call c xs at o) → AI xs × KindIn P (result_type o)
  call_mentions c xs at o through h =
      let k = subst EI (view_call c xs at o) h in
      let cs = counts_of_actuals (actuals_view xs) in
      let r = subst (λ b. CountsIn P (formals (without_receiver b (actuals_view xs)) ++ shapes (listed o))) through (counts_right P cs (counts_of_call c (actuals_view xs) o) k) in
      (actuals_mention P xs (counts_left P cs (counts_of_call c (actuals_view xs) o) k) (counts_left P (formals (actuals_view xs)) (shapes (listed o)) r), result_in o (counts_right P (formals (actuals_view xs)) (shapes (listed o)) r))

  pub bound_mentions : (c : Callee) (x : Actual) (xs : List Actual) (at : Pos) (o : Option TypeRef) → has_receiver c ≡ true → ExprIn P (typed.Call c (x ∷ xs) at o) → (AI xs × KindIn P (result_type o)) × EI (actual_view x).e
  bound_mentions c x xs at o through h =
      let k = subst EI (view_call c (x ∷ xs) at o) h in
      let ds = counts_of_expr (actual_view x).e in
      let cs = counts_of_actuals (actuals_view xs) in
      let m = counts_left P (ds ++ cs) (counts_of_call c (actuals_view (x ∷ xs)) o) k in
      let r = subst (λ b. CountsIn P (formals (without_receiver b (actuals_view (x ∷ xs))) ++ shapes (listed o))) through (counts_right P (ds ++ cs) (counts_of_call c (actuals_view (x ∷ xs)) o) k) in
      ((actuals_mention P xs (counts_right P ds cs m) (counts_left P (formals (actuals_view xs)) (shapes (listed o)) r), result_in o (counts_right P (formals (actuals_view xs)) (shapes (listed o)) r)), counts_left P ds cs m)

  pub held_mentions : (p : Place) (xs : List Actual) (at : Pos) (o : Option TypeRef) → ExprIn P (typed.CallVariable p.designator.inner xs at o) → (AI xs × KindIn P (result_type o)) × PlaceIn P p
  held_mentions p xs at o h =
      let k = subst EI (view_call_variable p.designator.inner xs at o) h in
      let ds = counts_of_designator (designator_view p.designator.inner) in
      let cs = counts_of_actuals (actuals_view xs) in
      let l = counts_left P (ds ++ cs) (counts_of_held_call (actuals_view xs) o) k in
      let r = counts_right P (ds ++ cs) (counts_of_held_call (actuals_view xs) o) k in
      ((actuals_mention P xs (counts_right P ds cs l) (counts_left P (formals (actuals_view xs)) (shapes (listed o)) r), result_in o (counts_right P (formals (actuals_view xs)) (shapes (listed o)) r)), counts_left P ds cs l)

  module _ (u : Around) (s : QName → Option Desc) (a : Agrees P u s) where
    abbrev v : Around
    v = beside u s

    abbrev Ph : Phrase → Type 0
    Ph p = PhraseFollows P u s a p

    abbrev Phs : List Phrase → Type 0
    Phs ps = PhrasesFollow P u s a ps

    abbrev LF : Judged (List Actual) → Judged (List Actual) → Type 0
    LF i j = Follows P (λ x. Unit {0}) (AllByRecursion (ActualIn P)) (Unit {0}) i j

    pub actuals_follow : (fs : List (Mode × TypeRef)) (ps : List Phrase) → length ps ≡ length fs → Phs ps → LF (actuals u fs ps) (actuals v fs ps)
    actuals_follow fs [] l h = follows_sound P (λ x. Unit {0}) (AllByRecursion (ActualIn P)) (Unit {0}) [] tt (λ m. tt)
    actuals_follow [] (p ∷ ps) l h = suc_not (length ps) l
    actuals_follow (f ∷ fs) (p ∷ ps) l h =
        let b = follows_both P (λ x. Unit {0}) (ActualIn P) (λ x. Unit {0}) (AllByRecursion (ActualIn P)) (Unit {0}) (Unit {0}) (actual u f.0 f.1 p) (actual v f.0 f.1 p) (actuals u fs ps) (actuals v fs ps) (actual_follows P u s a f.0 f.1 p h.0) (actuals_follow fs ps (suc_same (length ps) (length fs) l) h.1) in
        let r = follows_then P (λ p. Unit {0} × Unit {0}) (λ p. ActualIn P p.0 × AllByRecursion (ActualIn P) p.1) (λ x. Unit {0}) (AllByRecursion (ActualIn P)) (Unit {0} × Unit {0}) (both (actual u f.0 f.1 p) (actuals u fs ps)) (both (actual v f.0 f.1 p) (actuals v fs ps)) (λ r. sound (r.0 ∷ r.1)) (λ r. sound (r.0 ∷ r.1)) b
        (λ x t. follows_sound P (λ x. Unit {0}) (AllByRecursion (ActualIn P)) (ActualIn P x.0 × AllByRecursion (ActualIn P) x.1) (x.0 ∷ x.1) tt (λ m. m)) in
        record { keeps = r.keeps; same = λ x k said m. (tt, (r.same x k said m).1) }

    -- what the call of so many parameters comes to mentions those, and R
    pub called_follows : (R : Type 0) (w : Where) (at : Pos) (g : Signature) (ps : List Phrase) (F : List Actual → TypedExpr) → Phs ps
        → ((xs : List Actual) → ExprIn P (F xs) → (AI xs × KindIn P (result_type g.result)) × R) → VF R (called u w at g ps F) (called v w at g ps F)
    called_follows R w at g ps F h m = by (nat_eq (length ps) (length g.params)) refl
      where
        last : (xs : List Actual) → VF (AI xs × R) (called_with w at g (length ps) F xs) (called_with w at g (length ps) F xs)
        last xs =
            follows_then P (λ y. y ≡ xs) (λ y. AI y × R) (ValuedTied P) (ValuedIn P) (AI xs × R) (wants (nat_eq (length ps) (length g.params)) rule.WrongParameterCount at xs) (wants (nat_eq (length ps) (length g.params)) rule.WrongParameterCount at xs)
            (λ ys. also (misplaced w (is_some g.result)) rule.MisplacedCall at (sound (computed (F ys) (result_type g.result)))) (λ ys. also (misplaced w (is_some g.result)) rule.MisplacedCall at (sound (computed (F ys) (result_type g.result))))
            (follows_wants P (λ y. y ≡ xs) (λ y. AI y × R) (AI xs × R) (nat_eq (length ps) (length g.params)) (nat_eq (length ps) (length g.params)) rule.WrongParameterCount at xs refl (λ m. m) (λ r. refl))
            (λ ys t. follows_also P (ValuedTied P) (ValuedIn P) (AI ys × R) (misplaced w (is_some g.result)) (misplaced w (is_some g.result)) rule.MisplacedCall at (sound (computed (F ys) (result_type g.result))) (sound (computed (F ys) (result_type g.result)))
            (follows_sound P (ValuedTied P) (ValuedIn P) (AI ys × R) (computed (F ys) (result_type g.result)) (λ k. (m ys k).0.1) (λ k. let r = m ys k in (r.0.0, r.1))) (λ r. refl))

        unfit : (xs : List Actual) → nat_eq (length ps) (length g.params) ≡ false → (called_with w at g (length ps) F xs).node ≡ None
        unfit xs e = ap (λ b. (wants b rule.WrongParameterCount at xs ▷ λ ys. also (misplaced w (is_some g.result)) rule.MisplacedCall at (sound (computed (F ys) (result_type g.result)))).node) e

        by : (b : Bool) → nat_eq (length ps) (length g.params) ≡ b → VF R (called u w at g ps F) (called v w at g ps F)
        by true e =
            follows_then P (λ x. Unit {0}) (λ xs. AI xs × R) (ValuedTied P) (ValuedIn P) R (actuals u g.params ps) (actuals v g.params ps) (called_with w at g (length ps) F) (called_with w at g (length ps) F)
            (follows_with P (λ x. Unit {0}) (AllByRecursion (ActualIn P)) R (actuals u g.params ps) (actuals v g.params ps) (actuals_follow g.params ps (nat_is (length ps) (length g.params) e) h))
            (λ xs t. last xs)
        by false e = follows_none P (ValuedTied P) (ValuedIn P) R (called u w at g ps F) (called v w at g ps F) (none_then (actuals u g.params ps) (called_with w at g (length ps) F) (λ xs. unfit xs e))

    pub call_procedure_follows : (w : Where) (at : Pos) (q : QName) (g : Signature) (ps : List Phrase) → Phs ps → VF (Unit {0}) (call_procedure u w at q g ps) (call_procedure v w at q g ps)
    call_procedure_follows w at q g ps h = called_follows (Unit {0}) w at g ps (λ xs. typed.Call (callee.Declared q) xs at g.result) h (λ xs k. (call_mentions (callee.Declared q) xs at g.result refl k, tt))

    pub call_variable_follows : (w : Where) (at : Pos) (p : Place) (g : Signature) (ps : List Phrase) → Phs ps → VF (PlaceIn P p) (call_variable u w at p g ps) (call_variable v w at p g ps)
    call_variable_follows w at p g ps h = called_follows (PlaceIn P p) w at g ps (λ xs. typed.CallVariable p.designator.inner xs at g.result) h (λ xs k. held_mentions p xs at g.result k)

    out_result : (p : OutProcedure) → (out_signature p).result ≡ None
    out_result out.Char = refl
    out_result out.Str = refl
    out_result out.Int = refl
    out_result out.Ln = refl

    pub call_out_follows : (w : Where) (at : Pos) (p : OutProcedure) (ps : List Phrase) → Phs ps → VF (Unit {0}) (call_out u w at p ps) (call_out v w at p ps)
    call_out_follows w at p ps h = called_follows (Unit {0}) w at (out_signature p) ps (λ xs. typed.Call (callee.Out p) xs at None) h (λ xs k. let r = call_mentions (callee.Out p) xs at None refl k in ((r.0, subst (λ o. KindIn P (result_type o)) (sym (out_result p)) r.1), tt))

    -- ---- bound procedures

    nearest_same : (n : ℕ) (q : QName) (x : List ℕ) → P q → nearest_sound v n q x ≡ nearest_sound u n q x
    unfolding nearest_sound
    nearest_same zero q x h = refl
    nearest_same (suc n) q x h =
        ap (λ o. sound_or (bytes_eq q.module u.unit) (bound_for u.bound q x) o (λ b. nearest_sound v n b x)) (base_same P (map_of u) (map_of v) (maps_agree P u s a) q h)
        ∙ by (bytes_eq q.module u.unit) (bound_for u.bound q x) (base_record (map_of u) q) (λ b e. base_record_in P (map_of u) (map_of v) (maps_agree P u s a) q b h e) (λ b k. nearest_same n b x k)
      where
        by : (t : Bool) (o : Option Bound) (b : Option QName) → ((c : QName) → b ≡ Some c → P c) → ((c : QName) → P c → nearest_sound v n c x ≡ nearest_sound u n c x) → sound_or t o b (λ b. nearest_sound v n b x) ≡ sound_or t o b (λ b. nearest_sound u n b x)
        by false o b k ih = refl
        by true (Some o) b k ih = refl
        by true None None k ih = refl
        by true None (Some b) k ih = ih b (k b refl)

    from_in : (c : Chosen) (o : Option QName) → P c.owner → ((b : QName) → o ≡ Some b → P b) → P (where_from c o)
    from_in c None h k = h
    from_in c (Some b) h k = k b refl

    callee_receives : (c : Chosen) (o : Option QName) → has_receiver (bound_callee c o) ≡ true
    callee_receives c None = refl
    callee_receives c (Some b) = refl

    pointee_mentions : (c : Chosen) (o : Option TypeRef) → PlaceIn P (record_receiver c.start c.receiver o) → PlaceIn P c.receiver
    pointee_mentions c None h = h
    pointee_mentions c (Some t) h = (deref_mentions P c.receiver.designator.inner c.start t h).0

    receiver_mentions : (r : Receiver) (c : Chosen) → EI (actual_view (receiver_actual r c)).e → PlaceIn P c.receiver
    receiver_mentions receiver.Pointer c h = value_of_mentions P c.receiver.designator.inner (actual_expr P passing.Scalar c.receiver.of (typed.Designator c.receiver.designator.inner) h)
    receiver_mentions receiver.Record c h = pointee_mentions c c.pointed (value_of_mentions P (receiver_place c).designator.inner (actual_expr P passing.VariableRecord (ref.Named c.owner) (typed.Designator (receiver_place c).designator.inner) h))

    bound_follows : (t r : Bool) (w : Where) (at : Pos) (c : Chosen) (ps : List Phrase) → Phs ps → nearest_sound u 201 (where_from c c.base) c.method.name ≡ t → (PlaceIn P c.receiver → r ≡ t) → VF (PlaceIn P c.receiver) (call_bound_sound t u w at c ps) (call_bound_sound r v w at c ps)
    bound_follows false r w at c ps h e k = follows_none P (ValuedTied P) (ValuedIn P) (PlaceIn P c.receiver) (call_bound_sound false u w at c ps) (call_bound_sound r v w at c ps) (none_then (actuals u [] ps) (λ xs. silent) (λ x. refl))
    bound_follows true r w at c ps h e k =
        let f = called_follows (PlaceIn P c.receiver) w at c.method.signature ps (λ xs. typed.Call (bound_callee c c.base) (receiver_actual c.method.receiver c ∷ xs) at c.method.signature.result) h
        (λ xs m. let b = bound_mentions (bound_callee c c.base) (receiver_actual c.method.receiver c) xs at c.method.signature.result (callee_receives c c.base) m in (b.0, receiver_mentions c.method.receiver c b.1)) in
        let g = follows_also P (ValuedTied P) (ValuedIn P) (PlaceIn P c.receiver) (is_record_receiver c.method.receiver && ((receiver_place c).read_only && is_none c.base)) (is_record_receiver c.method.receiver && ((receiver_place c).read_only && is_none c.base)) rule.NotChangeable at
        (called u w at c.method.signature ps (λ xs. typed.Call (bound_callee c c.base) (receiver_actual c.method.receiver c ∷ xs) at c.method.signature.result))
        (called v w at c.method.signature ps (λ xs. typed.Call (bound_callee c c.base) (receiver_actual c.method.receiver c ∷ xs) at c.method.signature.result)) f (λ r. refl) in
        record { keeps = g.keeps; same = λ x l said m. let q = g.same x l said m in (q.0, ap (λ b. call_bound_sound b v w at c ps) (k q.0) ∙ q.1) }

    pub call_bound_follows : (w : Where) (at : Pos) (c : Chosen) (ps : List Phrase) → Phs ps → (PlaceIn P c.receiver → ChosenIn P c) → VF (PlaceIn P c.receiver) (call_bound u w at c ps) (call_bound v w at c ps)
    call_bound_follows w at c ps h k =
        bound_follows (nearest_sound u 201 (where_from c c.base) c.method.name) (nearest_sound v 201 (where_from c c.base) c.method.name) w at c ps h refl
        (λ m. let i = k m in nearest_same 201 (where_from c c.base) c.method.name (from_in c c.base i.owner i.base))

    -- ---- what one actual parameter tells

    pub called_named : (w : Where) (at : Pos) (g : Signature) (p : Phrase) (F : List Actual → TypedExpr) → Ph p → (x : Valued) → (called u w at g (p ∷ []) F).node ≡ Some x → SaidIn P (called u w at g (p ∷ []) F).notes → NameSame P u s a p.name
    called_named w at g p F h x k said = by g.params refl
      where
        by : (fs : List (Mode × TypeRef)) → g.params ≡ fs → NameSame P u s a p.name
        by [] e = none_some (sym (none_then (actuals u g.params (p ∷ [])) (called_with w at g 1 F) (λ xs. ap (λ fs. (wants (nat_eq 1 (length fs)) rule.WrongParameterCount at xs ▷ λ ys. also (misplaced w (is_some g.result)) rule.MisplacedCall at (sound (computed (F ys) (result_type g.result)))).node) e)) ∙ k)
        by (f ∷ fs) e =
            let n = then_node (actuals u g.params (p ∷ [])) (called_with w at g 1 F) x k in
            let m : (actuals u (f ∷ fs) (p ∷ [])).node ≡ Some n.0 = sym (ap (λ gs. (actuals u gs (p ∷ [])).node) e) ∙ n.1 in
            let t = subst (λ gs. SaidIn P (actuals u gs (p ∷ [])).notes) e (front_said P (actuals u g.params (p ∷ [])) (called_with w at g 1 F) said) in
            let b = then_node (both (actual u f.0 f.1 p) (actuals u fs [])) (λ r. sound (r.0 ∷ r.1)) n.0 m in
            let c = both_nodes (actual u f.0 f.1 p) (actuals u fs []) b.0 b.1 in
            actual_named P u s a f.0 f.1 p h c.0.0 c.0.1 (said_left P (actual u f.0 f.1 p).notes (actuals u fs []).notes (front_said P (both (actual u f.0 f.1 p) (actuals u fs [])) (λ r. sound (r.0 ∷ r.1)) t))
