-- Actual parameters and calls are tied as their parts are.
use Rattle.std.proofs.Common.{◌≡◌, Bool, true, false, List, [], ◌∷◌, ◌++◌, length, map, Option, Some, None, refl, sym, ap, ◌∙◌, subst}
use Rattle.std.specs.Prelude.{is_some}
use Rattle.std.specs.List.{AllByRecursion}
use Rattle.ob_tree.specs.declared.pos.Pos.{Pos}
use Rattle.ob_tree.specs.declared.names.QName.{QName}
use Rattle.ob_types.specs.declared.types.Mode.{Mode}
use Rattle.ob_types.specs.declared.types.Mode.TheVariants as mode
use Rattle.ob_types.specs.declared.types.TypeRef.{TypeRef}
use Rattle.ob_types.specs.declared.types.TypeRef.TheVariants as ref
use Rattle.ob_types.specs.declared.types.Signature.{Signature}
use Rattle.ob_types.specs.declared.desc.Receiver.{Receiver}
use Rattle.ob_types.specs.declared.desc.Receiver.TheVariants as receiver
use Rattle.ob_types.specs.declared.typed.Passing.{Passing}
use Rattle.ob_types.specs.declared.typed.Passing.TheVariants as passing
use Rattle.ob_types.specs.declared.typed.OutProcedure.{OutProcedure}
use Rattle.ob_types.specs.declared.typed.OutProcedure.TheVariants as out
use Rattle.ob_types.specs.Maps.{listed, signature_types}
use Rattle.ob_types.specs.declared.typed.Callee.{Callee}
use Rattle.ob_types.specs.declared.typed.Callee.TheVariants as callee
use Rattle.ob_types.specs.declared.typed.Actual.{Actual}
use Rattle.ob_types.specs.declared.typed.Designator.TheFolds.{fold-roll-Actual}
use Rattle.ob_types.specs.declared.typed.TypedExpr.{TypedExpr}
use Rattle.ob_types.specs.declared.typed.TypedExpr.TheVariants as e
use Rattle.ob_types.specs.TypedKinds.{result_type}
use Rattle.ob_types.specs.TypedSyntax.{Desig, Deref, Expr, ValueOf, Call, CallVariable}
use Rattle.ob_types.specs.TypedView.{OneActual, designator_layer, expr_layer, actual_layer, designator_view, expr_view, actual_view, actuals_view}
use Rattle.ob_types.proofs.TypedViews.{view_value_of, view_deref, view_call, view_call_variable}
use Rattle.ob_rules.specs.declared.values.Place.{Place}
use Rattle.ob_rules.specs.declared.values.Valued.{Valued}
use Rattle.ob_rules.specs.declared.meant.Chosen.{Chosen}
use Rattle.ob_rules.specs.declared.meant.Meant.{Meant}
use Rattle.ob_rules.specs.declared.meant.Meant.TheVariants as means
use Rattle.ob_rules.specs.declared.meant.Where.{Where}
use Rattle.ob_rules.specs.declared.broken.Rule.TheVariants as rule
use Rattle.ob_rules.specs.Judged.{Judged, sound, both, also, wants}
use Rattle.ob_rules.specs.Shapes.{Map, is_array, is_open, is_record, open_element, by_var, passing_of}
use Rattle.ob_rules.specs.Names.{Around, map_of}
use Rattle.ob_rules.specs.Values.{computed}
use Rattle.ob_rules.specs.Phrases.{Phrase, record_receiver, receiver_place}
use Rattle.ob_rules.specs.Calls.{actual_of, unless_guarded, unless_read_only, variable_actual, meant_actual, var_actual, tree_for, takes_value, value_actual, actual, actuals, misplaced, called_with, called, call_procedure, call_variable, out_signature, call_out, bound_callee, receiver_actual, nearest_sound, where_from, call_bound_sound, call_bound}
use Rattle.ob_uses_roots.specs.Counts.{Shapes, shapes, has_receiver, counts_of_designator, counts_of_expr, counts_of_actuals, formals, without_receiver, counts_of_call, counts_of_held_call}
use Rattle.law_local_judged.specs.Agreement.{AreIn}
use Rattle.law_local_judged.specs.Said.{CountsIn}
use Rattle.law_local_judged.proofs.Near.{left_in, right_in}
use Rattle.law_local_files.specs.Tied.{RoomTied, ReceiverTied, SuperTied, ActualsTied, CalleeTied}
use Rattle.law_local_uses.proofs.Setting.{Setting, TE, E, In, Leads, Stands, PlaceOk, NodeOk, ValuedOk, CallOk, ChosenOk, MeantOk, none, Keeps, weaken, then_keeps, both_keep, wants_keeps, also_keeps, counts_both, named_e, node_e, place_of, tree_ok}
use Rattle.law_local_uses.proofs.Rooms.{value_room}
use Rattle.law_local_uses.proofs.Values.{text_tree_ok}
use Rattle.law_lists.proofs.Lists.{Anything, IfThere}

-- a phrase names what it mentions, whatever stands around
abbrev pub MeantKeeps : Setting → Option (Around → Judged Meant) → Type 0
MeantKeeps k None = Unit {0}
MeantKeeps k (Some f) = (u : Around) → Stands k u → Keeps k (MeantOk k) (f u)

abbrev pub PhraseOk : Setting → Phrase → Type 0
PhraseOk k p = ((u : Around) → Stands k u → Keeps k (ValuedOk k) (p.value u)) × MeantKeeps k p.meant

abbrev pub ArePhrases : Setting → List Phrase → Type 0
ArePhrases k ps = AllByRecursion (PhraseOk k) ps

-- one actual parameter: its value, the room for a string, and the type of the formal one
abbrev OneOk : Setting → OneActual → Type 0
OneOk k a = TE k a.e × RoomTied k.map k.unit k.Own a.passing a.e a.formal × In k a.formal

abbrev pub ActualOk : Setting → Actual → Type 0
ActualOk k a = OneOk k (actual_view a)

actual_is : (how : Passing) (t : TypeRef) (x : TypedExpr) → actual_view (actual_of how t x) ≡ record { passing = how; formal = t; e = expr_view x }
actual_is how t x = fold-roll-Actual Desig Expr OneActual designator_layer expr_layer actual_layer (record { passing = how; formal = t; value = x })

actual_ok : (k : Setting) (how : Passing) (t : TypeRef) (x : TypedExpr) → E k x → RoomTied k.map k.unit k.Own how (expr_view x) t → In k t → ActualOk k (actual_of how t x)
actual_ok k how t x h r i = subst (OneOk k) (sym (actual_is how t x)) (h, r, i)

actuals_tied : (k : Setting) (xs : List Actual) → AllByRecursion (ActualOk k) xs → ActualsTied k.map k.unit k.Own (actuals_view xs)
actuals_tied k [] h = tt
actuals_tied k (x ∷ xs) h = (h.0.0.0, h.0.1, actuals_tied k xs h.1)

actuals_count : (k : Setting) (xs : List Actual) → AllByRecursion (ActualOk k) xs → CountsIn k.Held (counts_of_actuals (actuals_view xs))
actuals_count k [] h = tt
actuals_count k (x ∷ xs) h = counts_both k (counts_of_expr (actual_view x).e) (counts_of_actuals (actuals_view xs)) h.0.0.1 (actuals_count k xs h.1)

formals_count : (k : Setting) (xs : List Actual) → AllByRecursion (ActualOk k) xs → CountsIn k.Held (formals (actuals_view xs))
formals_count k [] h = tt
formals_count k (x ∷ xs) h = (h.0.2, formals_count k xs h.1)

pub shapes_count : (k : Setting) (ts : List TypeRef) → AreIn k.Held ts → CountsIn k.Held (shapes ts)
shapes_count k [] h = tt
shapes_count k (t ∷ ts) h = (h.0, shapes_count k ts h.1)

room_var : (k : Setting) (m : Map) (t : TypeRef) (x : Expr) → RoomTied k.map k.unit k.Own (passing_of m mode.Var t) x t
room_var k m t x = by (is_open m t) (is_record m t)
  where
    by : (a b : Bool) → RoomTied k.map k.unit k.Own (by_var a b) x t
    by true b = tt
    by false true = tt
    by false false = tt

designator_e : (k : Setting) (p : Place) → PlaceOk k p → E k (e.Designator p.designator.inner)
designator_e k p h = named_e k _ (ValueOf (designator_view p.designator.inner)) (view_value_of p.designator.inner) h.0

-- ---- actual parameters

variable_keeps : (k : Setting) (map : Map) (t : TypeRef) (start : Pos) (p : Place) → PlaceOk k p → In k t → Keeps k (ActualOk k) (variable_actual map t start p)
variable_keeps k map t start p h i =
    also_keeps k (ActualOk k) _ rule.UnfitParameter start (unless_read_only map t start p)
    (also_keeps k (ActualOk k) p.read_only rule.NotChangeable start (unless_guarded map t start p)
    (also_keeps k (ActualOk k) p.guarded rule.GuardedVarParameter start (sound (actual_of (passing_of map mode.Var t) t (e.Designator p.designator.inner))) (actual_ok k (passing_of map mode.Var t) t (e.Designator p.designator.inner) (designator_e k p h) (room_var k map t (expr_view (e.Designator p.designator.inner))) i, none)))

meant_keeps : (k : Setting) (map : Map) (t : TypeRef) (start : Pos) (m : Meant) → MeantOk k m → In k t → Keeps k (ActualOk k) (meant_actual map t start m)
meant_keeps k map t start (means.Place p) h i = variable_keeps k map t start p h i
meant_keeps k map t start (means.Call x) h i = (tt, none)
meant_keeps k map t start m h i = (tt, none)

var_keeps : (k : Setting) (u : Around) → Stands k u → (t : TypeRef) → In k t → (p : Phrase) → PhraseOk k p → (o : Option (Around → Judged Meant)) → MeantKeeps k o → Keeps k (ActualOk k) (var_actual u t p o)
var_keeps k u s t i p g None h = then_keeps k (ValuedOk k) (ActualOk k) (p.value u) _ (g.0 u s) (λ x q. (tt, none))
var_keeps k u s t i p g (Some f) h = then_keeps k (MeantOk k) (ActualOk k) (f u) (meant_actual (map_of u) t p.start) (h u s) (λ m q. meant_keeps k (map_of u) t p.start m q i)

tree_for_ok : (k : Setting) (b : Bool) (x : Valued) → ValuedOk k x → E k (tree_for b x)
tree_for_ok k true x h = text_tree_ok k x h
tree_for_ok k false x h = tree_ok k x h

value_keeps : (k : Setting) (u : Around) → Stands k u → (t : TypeRef) → In k t → (start : Pos) (x : Valued) → ValuedOk k x → Keeps k (ActualOk k) (value_actual (map_of u) t start x)
value_keeps k u s t i start x h =
    wants_keeps k (ActualOk k) (takes_value (map_of u) (open_element (map_of u) t) t x) rule.UnfitParameter start (actual_of (passing_of (map_of u) mode.Value t) t (tree_for (is_array (map_of u) t) x))
    (λ e. actual_ok k (passing_of (map_of u) mode.Value t) t (tree_for (is_array (map_of u) t) x) (tree_for_ok k (is_array (map_of u) t) x h) (value_room k (map_of u) s.says x t (is_array (map_of u) t) h e) i)

actual_keeps : (k : Setting) (u : Around) → Stands k u → (m : Mode) (t : TypeRef) → In k t → (p : Phrase) → PhraseOk k p → Keeps k (ActualOk k) (actual u m t p)
actual_keeps k u s mode.Var t i p g = var_keeps k u s t i p g p.meant g.1
actual_keeps k u s mode.Value t i p g = then_keeps k (ValuedOk k) (ActualOk k) (p.value u) (value_actual (map_of u) t p.start) (g.0 u s) (λ x h. value_keeps k u s t i p.start x h)

actuals_keep : (k : Setting) (u : Around) → Stands k u → (fs : List (Mode × TypeRef)) → AreIn k.Held (map (λ f. f.1) fs) → (ps : List Phrase) → ArePhrases k ps → Keeps k (AllByRecursion (ActualOk k)) (actuals u fs ps)
actuals_keep k u s [] i [] g = (tt, none)
actuals_keep k u s (f ∷ fs) i [] g = (tt, none)
actuals_keep k u s [] i (p ∷ ps) g =
    then_keeps k (λ (r : Valued × List Actual). Unit {0} × AllByRecursion (ActualOk k) r.1) (AllByRecursion (ActualOk k)) (both (p.value u) (actuals u [] ps)) (λ r. sound r.1)
    (both_keep k Anything (AllByRecursion (ActualOk k)) (p.value u) (actuals u [] ps) (weaken k (ValuedOk k) (p.value u) (g.0.0 u s)) (actuals_keep k u s [] i ps g.1)) (λ r h. (h.1, none))
actuals_keep k u s (f ∷ fs) i (p ∷ ps) g =
    then_keeps k (λ (r : Actual × List Actual). ActualOk k r.0 × AllByRecursion (ActualOk k) r.1) (AllByRecursion (ActualOk k)) (both (actual u f.0 f.1 p) (actuals u fs ps)) (λ r. sound (r.0 ∷ r.1))
    (both_keep k (ActualOk k) (AllByRecursion (ActualOk k)) (actual u f.0 f.1 p) (actuals u fs ps) (actual_keeps k u s f.0 f.1 i.0 p g.0) (actuals_keep k u s fs i.1 ps g.1)) (λ r h. (h, none))

-- ---- calls

called_keeps : (k : Setting) (u : Around) → Stands k u → (w : Where) (at : Pos) (s : Signature) → AreIn k.Held (signature_types s) → (ps : List Phrase) → ArePhrases k ps → (f : List Actual → TypedExpr) → ((xs : List Actual) → AllByRecursion (ActualOk k) xs → NodeOk k (f xs)) → Keeps k (ValuedOk k) (called u w at s ps f)
called_keeps k u st w at s i ps g f h =
    then_keeps k (AllByRecursion (ActualOk k)) (ValuedOk k) (actuals u s.params ps) (called_with w at s (length ps) f) (actuals_keep k u st s.params (left_in k.Held (map (λ f. f.1) s.params) (listed s.result) i) ps g)
    (λ xs q. then_keeps k (AllByRecursion (ActualOk k)) (ValuedOk k) (wants _ rule.WrongParameterCount at xs) (λ ys. also (misplaced w (is_some s.result)) rule.MisplacedCall at (sound (computed (f ys) (result_type s.result)))) (wants_keeps k (AllByRecursion (ActualOk k)) _ rule.WrongParameterCount at xs (λ e. q))
    (λ ys r. also_keeps k (ValuedOk k) (misplaced w (is_some s.result)) rule.MisplacedCall at (sound (computed (f ys) (result_type s.result))) (h ys r, none)))

-- a call, and what counts of its formal parameters
call_e : (k : Setting) (f : Callee) (xs : List Actual) (at : Pos) (t : Option TypeRef) → CalleeTied k.map k.unit k.Own f (actuals_view xs) → ActualsTied k.map k.unit k.Own (actuals_view xs) → CountsIn k.Held (counts_of_actuals (actuals_view xs)) → CountsIn k.Held (formals (without_receiver (has_receiver f) (actuals_view xs))) → AreIn k.Held (listed t) → NodeOk k (e.Call f xs at t)
call_e k f xs at t h g c d r =
    node_e k _ (Call f (actuals_view xs) at t) (view_call f xs at t)
    ((g, h), counts_both k (counts_of_actuals (actuals_view xs)) (counts_of_call f (actuals_view xs) t) c (counts_both k (formals (without_receiver (has_receiver f) (actuals_view xs))) (shapes (listed t)) d (shapes_count k (listed t) r))) tt

result_in : (k : Setting) (s : Signature) → AreIn k.Held (signature_types s) → AreIn k.Held (listed s.result)
result_in k s i = right_in k.Held (map (λ f. f.1) s.params) (listed s.result) i

pub call_procedure_keeps : (k : Setting) (u : Around) → Stands k u → (w : Where) (at : Pos) (q : QName) (s : Signature) (ps : List Phrase) → ArePhrases k ps → AreIn k.Held (signature_types s) → Keeps k (ValuedOk k) (call_procedure u w at q s ps)
call_procedure_keeps k u st w at q s ps g i = called_keeps k u st w at s i ps g (λ xs. e.Call (callee.Declared q) xs at s.result) (λ xs r. call_e k (callee.Declared q) xs at s.result tt (actuals_tied k xs r) (actuals_count k xs r) (formals_count k xs r) (result_in k s i))

pub call_variable_keeps : (k : Setting) (u : Around) → Stands k u → (w : Where) (at : Pos) (p : Place) (s : Signature) → AreIn k.Held (signature_types s) → (ps : List Phrase) → ArePhrases k ps → PlaceOk k p → Keeps k (ValuedOk k) (call_variable u w at p s ps)
call_variable_keeps k u st w at p s i ps g h =
    called_keeps k u st w at s i ps g (λ xs. e.CallVariable p.designator.inner xs at s.result)
    (λ xs r.
    let ds = counts_of_designator (designator_view p.designator.inner) in
    let es = counts_of_actuals (actuals_view xs) in
    node_e k _ (CallVariable (designator_view p.designator.inner) (actuals_view xs) at s.result) (view_call_variable p.designator.inner xs at s.result)
    ((h.0.0, actuals_tied k xs r), counts_both k (ds ++ es) (counts_of_held_call (actuals_view xs) s.result) (counts_both k ds es h.0.1 (actuals_count k xs r)) (counts_both k (formals (actuals_view xs)) (shapes (listed s.result)) (formals_count k xs r) (shapes_count k (listed s.result) (result_in k s i)))) tt)

out_in : (k : Setting) (u : Around) → Stands k u → (p : OutProcedure) → AreIn k.Held (signature_types (out_signature p))
out_in k u st out.Char = (tt, tt)
out_in k u st out.Str = (st.out, tt)
out_in k u st out.Int = (tt, (tt, tt))
out_in k u st out.Ln = tt

pub call_out_keeps : (k : Setting) (u : Around) → Stands k u → (w : Where) (at : Pos) (p : OutProcedure) (ps : List Phrase) → ArePhrases k ps → Keeps k (ValuedOk k) (call_out u w at p ps)
call_out_keeps k u st w at p ps g = called_keeps k u st w at (out_signature p) (out_in k u st p) ps g (λ xs. e.Call (callee.Out p) xs at None) (λ xs r. call_e k (callee.Out p) xs at None tt (actuals_tied k xs r) (actuals_count k xs r) (formals_count k xs r) tt)

-- ---- bound procedures

-- the receiver as it is passed
abbrev used : Receiver → Chosen → Place
used receiver.Pointer c = c.receiver
used receiver.Record c = receiver_place c

place_ok : (k : Setting) (start : Pos) (p : Place) → PlaceOk k p → (o : Option TypeRef) → IfThere (In k) o → PlaceOk k (record_receiver start p o)
place_ok k start p h None i = h
place_ok k start p h (Some t) i = place_of k _ (Deref (designator_view p.designator.inner) start t) t (view_deref p.designator.inner start t) (h.0.0, counts_both k (counts_of_designator (designator_view p.designator.inner)) (Shapes t ∷ []) h.0.1 (i, tt)) i refl

place_leads : (k : Setting) (start : Pos) (p : Place) (q : QName) (o : Option TypeRef) → Leads k p.of q → IfThere (λ t. Leads k t q) o → Leads k (record_receiver start p o).of q
place_leads k start p q None h g = h
place_leads k start p q (Some t) h g = g

module _ (k : Setting) (c : Chosen) (h : ChosenOk k c) where
  used_ok : (r : Receiver) → PlaceOk k (used r c)
  used_ok receiver.Pointer = h.receiver
  used_ok receiver.Record = place_ok k c.start c.receiver h.receiver c.pointed h.pointed

  used_leads : (r : Receiver) → CallOk k c None → Leads k (used r c).of c.introduced
  used_leads receiver.Pointer g = g.0
  used_leads receiver.Record g = place_leads k c.start c.receiver c.introduced c.pointed g.0 g.1

  value_is : (r : Receiver) → (actual_view (receiver_actual r c)).e ≡ ValueOf (designator_view (used r c).designator.inner)
  value_is receiver.Pointer = ap (λ (a : OneActual). a.e) (actual_is passing.Scalar c.receiver.of (e.Designator c.receiver.designator.inner)) ∙ view_value_of c.receiver.designator.inner
  value_is receiver.Record = ap (λ (a : OneActual). a.e) (actual_is passing.VariableRecord (ref.Named c.owner) (e.Designator (receiver_place c).designator.inner)) ∙ view_value_of (receiver_place c).designator.inner

  room_is : (r : Receiver) → RoomTied k.map k.unit k.Own (actual_view (receiver_actual r c)).passing (actual_view (receiver_actual r c)).e (actual_view (receiver_actual r c)).formal
  room_is receiver.Pointer = subst (λ (a : OneActual). RoomTied k.map k.unit k.Own a.passing a.e a.formal) (sym (actual_is passing.Scalar c.receiver.of (e.Designator c.receiver.designator.inner))) tt
  room_is receiver.Record = subst (λ (a : OneActual). RoomTied k.map k.unit k.Own a.passing a.e a.formal) (sym (actual_is passing.VariableRecord (ref.Named c.owner) (e.Designator (receiver_place c).designator.inner))) tt

  value_tied : (r : Receiver) → TE k (actual_view (receiver_actual r c)).e
  value_tied r = subst (TE k) (sym (value_is r)) (used_ok r).0

  bound_call : (r : Receiver) (xs : List Actual) (at : Pos) (o : Option QName) → CallOk k c o → AllByRecursion (ActualOk k) xs → NodeOk k (e.Call (bound_callee c o) (receiver_actual r c ∷ xs) at c.method.signature.result)
  bound_call r xs at None g a =
      let p = used_ok r in
      let v = value_tied r in
      call_e k (bound_callee c None) (receiver_actual r c ∷ xs) at c.method.signature.result
      (subst (λ x. ReceiverTied k.map k.unit k.Own x c.introduced) (sym (value_is r)) (subst (λ t. Leads k t c.introduced) (sym p.2) (used_leads r g)))
      (v.0, room_is r, actuals_tied k xs a)
      (counts_both k (counts_of_expr (actual_view (receiver_actual r c)).e) (counts_of_actuals (actuals_view xs)) v.1 (actuals_count k xs a))
      (formals_count k xs a) (result_in k c.method.signature h.signature)
  bound_call r xs at (Some b) g a =
      let v = value_tied r in
      call_e k (bound_callee c (Some b)) (receiver_actual r c ∷ xs) at c.method.signature.result
      (subst (λ x. SuperTied k.map k.unit k.Own x c.introduced) (sym (value_is r)) g)
      (v.0, room_is r, actuals_tied k xs a)
      (counts_both k (counts_of_expr (actual_view (receiver_actual r c)).e) (counts_of_actuals (actuals_view xs)) v.1 (actuals_count k xs a))
      (formals_count k xs a) (result_in k c.method.signature h.signature)

bound_keeps : (k : Setting) (b : Bool) (u : Around) → Stands k u → (w : Where) (at : Pos) (c : Chosen) (ps : List Phrase) → ArePhrases k ps → ChosenOk k c → Keeps k (ValuedOk k) (call_bound_sound b u w at c ps)
bound_keeps k false u st w at c ps g h = then_keeps k (AllByRecursion (ActualOk k)) (ValuedOk k) (actuals u [] ps) _ (actuals_keep k u st [] tt ps g) (λ xs q. (tt, none))
bound_keeps k true u st w at c ps g h =
    also_keeps k (ValuedOk k) _ rule.NotChangeable at (called u w at c.method.signature ps (λ xs. e.Call (bound_callee c c.base) (receiver_actual c.method.receiver c ∷ xs) at c.method.signature.result))
    (called_keeps k u st w at c.method.signature h.signature ps g (λ xs. e.Call (bound_callee c c.base) (receiver_actual c.method.receiver c ∷ xs) at c.method.signature.result)
    (λ xs r. bound_call k c h c.method.receiver xs at c.base h.call r))

pub call_bound_keeps : (k : Setting) (u : Around) → Stands k u → (w : Where) (at : Pos) (c : Chosen) (ps : List Phrase) → ArePhrases k ps → ChosenOk k c → Keeps k (ValuedOk k) (call_bound u w at c ps)
call_bound_keeps k u st w at c ps g h = bound_keeps k (nearest_sound u 201 (where_from c c.base) c.method.name) u st w at c ps g h
