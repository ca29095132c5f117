-- Actual parameters and calls name record types.
use Rattle.std.proofs.Common.{◌≡◌, Bool, true, false, List, [], ◌∷◌, length, map, Option, Some, None, refl, sym, ap, subst, ◌∙◌}
use Rattle.std.specs.Prelude.{is_some, not, ◌||◌}
use Rattle.std.specs.List.{AllByRecursion}
use Rattle.ob_tree.specs.declared.pos.Pos.{Pos}
use Rattle.ob_tree.specs.declared.names.QName.{QName}
use Rattle.ob_types.specs.declared.types.Mode.{Mode}
use Rattle.ob_types.specs.declared.types.Mode.TheVariants as mode
use Rattle.ob_types.specs.declared.types.TypeRef.{TypeRef}
use Rattle.ob_types.specs.declared.types.TypeRef.TheVariants as ref
use Rattle.ob_types.specs.declared.types.Signature.{Signature}
use Rattle.ob_types.specs.declared.desc.Receiver.{Receiver}
use Rattle.ob_types.specs.declared.desc.Receiver.TheVariants as receiver
use Rattle.ob_types.specs.declared.typed.Passing.{Passing}
use Rattle.ob_types.specs.declared.typed.Passing.TheVariants as passing
use Rattle.ob_types.specs.declared.typed.OutProcedure.{OutProcedure}
use Rattle.ob_types.specs.declared.typed.Callee.{Callee}
use Rattle.ob_types.specs.declared.typed.Callee.TheVariants as callee
use Rattle.ob_types.specs.declared.typed.Actual.{Actual}
use Rattle.ob_types.specs.declared.typed.Designator.TheFolds.{fold-roll-Actual}
use Rattle.ob_types.specs.declared.typed.TypedExpr.{TypedExpr}
use Rattle.ob_types.specs.declared.typed.TypedExpr.TheVariants as e
use Rattle.ob_types.specs.Tests.{target, shape_at, type_eq, same_at}
use Rattle.ob_types.specs.TypedKinds.{result_type, variable_type}
use Rattle.ob_types.proofs.Sameness.{type_eq_decides}
use Rattle.ob_types.specs.TypedSyntax.{Desig, Deref, Expr, ValueOf, Call, CallVariable}
use Rattle.ob_types.specs.TypedView.{OneActual, designator_layer, expr_layer, actual_layer, designator_view, expr_view, actual_view, actuals_view}
use Rattle.ob_types.proofs.TypedViews.{view_value_of, view_deref, view_call, view_call_variable}
use Rattle.ob_rules.specs.declared.values.Place.{Place}
use Rattle.ob_rules.specs.declared.values.Valued.{Valued}
use Rattle.ob_rules.specs.declared.meant.Chosen.{Chosen}
use Rattle.ob_rules.specs.declared.meant.Meant.{Meant}
use Rattle.ob_rules.specs.declared.meant.Meant.TheVariants as means
use Rattle.ob_rules.specs.declared.meant.Where.{Where}
use Rattle.ob_rules.specs.declared.broken.Rule.TheVariants as rule
use Rattle.ob_rules.specs.Judged.{Judged, sound, both, also, wants}
use Rattle.ob_rules.specs.Shapes.{Map, record_at, record_of, open_element, is_array, by_value, by_var, is_open, is_record, is_structured, passing_of}
use Rattle.ob_rules.specs.Names.{Around, map_of}
use Rattle.ob_rules.specs.Values.{computed}
use Rattle.ob_rules.specs.Phrases.{Phrase, record_receiver, receiver_place}
use Rattle.ob_rules.specs.Calls.{both_records, takes_variable, actual_of, unless_guarded, unless_read_only, variable_actual, meant_actual, var_actual, tree_for, value_actual, actual, actuals, misplaced, called_with, called, call_procedure, call_variable, out_signature, call_out, bound_callee, receiver_actual, nearest_sound, where_from, call_bound_sound, call_bound}
use Rattle.law_links_types.specs.Trees.{StandsForOne, IsBase, ExprRecorded, ActualsRecorded, CalleeRecorded, PassedRecorded}
use Rattle.law_links_types.proofs.Setting.{Setting, E, Stands, one_stands, PlaceOk, ValuedOk, ChosenOk, MeantOk, Keeps, any_keeps, then_keeps, both_keep, wants_keeps, also_keeps, also_so, named_e, typed_d, tree_ok}
use Rattle.law_links_types.proofs.Values.{text_tree_ok}
use Rattle.law_lists.proofs.Lists.{Anything, IfThere}

-- a phrase names record types, whatever stands around
abbrev pub MeantKeeps : Setting → Option (Around → Judged Meant) → Type 0
MeantKeeps k None = Unit {0}
MeantKeeps k (Some f) = (u : Around) → Stands k u → Keeps k (MeantOk k) (f u)

abbrev pub PhraseOk : Setting → Phrase → Type 0
PhraseOk k p = ((u : Around) → Stands k u → Keeps k (ValuedOk k) (p.value u)) × MeantKeeps k p.meant

abbrev pub ArePhrases : Setting → List Phrase → Type 0
ArePhrases k ps = AllByRecursion (PhraseOk k) ps

abbrev pub OneOk : Setting → OneActual → Type 0
OneOk k a = ExprRecorded k.types k.unit a.e × PassedRecorded k.types k.unit a.passing a.e

abbrev pub ActualOk : Setting → Actual → Type 0
ActualOk k a = OneOk k (actual_view a)

actual_ok : (k : Setting) (how : Passing) (t : TypeRef) (x : TypedExpr) → E k x → PassedRecorded k.types k.unit how (expr_view x) → ActualOk k (actual_of how t x)
actual_ok k how t x h g = subst (OneOk k) (sym (fold-roll-Actual Desig Expr OneActual designator_layer expr_layer actual_layer (record { passing = how; formal = t; value = x }))) (h, g)

actuals_named : (k : Setting) (xs : List Actual) → AllByRecursion (ActualOk k) xs → ActualsRecorded k.types k.unit (actuals_view xs)
actuals_named k [] h = tt
actuals_named k (x ∷ xs) h = (h.0.0, h.0.1, actuals_named k xs h.1)

designator_e : (k : Setting) (p : Place) → PlaceOk k p → E k (e.Designator p.designator.inner)
designator_e k p h = named_e k _ (ValueOf (designator_view p.designator.inner)) (view_value_of p.designator.inner) h.0

-- ---- how they are passed

passed_value : (k : Setting) (a b : Bool) (x : Expr) → PassedRecorded k.types k.unit (by_value a b) x
passed_value k true b x = tt
passed_value k false true x = tt
passed_value k false false x = tt

passed_var : (k : Setting) (a b : Bool) (d : Desig) → (a ≡ false → b ≡ true → StandsForOne k.types k.unit (variable_type d)) → PassedRecorded k.types k.unit (by_var a b) (ValueOf d)
passed_var k true b d h = tt
passed_var k false true d h = h refl refl
passed_var k false false d h = tt

same_eq : (map : Map) (v t : TypeRef) → same_at map v t ≡ true → type_eq (target map 201 v) (target map 201 t) ≡ true
unfolding same_at
same_eq map v t h = h

same_record : (map : Map) (v t : TypeRef) → same_at map v t ≡ true → record_of map v ≡ record_of map t
same_record map v t h = ap (λ w. record_at w (shape_at map w)) ((type_eq_decides (target map 201 v) (target map 201 t)).0 (same_eq map v t h))

-- what is taken as a record is one
is_taken : (map : Map) (v t : TypeRef) (o : Option TypeRef) → is_some o ≡ false → is_record map t ≡ true → takes_variable map o t v ≡ true → is_record map v ≡ true
is_taken map v t (Some u) n r h = absurd cc
is_taken map v t None n r h = by (same_at map v t) refl h
  where
    records : (a b : Option QName) → both_records map a b ≡ true → is_some a ≡ true
    records None b h = absurd cc
    records (Some q) b h = refl

    by : (b : Bool) → same_at map v t ≡ b → (b || both_records map (record_of map v) (record_of map t)) ≡ true → is_record map v ≡ true
    by true e h = ap is_some (same_record map v t e) ∙ r
    by false e h = records (record_of map v) (record_of map t) h

pub stands_if : (k : Setting) (t : TypeRef) (o : Option QName) → IfThere (λ (q : QName). StandsForOne k.types k.unit t) o → is_some o ≡ true → StandsForOne k.types k.unit t
stands_if k t None h e = absurd cc
stands_if k t (Some q) h e = h

not_false : (b : Bool) → not b ≡ false → b ≡ true
not_false true e = refl
not_false false e = absurd cc

-- ---- actual parameters

variable_keeps : (k : Setting) (u : Around) → Stands k u → (t : TypeRef) (start : Pos) (p : Place) → PlaceOk k p → Keeps k (ActualOk k) (variable_actual (map_of u) t start p)
variable_keeps k u s t start p h =
    let map = map_of u in
    also_so k (ActualOk k) _ rule.UnfitParameter start (unless_read_only map t start p) (λ i.
    also_keeps k (ActualOk k) p.read_only rule.NotChangeable start (unless_guarded map t start p)
    (also_keeps k (ActualOk k) p.guarded rule.GuardedVarParameter start (sound (actual_of (passing_of map mode.Var t) t (e.Designator p.designator.inner)))
    (actual_ok k (passing_of map mode.Var t) t (e.Designator p.designator.inner) (designator_e k p h)
    (subst (PassedRecorded k.types k.unit (by_var (is_open map t) (is_record map t))) (sym (view_value_of p.designator.inner))
    (passed_var k (is_open map t) (is_record map t) (designator_view p.designator.inner) (λ a b.
    subst (StandsForOne k.types k.unit) (sym h.1) (stands_if k p.of (record_of map p.of) (one_stands k u s p.of (record_of map p.of) refl) (is_taken map p.of t (open_element map t) a b (not_false (takes_variable map (open_element map t) t p.of) i)))))))))

meant_keeps : (k : Setting) (u : Around) → Stands k u → (t : TypeRef) (start : Pos) (m : Meant) → MeantOk k m → Keeps k (ActualOk k) (meant_actual (map_of u) t start m)
meant_keeps k u s t start (means.Place p) h = variable_keeps k u s t start p h
meant_keeps k u s t start (means.Call x) h = tt
meant_keeps k u s t start m h = tt

var_keeps : (k : Setting) (u : Around) → Stands k u → (t : TypeRef) (p : Phrase) → PhraseOk k p → (o : Option (Around → Judged Meant)) → MeantKeeps k o → Keeps k (ActualOk k) (var_actual u t p o)
var_keeps k u s t p g None h = then_keeps k Anything (ActualOk k) (p.value u) _ (any_keeps k (p.value u)) (λ x q. tt)
var_keeps k u s t p g (Some f) h = then_keeps k (MeantOk k) (ActualOk k) (f u) (meant_actual (map_of u) t p.start) (h u s) (λ m q. meant_keeps k u s t p.start m q)

tree_for_ok : (k : Setting) (b : Bool) (x : Valued) → ValuedOk k x → E k (tree_for b x)
tree_for_ok k true x h = text_tree_ok k x h
tree_for_ok k false x h = tree_ok k x h

value_keeps : (k : Setting) (map : Map) (t : TypeRef) (start : Pos) (x : Valued) → ValuedOk k x → Keeps k (ActualOk k) (value_actual map t start x)
value_keeps k map t start x h = wants_keeps k (ActualOk k) _ rule.UnfitParameter start (actual_of (passing_of map mode.Value t) t (tree_for (is_array map t) x)) (actual_ok k (passing_of map mode.Value t) t (tree_for (is_array map t) x) (tree_for_ok k (is_array map t) x h) (passed_value k (is_open map t) (is_structured map t) (expr_view (tree_for (is_array map t) x))))

actual_keeps : (k : Setting) (u : Around) → Stands k u → (m : Mode) (t : TypeRef) (p : Phrase) → PhraseOk k p → Keeps k (ActualOk k) (actual u m t p)
actual_keeps k u s mode.Var t p g = var_keeps k u s t p g p.meant g.1
actual_keeps k u s mode.Value t p g = then_keeps k (ValuedOk k) (ActualOk k) (p.value u) (value_actual (map_of u) t p.start) (g.0 u s) (λ x h. value_keeps k (map_of u) t p.start x h)

actuals_keep : (k : Setting) (u : Around) → Stands k u → (fs : List (Mode × TypeRef)) (ps : List Phrase) → ArePhrases k ps → Keeps k (AllByRecursion (ActualOk k)) (actuals u fs ps)
actuals_keep k u s [] [] g = tt
actuals_keep k u s (f ∷ fs) [] g = tt
actuals_keep k u s [] (p ∷ ps) g =
    then_keeps k (λ (r : Valued × List Actual). Unit {0} × AllByRecursion (ActualOk k) r.1) (AllByRecursion (ActualOk k)) (both (p.value u) (actuals u [] ps)) (λ r. sound r.1)
    (both_keep k Anything (AllByRecursion (ActualOk k)) (p.value u) (actuals u [] ps) (any_keeps k (p.value u)) (actuals_keep k u s [] ps g.1)) (λ r h. h.1)
actuals_keep k u s (f ∷ fs) (p ∷ ps) g =
    then_keeps k (λ (r : Actual × List Actual). ActualOk k r.0 × AllByRecursion (ActualOk k) r.1) (AllByRecursion (ActualOk k)) (both (actual u f.0 f.1 p) (actuals u fs ps)) (λ r. sound (r.0 ∷ r.1))
    (both_keep k (ActualOk k) (AllByRecursion (ActualOk k)) (actual u f.0 f.1 p) (actuals u fs ps) (actual_keeps k u s f.0 f.1 p g.0) (actuals_keep k u s fs ps g.1)) (λ r h. h)

-- ---- calls

called_keeps : (k : Setting) (u : Around) → Stands k u → (w : Where) (at : Pos) (s : Signature) (ps : List Phrase) → ArePhrases k ps → (f : List Actual → TypedExpr) → ((xs : List Actual) → AllByRecursion (ActualOk k) xs → E k (f xs)) → Keeps k (ValuedOk k) (called u w at s ps f)
called_keeps k u st w at s ps g f h =
    then_keeps k (AllByRecursion (ActualOk k)) (ValuedOk k) (actuals u s.params ps) (called_with w at s (length ps) f) (actuals_keep k u st s.params ps g)
    (λ xs q. then_keeps k (AllByRecursion (ActualOk k)) (ValuedOk k) (wants _ rule.WrongParameterCount at xs) (λ ys. also (misplaced w (is_some s.result)) rule.MisplacedCall at (sound (computed (f ys) (result_type s.result)))) (wants_keeps k (AllByRecursion (ActualOk k)) _ rule.WrongParameterCount at xs q)
    (λ ys r. also_keeps k (ValuedOk k) (misplaced w (is_some s.result)) rule.MisplacedCall at (sound (computed (f ys) (result_type s.result))) (h ys r)))

call_e : (k : Setting) (f : Callee) (xs : List Actual) (at : Pos) (t : Option TypeRef) → CalleeRecorded k.types k.unit f → AllByRecursion (ActualOk k) xs → E k (e.Call f xs at t)
call_e k f xs at t h g = named_e k _ (Call f (actuals_view xs) at t) (view_call f xs at t) (h, actuals_named k xs g)

pub call_procedure_keeps : (k : Setting) (u : Around) → Stands k u → (w : Where) (at : Pos) (q : QName) (s : Signature) (ps : List Phrase) → ArePhrases k ps → Keeps k (ValuedOk k) (call_procedure u w at q s ps)
call_procedure_keeps k u st w at q s ps g = called_keeps k u st w at s ps g (λ xs. e.Call (callee.Declared q) xs at s.result) (λ xs r. call_e k (callee.Declared q) xs at s.result tt r)

pub call_variable_keeps : (k : Setting) (u : Around) → Stands k u → (w : Where) (at : Pos) (p : Place) (s : Signature) (ps : List Phrase) → ArePhrases k ps → PlaceOk k p → Keeps k (ValuedOk k) (call_variable u w at p s ps)
call_variable_keeps k u st w at p s ps g h =
    called_keeps k u st w at s ps g (λ xs. e.CallVariable p.designator.inner xs at s.result)
    (λ xs r. named_e k _ (CallVariable (designator_view p.designator.inner) (actuals_view xs) at s.result) (view_call_variable p.designator.inner xs at s.result) (h.0, actuals_named k xs r))

pub call_out_keeps : (k : Setting) (u : Around) → Stands k u → (w : Where) (at : Pos) (p : OutProcedure) (ps : List Phrase) → ArePhrases k ps → Keeps k (ValuedOk k) (call_out u w at p ps)
call_out_keeps k u st w at p ps g = called_keeps k u st w at (out_signature p) ps g (λ xs. e.Call (callee.Out p) xs at None) (λ xs r. call_e k (callee.Out p) xs at None tt r)

callee_named : (k : Setting) (c : Chosen) (o : Option QName) → IfThere (IsBase k.types k.unit) o → CalleeRecorded k.types k.unit (bound_callee c o)
callee_named k c None h = tt
callee_named k c (Some b) h = h

receiver_place_ok : (k : Setting) (start : Pos) (p : Place) → PlaceOk k p → (o : Option TypeRef) → PlaceOk k (record_receiver start p o)
receiver_place_ok k start p h None = h
receiver_place_ok k start p h (Some t) = typed_d k (record_receiver start p (Some t)).designator.inner (Deref (designator_view p.designator.inner) start t) (view_deref p.designator.inner start t) h.0

receiver_ok : (k : Setting) (r : Receiver) (c : Chosen) → ChosenOk k c → ActualOk k (receiver_actual r c)
receiver_ok k receiver.Pointer c h = actual_ok k passing.Scalar c.receiver.of (e.Designator c.receiver.designator.inner) (designator_e k c.receiver h.receiver) tt
receiver_ok k receiver.Record c h =
    let p = receiver_place c in
    let g = receiver_place_ok k c.start c.receiver h.receiver c.pointed in
    actual_ok k passing.VariableRecord (ref.Named c.owner) (e.Designator p.designator.inner) (designator_e k p g)
    (subst (PassedRecorded k.types k.unit passing.VariableRecord) (sym (view_value_of p.designator.inner)) (subst (StandsForOne k.types k.unit) (sym g.1) h.of))

bound_keeps : (k : Setting) (b : Bool) (u : Around) → Stands k u → (w : Where) (at : Pos) (c : Chosen) (ps : List Phrase) → ArePhrases k ps → ChosenOk k c → Keeps k (ValuedOk k) (call_bound_sound b u w at c ps)
bound_keeps k false u st w at c ps g h = then_keeps k Anything (ValuedOk k) (actuals u [] ps) _ (any_keeps k (actuals u [] ps)) (λ xs q. tt)
bound_keeps k true u st w at c ps g h =
    also_keeps k (ValuedOk k) _ rule.NotChangeable at (called u w at c.method.signature ps (λ xs. e.Call (bound_callee c c.base) (receiver_actual c.method.receiver c ∷ xs) at c.method.signature.result))
    (called_keeps k u st w at c.method.signature ps g (λ xs. e.Call (bound_callee c c.base) (receiver_actual c.method.receiver c ∷ xs) at c.method.signature.result)
    (λ xs r. call_e k (bound_callee c c.base) (receiver_actual c.method.receiver c ∷ xs) at c.method.signature.result (callee_named k c c.base h.base) (receiver_ok k c.method.receiver c h, r)))

pub call_bound_keeps : (k : Setting) (u : Around) → Stands k u → (w : Where) (at : Pos) (c : Chosen) (ps : List Phrase) → ArePhrases k ps → ChosenOk k c → Keeps k (ValuedOk k) (call_bound u w at c ps)
call_bound_keeps k u st w at c ps g h = bound_keeps k (nearest_sound u 201 (where_from c c.base) c.method.name) u st w at c ps g h
