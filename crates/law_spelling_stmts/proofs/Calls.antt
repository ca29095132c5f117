-- Actual parameters and calls fit where their parts do.
use Rattle.std.proofs.Common.{Bool, true, false, List, [], ◌∷◌, length, map, Option, Some, None, sym, subst}
use Rattle.std.specs.Prelude.{is_some}
use Rattle.std.specs.List.{AllByRecursion}
use Rattle.ob_tree.specs.declared.pos.Pos.{Pos}
use Rattle.ob_tree.specs.declared.names.QName.{QName}
use Rattle.ob_types.specs.declared.types.Mode.{Mode}
use Rattle.ob_types.specs.declared.types.Mode.TheVariants as mode
use Rattle.ob_types.specs.declared.types.TypeRef.{TypeRef}
use Rattle.ob_types.specs.declared.types.TypeRef.TheVariants as ref
use Rattle.ob_types.specs.declared.types.Signature.{Signature}
use Rattle.ob_types.specs.declared.desc.Receiver.{Receiver}
use Rattle.ob_types.specs.declared.desc.Receiver.TheVariants as receiver
use Rattle.ob_types.specs.declared.typed.Passing.{Passing}
use Rattle.ob_types.specs.declared.typed.Passing.TheVariants as passing
use Rattle.ob_types.specs.declared.typed.OutProcedure.{OutProcedure}
use Rattle.ob_types.specs.declared.typed.Callee.{Callee}
use Rattle.ob_types.specs.declared.typed.Callee.TheVariants as callee
use Rattle.ob_types.specs.declared.typed.Actual.{Actual}
use Rattle.ob_types.specs.declared.typed.Designator.TheFolds.{fold-roll-Actual}
use Rattle.ob_types.specs.declared.typed.TypedExpr.{TypedExpr}
use Rattle.ob_types.specs.declared.typed.TypedExpr.TheVariants as e
use Rattle.ob_types.specs.TypedKinds.{result_type}
use Rattle.ob_types.specs.TypedSyntax.{Desig, Deref, Expr, ValueOf, Call, CallVariable}
use Rattle.ob_types.specs.TypedView.{OneActual, designator_layer, expr_layer, actual_layer, designator_view, expr_view, actual_view, actuals_view}
use Rattle.ob_types.proofs.TypedViews.{view_value_of, view_deref, view_call, view_call_variable}
use Rattle.ob_rules.specs.declared.values.Place.{Place}
use Rattle.ob_rules.specs.declared.values.Valued.{Valued}
use Rattle.ob_rules.specs.declared.meant.Chosen.{Chosen}
use Rattle.ob_rules.specs.declared.meant.Meant.{Meant}
use Rattle.ob_rules.specs.declared.meant.Meant.TheVariants as means
use Rattle.ob_rules.specs.declared.meant.Where.{Where}
use Rattle.ob_rules.specs.declared.broken.Rule.TheVariants as rule
use Rattle.ob_rules.specs.Judged.{Judged, sound, both, also, wants}
use Rattle.ob_rules.specs.Shapes.{Map, open_element, is_array, by_var, is_open, is_record, passing_of}
use Rattle.ob_rules.specs.Names.{Around, map_of}
use Rattle.ob_rules.specs.Values.{computed}
use Rattle.ob_rules.specs.Phrases.{Phrase, record_receiver, receiver_place}
use Rattle.ob_rules.specs.Calls.{actual_of, unless_guarded, unless_read_only, variable_actual, meant_actual, var_actual, tree_for, value_actual, actual, actuals, misplaced, called_with, called, call_procedure, call_variable, out_signature, call_out, bound_callee, receiver_actual, nearest_sound, where_from, call_bound_sound, call_bound, takes_value}
use Rattle.law_spelling.specs.Coded.{PosFits}
use Rattle.law_spelling_stmts.specs.Fits.{PassedFits, ExprFits, ActualsFit}
use Rattle.law_spelling_stmts.proofs.Setting.{Setting, E, PlaceOk, NodeOk, ValuedOk, ChosenOk, MeantOk, Keeps, any_keeps, then_keeps, both_keep, wants_keeps, wants_so, also_keeps, named_e, node_e, named_d, tree_ok}
use Rattle.law_spelling_stmts.proofs.Rooms.{value_room}
use Rattle.law_spelling_stmts.proofs.Values.{text_tree_ok}
use Rattle.law_lists.proofs.Lists.{Anything}

-- a phrase fits, whatever stands around
abbrev pub MeantKeeps : Setting → Option (Around → Judged Meant) → Type 0
MeantKeeps k None = Unit {0}
MeantKeeps k (Some f) = (u : Around) → k.Stands u → Keeps (MeantOk k) (f u)

pub record PhraseOk (k : Setting) (p : Phrase) : Type 0 where
  pub start : PosFits p.start
  pub value : (u : Around) → k.Stands u → Keeps (ValuedOk k) (p.value u)
  pub meant : MeantKeeps k p.meant

abbrev pub ArePhrases : Setting → List Phrase → Type 0
ArePhrases k ps = AllByRecursion (PhraseOk k) ps

abbrev OneFits : Setting → OneActual → Type 0
OneFits k a = ExprFits k.words a.e × PassedFits k.words a.passing a.formal a.e

abbrev pub ActualOk : Setting → Actual → Type 0
ActualOk k a = OneFits k (actual_view a)

actual_ok : (k : Setting) (how : Passing) (t : TypeRef) (x : TypedExpr) → E k x → PassedFits k.words how t (expr_view x) → ActualOk k (actual_of how t x)
actual_ok k how t x h g = subst (OneFits k) (sym (fold-roll-Actual Desig Expr OneActual designator_layer expr_layer actual_layer (record { passing = how; formal = t; value = x }))) (h, g)

actuals_fit : (k : Setting) (xs : List Actual) → AllByRecursion (ActualOk k) xs → ActualsFit k.words (actuals_view xs)
actuals_fit k [] h = tt
actuals_fit k (x ∷ xs) h = (h.0.0, (h.0.1, actuals_fit k xs h.1))

designator_e : (k : Setting) (p : Place) → PlaceOk k p → E k (e.Designator p.designator.inner)
designator_e k p h = named_e k _ (ValueOf (designator_view p.designator.inner)) (view_value_of p.designator.inner) h

by_var_fits : (k : Setting) (a b : Bool) (t : TypeRef) (x : Expr) → PassedFits k.words (by_var a b) t x
by_var_fits k true b t x = tt
by_var_fits k false true t x = tt
by_var_fits k false false t x = tt

-- ---- actual parameters

variable_keeps : (k : Setting) (map : Map) (t : TypeRef) (start : Pos) (p : Place) → PlaceOk k p → Keeps (ActualOk k) (variable_actual map t start p)
variable_keeps k map t start p h =
    also_keeps (ActualOk k) _ rule.UnfitParameter start (unless_read_only map t start p)
    (also_keeps (ActualOk k) p.read_only rule.NotChangeable start (unless_guarded map t start p)
    (also_keeps (ActualOk k) p.guarded rule.GuardedVarParameter start (sound (actual_of (passing_of map mode.Var t) t (e.Designator p.designator.inner)))
    (actual_ok k (passing_of map mode.Var t) t (e.Designator p.designator.inner) (designator_e k p h) (by_var_fits k (is_open map t) (is_record map t) t (expr_view (e.Designator p.designator.inner))))))

meant_keeps : (k : Setting) (map : Map) (t : TypeRef) (start : Pos) (m : Meant) → MeantOk k m → Keeps (ActualOk k) (meant_actual map t start m)
meant_keeps k map t start (means.Place p) h = variable_keeps k map t start p h
meant_keeps k map t start (means.Call x) h = tt
meant_keeps k map t start m h = tt

var_keeps : (k : Setting) (u : Around) → k.Stands u → (t : TypeRef) (p : Phrase) (o : Option (Around → Judged Meant)) → MeantKeeps k o → Keeps (ActualOk k) (var_actual u t p o)
var_keeps k u s t p None h = then_keeps Anything (ActualOk k) (p.value u) _ (any_keeps (p.value u)) (λ x q. tt)
var_keeps k u s t p (Some f) h = then_keeps (MeantOk k) (ActualOk k) (f u) (meant_actual (map_of u) t p.start) (h u s) (λ m q. meant_keeps k (map_of u) t p.start m q)

tree_for_ok : (k : Setting) (b : Bool) (x : Valued) → ValuedOk k x → E k (tree_for b x)
tree_for_ok k true x h = text_tree_ok k x h
tree_for_ok k false x h = tree_ok k x h

value_keeps : (k : Setting) (u : Around) → k.Stands u → (t : TypeRef) (start : Pos) (x : Valued) → ValuedOk k x → Keeps (ActualOk k) (value_actual (map_of u) t start x)
value_keeps k u s t start x h =
    let map = map_of u in
    wants_so (ActualOk k) (takes_value map (open_element map t) t x) rule.UnfitParameter start (actual_of (passing_of map mode.Value t) t (tree_for (is_array map t) x))
    (λ i. actual_ok k (passing_of map mode.Value t) t (tree_for (is_array map t) x) (tree_for_ok k (is_array map t) x h) (value_room k.words map (λ v n r. k.room u s v n r) k x t (is_array map t) h i))

actual_keeps : (k : Setting) (u : Around) → k.Stands u → (m : Mode) (t : TypeRef) (p : Phrase) → PhraseOk k p → Keeps (ActualOk k) (actual u m t p)
actual_keeps k u s mode.Var t p g = var_keeps k u s t p p.meant g.meant
actual_keeps k u s mode.Value t p g = then_keeps (ValuedOk k) (ActualOk k) (p.value u) (value_actual (map_of u) t p.start) (g.value u s) (λ x h. value_keeps k u s t p.start x h)

actuals_keep : (k : Setting) (u : Around) → k.Stands u → (fs : List (Mode × TypeRef)) (ps : List Phrase) → ArePhrases k ps → Keeps (AllByRecursion (ActualOk k)) (actuals u fs ps)
actuals_keep k u s [] [] g = tt
actuals_keep k u s (f ∷ fs) [] g = tt
actuals_keep k u s [] (p ∷ ps) g =
    then_keeps (λ (r : Valued × List Actual). Unit {0} × AllByRecursion (ActualOk k) r.1) (AllByRecursion (ActualOk k)) (both (p.value u) (actuals u [] ps)) (λ r. sound r.1)
    (both_keep Anything (AllByRecursion (ActualOk k)) (p.value u) (actuals u [] ps) (any_keeps (p.value u)) (actuals_keep k u s [] ps g.1)) (λ r h. h.1)
actuals_keep k u s (f ∷ fs) (p ∷ ps) g =
    then_keeps (λ (r : Actual × List Actual). ActualOk k r.0 × AllByRecursion (ActualOk k) r.1) (AllByRecursion (ActualOk k)) (both (actual u f.0 f.1 p) (actuals u fs ps)) (λ r. sound (r.0 ∷ r.1))
    (both_keep (ActualOk k) (AllByRecursion (ActualOk k)) (actual u f.0 f.1 p) (actuals u fs ps) (actual_keeps k u s f.0 f.1 p g.0) (actuals_keep k u s fs ps g.1)) (λ r h. h)

-- ---- calls

called_keeps : (k : Setting) (u : Around) → k.Stands u → (w : Where) (at : Pos) (s : Signature) (ps : List Phrase) → ArePhrases k ps → (f : List Actual → TypedExpr) → ((xs : List Actual) → AllByRecursion (ActualOk k) xs → NodeOk k (f xs)) → Keeps (ValuedOk k) (called u w at s ps f)
called_keeps k u st w at s ps g f h =
    then_keeps (AllByRecursion (ActualOk k)) (ValuedOk k) (actuals u s.params ps) (called_with w at s (length ps) f) (actuals_keep k u st s.params ps g)
    (λ xs q. then_keeps (AllByRecursion (ActualOk k)) (ValuedOk k) (wants _ rule.WrongParameterCount at xs) (λ ys. also (misplaced w (is_some s.result)) rule.MisplacedCall at (sound (computed (f ys) (result_type s.result)))) (wants_keeps (AllByRecursion (ActualOk k)) _ rule.WrongParameterCount at xs q)
    (λ ys r. also_keeps (ValuedOk k) (misplaced w (is_some s.result)) rule.MisplacedCall at (sound (computed (f ys) (result_type s.result))) (h ys r)))

call_e : (k : Setting) (f : Callee) (xs : List Actual) (at : Pos) (t : Option TypeRef) → PosFits at → AllByRecursion (ActualOk k) xs → NodeOk k (e.Call f xs at t)
call_e k f xs at t h g = node_e k _ (Call f (actuals_view xs) at t) (view_call f xs at t) (actuals_fit k xs g, h) tt

pub call_procedure_keeps : (k : Setting) (u : Around) → k.Stands u → (w : Where) (at : Pos) → PosFits at → (q : QName) (s : Signature) (ps : List Phrase) → ArePhrases k ps → Keeps (ValuedOk k) (call_procedure u w at q s ps)
call_procedure_keeps k u st w at f q s ps g = called_keeps k u st w at s ps g (λ xs. e.Call (callee.Declared q) xs at s.result) (λ xs r. call_e k (callee.Declared q) xs at s.result f r)

pub call_variable_keeps : (k : Setting) (u : Around) → k.Stands u → (w : Where) (at : Pos) → PosFits at → (p : Place) (s : Signature) (ps : List Phrase) → ArePhrases k ps → PlaceOk k p → Keeps (ValuedOk k) (call_variable u w at p s ps)
call_variable_keeps k u st w at f p s ps g h =
    called_keeps k u st w at s ps g (λ xs. e.CallVariable p.designator.inner xs at s.result)
    (λ xs r. node_e k _ (CallVariable (designator_view p.designator.inner) (actuals_view xs) at s.result) (view_call_variable p.designator.inner xs at s.result) (h, (actuals_fit k xs r, f)) tt)

pub call_out_keeps : (k : Setting) (u : Around) → k.Stands u → (w : Where) (at : Pos) → PosFits at → (p : OutProcedure) (ps : List Phrase) → ArePhrases k ps → Keeps (ValuedOk k) (call_out u w at p ps)
call_out_keeps k u st w at f p ps g = called_keeps k u st w at (out_signature p) ps g (λ xs. e.Call (callee.Out p) xs at None) (λ xs r. call_e k (callee.Out p) xs at None f r)

receiver_d : (k : Setting) (start : Pos) → PosFits start → (p : Place) → PlaceOk k p → (o : Option TypeRef) → E k (e.Designator (record_receiver start p o).designator.inner)
receiver_d k start f p h None = designator_e k p h
receiver_d k start f p h (Some t) =
    named_e k _ (ValueOf (designator_view (record_receiver start p (Some t)).designator.inner)) (view_value_of (record_receiver start p (Some t)).designator.inner)
    (named_d k (record_receiver start p (Some t)).designator.inner (Deref (designator_view p.designator.inner) start t) (view_deref p.designator.inner start t) (h, f))

receiver_ok : (k : Setting) (r : Receiver) (c : Chosen) → ChosenOk k c → ActualOk k (receiver_actual r c)
receiver_ok k receiver.Pointer c h = actual_ok k passing.Scalar c.receiver.of (e.Designator c.receiver.designator.inner) (designator_e k c.receiver h.receiver) tt
receiver_ok k receiver.Record c h = actual_ok k passing.VariableRecord (ref.Named c.owner) (e.Designator (receiver_place c).designator.inner) (receiver_d k c.start h.start c.receiver h.receiver c.pointed) tt

bound_keeps : (k : Setting) (b : Bool) (u : Around) → k.Stands u → (w : Where) (at : Pos) → PosFits at → (c : Chosen) (ps : List Phrase) → ArePhrases k ps → ChosenOk k c → Keeps (ValuedOk k) (call_bound_sound b u w at c ps)
bound_keeps k false u st w at f c ps g h = then_keeps Anything (ValuedOk k) (actuals u [] ps) _ (any_keeps (actuals u [] ps)) (λ xs q. tt)
bound_keeps k true u st w at f c ps g h =
    also_keeps (ValuedOk k) _ rule.NotChangeable at (called u w at c.method.signature ps (λ xs. e.Call (bound_callee c c.base) (receiver_actual c.method.receiver c ∷ xs) at c.method.signature.result))
    (called_keeps k u st w at c.method.signature ps g (λ xs. e.Call (bound_callee c c.base) (receiver_actual c.method.receiver c ∷ xs) at c.method.signature.result)
    (λ xs r. call_e k (bound_callee c c.base) (receiver_actual c.method.receiver c ∷ xs) at c.method.signature.result f (receiver_ok k c.method.receiver c h, r)))

pub call_bound_keeps : (k : Setting) (u : Around) → k.Stands u → (w : Where) (at : Pos) → PosFits at → (c : Chosen) (ps : List Phrase) → ArePhrases k ps → ChosenOk k c → Keeps (ValuedOk k) (call_bound u w at c ps)
call_bound_keeps k u st w at f c ps g h = bound_keeps k (nearest_sound u 201 (where_from c c.base) c.method.name) u st w at f c ps g h
