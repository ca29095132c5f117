-- Calls of declared and bound procedures, of Out and of what variables hold have a node, or break a rule.
use Rattle.std.proofs.Common.{◌≡◌, refl, sym, subst, ℕ, zero, suc, Bool, true, false, List, [], ◌∷◌, Option, Some, None, length}
use Rattle.std.specs.Prelude.{not, ◌&&◌, nat_eq, is_some, is_none, bytes_eq}
use Rattle.std.specs.List.{AllByRecursion}
use Rattle.ob_tree.specs.declared.pos.Pos.{Pos}
use Rattle.ob_tree.specs.declared.names.QName.{QName}
use Rattle.ob_types.specs.declared.types.Mode.{Mode}
use Rattle.ob_types.specs.declared.types.Mode.TheVariants as mode
use Rattle.ob_types.specs.declared.types.TypeRef.{TypeRef}
use Rattle.ob_types.specs.declared.types.Signature.{Signature}
use Rattle.ob_types.specs.declared.typed.Actual.{Actual}
use Rattle.ob_types.specs.declared.typed.TypedExpr.{TypedExpr}
use Rattle.ob_types.specs.declared.typed.TypedExpr.TheVariants as e
use Rattle.ob_types.specs.declared.typed.Callee.TheVariants as callee
use Rattle.ob_types.specs.declared.typed.OutProcedure.{OutProcedure}
use Rattle.ob_types.specs.TypedKinds.{result_type}
use Rattle.ob_rules.specs.declared.entity.Bound.{Bound}
use Rattle.ob_rules.specs.declared.meant.Chosen.{Chosen}
use Rattle.ob_rules.specs.declared.meant.Meant.{Meant}
use Rattle.ob_rules.specs.declared.meant.Meant.TheVariants as means
use Rattle.ob_rules.specs.declared.meant.Where.{Where}
use Rattle.ob_rules.specs.declared.values.Place.{Place}
use Rattle.ob_rules.specs.declared.values.Valued.{Valued}
use Rattle.ob_rules.specs.declared.broken.Rule.TheVariants as rule
use Rattle.ob_rules.specs.Judged.{Judged, sound, breaks, also, wants, both, ◌▷◌}
use Rattle.ob_rules.specs.Shapes.{Map, open_element, passing_of, is_array, base_record}
use Rattle.ob_rules.specs.Names.{Around, map_of, bound_for}
use Rattle.ob_rules.specs.Values.{computed}
use Rattle.ob_rules.specs.Phrases.{receiver_place, Phrase}
use Rattle.ob_rules.specs.Calls.{actual_of, takes_variable, unless_guarded, unless_read_only, variable_actual, meant_actual, var_actual, takes_value, tree_for, value_actual, actual, actuals, misplaced, called_with, called, call_procedure, call_variable, out_signature, call_out, bound_callee, receiver_actual, is_record_receiver, sound_or, nearest_sound, where_from, call_bound_sound, call_bound}
use Rattle.law_names_procedures.proofs.Judges.{Speaks, breaks_speaks, then_speaks, both_speak, wants_speaks, also_speaks}
use Rattle.law_names_procedures.proofs.Knowing.{find_has}
use Rattle.law_local_nodes.proofs.Operators.{There}
use Rattle.law_local_nodes.proofs.Predeclared.{IsNoStatement, PhraseThere, PhrasesThere, MeantThere}
use Rattle.law_lists.proofs.Lists.{Anything, IfThere}

module _ (u : Around) where
  -- ---- actual parameters

  variable_there : (t : TypeRef) (start : Pos) (p : Place) → There (variable_actual (map_of u) t start p)
  variable_there t start p =
      also_speaks Anything (not (takes_variable (map_of u) (open_element (map_of u) t) t p.of)) rule.UnfitParameter start (unless_read_only (map_of u) t start p)
      (also_speaks Anything p.read_only rule.NotChangeable start (unless_guarded (map_of u) t start p)
      (also_speaks Anything p.guarded rule.GuardedVarParameter start (sound (actual_of (passing_of (map_of u) mode.Var t) t (e.Designator p.designator.inner))) (λ n. tt)))

  meant_there : (t : TypeRef) (start : Pos) (m : Meant) → There (meant_actual (map_of u) t start m)
  meant_there t start (means.Place p) = variable_there t start p
  meant_there t start (means.Call x) = breaks_speaks {A = Actual} Anything rule.UnfitParameter start
  meant_there t start m = breaks_speaks {A = Actual} Anything rule.NotChangeable start

  var_there : (t : TypeRef) (p : Phrase) → There (p.value u) → (o : Option (Around → Judged Meant)) → MeantThere u o → There (var_actual u t p o)
  var_there t p h None k = then_speaks Anything Anything (p.value u) (λ x. breaks rule.UnfitParameter p.start) h (λ x i. breaks_speaks {A = Actual} Anything rule.UnfitParameter p.start)
  var_there t p h (Some f) k = then_speaks Anything Anything (f u) (meant_actual (map_of u) t p.start) k (λ m i. meant_there t p.start m)

  actual_there : (m : Mode) (t : TypeRef) (p : Phrase) → PhraseThere u p → There (actual u m t p)
  actual_there mode.Var t p h = var_there t p h.value p.meant h.meant
  actual_there mode.Value t p h =
      then_speaks Anything Anything (p.value u) (value_actual (map_of u) t p.start) h.value
      (λ x i. wants_speaks Anything (takes_value (map_of u) (open_element (map_of u) t) t x) rule.UnfitParameter p.start (actual_of (passing_of (map_of u) mode.Value t) t (tree_for (is_array (map_of u) t) x)) tt)

  actuals_there : (fs : List (Mode × TypeRef)) (ps : List Phrase) → PhrasesThere u ps → There (actuals u fs ps)
  actuals_there fs [] h = λ n. tt
  actuals_there [] (p ∷ ps) h =
      then_speaks (λ r. Unit {0} × Unit {0}) Anything (both (p.value u) (actuals u [] ps)) (λ r. sound r.1) (both_speak Anything Anything (p.value u) (actuals u [] ps) h.0.value (actuals_there [] ps h.1)) (λ r i. λ n. tt)
  actuals_there (f ∷ fs) (p ∷ ps) h =
      then_speaks (λ r. Unit {0} × Unit {0}) Anything (both (actual u f.0 f.1 p) (actuals u fs ps)) (λ r. sound (r.0 ∷ r.1)) (both_speak Anything Anything (actual u f.0 f.1 p) (actuals u fs ps) (actual_there f.0 f.1 p h.0) (actuals_there fs ps h.1)) (λ r i. λ n. tt)

  -- ---- calls

  with_there : (w : Where) (at : Pos) (s : Signature) (n : ℕ) (f : List Actual → TypedExpr) (xs : List Actual) → There (called_with w at s n f xs)
  with_there w at s n f xs =
      then_speaks Anything Anything (wants (nat_eq n (length s.params)) rule.WrongParameterCount at xs) (λ ys. also (misplaced w (is_some s.result)) rule.MisplacedCall at (sound (computed (f ys) (result_type s.result))))
      (wants_speaks Anything (nat_eq n (length s.params)) rule.WrongParameterCount at xs tt) (λ ys i. also_speaks Anything (misplaced w (is_some s.result)) rule.MisplacedCall at (sound (computed (f ys) (result_type s.result))) (λ n. tt))

  called_there : (w : Where) (at : Pos) (s : Signature) (ps : List Phrase) (f : List Actual → TypedExpr) → PhrasesThere u ps → There (called u w at s ps f)
  called_there w at s ps f h = then_speaks Anything Anything (actuals u s.params ps) (called_with w at s (length ps) f) (actuals_there s.params ps h) (λ xs i. with_there w at s (length ps) f xs)

  pub procedure_there : (w : Where) (at : Pos) (q : QName) (s : Signature) (ps : List Phrase) → PhrasesThere u ps → There (call_procedure u w at q s ps)
  procedure_there w at q s ps h = called_there w at s ps (λ xs. e.Call (callee.Declared q) xs at s.result) h

  pub held_there : (w : Where) (at : Pos) (p : Place) (s : Signature) (ps : List Phrase) → PhrasesThere u ps → There (call_variable u w at p s ps)
  held_there w at p s ps h = called_there w at s ps (λ xs. e.CallVariable p.designator.inner xs at s.result) h

  pub out_there : (w : Where) (at : Pos) (p : OutProcedure) (ps : List Phrase) → PhrasesThere u ps → There (call_out u w at p ps)
  out_there w at p ps h = called_there w at (out_signature p) ps (λ xs. e.Call (callee.Out p) xs at None) h

  -- ---- bound procedures

  module _ (bound : AllByRecursion (λ (b : Bound). is_some b.signature ≡ true) u.bound) where
    sound_there : (c : Bool) (o : Option Bound) (base : Option QName) (f : QName → Bool) → IfThere (λ (b : Bound). is_some b.signature ≡ true) o → ((q : QName) → f q ≡ true) → sound_or c o base f ≡ true
    sound_there false o base f h k = refl
    sound_there true (Some b) base f h k = h
    sound_there true None None f h k = refl
    sound_there true None (Some b) f h k = k b

    nearest_there : (n : ℕ) (q : QName) (x : List ℕ) → nearest_sound u n q x ≡ true
    unfolding nearest_sound
    nearest_there zero q x = refl
    nearest_there (suc n) q x =
        sound_there (bytes_eq q.«module» u.unit) (bound_for u.bound q x) (base_record (map_of u) q) (λ b. nearest_sound u n b x)
        (find_has (λ (b : Bound). is_some b.signature ≡ true) (λ b. bytes_eq b.owner.object q.object && bytes_eq b.name x) u.bound bound) (λ b. nearest_there n b x)

    pub bound_there : (w : Where) (at : Pos) (c : Chosen) (ps : List Phrase) → PhrasesThere u ps → There (call_bound u w at c ps)
    bound_there w at c ps h =
        subst (λ b. There (call_bound_sound b u w at c ps)) (sym (nearest_there 201 (where_from c c.base) c.method.name))
        (also_speaks Anything (is_record_receiver c.method.receiver && ((receiver_place c).read_only && is_none c.base)) rule.NotChangeable at (called u w at c.method.signature ps (λ xs. e.Call (bound_callee c c.base) (receiver_actual c.method.receiver c ∷ xs) at c.method.signature.result))
        (called_there w at c.method.signature ps (λ xs. e.Call (bound_callee c c.base) (receiver_actual c.method.receiver c ∷ xs) at c.method.signature.result) h))
