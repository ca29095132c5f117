-- Calls of declared and bound procedures, of Out and of what variables hold leave nothing for later.
use Rattle.std.proofs.Common.{◌≡◌, refl, sym, ap, ◌∙◌, subst, ℕ, zero, suc, Bool, true, false, List, [], ◌∷◌, Option, Some, None, length}
use Rattle.std.specs.Prelude.{not, ◌&&◌, nat_eq, is_some, is_none, bytes_eq}
use Rattle.std.specs.List.{AllByRecursion}
use Rattle.ob_tree.specs.declared.pos.Pos.{Pos}
use Rattle.ob_tree.specs.declared.names.QName.{QName}
use Rattle.ob_types.specs.declared.types.Mode.{Mode}
use Rattle.ob_types.specs.declared.types.Mode.TheVariants as mode
use Rattle.ob_types.specs.declared.types.TypeRef.{TypeRef}
use Rattle.ob_types.specs.declared.types.Signature.{Signature}
use Rattle.ob_types.specs.declared.typed.Actual.{Actual}
use Rattle.ob_types.specs.declared.typed.TypedExpr.{TypedExpr}
use Rattle.ob_types.specs.declared.typed.TypedExpr.TheVariants as e
use Rattle.ob_types.specs.declared.typed.Callee.TheVariants as callee
use Rattle.ob_types.specs.declared.typed.OutProcedure.{OutProcedure}
use Rattle.ob_types.specs.TypedKinds.{result_type}
use Rattle.ob_rules.specs.declared.entity.Bound.{Bound}
use Rattle.ob_rules.specs.declared.meant.Chosen.{Chosen}
use Rattle.ob_rules.specs.declared.meant.Meant.{Meant}
use Rattle.ob_rules.specs.declared.meant.Meant.TheVariants as means
use Rattle.ob_rules.specs.declared.meant.Where.{Where}
use Rattle.ob_rules.specs.declared.values.Place.{Place}
use Rattle.ob_rules.specs.declared.values.Valued.{Valued}
use Rattle.ob_rules.specs.declared.broken.Rule.TheVariants as rule
use Rattle.ob_rules.specs.Judged.{Judged, sound, silent, breaks, also, wants, both, ◌▷◌}
use Rattle.ob_rules.specs.Shapes.{Map, open_element, passing_of, is_array, base_record}
use Rattle.ob_rules.specs.Names.{Around, map_of, bound_for}
use Rattle.ob_rules.specs.Values.{computed}
use Rattle.ob_rules.specs.Phrases.{receiver_place, Phrase}
use Rattle.ob_rules.specs.Calls.{actual_of, takes_variable, unless_guarded, unless_read_only, variable_actual, meant_actual, var_actual, takes_value, tree_for, value_actual, actual, actuals, misplaced, called_with, called, call_procedure, call_variable, out_signature, call_out, bound_callee, receiver_actual, is_record_receiver, sound_or, nearest_sound, where_from, call_bound_sound, call_bound}
use Rattle.law_local_module.proofs.Leaves.{Nil, then_nil, both_nil, wants_nil, also_nil}
use Rattle.law_local_module.proofs.Predeclared.{MeantNil, PhraseNil, PhrasesNil}

module _ (u : Around) where
  variable_nil : (t : TypeRef) (start : Pos) (p : Place) → Nil (variable_actual (map_of u) t start p)
  variable_nil t start p =
      also_nil (not (takes_variable (map_of u) (open_element (map_of u) t) t p.of)) rule.UnfitParameter start (unless_read_only (map_of u) t start p)
      (also_nil p.read_only rule.NotChangeable start (unless_guarded (map_of u) t start p) (also_nil p.guarded rule.GuardedVarParameter start (sound (actual_of (passing_of (map_of u) mode.Var t) t (e.Designator p.designator.inner))) refl))

  meant_nil : (t : TypeRef) (start : Pos) (m : Meant) → Nil (meant_actual (map_of u) t start m)
  meant_nil t start (means.Place p) = variable_nil t start p
  meant_nil t start m = refl

  var_nil : (t : TypeRef) (p : Phrase) → Nil (p.value u) → (o : Option (Around → Judged Meant)) → MeantNil u o → Nil (var_actual u t p o)
  var_nil t p h None k = then_nil (p.value u) (λ x. breaks rule.UnfitParameter p.start) h (λ x. refl)
  var_nil t p h (Some f) k = then_nil (f u) (meant_actual (map_of u) t p.start) k (λ m. meant_nil t p.start m)

  actual_nil : (m : Mode) (t : TypeRef) (p : Phrase) → PhraseNil u p → Nil (actual u m t p)
  actual_nil mode.Var t p h = var_nil t p h.value p.meant h.meant
  actual_nil mode.Value t p h =
      then_nil (p.value u) (value_actual (map_of u) t p.start) h.value
      (λ x. wants_nil (takes_value (map_of u) (open_element (map_of u) t) t x) rule.UnfitParameter p.start (actual_of (passing_of (map_of u) mode.Value t) t (tree_for (is_array (map_of u) t) x)))

  actuals_nil : (fs : List (Mode × TypeRef)) (ps : List Phrase) → PhrasesNil u ps → Nil (actuals u fs ps)
  actuals_nil fs [] h = refl
  actuals_nil [] (p ∷ ps) h = then_nil (both (p.value u) (actuals u [] ps)) (λ r. sound r.1) (both_nil (p.value u) (actuals u [] ps) h.0.value (actuals_nil [] ps h.1)) (λ r. refl)
  actuals_nil (f ∷ fs) (p ∷ ps) h = then_nil (both (actual u f.0 f.1 p) (actuals u fs ps)) (λ r. sound (r.0 ∷ r.1)) (both_nil (actual u f.0 f.1 p) (actuals u fs ps) (actual_nil f.0 f.1 p h.0) (actuals_nil fs ps h.1)) (λ r. refl)

  with_nil : (w : Where) (at : Pos) (s : Signature) (n : ℕ) (f : List Actual → TypedExpr) (xs : List Actual) → Nil (called_with w at s n f xs)
  with_nil w at s n f xs =
      then_nil (wants (nat_eq n (length s.params)) rule.WrongParameterCount at xs) (λ ys. also (misplaced w (is_some s.result)) rule.MisplacedCall at (sound (computed (f ys) (result_type s.result))))
      (wants_nil (nat_eq n (length s.params)) rule.WrongParameterCount at xs) (λ ys. also_nil (misplaced w (is_some s.result)) rule.MisplacedCall at (sound (computed (f ys) (result_type s.result))) refl)

  called_nil : (w : Where) (at : Pos) (s : Signature) (ps : List Phrase) (f : List Actual → TypedExpr) → PhrasesNil u ps → Nil (called u w at s ps f)
  called_nil w at s ps f h = then_nil (actuals u s.params ps) (called_with w at s (length ps) f) (actuals_nil s.params ps h) (λ xs. with_nil w at s (length ps) f xs)

  pub procedure_nil : (w : Where) (at : Pos) (q : QName) (s : Signature) (ps : List Phrase) → PhrasesNil u ps → Nil (call_procedure u w at q s ps)
  procedure_nil w at q s ps h = called_nil w at s ps (λ xs. e.Call (callee.Declared q) xs at s.result) h

  pub held_nil : (w : Where) (at : Pos) (p : Place) (s : Signature) (ps : List Phrase) → PhrasesNil u ps → Nil (call_variable u w at p s ps)
  held_nil w at p s ps h = called_nil w at s ps (λ xs. e.CallVariable p.designator.inner xs at s.result) h

  pub out_nil : (w : Where) (at : Pos) (p : OutProcedure) (ps : List Phrase) → PhrasesNil u ps → Nil (call_out u w at p ps)
  out_nil w at p ps h = called_nil w at (out_signature p) ps (λ xs. e.Call (callee.Out p) xs at None) h

  by_sound : (b : Bool) (w : Where) (at : Pos) (c : Chosen) (ps : List Phrase) → PhrasesNil u ps → Nil (call_bound_sound b u w at c ps)
  by_sound false w at c ps h = then_nil (actuals u [] ps) (λ xs. silent) (actuals_nil [] ps h) (λ xs. refl)
  by_sound true w at c ps h =
      also_nil (is_record_receiver c.method.receiver && ((receiver_place c).read_only && is_none c.base)) rule.NotChangeable at (called u w at c.method.signature ps (λ xs. e.Call (bound_callee c c.base) (receiver_actual c.method.receiver c ∷ xs) at c.method.signature.result))
      (called_nil w at c.method.signature ps (λ xs. e.Call (bound_callee c c.base) (receiver_actual c.method.receiver c ∷ xs) at c.method.signature.result) h)

  pub bound_nil : (w : Where) (at : Pos) (c : Chosen) (ps : List Phrase) → PhrasesNil u ps → Nil (call_bound u w at c ps)
  bound_nil w at c ps h = by_sound (nearest_sound u 201 (where_from c c.base) c.method.name) w at c ps h
