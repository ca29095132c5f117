-- Calls of bound procedures are well typed.
use Rattle.std.proofs.Common.{◌≡◌, refl, sym, ap, ◌∙◌, subst, ℕ, List, [], ◌∷◌, Option, Some, None, Bool, true, false}
use Rattle.std.specs.Prelude.{◌&&◌, is_none}
use Rattle.ob_tree.specs.declared.pos.Pos.{Pos}
use Rattle.ob_tree.specs.declared.names.QName.{QName}
use Rattle.ob_types.specs.declared.types.Mode.{Mode}
use Rattle.ob_types.specs.declared.types.TypeRef.{TypeRef}
use Rattle.ob_types.specs.declared.types.TypeRef.TheVariants as ref
use Rattle.ob_types.specs.declared.desc.Receiver.{Receiver}
use Rattle.ob_types.specs.declared.desc.Receiver.TheVariants as receiver
use Rattle.ob_types.specs.declared.typed.Passing.TheVariants as passing
use Rattle.ob_types.specs.declared.typed.Callee.TheVariants as callee
use Rattle.ob_types.specs.declared.typed.Actual.{Actual}
use Rattle.ob_types.specs.declared.typed.TypedParameter.{TypedParameter}
use Rattle.ob_types.specs.declared.typed.TypedExpr.TheVariants as e
use Rattle.ob_types.specs.TypedKinds.{variable_type}
use Rattle.ob_types.specs.TypedView.{OneActual, designator_view, expr_view, actual_view, actuals_view}
use Rattle.ob_types.proofs.TypedViews.{view_value_of}
use Rattle.ob_meaning.specs.Values.{Program, Form, PointerForm, RecordForm, fields_of, form_in, record_in, Formals, Held}
use Rattle.law_simulation_relation.specs.Relation.{LengthFits, Sub, Scalar}
use Rattle.law_simulation_relation.specs.Typed as typed
use Rattle.law_simulation_relation.specs.Typed.{IsFormal, IsRecordForm, ReceiverOk}
use Rattle.law_simulation_relation.proofs.Actuals.{sub_on}
use Rattle.ob_rules.specs.declared.entity.Received.{Received}
use Rattle.ob_rules.specs.declared.meant.Chosen.{Chosen}
use Rattle.ob_rules.specs.declared.meant.Where.{Where}
use Rattle.ob_rules.specs.declared.values.Place.{Place}
use Rattle.ob_rules.specs.declared.values.Valued.{Valued}
use Rattle.ob_rules.specs.declared.broken.Rule.TheVariants as rule
use Rattle.ob_rules.specs.Judged.{silent}
use Rattle.ob_rules.specs.Shapes.{Map, pointed, record_of, is_held}
use Rattle.ob_rules.specs.Names.{Around, map_of}
use Rattle.ob_rules.specs.Phrases.{Phrase, record_receiver, receiver_place}
use Rattle.ob_rules.specs.Calls.{actuals, called, family_of, bound_callee, receiver_actual, is_record_receiver, nearest_sound, where_from, call_bound_sound, call_bound}
use Rattle.law_typing.specs.Makes.{Makes}
use Rattle.law_typing.specs.Forms.{SignatureIs, Forms}
use Rattle.law_typing.specs.Known.{pointee, AreParameters, behind, IsScoped}
use Rattle.law_typing.specs.Kept.{PlaceIs}
use Rattle.law_typing.specs.Meant.{ChosenIs, CallsAt, CalledIs, ArePhrases}
use Rattle.law_typing.proofs.Makes.{makes_then, makes_also}
use Rattle.law_typing.proofs.Values.{Fits, W, place_fits}
use Rattle.law_typing.proofs.Designators.{form_is, deref_is}
use Rattle.law_typing.proofs.Relations.{some_of}
use Rattle.law_typing.proofs.Actuals.{AreFormals, Passes, actual_seen, actuals_are}
use Rattle.law_typing.proofs.Predeclared.{makes_any}
use Rattle.law_typing.proofs.Calls.{CallIs, declared_actuals, called_is, by_callee}

module _ (program : Program) (Has : Formals → QName → Type 0) (unit : List ℕ) (held : List Held) (result : Option TypeRef) where
  -- one actual parameter, of one parameter of a procedure
  abbrev OneFits : OneActual → TypedParameter → Type 0
  OneFits x p = (x.passing ≡ p.passing) × IsFormal program x.passing x.formal p.of × Passes program Has unit held result x.passing x.e (form_in program p.of)

  module _ (map : Map) (forms : Forms program Has unit held result map) where
    abbrev P : Place → Type 0
    P p = PlaceIs program Has unit held result map p

    -- the record of the receiver
    place_there : (start : Pos) (p : Place) (o : Option TypeRef) → P p → pointed map p.of ≡ o → ((t : TypeRef) → o ≡ Some t → is_held map t ≡ true) → P (record_receiver start p o) × ((record_receiver start p o).of ≡ pointee p.of o)
    place_there start p None h e k = (h, refl)
    place_there start p (Some t) h e k = (deref_is program Has unit held result map forms p start t false h e (k t refl), refl)

    record_passes : (p : Place) (q o : QName) (t : Form) → P p → record_of map p.of ≡ Some q → Sub (record_in program q) (record_in program o) → t ≡ record_in program o → Passes program Has unit held result passing.VariableRecord (expr_view (e.Designator p.designator.inner)) t
    record_passes p q o t h r s k =
        let d = designator_view p.designator.inner in
        let m = forms.records p.of q r in
        let i : form_in program (variable_type d) ≡ record_in program q = form_is program Has unit held result map forms d p.of p.var_record h ∙ m.0 in
        let is_record : IsRecordForm (form_in program (variable_type d)) = (q ∷ m.1.0, i ∙ m.1.1 ∙ ap (λ f. RecordForm (q ∷ m.1.0) (fields_of f)) (sym i)) in
        subst (λ y. typed.RecordOk program Has unit held result y t) (sym (view_value_of p.designator.inner)) (h.fits, (is_record, λ a x. subst (Sub a) (sym k) (sub_on (subst (Sub a) i x) s)))

    record_length : (o : QName) (has : Bool) (t : Form) → IsRecordForm (record_in program o) → t ≡ record_in program o → LengthFits t has
    record_length o has t r e = subst (λ z. LengthFits z has) (sym (e ∙ r.1)) tt

    pointer_passes : (p : Place) (r v : TypeRef) (q o : QName) (t : Form) → P p → pointed map p.of ≡ Some r → record_of map r ≡ Some q → Sub (record_in program q) (record_in program o) → IsRecordForm (record_in program o) → t ≡ PointerForm v → form_in program v ≡ record_in program o → Passes program Has unit held result passing.Scalar (expr_view (e.Designator p.designator.inner)) t
    pointer_passes p r v q o t h f g s y k l =
        let d = designator_view p.designator.inner in
        let m = forms.records r q g in
        let w : W program Has unit held result (PointerForm r) (PointerForm v) = typed.pointers r v (λ a x. subst (Sub a) (sym l) (sub_on (subst (Sub a) m.0 x) s)) (λ has x. record_length o has (form_in program v) y l) in
        (subst (λ y. Fits program Has unit held result y t) (sym (view_value_of p.designator.inner)) (place_fits program Has unit held result map forms d p.of p.var_record (PointerForm r) t h (forms.pointers p.of r f).0 tt (subst (λ z. W program Has unit held result (PointerForm r) z) (sym k) w)), subst Scalar (sym k) tt)

    receiver_fits : (z : Option Received) (c : Chosen) (k : Receiver) (o : QName) (p1 : TypedParameter) (ps : List TypedParameter) → ChosenIs program Has unit held result map z c → c.method.receiver ≡ k → ReceiverOk program k o (p1 ∷ ps) → Sub (record_in program c.owner) (record_in program o) → IsRecordForm (record_in program o) → OneFits (actual_view (receiver_actual k c)) p1
    receiver_fits z c receiver.Record o p1 ps h w r s y =
        let q = place_there c.start c.receiver c.pointed h.receiver h.pointed_is h.held_is in
        let g = ap (record_of map) q.1 ∙ h.owner_is in
        subst (λ x. OneFits x p1) (sym (actual_seen passing.VariableRecord (ref.Named c.owner) (e.Designator (receiver_place c).designator.inner)))
        (sym r.0, tt, record_passes (receiver_place c) c.owner o (form_in program p1.of) q.0 g s r.1)
    receiver_fits z c receiver.Pointer o p1 ps h w r s y =
        let t = some_of c.pointed (h.by_pointer w) in
        let g : record_of map t.0 ≡ Some c.owner = ap (λ z. record_of map (pointee c.receiver.of z)) (sym t.1) ∙ h.owner_is in
        subst (λ x. OneFits x p1) (sym (actual_seen passing.Scalar c.receiver.of (e.Designator c.receiver.designator.inner)))
        (sym r.0, tt, pointer_passes c.receiver t.0 r.1.0 c.owner o (form_in program p1.of) h.receiver (h.pointed_is ∙ t.1) g s y r.1.1 r.1.2)

  module _ (u : Around) (scoped : IsScoped program Has unit held result u) where
    abbrev Called : Where → Valued → Type 0
    Called w x = CalledIs program Has unit held result (map_of u) w x

    abbrev Signed : List Actual → List (Mode × TypeRef) → Type 0
    Signed xs fs = typed.SignatureOk program Has unit held result (actuals_view xs) fs × AreFormals (actuals_view xs) fs

    all_fit : (c : Chosen) (k : Receiver) (o : QName) (ps : List TypedParameter) (xs : List Actual) (fs : List (Mode × TypeRef)) → ChosenIs program Has unit held result (map_of u) u.receiver c → c.method.receiver ≡ k → ReceiverOk program k o ps → Sub (record_in program c.owner) (record_in program o) → IsRecordForm (record_in program o) → AreParameters program (behind ps) fs → Signed xs fs → typed.ActualsOk program Has unit held result (actuals_view (receiver_actual k c ∷ xs)) ps
    all_fit c k o [] xs fs h e r s y a g = absurd (none k r)
      where
        none : (k : Receiver) → ReceiverOk program k o [] → ⊥
        none receiver.Record r = r
        none receiver.Pointer r = r
    all_fit c k o (p1 ∷ ps) xs fs h e r s y a g =
        let one = receiver_fits (map_of u) scoped.forms u.receiver c k o p1 ps h e r s y in
        (one.0, (one.1, (one.2, declared_actuals program Has unit held result (actuals_view xs) ps fs a g.0)))

    abbrev Tree : Pos → Chosen → List Actual → Option QName → Type 0
    Tree at c xs b = CallIs program Has unit held result c.method.signature.result (expr_view (e.Call (bound_callee c b) (receiver_actual c.method.receiver c ∷ xs) at c.method.signature.result))

    tree_at : (at : Pos) (c : Chosen) (xs : List Actual) (b : Option QName) → ChosenIs program Has unit held result (map_of u) u.receiver c → CallsAt program Has unit held result (map_of u) c b → Signed xs c.method.signature.params → Tree at c xs b
    tree_at at c xs None h x g =
        let m = scoped.methods c.owner c.introduced x.0 c.method x.1 in
        let k = m.0 in
        by_callee program Has unit held result u scoped (callee.Bound (family_of c) c.method.receiver) (receiver_actual c.method.receiver c ∷ xs) at c.method.signature.result
        (c.introduced, k.name, k.p, k.type_is, k.near, k.found, k.receives, k.result_is, all_fit c c.method.receiver c.introduced k.p.parameters xs c.method.signature.params h refl k.receives m.1 (c.introduced ∷ k.type_is.0, k.type_is.1) k.parameters g) tt
    tree_at at c xs (Some b) h x g =
        let k = x.0 in
        by_callee program Has unit held result u scoped (callee.Super b (family_of c) c.method.receiver) (receiver_actual c.method.receiver c ∷ xs) at c.method.signature.result
        (k.name, k.p, k.base_is, k.near, k.found, k.result_is, all_fit c c.method.receiver k.t k.p.parameters xs c.method.signature.params h refl k.receives (sub_on x.1 k.above) k.type_is k.parameters g) tt

    signature_at_call : (c : Chosen) (b : Option QName) → CallsAt program Has unit held result (map_of u) c b → SignatureIs program (map_of u) c.method.signature
    signature_at_call c None x = (scoped.methods c.owner c.introduced x.0 c.method x.1).0.signature
    signature_at_call c (Some b) x = x.0.signature

    sound_is : (b : Bool) (w : Where) (at : Pos) (c : Chosen) (ps : List Phrase) → ChosenIs program Has unit held result (map_of u) u.receiver c → ArePhrases program Has unit held result ps → Makes (Called w) (call_bound_sound b u w at c ps)
    sound_is false w at c ps h k = makes_then (λ xs. Unit {0}) (Called w) (actuals u [] ps) (λ xs. silent) (makes_any (actuals u [] ps)) (λ xs l. record { node = tt })
    sound_is true w at c ps h k =
        let g = signature_at_call c c.base h.calls in
        makes_also (Called w) (is_record_receiver c.method.receiver && ((receiver_place c).read_only && is_none c.base)) rule.NotChangeable at (called u w at c.method.signature ps (λ xs. e.Call (bound_callee c c.base) (receiver_actual c.method.receiver c ∷ xs) at c.method.signature.result)) λ q.
        called_is program Has unit held result u scoped (λ xs. Signed xs c.method.signature.params) w at c.method.signature ps (λ xs. e.Call (bound_callee c c.base) (receiver_actual c.method.receiver c ∷ xs) at c.method.signature.result) g.result
        (actuals_are program Has unit held result u scoped c.method.signature.params ps g.params k) (λ xs l. tree_at at c xs c.base h h.calls l)

    pub call_bound_is : (w : Where) (at : Pos) (c : Chosen) (ps : List Phrase) → ChosenIs program Has unit held result (map_of u) u.receiver c → ArePhrases program Has unit held result ps → Makes (Called w) (call_bound u w at c ps)
    call_bound_is w at c ps h k = sound_is (nearest_sound u 201 (where_from c c.base) c.method.name) w at c ps h k
