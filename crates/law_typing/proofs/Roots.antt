-- A name with the guards of WITH around it: what the guards keep, and the receiver's variable.
use Rattle.std.proofs.Common.{◌≡◌, refl, sym, ap, ◌∙◌, subst, ℕ, List, [], ◌∷◌, Option, Some, None, Bool, true, false}
use Rattle.std.specs.Prelude.{◌||◌}
use Rattle.std.specs.List.{AllByRecursion}
use Rattle.ob_tree.specs.declared.pos.Pos.{Pos}
use Rattle.ob_tree.specs.declared.names.QName.{QName}
use Rattle.ob_types.specs.declared.types.TypeRef.{TypeRef}
use Rattle.ob_types.specs.declared.typed.Guarded.{Guarded}
use Rattle.ob_types.specs.declared.typed.Guarded.TheVariants as guarded
use Rattle.ob_types.specs.declared.typed.Variable.{Variable}
use Rattle.ob_meaning.specs.Values.{Program, record_in, Formals, Held}
use Rattle.law_simulation_relation.specs.Relation.{Sub}
use Rattle.law_simulation_relation.proofs.Actuals.{sub_on}
use Rattle.ob_rules.specs.declared.entity.Received.{Received}
use Rattle.ob_rules.specs.declared.values.Place.{Place}
use Rattle.ob_rules.specs.Judged.{Judged, sound}
use Rattle.ob_rules.specs.Shapes.{Map, pointed, pointed_record, record_of}
use Rattle.ob_rules.specs.Designators.{variable_at, same_variable, guard_of, guard_kind, on_record, guarded_by, with_guard, guard_if, guard_same, with_guards}
use Rattle.law_typing.specs.Makes.{IfThere, Makes}
use Rattle.law_typing.specs.Forms.{IsKnown, Forms}
use Rattle.law_typing.specs.Known.{pointee, ReceiverIs, VariableIs}
use Rattle.law_typing.specs.Kept.{PlaceIs}
use Rattle.law_typing.specs.Meant.{GuardIs, RootIs}
use Rattle.law_typing.proofs.Unguarded.{variable_unguarded, guard_unguarded}
use Rattle.law_typing.proofs.Makes.{makes_then}
use Rattle.law_typing.proofs.Basics.{not_true}
use Rattle.law_typing.proofs.Designators.{pointed_is, extends_is, some_true, no_record, variable_is, guarded_is}
use Rattle.law_lists.proofs.Lists.{none_some, some_same}

-- what the guards of WITH add to a name has what each of them keeps
pub guards_keep : (map : Map) (Q : Place → Type 0) (K : TypeRef → Type 0) → ((p : Place) (t : TypeRef) (g : Guarded × QName) (at : Pos) → Q p → K t → guard_of map p t ≡ Some g → Q (guarded_by p g t at false)) → (at : Pos) (v : Variable) (gs : List (Variable × Option TypeRef)) (j : Judged Place) → Makes Q j → AllByRecursion (λ (g : Variable × Option TypeRef). IfThere K g.1) gs → Makes Q (with_guards map at v gs j)
guards_keep map Q K step at v [] j h k = h
guards_keep map Q K step at v (g ∷ gs) j h k = guards_keep map Q K step at v gs (guard_same (same_variable v g.0) map at j g.1) (one_more (same_variable v g.0) g.1 k.0) k.1
  where
    guard_there : (p : Place) (t : TypeRef) (o : Option (Guarded × QName)) → Q p → K t → guard_of map p t ≡ o → Makes Q (with_guard map at p o t)
    guard_there p t None h k e = record { node = tt }
    guard_there p t (Some g) h k e = record { node = step p t g at h k e }

    if_there : (p : Place) (o : Option TypeRef) → Q p → IfThere K o → Makes Q (guard_if map at p o)
    if_there p None h k = record { node = tt }
    if_there p (Some t) h k = guard_there p t (guard_of map p t) h k refl

    one_more : (b : Bool) (o : Option TypeRef) → IfThere K o → Makes Q (guard_same b map at j o)
    one_more true o k = makes_then Q Q j (λ q. guard_if map at q o) h (λ q l. if_there q o l k)
    one_more false o k = h

unselected : (b : Bool) → b || false ≡ false → b ≡ false
unselected true e = not_true (sym e)
unselected false e = refl

module _ (program : Program) (Has : Formals → QName → Type 0) (unit : List ℕ) (held : List Held) (result : Option TypeRef) (map : Map) (forms : Forms program Has unit held result map) where
  abbrev P : Place → Type 0
  P p = PlaceIs program Has unit held result map p

  -- a guard of the receiver's variable leaves it one
  receiver_guarded : (r : Received) (p : Place) (t : TypeRef) (g : Guarded × QName) → guard_of map p t ≡ Some g → ReceiverIs program map r p.of → ReceiverIs program map r t
  receiver_guarded r p t g e h = go (pointed_record map p.of) refl e
    where
      -- the record of the guard's type extends the receiver's
      on : (b : Bool) → on_record b map p t ≡ Some g → ReceiverIs program map r t
      on false k = none_some k
      on true k =
          let i = extends_is map guarded.Record (record_of map p.of) (record_of map t) g k in
          let plain : (s : TypeRef) (q : QName) → record_of map s ≡ Some q → pointed map s ≡ None = λ s q f. none (pointed map s) s q f refl in
          let s : Sub (record_in program g.1) (record_in program r.owner) = sub_on (forms.extensions g.1 i.0 p.of i.1 i.4) (h.below i.0 (ap (λ z. record_of map (pointee p.of z)) (plain p.of i.0 i.1) ∙ i.1)) in
          record {
            below = λ q f. let x : Some g.1 ≡ Some q = sym i.2 ∙ sym (ap (λ z. record_of map (pointee t z)) (plain t g.1 i.2)) ∙ f in subst (λ z. Sub (record_in program z) (record_in program r.owner)) (some_same x) s;
          }
        where
          none : (o : Option TypeRef) (s : TypeRef) (q : QName) → record_of map s ≡ Some q → pointed map s ≡ o → o ≡ None
          none None s q f e = refl
          none (Some w) s q f e = absurd (no_record program Has unit held result map forms s w e (some_true f))

      go : (o : Option QName) → pointed_record map p.of ≡ o → guard_kind map p t o ≡ Some g → ReceiverIs program map r t
      go None f k = on p.var_record k
      go (Some a) f k =
          let i = extends_is map guarded.Pointer (Some a) (pointed_record map t) g k in
          let c = pointed_is map p.of a f in
          let d = pointed_is map t g.1 i.2 in
          let a_is : a ≡ i.0 = some_same i.1 in
          let up : record_of map c.0 ≡ Some i.0 = c.2 ∙ ap (λ z. Some z) a_is in
          let s : Sub (record_in program g.1) (record_in program r.owner) = sub_on (forms.extensions g.1 i.0 c.0 up i.4) (h.below i.0 (ap (λ z. record_of map (pointee p.of z)) c.1 ∙ up)) in
          record {
            below = λ q f. let x : Some g.1 ≡ Some q = sym d.2 ∙ sym (ap (λ z. record_of map (pointee t z)) d.1) ∙ f in subst (λ z. Sub (record_in program z) (record_in program r.owner)) (some_same x) s;
          }

  module _ (o : Option Received) where
    abbrev R : Place → Type 0
    R p = P p × RootIs program Has unit held result map o p × GuardIs p

    root_kept : (p : Place) (t : TypeRef) (g : Guarded × QName) (at : Pos) → R p → IsKnown map t → guard_of map p t ≡ Some g → R (guarded_by p g t at false)
    root_kept p t g at h k e = (guarded_is program Has unit held result map forms p g t at false h.0 k e, λ r f x y. receiver_guarded r p t g e (h.1 r f x (unselected p.selected y)), guard_unguarded p g t at false)

    -- a variable by its name, with its guards
    pub rooted_is : (at : Pos) (v : Variable) (t : TypeRef) (read_only : Bool) (gs : List (Variable × Option TypeRef)) → VariableIs program Has unit held result map v t → ((r : Received) → o ≡ Some r → same_variable v r.variable ≡ true → ReceiverIs program map r t) → AllByRecursion (λ (g : Variable × Option TypeRef). IfThere (IsKnown map) g.1) gs → Makes R (with_guards map at v gs (sound (variable_at v t read_only)))
    rooted_is at v t read_only gs h k l = guards_keep map R (IsKnown map) root_kept at v gs (sound (variable_at v t read_only)) (record { node = (variable_is program Has unit held result map forms v t read_only h, λ r f x y. k r f x, variable_unguarded v t read_only) }) l
