-- Designators that keep the rules are well typed: variables with their guards, dereferences, indices and fields.
use Rattle.std.proofs.Common.{◌≡◌, refl, sym, ap, ◌∙◌, subst, ℕ, List, [], ◌∷◌, Option, Some, None, Bool, true, false}
use Rattle.std.specs.Prelude.{◌||◌, is_some}
use Rattle.std.specs.List.{AllByRecursion}
use Rattle.ob_tree.specs.declared.pos.Pos.{Pos}
use Rattle.ob_tree.specs.declared.names.QName.{QName}
use Rattle.ob_types.specs.declared.types.TypeRef.{TypeRef}
use Rattle.ob_types.specs.declared.desc.Field as described
use Rattle.ob_types.specs.declared.typed.Passing.TheVariants as passing
use Rattle.ob_types.specs.declared.typed.Width.{Width}
use Rattle.ob_types.specs.declared.typed.Width.TheVariants as width
use Rattle.ob_types.specs.declared.typed.Variable.{Variable}
use Rattle.ob_types.specs.declared.typed.Variable.TheVariants as variable
use Rattle.ob_types.specs.declared.typed.Guarded.{Guarded}
use Rattle.ob_types.specs.declared.typed.Guarded.TheVariants as guarded
use Rattle.ob_types.specs.TypedSyntax.{Desig, OfVariable, Index, Deref, Guard, Expr}
use Rattle.ob_types.specs.TypedKinds.{variable_type}
use Rattle.ob_types.specs.TypedView.{designator_view, expr_view}
use Rattle.ob_types.proofs.TypedViews.{view_variable, view_field, view_index, view_deref, view_guard}
use Rattle.ob_meaning.specs.Values.{Program, Form, PointerForm, RecordForm, fields_of, form_in, record_in, Formals, Held}
use Rattle.law_simulation_relation.specs.Relation.{Sub}
use Rattle.law_simulation_relation.specs.Typed as typed
use Rattle.law_simulation_relation.specs.Typed.{longint, IsVariableRecord, IsRecordType}
use Rattle.ob_rules.specs.declared.values.Place.{Place}
use Rattle.ob_rules.specs.declared.values.Valued.{Valued}
use Rattle.ob_rules.specs.declared.broken.Rule.TheVariants as rule
use Rattle.ob_rules.specs.Judged.{Judged, sound, wants}
use Rattle.ob_rules.specs.Shapes.{Map, AField, pointed, pointed_record, record_if, record_of, array_of, is_array, is_record, is_held, extends_record, member}
use Rattle.ob_rules.specs.Names.{Around}
use Rattle.ob_rules.specs.Values.{is_integer, width as width_at, tree}
use Rattle.ob_rules.specs.Phrases.{dereferenced}
use Rattle.ob_rules.specs.Designators.{is_var_record, variable_at, same_variable, if_so, if_extends, on_record, guard_kind, guard_of, guarded_by, with_guard, guard_if, guard_same, with_guards, if_so_held, dereference_of, dereference, through_if, implicitly, indexed, index_into, index_if, index, field_of}
use Rattle.law_typing.specs.Makes.{IfThere, Makes}
use Rattle.law_typing.specs.Forms.{IsKnown, ArrayIs, Forms}
use Rattle.law_typing.specs.Known.{VariableIs}
use Rattle.law_typing.specs.Kept.{DesignatorIs, PlaceIs}
use Rattle.law_typing.specs.Known.{pointee}
use Rattle.law_typing.specs.Meant.{GuardIs}
use Rattle.law_typing.proofs.Makes.{makes_then, makes_wants}
use Rattle.law_typing.proofs.Basics.{not_true, within_long, closed_form}
use Rattle.law_typing.proofs.Values.{Fits, V, width_fits}
use Rattle.law_typing.proofs.Unguarded.{deref_unguarded, index_unguarded}
use Rattle.law_lists.proofs.Lists.{none_some, some_same}

-- what a pointer to a record points to
pub pointed_is : (map : Map) (t : TypeRef) (q : QName) → pointed_record map t ≡ Some q → (r : TypeRef) × (pointed map t ≡ Some r) × (record_of map r ≡ Some q)
pointed_is map t q e = go (pointed map t) refl e
  where
    go : (o : Option TypeRef) → pointed map t ≡ o → record_if map o ≡ Some q → (r : TypeRef) × (pointed map t ≡ Some r) × (record_of map r ≡ Some q)
    go None f e = none_some e
    go (Some r) f e = (r, f, e)

-- the guard, and that the one record extends the other
pub extends_is : (map : Map) (g : Guarded) (a b : Option QName) (h : Guarded × QName) → if_extends map g a b ≡ Some h → (p : QName) × (a ≡ Some p) × (b ≡ Some h.1) × (h.0 ≡ g) × (extends_record map h.1 p ≡ true)
extends_is map g None b h e = none_some e
extends_is map g (Some p) None h e = none_some e
extends_is map g (Some p) (Some q) h e = go (extends_record map q p) refl e
  where
    go : (x : Bool) → extends_record map q p ≡ x → if_so x (g, q) ≡ Some h → (r : QName) × (Some p ≡ Some r) × (Some q ≡ Some h.1) × (h.0 ≡ g) × (extends_record map h.1 r ≡ true)
    go true f e = let i = some_same e in (p, refl, ap (λ (k : Guarded × QName). Some k.1) i, sym (ap (λ (k : Guarded × QName). k.0) i), ap (λ (k : Guarded × QName). extends_record map k.1 p) (sym i) ∙ f)
    go false f e = none_some e

pub or_true : (b : Bool) → b || true ≡ true
or_true true = refl
or_true false = refl

pub some_true : {A : Type 0} {o : Option A} {x : A} → o ≡ Some x → is_some o ≡ true
some_true {A} {o} {x} e = ap is_some e

pub not_both : (t : Form) (q u : TypeRef) (line : List QName) → t ≡ PointerForm u → t ≡ RecordForm line (fields_of t) → ⊥
not_both t q u line e f = different (sym e ∙ f)
  where
    different : PointerForm u ≡ RecordForm line (fields_of t) → ⊥
    different e = absurd cc

module _ (program : Program) (Has : Formals → QName → Type 0) (unit : List ℕ) (held : List Held) (result : Option TypeRef) (map : Map) (forms : Forms program Has unit held result map) where
  abbrev Of : Desig → TypeRef → Bool → Type 0
  Of d t r = DesignatorIs program Has unit held result map d t r

  abbrev P : Place → Type 0
  P p = PlaceIs program Has unit held result map p

  -- its form is that of its type
  pub form_is : (d : Desig) (t : TypeRef) (r : Bool) → Of d t r → form_in program (variable_type d) ≡ form_in program t
  form_is d t r h = ap (form_in program) h.of_type

  -- DEREFERENCES

  deref_of : (d : Desig) (t u : TypeRef) (r : Bool) (at : Pos) → Of d t r → pointed map t ≡ Some u → is_held map u ≡ true → Of (Deref d at u) u false
  deref_of d t u r at h e k = record { fits = (h.fits, (u, form_is d t r h ∙ (forms.pointers t u e).0, refl)); of_type = refl; declared = ((forms.pointers t u e).1, forms.bases t u e k); is_parameter = λ f. not_true f }

  pub deref_is : (p : Place) (at : Pos) (t : TypeRef) (written : Bool) → P p → pointed map p.of ≡ Some t → is_held map t ≡ true → P (dereferenced p at t written)
  deref_is p at t written h e k = subst (λ d. Of d t false) (sym (view_deref p.designator.inner at t)) (deref_of (designator_view p.designator.inner) p.of t p.var_record at h e k)

  held_is : (b : Bool) (Q : Place → Type 0) (p : Place) → (b ≡ true → Q p) → Makes Q (if_so_held b p)
  held_is true Q p h = record { node = h refl }
  held_is false Q p h = record { node = tt }

  through_is : (b : Bool) (p q : Place) → P p → P q → P (through_if b p q)
  through_is true p q h k = k
  through_is false p q h k = h

  pub implicitly_is : (wanted : TypeRef → Bool) (at : Pos) (p : Place) (o : Option TypeRef) → P p → pointed map p.of ≡ o → Makes P (implicitly map wanted at p o)
  implicitly_is wanted at p None h e = record { node = h }
  implicitly_is wanted at p (Some t) h e = held_is (is_held map t) P (through_if (wanted t) p (dereferenced p at t false)) (λ k. through_is (wanted t) p (dereferenced p at t false) h (deref_is p at t false h e k))

  -- what is selected of: the variable, or what it points to, which is there
  pub through_pointer : (at : Pos) (p : Place) (o : Option TypeRef) → P p → pointed map p.of ≡ o → Makes (λ q. P q × (q.of ≡ pointee p.of o) × ((t : TypeRef) → o ≡ Some t → is_held map t ≡ true)) (implicitly map (λ t. true) at p o)
  through_pointer at p None h e = record { node = (h, refl, λ t f. none_some f) }
  through_pointer at p (Some t) h e = held_is (is_held map t) (λ q. P q × (q.of ≡ t) × ((r : TypeRef) → Some t ≡ Some r → is_held map r ≡ true)) (dereferenced p at t false) (λ k. (deref_is p at t false h e k, refl, λ r f. ap (is_held map) (sym (some_same f)) ∙ k))

  pub dereference_is : (at : Pos) (p : Place) → P p → Makes (λ q. P q × (q.selected ≡ true) × GuardIs q) (dereference map at p)
  dereference_is at p h = go (pointed map p.of) refl
    where
      go : (o : Option TypeRef) → pointed map p.of ≡ o → Makes (λ q. P q × (q.selected ≡ true) × GuardIs q) (dereference_of map at p o)
      go None e = record { node = tt }
      go (Some t) e = held_is (is_held map t) (λ q. P q × (q.selected ≡ true) × GuardIs q) (dereferenced p at t true) (λ k. (deref_is p at t true h e k, or_true p.selected, deref_unguarded p at t true))

  -- INDICES

  pub long_fits : (x : Valued) → V program Has unit held result map forms x → is_integer map x ≡ true → Fits program Has unit held result (expr_view (tree x)) longint
  long_fits x h e = go (width_at map x) refl e
    where
      go : (o : Option Width) → width_at map x ≡ o → is_some o ≡ true → Fits program Has unit held result (expr_view (tree x)) longint
      go None f e = not_true e
      go (Some w) f e = width_fits program Has unit held result map forms x w width.LongInt h f (within_long w)

  index_of : (d : Desig) (t u : TypeRef) (r : Bool) (n : Option ℕ) (i : Expr) (at : Pos) → Of d t r → ArrayIs program map (form_in program t) n u → Fits program Has unit held result i longint → Of (Index d n i at u) u false
  index_of d t u r None i at h a k = record { fits = (h.fits, (k, form_is d t r h ∙ a.0, closed_form program (form_in program u) a.1.1)); of_type = refl; declared = a.1.0; is_parameter = λ f. not_true f }
  index_of d t u r (Some n) i at h a k = record { fits = (h.fits, (k, form_is d t r h ∙ a.0, closed_form program (form_in program u) a.1.1.1)); of_type = refl; declared = a.1.1.0; is_parameter = λ f. not_true f }

  indexed_is : (p : Place) (at : Pos) (x : Valued) (a : Option ℕ × TypeRef) → P p → array_of map p.of ≡ Some a → Fits program Has unit held result (expr_view (tree x)) longint → P (indexed p at x a)
  indexed_is p at x a h e k = subst (λ d. Of d a.1 false) (sym (view_index p.designator.inner a.0 (tree x) at a.1)) (index_of (designator_view p.designator.inner) p.of a.1 p.var_record a.0 (expr_view (tree x)) at h (forms.arrays p.of a.1 a.0 h.declared.0 e) k)

  index_into_is : (at : Pos) (p : Place) (i : Judged Valued) (o : Option (Option ℕ × TypeRef)) → P p → Makes (V program Has unit held result map forms) i → array_of map p.of ≡ o → Makes (λ q. P q × (q.selected ≡ true) × GuardIs q) (index_into map at p i o)
  index_into_is at p i None h k e = record { node = tt }
  index_into_is at p i (Some a) h k e = makes_then (V program Has unit held result map forms) (λ q. P q × (q.selected ≡ true) × GuardIs q) i (λ x. wants (is_integer map x) rule.UnfitSelector at (indexed p at x a)) k (λ x v. makes_wants (λ q. P q × (q.selected ≡ true) × GuardIs q) (is_integer map x) rule.UnfitSelector at (indexed p at x a) (λ f. (indexed_is p at x a h e (long_fits x v f), refl, index_unguarded p at x a)))

  pub index_is : (at : Pos) (p : Place) (i : Judged Valued) → P p → Makes (V program Has unit held result map forms) i → Makes (λ q. P q × (q.selected ≡ true) × GuardIs q) (index map at p i)
  index_is at p i h k = go (implicitly map is_array_at at p (pointed map p.of)).node (implicitly_is is_array_at at p (pointed map p.of) h refl).node
    where
      is_array_at : TypeRef → Bool
      is_array_at t = is_array map t

      go : (o : Option Place) → IfThere P o → Makes (λ q. P q × (q.selected ≡ true) × GuardIs q) (index_if o i (λ q. index_into map at q i (array_of map q.of)))
      go None f = record { node = tt }
      go (Some q) f = index_into_is at q i (array_of map q.of) f k refl

  -- FIELDS

  pub field_is : (u : Around) (p : Place) (q o : QName) (x : List ℕ) (f : described.Field) → P p → record_of map p.of ≡ Some q → member map q x ≡ Some (AField o f) → P (field_of u p o f)
  field_is u p q o x f h e k =
      let d = designator_view p.designator.inner in
      let g = forms.fields q o x f p.of e k in
      let i : form_in program (variable_type d) ≡ record_in program q = form_is d p.of p.var_record h ∙ (forms.records p.of q e).0 in
      let fits : typed.FieldOk program Has unit held result (form_in program (variable_type d)) o f.name (form_in program f.of) = subst (λ t. typed.FieldOk program Has unit held result t o f.name (form_in program f.of)) (sym i) g.0 in
      subst (λ d. Of d f.of false) (sym (view_field p.designator.inner o f.name f.of)) (record { fits = (h.fits, fits, g.2); of_type = refl; declared = g.1; is_parameter = λ f. not_true f })

  -- GUARDS

  pub record_form : (t : TypeRef) (q : QName) → record_of map t ≡ Some q → (line : List QName) × (form_in program t ≡ RecordForm line (fields_of (form_in program t)))
  record_form t q e =
      let r = forms.records t q e in
      (q ∷ r.1.0, r.0 ∙ r.1.1 ∙ ap (λ f. RecordForm (q ∷ r.1.0) (fields_of f)) (sym r.0))

  pub no_record : (t r : TypeRef) → pointed map t ≡ Some r → is_record map t ≡ true → ⊥
  no_record t r e k = go (record_of map t) refl k
    where
      go : (o : Option QName) → record_of map t ≡ o → is_some o ≡ true → ⊥
      go None f k = not_true k
      go (Some q) f k = let x = record_form t q f in not_both (form_in program t) t r x.0 (forms.pointers t r e).0 x.1

  pointer_guard : (d : Desig) (s t : TypeRef) (r : Bool) (at : Pos) (a q : QName) → Of d s r → IsKnown map t → pointed_record map s ≡ Some a → pointed_record map t ≡ Some q → extends_record map q a ≡ true → Of (Guard d guarded.Pointer q at t) t r
  pointer_guard d s t r at a q h l e f g =
      let i = pointed_is map s a e in
      let j = pointed_is map t q f in
      let k = forms.records j.0 q j.2 in
      let m = forms.records i.0 a i.2 in
      record {
        fits = (h.fits, ((j.0, (forms.pointers t j.0 j.1).0, k.0), (i.0, form_is d s r h ∙ (forms.pointers s i.0 i.1).0, (k.1, subst (λ x. Sub (record_in program q) x) (sym m.0) (forms.extensions q a i.0 i.2 g)))));
        of_type = refl;
        declared = l;
        is_parameter = λ x. absurd (no_record s i.0 i.1 (h.is_parameter x).1);
      }

  record_guard : (d : Desig) (s t : TypeRef) (at : Pos) (a q : QName) → Of d s true → IsKnown map t → record_of map s ≡ Some a → record_of map t ≡ Some q → extends_record map q a ≡ true → Of (Guard d guarded.Record q at t) t true
  record_guard d s t at a q h l e f g =
      let k = forms.records t q f in
      let m = forms.records s a e in
      record {
        fits = (h.fits, (k.0, (k.1, subst (λ x. Sub (record_in program q) x) (sym (form_is d s true h ∙ m.0)) (forms.extensions q a s e g))));
        of_type = refl;
        declared = l;
        is_parameter = λ x. ((h.is_parameter refl).0, some_true f);
      }

  pub guarded_is : (p : Place) (g : Guarded × QName) (t : TypeRef) (at : Pos) (written : Bool) → P p → IsKnown map t → guard_of map p t ≡ Some g → P (guarded_by p g t at written)
  guarded_is p g t at written h l e = subst (λ d. Of d t p.var_record) (sym (view_guard p.designator.inner g.0 g.1 at t)) (go (pointed_record map p.of) refl e)
    where
      dd : Desig
      dd = designator_view p.designator.inner

      on : (b : Bool) → p.var_record ≡ b → on_record b map p t ≡ Some g → Of (Guard dd g.0 g.1 at t) t p.var_record
      on false v e = none_some e
      on true v e =
          let i = extends_is map guarded.Record (record_of map p.of) (record_of map t) g e in
          subst (λ b. Of (Guard dd g.0 g.1 at t) t b) (sym v) (subst (λ x. Of (Guard dd x g.1 at t) t true) (sym i.3) (record_guard dd p.of t at i.0 g.1 (subst (λ b. Of dd p.of b) v h) l i.1 i.2 i.4))

      go : (o : Option QName) → pointed_record map p.of ≡ o → guard_kind map p t o ≡ Some g → Of (Guard dd g.0 g.1 at t) t p.var_record
      go None f e = on p.var_record refl e
      go (Some a) f e =
          let i = extends_is map guarded.Pointer (Some a) (pointed_record map t) g e in
          subst (λ x. Of (Guard dd x g.1 at t) t p.var_record) (sym i.3) (pointer_guard dd p.of t p.var_record at i.0 g.1 h l (f ∙ i.1) i.2 i.4)

  with_guard_is : (at : Pos) (p : Place) (o : Option (Guarded × QName)) (t : TypeRef) → P p → IsKnown map t → guard_of map p t ≡ o → Makes P (with_guard map at p o t)
  with_guard_is at p None t h l e = record { node = tt }
  with_guard_is at p (Some g) t h l e = record { node = guarded_is p g t at false h l e }

  guard_if_is : (at : Pos) (p : Place) (o : Option TypeRef) → P p → IfThere (IsKnown map) o → Makes P (guard_if map at p o)
  guard_if_is at p None h l = record { node = tt }
  guard_if_is at p (Some t) h l = with_guard_is at p (guard_of map p t) t h l refl

  guard_same_is : (b : Bool) (at : Pos) (p : Judged Place) (o : Option TypeRef) → Makes P p → IfThere (IsKnown map) o → Makes P (guard_same b map at p o)
  guard_same_is true at p o h l = makes_then P P p (λ q. guard_if map at q o) h (λ q k. guard_if_is at q o k l)
  guard_same_is false at p o h l = h

  with_guards_is : (at : Pos) (v : Variable) (gs : List (Variable × Option TypeRef)) (p : Judged Place) → Makes P p → AllByRecursion (λ (g : Variable × Option TypeRef). IfThere (IsKnown map) g.1) gs → Makes P (with_guards map at v gs p)
  with_guards_is at v [] p h l = h
  with_guards_is at v (g ∷ gs) p h l = with_guards_is at v gs (guard_same (same_variable v g.0) map at p g.1) (guard_same_is (same_variable v g.0) at p g.1 h l.0) l.1

  -- VARIABLES

  parameter_is : (v : Variable) (t : TypeRef) → is_var_record v ≡ true → IsVariableRecord (OfVariable v t)
  parameter_is (variable.Module m x) t e = not_true e
  parameter_is (variable.Local x) t e = not_true e
  parameter_is (variable.Parameter passing.VariableRecord x) t e = tt
  parameter_is (variable.Parameter passing.Scalar x) t e = not_true e
  parameter_is (variable.Parameter passing.Structure x) t e = not_true e
  parameter_is (variable.Parameter passing.OpenArray x) t e = not_true e
  parameter_is (variable.Parameter passing.Variable x) t e = not_true e
  parameter_is (variable.Parameter passing.VariableOpenArray x) t e = not_true e

  pub variable_is : (v : Variable) (t : TypeRef) (read_only : Bool) → VariableIs program Has unit held result map v t → P (variable_at v t read_only)
  variable_is v t read_only h = subst (λ d. Of d t (is_var_record v)) (sym (view_variable v t)) (record { fits = (h.fits, h.passed); of_type = refl; declared = h.declared; is_parameter = λ e. (parameter_is v t e, h.var_record e) })

  -- a name with the guards of WITH around it
  pub guards_is : (at : Pos) (v : Variable) (t : TypeRef) (read_only : Bool) (gs : List (Variable × Option TypeRef)) → VariableIs program Has unit held result map v t → AllByRecursion (λ (g : Variable × Option TypeRef). IfThere (IsKnown map) g.1) gs → Makes P (with_guards map at v gs (sound (variable_at v t read_only)))
  guards_is at v t read_only gs h l = with_guards_is at v gs (sound (variable_at v t read_only)) (record { node = variable_is v t read_only h }) l
