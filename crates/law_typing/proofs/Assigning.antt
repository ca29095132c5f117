-- Assignments are well typed.
use Rattle.std.proofs.Common.{◌≡◌, refl, sym, ap, ◌∙◌, subst, ℕ, List, [], ◌∷◌, Option, Some, None, Bool, true, false, not}
use Rattle.std.specs.Prelude.{◌&&◌, ◌||◌, is_some}
use Rattle.ob_tree.specs.declared.pos.Pos.{Pos}
use Rattle.ob_tree.specs.declared.names.QName.{QName}
use Rattle.ob_types.specs.declared.types.TypeRef.{TypeRef}
use Rattle.ob_types.specs.declared.types.TypeRef.TheVariants as ref
use Rattle.ob_types.specs.declared.types.Mode.TheVariants as mode
use Rattle.ob_types.specs.declared.desc.Desc.{Desc}
use Rattle.ob_types.specs.declared.desc.Desc.TheVariants as desc
use Rattle.ob_types.specs.declared.value.Value.{Value as Literal}
use Rattle.ob_types.specs.declared.value.Value.TheVariants as literal
use Rattle.ob_types.specs.declared.typed.Passing.TheVariants as passing
use Rattle.ob_types.specs.declared.typed.Assigned.{Assigned}
use Rattle.ob_types.specs.declared.typed.Assigned.TheVariants as assigned
use Rattle.ob_types.specs.declared.typed.TypedStmt.TheVariants as stmt
use Rattle.ob_types.specs.Relations.{is_open}
use Rattle.ob_types.specs.Assigning.{is_extensible}
use Rattle.ob_types.specs.AssigningTests.{takes_type, widens, described}
use Rattle.ob_types.specs.Tests.{target, same_at, extends_at, shape_at}
use Rattle.ob_types.specs.TypedSyntax.{Desig, Expr}
use Rattle.ob_types.specs.TypedKinds.{variable_type}
use Rattle.ob_types.specs.TypedView.{designator_view, expr_view}
use Rattle.ob_types.proofs.TypedViews.{view_constant, view_value_of, view_assign}
use Rattle.ob_meaning.specs.Values.{Program, Form, BasicForm, PointerForm, ProcedureForm, ArrayForm, OpenForm, RecordForm, form_in, Formals, Held}
use Rattle.law_simulation_relation.specs.Relation.{Scalar}
use Rattle.law_simulation_relation.specs.Passed.{IsString, IsVariable}
use Rattle.law_simulation_relation.specs.Typed as typed
use Rattle.law_simulation_relation.specs.Typed.{char, passing_for}
use Rattle.ob_rules.specs.declared.values.Place.{Place}
use Rattle.ob_rules.specs.declared.values.Valued.{Valued}
use Rattle.ob_rules.specs.declared.values.Valued.TheVariants as valued
use Rattle.ob_rules.specs.declared.broken.Rule.TheVariants as rule
use Rattle.ob_rules.specs.Shapes.{Map, array_of, array_at, open_element, open_at, is_array, is_record, is_structured, record_of, by_value, passing_of}
use Rattle.ob_rules.specs.Shapes as shapes
use Rattle.ob_rules.specs.Values.{text_of, fits}
use Rattle.ob_rules.specs.Calls.{tree_for}
use Rattle.ob_rules.specs.Statements.{assigned_as, assignment_of, assigned_tree, assigns}
use Rattle.law_typing.specs.Makes.{Makes}
use Rattle.law_typing.specs.Forms.{IsDeclared, IsKnown, ArrayIs, Forms}
use Rattle.law_typing.specs.Kept.{PlaceIs, ValuedIs}
use Rattle.law_typing.specs.Bodies.{AreStatements}
use Rattle.law_typing.proofs.Makes.{makes_wants}
use Rattle.law_typing.proofs.Basics.{not_true}
use Rattle.law_typing.proofs.Values.{Fits}
use Rattle.law_typing.proofs.Operators.{and_is}
use Rattle.law_typing.proofs.Designators.{form_is}
use Rattle.law_typing.proofs.Relations.{some_of}
use Rattle.law_typing.proofs.Assignable.{scalar_fits, structure_fits, node_structure}
use Rattle.law_typing.proofs.Actuals.{open_array}
use Rattle.law_lists.proofs.Lists.{none_some, some_same}

same_tree : (b : Bool) (x : Valued) → assigned_tree b x ≡ tree_for b x
same_tree true x = refl
same_tree false x = refl

-- no variable is taken by an open array
no_open : (tv t v : TypeRef) (o : Option Desc) (map : Map) (u : TypeRef) → shape_at map tv ≡ o → open_at o ≡ Some u → (s x : Bool) (tt : TypeRef) → (s && not (described is_open o)) || (widens tv tt || (described is_extensible o && x)) ≡ true → ⊥
no_open tv t v None map u e f s x w k = none_some f
no_open (ref.Basic b) t v (Some d) map u e f s x w k = none_some e
no_open (ref.Named q) t v (Some (desc.OpenArray m r)) map u e f true x w k = not_true k
no_open (ref.Named q) t v (Some (desc.OpenArray m r)) map u e f false x w k = not_true k
no_open (ref.Named q) t v (Some (desc.Const c)) map u e f s x w k = none_some f
no_open (ref.Named q) t v (Some (desc.Var m r)) map u e f s x w k = none_some f
no_open (ref.Named q) t v (Some (desc.Proc r)) map u e f s x w k = none_some f
no_open (ref.Named q) t v (Some (desc.Alias m r)) map u e f s x w k = none_some f
no_open (ref.Named q) t v (Some (desc.Array m n r)) map u e f s x w k = none_some f
no_open (ref.Named q) t v (Some (desc.Pointer m r)) map u e f s x w k = none_some f
no_open (ref.Named q) t v (Some (desc.ProcType m r)) map u e f s x w k = none_some f
no_open (ref.Named q) t v (Some (desc.Record r)) map u e f s x w k = none_some f

no_open_taken : (map : Map) (v t u : TypeRef) → open_element map v ≡ Some u → takes_type map v t ≡ true → ⊥
unfolding takes_type
no_open_taken map v t u e k = no_open (target map 201 v) t v (shapes.shape map v) map u refl e (same_at map t v) (extends_at map t v) (target map 201 t) k

pair_first : (a b : Option ℕ × TypeRef) → Some a ≡ Some b → a.0 ≡ b.0
pair_first a b e = ap (λ (p : Option ℕ × TypeRef). p.0) (some_same e)

pair_second : (a b : Option ℕ × TypeRef) → Some a ≡ Some b → a.1 ≡ b.1
pair_second a b e = ap (λ (p : Option ℕ × TypeRef). p.1) (some_same e)

some_none : (n : ℕ) → Some n ≡ None → ⊥
some_none n e = absurd cc

-- an open array, by its shape
array_open : (map : Map) (t u : TypeRef) → array_of map t ≡ Some (None, u) → open_element map t ≡ Some u
array_open map t u e = go (shapes.shape map t) refl e
  where
    go : (o : Option Desc) → shapes.shape map t ≡ o → array_at o ≡ Some (None, u) → open_element map t ≡ Some u
    go (Some (desc.OpenArray m v)) f h = ap open_at f ∙ ap (λ w. Some w) (pair_second (None, v) (None, u) h)
    go (Some (desc.Array m n v)) f h = absurd (some_none n (pair_first (Some n, v) (None, u) h))
    go None f h = none_some h
    go (Some (desc.Const c)) f h = none_some h
    go (Some (desc.Var m v)) f h = none_some h
    go (Some (desc.Proc s)) f h = none_some h
    go (Some (desc.Alias m v)) f h = none_some h
    go (Some (desc.Pointer m v)) f h = none_some h
    go (Some (desc.ProcType m s)) f h = none_some h
    go (Some (desc.Record r)) f h = none_some h

-- what is passed by value as a scalar is one
scalar_passed : (f : Form) → passing_for mode.Value f ≡ passing.Scalar → Scalar f
scalar_passed (BasicForm b) e = tt
scalar_passed (PointerForm t) e = tt
scalar_passed (ProcedureForm s) e = tt
scalar_passed (ArrayForm n t) e = absurd cc
scalar_passed (OpenForm t) e = absurd cc
scalar_passed (RecordForm line fs) e = absurd cc

module _ (program : Program) (Has : Formals → QName → Type 0) (unit : List ℕ) (held : List Held) (result : Option TypeRef) (map : Map) (forms : Forms program Has unit held result map) where
  abbrev Is : Valued → Type 0
  Is x = ValuedIs program Has unit held result map x

  abbrev Stands : Expr → Form → Type 0
  Stands x t = typed.StructureOk program Has unit held result x t

  -- neither array nor record
  pub plain_form : (t : TypeRef) → IsKnown map t → is_array map t ≡ false → record_of map t ≡ None → Scalar (form_in program t)
  plain_form t d a r =
      let o : shapes.is_open map t ≡ false = closed (array_of map t) refl (open_element map t) refl in
      let s : is_structured map t ≡ false = ap (λ b. b || is_record map t) a ∙ ap is_some r in
      scalar_passed (form_in program t) (sym (forms.passings mode.Value t d) ∙ ap (λ b. by_value b (is_structured map t)) o ∙ ap (λ b. by_value false b) s)
    where
      closed : (x : Option (Option ℕ × TypeRef)) → array_of map t ≡ x → (y : Option TypeRef) → open_element map t ≡ y → is_some y ≡ false
      closed x e None f = refl
      closed x e (Some u) f = not_true (sym a ∙ ap is_some (open_array map t u f))

  -- a string stands for an array of characters
  string_stands : (b : Bool) (x : Valued) (t : Form) → b ≡ true → is_some (text_of x) ≡ true → Stands (expr_view (tree_for b x)) t → (n : ℕ) × (t ≡ ArrayForm n char)
  string_stands true (valued.Constant (literal.Str text)) t e f h = let k = subst (λ y. Stands y t) (view_constant (literal.Str text)) h in (k.0, k.1)
  string_stands true (valued.Constant (literal.Char c)) t e f h = let k = subst (λ y. Stands y t) (view_constant (literal.Str (c ∷ []))) h in (k.0, k.1)
  string_stands true (valued.Constant (literal.Bool c)) t e f h = not_true f
  string_stands true (valued.Constant (literal.Int z)) t e f h = not_true f
  string_stands true (valued.Constant (literal.Set n)) t e f h = not_true f
  string_stands true (valued.Constant literal.Nil) t e f h = not_true f
  string_stands true (valued.Place p) t e f h = not_true f
  string_stands true (valued.Node n) t e f h = not_true f
  string_stands false x t e f h = not_true e

  -- what is assigned to an array is a string, or else a variable
  string_tree : (b : Bool) (x : Valued) → b ≡ true → is_some (text_of x) ≡ true → IsString (expr_view (assigned_tree b x))
  string_tree true (valued.Constant (literal.Str text)) e f = subst IsString (sym (view_constant (literal.Str text))) tt
  string_tree true (valued.Constant (literal.Char c)) e f = subst IsString (sym (view_constant (literal.Str (c ∷ [])))) tt
  string_tree true (valued.Constant (literal.Bool c)) e f = not_true f
  string_tree true (valued.Constant (literal.Int z)) e f = not_true f
  string_tree true (valued.Constant (literal.Set n)) e f = not_true f
  string_tree true (valued.Constant literal.Nil) e f = not_true f
  string_tree true (valued.Place p) e f = not_true f
  string_tree true (valued.Node n) e f = not_true f
  string_tree false x e f = not_true e

  variable_tree : (v : TypeRef) (b : Bool) (x : Valued) (t : Form) → b ≡ true → is_some (text_of x) ≡ false → Is x → fits map v x ≡ true → (Scalar (form_in program v) → ⊥) → Stands (expr_view (assigned_tree b x)) t → IsVariable (expr_view (assigned_tree b x))
  variable_tree v true (valued.Place p) t e f h k s z = subst IsVariable (sym (view_value_of p.designator.inner)) tt
  variable_tree v true (valued.Node n) t e f h k s z = node_structure program Has unit held result map forms {B = IsVariable (expr_view n.tree.inner)} (expr_view n.tree.inner) n.of v h k s
  variable_tree v true (valued.Constant (literal.Str text)) t e f h k s z = not_true (sym f)
  variable_tree v true (valued.Constant (literal.Char c)) t e f h k s z = not_true (sym f)
  variable_tree v true (valued.Constant (literal.Bool c)) t e f h k s z = absurd (subst (λ y. Stands y t) (view_constant (literal.Bool c)) z)
  variable_tree v true (valued.Constant (literal.Int c)) t e f h k s z = absurd (subst (λ y. Stands y t) (view_constant (literal.Int c)) z)
  variable_tree v true (valued.Constant (literal.Set n)) t e f h k s z = absurd (subst (λ y. Stands y t) (view_constant (literal.Set n)) z)
  variable_tree v true (valued.Constant literal.Nil) t e f h k s z = absurd (subst (λ y. Stands y t) (view_constant literal.Nil) z)
  variable_tree v false x t e f h k s z = not_true e

  other_false : (a b : Bool) → a && b ≡ false → a ≡ true → b ≡ false
  other_false true b e f = e
  other_false false b e f = not_true f

  -- no value is assigned to an open array
  no_open_assigned : (v u : TypeRef) (x : Valued) (b : Bool) → b ≡ true → IsDeclared v → Is x → fits map v x ≡ true → open_element map v ≡ Some u → form_in program v ≡ OpenForm (form_in program u) → Stands (expr_view (tree_for b x)) (form_in program v) → ⊥
  no_open_assigned v u (valued.Place p) b c d h e f g k = no_open_taken map v p.of u f e
  no_open_assigned v u (valued.Node n) b c d h e f g k = node_structure program Has unit held result map forms {B = ⊥} (expr_view n.tree.inner) n.of v h e (λ s. subst Scalar g s)
  no_open_assigned v u (valued.Constant l) b c d h e f g k = by l b c k
    where
      different : (n : ℕ) → OpenForm (form_in program u) ≡ ArrayForm n char → ⊥
      different n e = absurd cc

      by : (l : Literal) (b : Bool) → b ≡ true → Stands (expr_view (tree_for b (valued.Constant l))) (form_in program v) → ⊥
      by (literal.Str text) true c k = let r = subst (λ y. Stands y (form_in program v)) (view_constant (literal.Str text)) k in different r.0 (sym g ∙ r.1)
      by (literal.Char z) true c k = let r = subst (λ y. Stands y (form_in program v)) (view_constant (literal.Str (z ∷ []))) k in different r.0 (sym g ∙ r.1)
      by (literal.Bool z) true c k = subst (λ y. Stands y (form_in program v)) (view_constant (literal.Bool z)) k
      by (literal.Int z) true c k = subst (λ y. Stands y (form_in program v)) (view_constant (literal.Int z)) k
      by (literal.Set z) true c k = subst (λ y. Stands y (form_in program v)) (view_constant (literal.Set z)) k
      by literal.Nil true c k = subst (λ y. Stands y (form_in program v)) (view_constant literal.Nil) k
      by l false c k = not_true c

  module _ (p : Place) (x : Valued) (h : PlaceIs program Has unit held result map p) (k : Is x) (f : fits map p.of x ≡ true) where
    abbrev d : Desig
    d = designator_view p.designator.inner

    i : form_in program (variable_type d) ≡ form_in program p.of
    i = form_is program Has unit held result map forms d p.of p.var_record h

    abbrev y : Bool → Expr
    y b = expr_view (assigned_tree b x)

    abbrev Ok : Assigned → Type 0
    Ok a = typed.AssignedOk program Has unit held result a d (y (is_array map p.of))

    structure : (Scalar (form_in program p.of) → ⊥) → Stands (y (is_array map p.of)) (form_in program (variable_type d))
    structure s = subst (λ t. Stands (y (is_array map p.of)) t) (sym i) (subst (λ t. Stands (expr_view t) (form_in program p.of)) (sym (same_tree (is_array map p.of) x)) (structure_fits program Has unit held result map forms p.of x h.declared.0 k f s))

    array_form : (n : Option ℕ) (u : TypeRef) → array_of map p.of ≡ Some (n, u) → Scalar (form_in program p.of) → ⊥
    array_form n u e s = by n (forms.arrays p.of u n h.declared.0 e)
      where
        by : (n : Option ℕ) → ArrayIs program map (form_in program p.of) n u → ⊥
        by None a = subst Scalar a.0 s
        by (Some n) a = subst Scalar a.0 s

    array_there : is_array map p.of ≡ true → Scalar (form_in program p.of) → ⊥
    array_there e = let a = some_of (array_of map p.of) e in array_form a.0.0 a.0.1 a.1

    record_there : (q : QName) → record_of map p.of ≡ Some q → Scalar (form_in program p.of) → ⊥
    record_there q e s = let r = forms.records p.of q e in subst Scalar (r.0 ∙ r.1.1) s

    text_case : is_array map p.of ≡ true → is_some (text_of x) ≡ true → Ok assigned.Text
    text_case a b =
        let s = structure (array_there a) in
        let n = string_stands (is_array map p.of) x (form_in program (variable_type d)) a b (subst (λ t. Stands (expr_view t) (form_in program (variable_type d))) (same_tree (is_array map p.of) x) s) in
        (n.0, n.1, s, string_tree (is_array map p.of) x a b)

    record_case : (q : QName) → record_of map p.of ≡ Some q → Ok (assigned.Record q)
    record_case q e = let r = forms.records p.of q e in (i ∙ r.0, (r.1, structure (record_there q e)))

    array_case : is_array map p.of ≡ true → is_array map p.of && is_some (text_of x) ≡ false → Ok assigned.Array
    array_case e w = let a = some_of (array_of map p.of) e in by a.0.0 a.0.1 a.1 (forms.arrays p.of a.0.1 a.0.0 h.declared.0 a.1)
      where
        by : (n : Option ℕ) (u : TypeRef) → array_of map p.of ≡ Some (n, u) → ArrayIs program map (form_in program p.of) n u → Ok assigned.Array
        by (Some n) u g a = ((n, form_in program u, i ∙ a.0), structure (array_there e), variable_tree p.of (is_array map p.of) x (form_in program (variable_type d)) e (other_false (is_array map p.of) (is_some (text_of x)) w e) k f (array_there e) (structure (array_there e)))
        by None u g a = absurd (no_open_assigned p.of u x (is_array map p.of) e h.declared.0 k f (array_open map p.of u g) a.0 (structure_fits program Has unit held result map forms p.of x h.declared.0 k f (array_there e)))

    scalar_case : is_array map p.of ≡ false → record_of map p.of ≡ None → Ok assigned.Scalar
    scalar_case a r =
        let s = plain_form p.of h.declared a r in
        let v = scalar_fits program Has unit held result map forms p.of x h.declared.0 k f s in
        (subst (λ t. Fits program Has unit held result (y (is_array map p.of)) t) (sym i) (subst (λ b. Fits program Has unit held result (y b) (form_in program p.of)) (sym a) v), subst Scalar (sym i) s)

    assigned_so : (b : Bool) (q : Option QName) (a : Bool) → is_array map p.of && is_some (text_of x) ≡ b → record_of map p.of ≡ q → is_array map p.of ≡ a → Ok (assigned_as b q a)
    assigned_so true q a e g c = let r = and_is (is_array map p.of) (is_some (text_of x)) e in text_case r.0 r.1
    assigned_so false (Some q) a e g c = record_case q g
    assigned_so false None true e g c = array_case c e
    assigned_so false None false e g c = scalar_case c g

    pub assigned_is : Ok (assignment_of map p x)
    assigned_is = assigned_so (is_array map p.of && is_some (text_of x)) (record_of map p.of) (is_array map p.of) refl refl refl

  pub assigns_is : (l : Bool) (at : Pos) (p : Place) (x : Valued) → PlaceIs program Has unit held result map p → Is x → Makes (AreStatements program Has unit held result l) (assigns map at p x)
  assigns_is l at p x h k =
      makes_wants (AreStatements program Has unit held result l) (fits map p.of x) rule.NotAssignable at (stmt.Assign p.designator.inner (assignment_of map p x) (assigned_tree (is_array map p.of) x) at ∷ []) λ f.
      (subst (λ s. typed.StmtOk program Has unit held result s l) (sym (view_assign p.designator.inner (assignment_of map p x) (assigned_tree (is_array map p.of) x) at)) (h.fits, assigned_is p x h k f), tt)
