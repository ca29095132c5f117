-- Calls of predeclared procedures are well typed.
use Rattle.std.proofs.Common.{◌≡◌, refl, sym, ap, ◌∙◌, subst, ℕ, zero, suc, ◌<◌, List, Option, Some, None, Bool, true, false, arith}
use Rattle.std.proofs.lemmas.Bool.Decides.{nat_tests}
use Rattle.std.specs.Prelude.{nat_eq, ℤ, pos, negsuc}
use Rattle.ob_tree.specs.declared.pos.Pos.{Pos}
use Rattle.ob_tree.specs.declared.names.QName.{QName}
use Rattle.ob_types.specs.declared.types.Basic.{Basic}
use Rattle.ob_types.specs.declared.types.Basic.TheVariants as basic
use Rattle.ob_types.specs.declared.types.TypeRef.{TypeRef}
use Rattle.ob_types.specs.declared.value.Value.TheVariants as literal
use Rattle.ob_types.specs.declared.typed.Width.{Width}
use Rattle.ob_types.specs.declared.typed.Width.TheVariants as width
use Rattle.ob_types.specs.declared.typed.Update.{Update}
use Rattle.ob_types.specs.declared.typed.Update.TheVariants as update
use Rattle.ob_types.specs.declared.typed.Made.{Made}
use Rattle.ob_types.specs.declared.typed.Made.TheVariants as made_of
use Rattle.ob_types.specs.declared.typed.TypedExpr.TheVariants as e
use Rattle.ob_types.specs.declared.typed.TypedStmt.{TypedStmt}
use Rattle.ob_types.specs.declared.typed.TypedStmt.TheVariants as stmt
use Rattle.ob_types.specs.TypedSyntax.{Desig, Expr, Length, Stmt, Updated, New, NewOpenArray, Assert}
use Rattle.ob_types.specs.TypedKinds.{of_basic, variable_type}
use Rattle.ob_types.specs.TypedView.{designator_view, expr_view, stmt_view}
use Rattle.ob_types.proofs.TypedViews.{view_length, view_updated, view_new, view_new_open_array, view_assert}
use Rattle.ob_meaning.specs.Values.{Program, Form, PointerForm, OpenForm, form_in, Formals, Held}
use Rattle.ob_types.specs.Numbers.{is_in}
use Rattle.law_simulation_relation.specs.Relation.{IsLength}
use Rattle.law_simulation_relation.specs.Typed as typed
use Rattle.law_simulation_relation.specs.Typed.{Within, integer, longint, boolean, char, set}
use Rattle.ob_rules.specs.declared.meant.Asked.{Asked}
use Rattle.ob_rules.specs.declared.meant.Asked.TheVariants as asked
use Rattle.ob_rules.specs.declared.entity.Received.{Received}
use Rattle.ob_rules.specs.declared.meant.Meant.{Meant}
use Rattle.ob_rules.specs.declared.meant.Meant.TheVariants as means
use Rattle.ob_rules.specs.declared.meant.Where.{Where}
use Rattle.ob_rules.specs.declared.meant.Where.TheVariants.{InExpression, AsStatement, Elsewhere}
use Rattle.ob_rules.specs.declared.values.Place.{Place}
use Rattle.ob_rules.specs.declared.values.Valued.{Valued}
use Rattle.ob_rules.specs.declared.values.Valued.TheVariants as valued
use Rattle.ob_rules.specs.Judged.{Judged, sound, made}
use Rattle.ob_rules.specs.Shapes.{Map, array_of, pointed, is_held, record_of}
use Rattle.ob_rules.specs.Values.{constant, computed, is, width as width_of, tree, place_in}
use Rattle.ob_rules.specs.Operators.{only_value, and_so}
use Rattle.ob_rules.specs.Calls.{misplaced}
use Rattle.ob_rules.specs.Predeclared.{does, if_is, longer, dimension, length_of, len_at, len_of, one, step, element_step, new_array, new_fixed, new_elements, if_held, new_one, new_many, extreme}
use Rattle.law_typing.specs.Makes.{IfThere, Makes}
use Rattle.law_typing.specs.Forms.{IsDeclared, ArrayIs, Forms}
use Rattle.law_typing.specs.Known.{ConstantIs}
use Rattle.law_typing.specs.Kept.{PlaceIs, NodeIs, ValuedIs}
use Rattle.law_typing.specs.Meant.{CalledIs, MeantIs}
use Rattle.law_typing.proofs.Makes.{makes_made}
use Rattle.law_typing.proofs.Basics.{not_true, within_long}
use Rattle.law_typing.proofs.Values.{Fits, basic_node, width_fits, basic_fits, integer_form, basic_form}
use Rattle.law_typing.proofs.Designators.{form_is}
use Rattle.law_typing.proofs.Assignable.{nat_is}
use Rattle.law_lists.proofs.Lists.{none_some, some_same}

pub so_is : {A B : Type 0} (P : B → Type 0) (o : Option A) (f : A → Option B) → ((x : A) → o ≡ Some x → IfThere P (f x)) → IfThere P (and_so o f)
so_is P None f h = tt
so_is P (Some x) f h = h x refl

pub when_is : {A B : Type 0} (P : B → Type 0) (b : Bool) (v : A) (f : A → Option B) → (b ≡ true → IfThere P (f v)) → IfThere P (and_so (if_is b v) f)
when_is P true v f h = h refl
when_is P false v f h = tt

pub if_so : {A : Type 0} (P : A → Type 0) (b : Bool) (x : A) → (b ≡ true → P x) → IfThere P (if_is b x)
if_so P true x h = h refl
if_so P false x h = tt

pub makes_any : {A : Type 0} (j : Judged A) → Makes (λ x. Unit {0}) j
makes_any j = record { node = any j.node }
  where
    any : {B : Type 0} (o : Option B) → IfThere (λ x. Unit {0}) o
    any None = tt
    any (Some x) = tt

pub place_of : (x : Valued) (p : Place) → place_in x ≡ Some p → x ≡ valued.Place p
place_of (valued.Place q) p e = ap (λ q. valued.Place q) (some_same e)
place_of (valued.Constant c) p e = none_some e
place_of (valued.Node n) p e = none_some e

pub no_place : (x : Valued) → place_in (only_value x) ≡ None
no_place (valued.Constant c) = refl
no_place (valued.Place p) = refl
no_place (valued.Node n) = refl

length_long : (n : ℕ) → IsLength n → is_in width.LongInt (pos n) ≡ true
length_long n h = let l : n < 2147483648 = h.1 in grind (arith, nat_tests)

pub longer_within : (w l : Width) → longer w ≡ Some l → Within w l
longer_within width.ShortInt l e = subst (Within width.ShortInt) (some_same e) typed.short
longer_within width.Integer l e = subst (Within width.Integer) (some_same e) typed.middle
longer_within width.LongInt l e = none_some e

pub extreme_is : (max : Bool) (b : Basic) → ConstantIs (extreme max b)
extreme_is max basic.Boolean = tt
extreme_is true basic.Char = omega arith
extreme_is false basic.Char = omega arith
extreme_is true basic.ShortInt = refl
extreme_is false basic.ShortInt = refl
extreme_is true basic.Integer = refl
extreme_is false basic.Integer = refl
extreme_is true basic.LongInt = refl
extreme_is false basic.LongInt = refl
extreme_is true basic.Set = refl
extreme_is false basic.Set = refl

module _ (program : Program) (Has : Formals → QName → Type 0) (unit : List ℕ) (held : List Held) (result : Option TypeRef) where
  abbrev Ex : Expr → Form → Type 0
  Ex x t = Fits program Has unit held result x t

  abbrev Ok : Stmt → Type 0
  Ok s = (in_loop : Bool) → typed.StmtOk program Has unit held result s in_loop

  module _ (map : Map) (forms : Forms program Has unit held result map) where
    abbrev Is : Valued → Type 0
    Is x = ValuedIs program Has unit held result map x

    -- what is asked of a parameter
    abbrev pub Given : Asked → Valued → Type 0
    Given asked.Value x = Is x
    Given asked.Changed x = (p : Place) → place_in x ≡ Some p → PlaceIs program Has unit held result map p
    Given asked.Constant x = Is x

    module _ (o : Option Received) (w : Where) where
      abbrev M : Meant → Type 0
      M m = MeantIs program Has unit held result map o w m

      pub function_there : (x : Valued) → misplaced w true ≡ false → Is x → CalledIs program Has unit held result map w x
      function_there x e h = by w e
        where
          by : (w : Where) → misplaced w true ≡ false → CalledIs program Has unit held result map w x
          by InExpression e = h
          by AsStatement e = not_true (sym e)
          by Elsewhere e = tt

      pub said : (j : Judged Valued) → misplaced w true ≡ false → Makes Is j → Makes M (made (λ v. means.Call v) j)
      said j e h = makes_made Is M j (λ v. means.Call v) h (λ x k. function_there x e k)

      pub done : (s : TypedStmt) (x : Stmt) → stmt_view s ≡ x → Ok x → Makes M (sound (means.Statement (record { inner = s })))
      done s x e h = record { node = subst Ok (sym e) h }

      -- A FUNCTION'S VALUE

      length_there : (n : Option ℕ) (u s : TypeRef) (first : Bool) (p : Place) → PlaceIs program Has unit held result map p → ArrayIs program map (form_in program s) n u → (first ≡ true → s ≡ p.of) → misplaced w true ≡ false → IfThere (Makes M) (length_of n first p)
      length_there (Some n) u s first p h a f q = record { node = function_there (constant (literal.Int (pos n))) q (length_long n a.1.0) }
      length_there None u s true p h a f q =
          let d = designator_view p.designator.inner in
          let g : form_in program (variable_type d) ≡ OpenForm (form_in program u) = form_is program Has unit held result map forms d p.of p.var_record h ∙ ap (form_in program) (sym (f refl)) ∙ a.0 in
          let n : NodeIs program Has unit held result map (Length d) (of_basic basic.LongInt) = basic_node program Has unit held result map forms (Length d) basic.LongInt (λ v k. (h.fits, ((form_in program u, g), k))) in
          record { node = function_there (computed (e.Length p.designator.inner) (of_basic basic.LongInt)) q (subst (λ y. NodeIs program Has unit held result map y (of_basic basic.LongInt)) (sym (view_length p.designator.inner)) n) }
      length_there None u s false p h a f q = tt

      -- the type after so many dimensions
      dimension_is : (n : ℕ) (t : TypeRef) (a : Option ℕ × TypeRef) → IsDeclared t → dimension map n t ≡ Some a → (s : TypeRef) × ArrayIs program map (form_in program s) a.0 a.1 × (n ≡ 0 → s ≡ t)
      dimension_is zero t a d e = (t, forms.arrays t a.1 a.0 d e, λ k. refl)
      dimension_is (suc n) t a d e = go (array_of map t) refl e (λ v k f. dimension_is n v a k f)
        where
          element : (m : Option ℕ) (v : TypeRef) → ArrayIs program map (form_in program t) m v → IsDeclared v
          element None v a = a.1.0.0
          element (Some m) v a = a.1.1.0.0

          no_zero : suc n ≡ 0 → ⊥
          no_zero e = omega (arith, e)

          go : (o : Option (Option ℕ × TypeRef)) → array_of map t ≡ o → and_so o (λ b. dimension map n b.1) ≡ Some a → ((v : TypeRef) → IsDeclared v → dimension map n v ≡ Some a → (s : TypeRef) × ArrayIs program map (form_in program s) a.0 a.1 × (n ≡ 0 → s ≡ v)) → (s : TypeRef) × ArrayIs program map (form_in program s) a.0 a.1 × (suc n ≡ 0 → s ≡ t)
          go None f g ih = none_some g
          go (Some b) f g ih = let r = ih b.1 (element b.0 b.1 (forms.arrays t b.1 b.0 d f)) g in (r.0, r.1, λ k. absurd (no_zero k))

      pub len_there : (n : ℕ) (p : Place) → PlaceIs program Has unit held result map p → misplaced w true ≡ false → IfThere (Makes M) (len_at map n p)
      len_there n p h e = so_is (Makes M) (dimension map n p.of) (λ a. length_of a.0 (nat_eq n 0) p) (λ a f. let r = dimension_is n p.of a h.declared.0 f in length_there a.0 a.1 r.0 (nat_eq n 0) p h r.1 (λ g. r.2 (nat_is n 0 g)) e)

      pub place_given : (x : Valued) (p : Place) → Is x → place_in x ≡ Some p → PlaceIs program Has unit held result map p
      place_given x p h e = subst Is (place_of x p e) h

      pub len_number : (z : ℤ) (p : Place) → PlaceIs program Has unit held result map p → misplaced w true ≡ false → IfThere (Makes M) (len_of map z p)
      len_number (pos n) p h e = len_there n p h e
      len_number (negsuc n) p h e = tt

      -- STATEMENTS

      pub stepped : (o : Width → Update) (at : Pos) (x n : Valued) → ((v : Width) (d : Desig) (y : Expr) → Ex y longint → form_in program (variable_type d) ≡ integer v → typed.UpdateOk program Has unit held result (o v) d y) → Given asked.Changed x → Is n → IfThere (Makes M) (step map o at x n)
      stepped o at x n ok h k =
          so_is (Makes M) (place_in x) (λ p. and_so (width_of map x) (λ w. and_so (width_of map n) (λ k. does (stmt.Update (o w) p.designator.inner (tree n) at)))) λ p e.
          so_is (Makes M) (width_of map x) (λ w. and_so (width_of map n) (λ k. does (stmt.Update (o w) p.designator.inner (tree n) at))) λ v f.
          so_is (Makes M) (width_of map n) (λ k. does (stmt.Update (o v) p.designator.inner (tree n) at)) λ m g.
          let q = h p e in
          let d = designator_view p.designator.inner in
          let i : form_in program (variable_type d) ≡ integer v = form_is program Has unit held result map forms d p.of p.var_record q ∙ integer_form program Has unit held result map forms p.of v (sym (ap (width_of map) (place_of x p e)) ∙ f) in
          done (stmt.Update (o v) p.designator.inner (tree n) at) (Updated (o v) d (expr_view (tree n)) at) (view_updated (o v) p.designator.inner (tree n) at) (λ l. (q.fits, ok v d (expr_view (tree n)) (width_fits program Has unit held result map forms n m width.LongInt k g (within_long m)) i))

      pub inc_ok : (v : Width) (d : Desig) (y : Expr) → Ex y longint → form_in program (variable_type d) ≡ integer v → typed.UpdateOk program Has unit held result (update.Inc v) d y
      inc_ok v d y h k = (h, k)

      pub dec_ok : (v : Width) (d : Desig) (y : Expr) → Ex y longint → form_in program (variable_type d) ≡ integer v → typed.UpdateOk program Has unit held result (update.Dec v) d y
      dec_ok v d y h k = (h, k)

      pub one_is : Is one
      one_is = refl

      pub element_stepped : (o : Update) (at : Pos) (x n : Valued) → ((d : Desig) (y : Expr) → Ex y longint → form_in program (variable_type d) ≡ set → typed.UpdateOk program Has unit held result o d y) → Given asked.Changed x → Is n → IfThere (Makes M) (element_step map o at x n)
      element_stepped o at x n ok h k =
          so_is (Makes M) (place_in x) (λ p. and_so (width_of map n) (λ k. and_so (if_is (is map basic.Set x) o) (λ o. does (stmt.Update o p.designator.inner (tree n) at)))) λ p e.
          so_is (Makes M) (width_of map n) (λ k. and_so (if_is (is map basic.Set x) o) (λ o. does (stmt.Update o p.designator.inner (tree n) at))) λ m g.
          when_is (Makes M) (is map basic.Set x) o (λ o. does (stmt.Update o p.designator.inner (tree n) at)) λ f.
          let q = h p e in
          let d = designator_view p.designator.inner in
          let i : form_in program (variable_type d) ≡ set = form_is program Has unit held result map forms d p.of p.var_record q ∙ basic_form program Has unit held result map forms p.of basic.Set (sym (ap (is map basic.Set) (place_of x p e)) ∙ f) in
          done (stmt.Update o p.designator.inner (tree n) at) (Updated o d (expr_view (tree n)) at) (view_updated o p.designator.inner (tree n) at) (λ l. (q.fits, ok d (expr_view (tree n)) (width_fits program Has unit held result map forms n m width.LongInt k g (within_long m)) i))

      pub asserted : (x : Valued) (z : ℤ) (at : Pos) → Is x → is map basic.Boolean x ≡ true → Makes M (sound (means.Statement (record { inner = stmt.Assert (tree x) z at })))
      asserted x z at h e = done (stmt.Assert (tree x) z at) (Assert (expr_view (tree x)) z at) (view_assert (tree x) z at) (λ l. basic_fits program Has unit held result map forms x basic.Boolean refl h e)

      held_there : (b : Bool) (o : Option (Judged Meant)) → IfThere (Makes M) o → IfThere (Makes M) (if_held b o)
      held_there true o h = h
      held_there false o h = record { node = tt }

      made_there : (p : Place) (base : TypeRef) (m : Made) (at : Pos) → PlaceIs program Has unit held result map p → typed.MadeOk program Has unit held result m (form_in program (variable_type (designator_view p.designator.inner))) → Makes M (sound (means.Statement (record { inner = stmt.New p.designator.inner m at })))
      made_there p base m at h k = done (stmt.New p.designator.inner m at) (New (designator_view p.designator.inner) m at) (view_new p.designator.inner m at) (λ l. (h.fits, k))

      pointing : (p : Place) (base : TypeRef) → PlaceIs program Has unit held result map p → pointed map p.of ≡ Some base → form_in program (variable_type (designator_view p.designator.inner)) ≡ PointerForm base
      pointing p base h e = form_is program Has unit held result map forms (designator_view p.designator.inner) p.of p.var_record h ∙ (forms.pointers p.of base e).0

      array_made : (n : Option ℕ) (v : TypeRef) (p : Place) (base : TypeRef) (at : Pos) → PlaceIs program Has unit held result map p → pointed map p.of ≡ Some base → ArrayIs program map (form_in program base) n v → IfThere (Makes M) (new_array n p base at)
      array_made (Some n) v p base at h e a = made_there p base (made_of.Array base) at h ((base, pointing p base h e, refl), (n, form_in program v, a.0, (a.1.0, a.1.1.1)))
      array_made None v p base at h e a = tt

      fixed_made : (q : Option QName) (a : Option (Option ℕ × TypeRef)) (p : Place) (base : TypeRef) (at : Pos) → PlaceIs program Has unit held result map p → pointed map p.of ≡ Some base → record_of map base ≡ q → array_of map base ≡ a → IfThere (Makes M) (new_fixed q a p base at)
      fixed_made (Some q) a p base at h e f g = let r = forms.records base q f in made_there p base (made_of.Record q) at h ((base, pointing p base h e, r.0), r.1)
      fixed_made None (Some a) p base at h e f g = array_made a.0 a.1 p base at h e (forms.arrays base a.1 a.0 (forms.pointers p.of base e).1 g)
      fixed_made None None p base at h e f g = tt

      pub new_there : (at : Pos) (x : Valued) → Given asked.Changed x → IfThere (Makes M) (new_one map at x)
      new_there at x h =
          so_is (Makes M) (place_in x) (λ p. and_so (pointed map p.of) (λ base. if_held (is_held map base) (new_fixed (record_of map base) (array_of map base) p base at))) λ p e.
          so_is (Makes M) (pointed map p.of) (λ base. if_held (is_held map base) (new_fixed (record_of map base) (array_of map base) p base at)) λ base f.
          held_there (is_held map base) (new_fixed (record_of map base) (array_of map base) p base at) (fixed_made (record_of map base) (array_of map base) p base at (h p e) f refl refl)

      elements_made : (k : Option ℕ) (t : TypeRef) (p : Place) (n : Valued) (base : TypeRef) (at : Pos) → PlaceIs program Has unit held result map p → pointed map p.of ≡ Some base → ArrayIs program map (form_in program base) k t → Ex (expr_view (tree n)) longint → IfThere (Makes M) (new_elements k t p n at)
      elements_made (Some k) t p n base at h e a g = tt
      elements_made None t p n base at h e a g = done (stmt.NewOpenArray p.designator.inner t (tree n) at) (NewOpenArray (designator_view p.designator.inner) t (expr_view (tree n)) at) (view_new_open_array p.designator.inner t (tree n) at) (λ l. (h.fits, ((base, pointing p base h e, a.0), (a.1.1, g))))

      pub many_there : (at : Pos) (x n : Valued) → Given asked.Changed x → Is n → IfThere (Makes M) (new_many map at x n)
      many_there at x n h k =
          so_is (Makes M) (place_in x) (λ p. and_so (width_of map n) (λ w. and_so (pointed map p.of) (λ base. if_held (is_held map base) (and_so (array_of map base) (λ a. new_elements a.0 a.1 p n at))))) λ p e.
          so_is (Makes M) (width_of map n) (λ w. and_so (pointed map p.of) (λ base. if_held (is_held map base) (and_so (array_of map base) (λ a. new_elements a.0 a.1 p n at)))) λ m g.
          so_is (Makes M) (pointed map p.of) (λ base. if_held (is_held map base) (and_so (array_of map base) (λ a. new_elements a.0 a.1 p n at))) λ base f.
          held_there (is_held map base) (and_so (array_of map base) (λ a. new_elements a.0 a.1 p n at))
          (so_is (Makes M) (array_of map base) (λ a. new_elements a.0 a.1 p n at) λ a i.
          elements_made a.0 a.1 p n base at (h p e) f (forms.arrays base a.1 a.0 (forms.pointers p.of base f).1 i) (width_fits program Has unit held result map forms n m width.LongInt k g (within_long m)))
