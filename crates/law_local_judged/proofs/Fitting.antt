-- Parameters of predeclared procedures that fit, with other interfaces around.
use Rattle.std.proofs.Common.{◌≡◌, refl, sym, ap, ◌∙◌, subst, ℕ, zero, suc, List, [], ◌∷◌, ◌++◌, Option, Some, None, Bool, true, false}
use Rattle.std.specs.Prelude.{◌&&◌, ◌||◌, is_some, nat_eq, ℤ, pos, negsuc}
use Rattle.std.specs.List.{AllByRecursion}
use Rattle.ob_tree.specs.declared.pos.Pos.{Pos}
use Rattle.ob_tree.specs.declared.names.QName.{QName}
use Rattle.ob_types.specs.declared.types.Basic.TheVariants as basic
use Rattle.ob_types.specs.declared.types.TypeRef.{TypeRef}
use Rattle.ob_types.specs.declared.typed.Width.{Width}
use Rattle.ob_types.specs.declared.typed.Unary.{Unary}
use Rattle.ob_types.specs.declared.typed.Unary.TheVariants as unary
use Rattle.ob_types.specs.declared.typed.Binary.TheVariants as binary
use Rattle.ob_types.specs.declared.typed.Update.{Update}
use Rattle.ob_types.specs.declared.typed.Update.TheVariants as update
use Rattle.ob_types.specs.declared.typed.Made.{Made}
use Rattle.ob_types.specs.declared.typed.Made.TheVariants as made_of
use Rattle.ob_types.specs.declared.typed.Designator.{Designator}
use Rattle.ob_types.specs.declared.typed.TypedExpr.{TypedExpr}
use Rattle.ob_types.specs.declared.typed.TypedExpr.TheVariants as e
use Rattle.ob_types.specs.declared.typed.TypedStmt.{TypedStmt}
use Rattle.ob_types.specs.declared.typed.TypedStmt.TheVariants as stmt
use Rattle.ob_types.specs.declared.value.Value.TheVariants as literal
use Rattle.ob_types.specs.TypedKinds.{of_basic}
use Rattle.ob_types.specs.TypedSyntax.{Stmt}
use Rattle.ob_types.specs.TypedView.{designator_view, expr_view}
use Rattle.ob_types.proofs.TypedViews.{view_updated, view_copy, view_new, view_new_open_array, view_assert}
use Rattle.ob_uses_roots.specs.Counts.{Layouts, counts_of_designator, counts_of_expr, made_counts, counts_of}
use Rattle.ob_rules.specs.declared.broken.Predeclared.{Predeclared}
use Rattle.ob_rules.specs.declared.broken.Predeclared.TheVariants as pre
use Rattle.ob_rules.specs.declared.meant.Meant.{Meant}
use Rattle.ob_rules.specs.declared.meant.Meant.TheVariants as means
use Rattle.ob_rules.specs.declared.values.Place.{Place}
use Rattle.ob_rules.specs.declared.values.Valued.{Valued}
use Rattle.ob_rules.specs.declared.values.Valued.TheVariants as valued
use Rattle.ob_rules.specs.declared.broken.Rule.TheVariants as rule
use Rattle.ob_rules.specs.Judged.{Judged, sound, silent, breaks}
use Rattle.ob_rules.specs.Shapes.{Map, array_of, pointed, is_held, record_of}
use Rattle.ob_rules.specs.Values.{computed, is, width as width_of, is_integer, is_chars, text_of, text_tree, tree, type, constant_in, place_in}
use Rattle.ob_rules.specs.Operators.{monadic, dyadic, and_so}
use Rattle.ob_rules.specs.Predeclared.{value, does, if_is, on_width, longer, shorter, dimension, length_of, len_at, len_of, number_in, one, step, element_step, is_text, new_array, new_fixed, new_elements, if_held, new_one, new_many, fit_one, fit_two, fit, if_fit}
use Rattle.law_local_judged.specs.Agreement.{IsIn, Agree}
use Rattle.law_local_judged.specs.Said.{KindIn, CountsIn, DesignatorIn, ExprIn, StmtIn, PlaceIn, ValuedIn, ValuedTied, MeantIn, MeantTied}
use Rattle.law_local_judged.specs.Followed.{Follows}
use Rattle.law_local_judged.proofs.Tests.{two, array_same, pointed_same, pointed_in, elements_in, record_same, held_same}
use Rattle.law_local_judged.proofs.Following.{follows_none, follows_sound, follows_made}
use Rattle.law_local_judged.proofs.Mentioned.{counts_left, counts_right, length_mentions, tree_mentions, text_tree_mentions, constant_kind}
use Rattle.law_local_judged.proofs.Values.{three, is_same, width_same, integer_same, chars_same}
use Rattle.law_local_judged.proofs.Operators.{monadic_follows, dyadic_follows}
use Rattle.law_lists.proofs.Lists.{none_some, some_same}

pub and_same : {A B : Type 0} (o : Option A) (F G : A → Option B) → ((x : A) → o ≡ Some x → F x ≡ G x) → and_so o F ≡ and_so o G
and_same None F G h = refl
and_same (Some x) F G h = h x refl

module _ (P : QName → Type 0) where
  abbrev VM : Valued → Type 0
  VM x = ValuedIn P x

  abbrev VK : Valued → Type 0
  VK x = KindIn P (type x)

  pub place_mentions : (x : Valued) (p : Place) → place_in x ≡ Some p → PlaceIn P p → VM x
  place_mentions (valued.Constant c) p k m = none_some k
  place_mentions (valued.Node n) p k m = none_some k
  place_mentions (valued.Place q) p k m = subst (PlaceIn P) (sym (some_same k)) m

  pub place_kind : (x : Valued) (p : Place) → place_in x ≡ Some p → VK x → IsIn P p.of
  place_kind (valued.Constant c) p k m = none_some k
  place_kind (valued.Node n) p k m = none_some k
  place_kind (valued.Place q) p k m = subst (λ (p : Place). IsIn P p.of) (some_same k) m

  -- ---- what is done mentions its parts

  abbrev SI : Stmt → Type 0
  SI x = CountsIn P (counts_of x)

  updated_mentions : (o : Update) (x : Designator) (y : TypedExpr) (at : Pos) → StmtIn P (stmt.Update o x y at) → DesignatorIn P x × ExprIn P y
  updated_mentions o x y at h =
      let k = subst SI (view_updated o x y at) h in
      (counts_left P (counts_of_designator (designator_view x)) (counts_of_expr (expr_view y)) k, counts_right P (counts_of_designator (designator_view x)) (counts_of_expr (expr_view y)) k)

  copy_mentions : (x : TypedExpr) (y : Designator) (at : Pos) → StmtIn P (stmt.Copy x y at) → ExprIn P x × DesignatorIn P y
  copy_mentions x y at h =
      let k = subst SI (view_copy x y at) h in
      (counts_left P (counts_of_expr (expr_view x)) (counts_of_designator (designator_view y)) k, counts_right P (counts_of_expr (expr_view x)) (counts_of_designator (designator_view y)) k)

  new_mentions : (x : Designator) (m : Made) (at : Pos) → StmtIn P (stmt.New x m at) → DesignatorIn P x
  new_mentions x m at h = counts_left P (counts_of_designator (designator_view x)) (made_counts m) (subst SI (view_new x m at) h)

  elements_mention : (x : Designator) (t : TypeRef) (n : TypedExpr) (at : Pos) → StmtIn P (stmt.NewOpenArray x t n at) → DesignatorIn P x × ExprIn P n
  elements_mention x t n at h =
      let k = subst SI (view_new_open_array x t n at) h in
      let ds = counts_of_designator (designator_view x) in
      let es = counts_of_expr (expr_view n) in
      let l = counts_left P (ds ++ es) (Layouts t ∷ []) k in
      (counts_left P ds es l, counts_right P ds es l)

  assert_mentions : (x : TypedExpr) (n : ℤ) (at : Pos) → StmtIn P (stmt.Assert x n at) → ExprIn P x
  assert_mentions x n at h = subst SI (view_assert x n at) h

  -- ---- what fits follows itself

  module _ (at : Pos) where
    abbrev MF : Type 0 → Judged Meant → Judged Meant → Type 0
    MF R i j = Follows P (MeantTied P) (MeantIn P) R i j

    -- it follows itself, and R is mentioned
    abbrev FF : Type 0 → Option (Judged Meant) → Type 0
    FF R o = Follows P (MeantTied P) (MeantIn P) R (if_fit at o) (if_fit at o)

    fit_none : (R : Type 0) → FF R None
    fit_none R = follows_none P (MeantTied P) (MeantIn P) R (breaks rule.UnfitPredeclaredParameters at) (breaks rule.UnfitPredeclaredParameters at) refl

    fit_and : {A : Type 0} (R : Type 0) (o : Option A) (F : A → Option (Judged Meant)) → ((x : A) → o ≡ Some x → FF R (F x)) → FF R (and_so o F)
    fit_and R None F h = fit_none R
    fit_and R (Some x) F h = h x refl

    fit_value : (R : Type 0) (j : Judged Valued) → Follows P (ValuedTied P) (ValuedIn P) R j j → FF R (value j)
    fit_value R j h = follows_made P (ValuedTied P) (ValuedIn P) (MeantTied P) (MeantIn P) R (λ v. means.Call v) j j h (λ x t. t) (λ x t m. m)

    fit_does : (R : Type 0) (t : TypedStmt) → (StmtIn P t → R) → FF R (does t)
    fit_does R t r = follows_sound P (MeantTied P) (MeantIn P) R (means.Statement (record { inner = t })) tt r

    fit_if : (R : Type 0) (b : Bool) (t : TypedStmt) → (StmtIn P t → R) → FF R (if_is b (sound (means.Statement (record { inner = t }))))
    fit_if R true t r = fit_does R t r
    fit_if R false t r = fit_none R

    length_self : (n : Option ℕ) (b : Bool) (p : Place) → FF (PlaceIn P p) (length_of n b p)
    length_self (Some n) b p = record {
      keeps = λ x k said. subst (MeantTied P) (some_same k) (λ m. constant_kind P (literal.Int (pos n)));
      same = λ x k said m. (said.lengths.0, refl);
    }
    length_self None true p = follows_sound P (MeantTied P) (MeantIn P) (PlaceIn P p) (means.Call (computed (e.Length p.designator.inner) (of_basic basic.LongInt))) (λ m. tt) (λ m. length_mentions P p.designator.inner m)
    length_self None false p = fit_none (PlaceIn P p)

    len_self : (map : Map) (n : ℕ) (p : Place) → FF (PlaceIn P p) (len_at map n p)
    len_self map n p = fit_and (PlaceIn P p) (dimension map n p.of) (λ a. length_of a.0 (nat_eq n 0) p) (λ a k. length_self a.0 (nat_eq n 0) p)

    len_of_self : (map : Map) (z : ℤ) (p : Place) → FF (PlaceIn P p) (len_of map z p)
    len_of_self map (pos n) p = len_self map n p
    len_of_self map (negsuc n) p = fit_none (PlaceIn P p)

    weaker : (Q R : Type 0) (o : Option (Judged Meant)) → (Q → R) → FF Q o → FF R o
    weaker Q R o f h = record { keeps = h.keeps; same = λ x k s m. let r = h.same x k s m in (f r.0, r.1) }

    step_self : (map : Map) (o : Width → Update) (x n : Valued) → FF (VM x × VM n) (step map o at x n)
    step_self map o x n =
        fit_and (VM x × VM n) (place_in x) (λ p. and_so (width_of map x) (λ w. and_so (width_of map n) (λ k. does (stmt.Update (o w) p.designator.inner (tree n) at)))) λ p i.
        fit_and (VM x × VM n) (width_of map x) (λ w. and_so (width_of map n) (λ k. does (stmt.Update (o w) p.designator.inner (tree n) at))) λ w j.
        fit_and (VM x × VM n) (width_of map n) (λ k. does (stmt.Update (o w) p.designator.inner (tree n) at)) λ k l.
        fit_does (VM x × VM n) (stmt.Update (o w) p.designator.inner (tree n) at) (λ m. let r = updated_mentions (o w) p.designator.inner (tree n) at m in (place_mentions x p i r.0, tree_mentions P n r.1))

    element_step_self : (map : Map) (o : Update) (x n : Valued) → FF (VM x × VM n) (element_step map o at x n)
    element_step_self map o x n =
        fit_and (VM x × VM n) (place_in x) (λ p. and_so (width_of map n) (λ k. and_so (if_is (is map basic.Set x) o) (λ o. does (stmt.Update o p.designator.inner (tree n) at)))) λ p i.
        fit_and (VM x × VM n) (width_of map n) (λ k. and_so (if_is (is map basic.Set x) o) (λ o. does (stmt.Update o p.designator.inner (tree n) at))) λ w j.
        fit_and (VM x × VM n) (if_is (is map basic.Set x) o) (λ o. does (stmt.Update o p.designator.inner (tree n) at)) λ o l.
        fit_does (VM x × VM n) (stmt.Update o p.designator.inner (tree n) at) (λ m. let r = updated_mentions o p.designator.inner (tree n) at m in (place_mentions x p i r.0, tree_mentions P n r.1))

    silent_self : (R : Type 0) (b : Bool) (o : Option (Judged Meant)) → FF R o → FF R (if_held b o)
    silent_self R true o h = h
    silent_self R false o h = follows_none P (MeantTied P) (MeantIn P) R silent silent refl

    array_self : (n : Option ℕ) (p : Place) (t : TypeRef) → FF (PlaceIn P p) (new_array n p t at)
    array_self (Some n) p t = fit_does (PlaceIn P p) (stmt.New p.designator.inner (made_of.Array t) at) (λ m. new_mentions p.designator.inner (made_of.Array t) at m)
    array_self None p t = fit_none (PlaceIn P p)

    fixed_self : (q : Option QName) (a : Option (Option ℕ × TypeRef)) (p : Place) (t : TypeRef) → FF (PlaceIn P p) (new_fixed q a p t at)
    fixed_self (Some q) a p t = fit_does (PlaceIn P p) (stmt.New p.designator.inner (made_of.Record q) at) (λ m. new_mentions p.designator.inner (made_of.Record q) at m)
    fixed_self None (Some a) p t = array_self a.0 p t
    fixed_self None None p t = fit_none (PlaceIn P p)

    new_one_self : (map : Map) (x : Valued) → FF (VM x) (new_one map at x)
    new_one_self map x =
        fit_and (VM x) (place_in x) (λ p. and_so (pointed map p.of) (λ base. if_held (is_held map base) (new_fixed (record_of map base) (array_of map base) p base at))) λ p i.
        fit_and (VM x) (pointed map p.of) (λ base. if_held (is_held map base) (new_fixed (record_of map base) (array_of map base) p base at)) λ base j.
        silent_self (VM x) (is_held map base) (new_fixed (record_of map base) (array_of map base) p base at) (weaker (PlaceIn P p) (VM x) (new_fixed (record_of map base) (array_of map base) p base at) (λ m. place_mentions x p i m) (fixed_self (record_of map base) (array_of map base) p base))

    elements_self : (k : Option ℕ) (t : TypeRef) (p : Place) (n : Valued) → FF (PlaceIn P p × VM n) (new_elements k t p n at)
    elements_self (Some k) t p n = fit_none (PlaceIn P p × VM n)
    elements_self None t p n = fit_does (PlaceIn P p × VM n) (stmt.NewOpenArray p.designator.inner t (tree n) at) (λ m. let r = elements_mention p.designator.inner t (tree n) at m in (r.0, tree_mentions P n r.1))

    new_many_self : (map : Map) (x n : Valued) → FF (VM x × VM n) (new_many map at x n)
    new_many_self map x n =
        fit_and (VM x × VM n) (place_in x) (λ p. and_so (width_of map n) (λ w. and_so (pointed map p.of) (λ base. if_held (is_held map base) (and_so (array_of map base) (λ a. new_elements a.0 a.1 p n at))))) λ p i.
        fit_and (VM x × VM n) (width_of map n) (λ w. and_so (pointed map p.of) (λ base. if_held (is_held map base) (and_so (array_of map base) (λ a. new_elements a.0 a.1 p n at)))) λ w j.
        fit_and (VM x × VM n) (pointed map p.of) (λ base. if_held (is_held map base) (and_so (array_of map base) (λ a. new_elements a.0 a.1 p n at))) λ base k.
        silent_self (VM x × VM n) (is_held map base) (and_so (array_of map base) (λ a. new_elements a.0 a.1 p n at))
        (fit_and (VM x × VM n) (array_of map base) (λ a. new_elements a.0 a.1 p n at) (λ a l. weaker (PlaceIn P p × VM n) (VM x × VM n) (new_elements a.0 a.1 p n at) (λ m. (place_mentions x p i m.0, m.1)) (elements_self a.0 a.1 p n)))

    width_self : (map : Map) (o : Width → Unary) (x : Valued) → FF (VM x) (on_width map o at x)
    width_self map o x = fit_and (VM x) (width_of map x) (λ w. value (monadic (o w) at x)) (λ w k. fit_value (VM x) (monadic (o w) at x) (monadic_follows P (o w) at x))

    when_self : (b : Bool) (o : Unary) (x : Valued) → FF (VM x) (and_so (if_is b o) (λ op. value (monadic op at x)))
    when_self b o x = fit_and (VM x) (if_is b o) (λ op. value (monadic op at x)) (λ op k. fit_value (VM x) (monadic op at x) (monadic_follows P op at x))

    one_self : (map : Map) (f : Predeclared) (x : Valued) → FF (VM x) (fit_one map f at x)
    one_self map pre.Abs x = width_self map unary.Abs x
    one_self map pre.Cap x = when_self (is map basic.Char x) unary.Cap x
    one_self map pre.Chr x = when_self (is_integer map x) unary.Chr x
    one_self map pre.Long x =
        fit_and (VM x) (width_of map x) (λ w. and_so (longer w) (λ l. value (monadic (unary.Long l) at x))) λ w i.
        fit_and (VM x) (longer w) (λ l. value (monadic (unary.Long l) at x)) (λ l k. fit_value (VM x) (monadic (unary.Long l) at x) (monadic_follows P (unary.Long l) at x))
    one_self map pre.Short x =
        fit_and (VM x) (width_of map x) (λ w. and_so (shorter w) (λ l. value (monadic (unary.Short l) at x))) λ w i.
        fit_and (VM x) (shorter w) (λ l. value (monadic (unary.Short l) at x)) (λ l k. fit_value (VM x) (monadic (unary.Short l) at x) (monadic_follows P (unary.Short l) at x))
    one_self map pre.Odd x = when_self (is_integer map x) unary.Odd x
    one_self map pre.Ord x = when_self (is map basic.Char x) unary.Ord x
    one_self map pre.Len x = fit_and (VM x) (place_in x) (λ p. len_at map 0 p) (λ p i. weaker (PlaceIn P p) (VM x) (len_at map 0 p) (λ m. place_mentions x p i m) (len_self map 0 p))
    one_self map pre.Assert x = fit_if (VM x) (is map basic.Boolean x) (stmt.Assert (tree x) (pos 0) at) (λ m. tree_mentions P x (assert_mentions (tree x) (pos 0) at m))
    one_self map pre.Halt x = fit_halt x
      where
        constant_only : (x : Valued) (z : ℤ) → number_in (constant_in x) ≡ Some z → VM x
        constant_only (valued.Constant c) z k = tt
        constant_only (valued.Place p) z k = none_some k
        constant_only (valued.Node n) z k = none_some k

        fit_halt : (x : Valued) → FF (VM x) (and_so (number_in (constant_in x)) (λ z. does (stmt.Halt z at)))
        fit_halt x = fit_and (VM x) (number_in (constant_in x)) (λ z. does (stmt.Halt z at)) (λ z k. fit_does (VM x) (stmt.Halt z at) (λ m. constant_only x z k))
    one_self map pre.Inc x = weaker (VM x × Unit {0}) (VM x) (step map update.Inc at x one) (λ r. r.0) (step_self map update.Inc x one)
    one_self map pre.Dec x = weaker (VM x × Unit {0}) (VM x) (step map update.Dec at x one) (λ r. r.0) (step_self map update.Dec x one)
    one_self map pre.New x = new_one_self map x
    one_self map pre.Ash x = fit_none (VM x)
    one_self map pre.Max x = fit_none (VM x)
    one_self map pre.Min x = fit_none (VM x)
    one_self map pre.Copy x = fit_none (VM x)
    one_self map pre.Incl x = fit_none (VM x)
    one_self map pre.Excl x = fit_none (VM x)

    number_constant : (x : Valued) (z : ℤ) → number_in (constant_in x) ≡ Some z → VM x
    number_constant (valued.Constant c) z k = tt
    number_constant (valued.Place p) z k = none_some k
    number_constant (valued.Node n) z k = none_some k

    two_self : (map : Map) (f : Predeclared) (x n : Valued) → FF (VM x × VM n) (fit_two map f at x n)
    two_self map pre.Ash x n = fit_and (VM x × VM n) (if_is (is_integer map x && is_integer map n) binary.Ash) (λ op. value (dyadic op at x n)) (λ op k. fit_value (VM x × VM n) (dyadic op at x n) (dyadic_follows P op at x n))
    two_self map pre.Len x n =
        fit_and (VM x × VM n) (place_in x) (λ p. and_so (number_in (constant_in n)) (λ z. len_of map z p)) λ p i.
        fit_and (VM x × VM n) (number_in (constant_in n)) (λ z. len_of map z p) (λ z k. weaker (PlaceIn P p) (VM x × VM n) (len_of map z p) (λ m. (place_mentions x p i m, number_constant n z k)) (len_of_self map z p))
    two_self map pre.Assert x n =
        fit_and (VM x × VM n) (number_in (constant_in n)) (λ z. if_is (is map basic.Boolean x) (sound (means.Statement (record { inner = stmt.Assert (tree x) z at })))) λ z k.
        fit_if (VM x × VM n) (is map basic.Boolean x) (stmt.Assert (tree x) z at) (λ m. (tree_mentions P x (assert_mentions (tree x) z at m), number_constant n z k))
    two_self map pre.Inc x n = step_self map update.Inc x n
    two_self map pre.Dec x n = step_self map update.Dec x n
    two_self map pre.Incl x n = element_step_self map update.Incl x n
    two_self map pre.Excl x n = element_step_self map update.Excl x n
    two_self map pre.Copy x y =
        fit_and (VM x × VM y) (place_in y) (λ p. if_is (is_text map x && is_chars map y) (sound (means.Statement (record { inner = stmt.Copy (text_tree x) p.designator.inner at })))) λ p i.
        fit_if (VM x × VM y) (is_text map x && is_chars map y) (stmt.Copy (text_tree x) p.designator.inner at) (λ m. let r = copy_mentions (text_tree x) p.designator.inner at m in (text_tree_mentions P x r.0, place_mentions y p i r.1))
    two_self map pre.New x n = new_many_self map x n
    two_self map pre.Abs x n = fit_none (VM x × VM n)
    two_self map pre.Cap x n = fit_none (VM x × VM n)
    two_self map pre.Chr x n = fit_none (VM x × VM n)
    two_self map pre.Long x n = fit_none (VM x × VM n)
    two_self map pre.Short x n = fit_none (VM x × VM n)
    two_self map pre.Odd x n = fit_none (VM x × VM n)
    two_self map pre.Ord x n = fit_none (VM x × VM n)
    two_self map pre.Max x n = fit_none (VM x × VM n)
    two_self map pre.Min x n = fit_none (VM x × VM n)
    two_self map pre.Halt x n = fit_none (VM x × VM n)

    pub fit_self : (map : Map) (f : Predeclared) (xs : List Valued) → FF (AllByRecursion (ValuedIn P) xs) (fit map f at xs)
    fit_self map f [] = fit_none (Unit {0})
    fit_self map f (x ∷ []) = weaker (VM x) (VM x × Unit {0}) (fit_one map f at x) (λ m. (m, tt)) (one_self map f x)
    fit_self map f (x ∷ y ∷ []) = weaker (VM x × VM y) (VM x × (VM y × Unit {0})) (fit_two map f at x y) (λ m. (m.0, (m.1, tt))) (two_self map f x y)
    fit_self map f (x ∷ y ∷ z ∷ zs) = fit_none (AllByRecursion (ValuedIn P) (x ∷ y ∷ z ∷ zs))

  -- ---- what fits is the same

  module _ (f g : Map) (agree : Agree P f g) (at : Pos) where
    dimension_same : (n : ℕ) (t : TypeRef) → IsIn P t → dimension g n t ≡ dimension f n t
    dimension_same zero t h = array_same P f g agree t h
    dimension_same (suc n) t h = ap (λ o. and_so o (λ a. dimension g n a.1)) (array_same P f g agree t h) ∙ and_same (array_of f t) (λ a. dimension g n a.1) (λ a. dimension f n a.1) (λ a k. dimension_same n a.1 (elements_in P f g agree t a h k))

    len_same : (n : ℕ) (p : Place) → IsIn P p.of → len_at g n p ≡ len_at f n p
    len_same n p h = ap (λ o. and_so o (λ a. length_of a.0 (nat_eq n 0) p)) (dimension_same n p.of h)

    len_of_same : (z : ℤ) (p : Place) → IsIn P p.of → len_of g z p ≡ len_of f z p
    len_of_same (pos n) p h = len_same n p h
    len_of_same (negsuc n) p h = refl

    step_same : (o : Width → Update) (x n : Valued) → VK x → VK n → step g o at x n ≡ step f o at x n
    step_same o x n h k = two (λ w l. and_so (place_in x) (λ p. and_so w (λ w. and_so l (λ k. does (stmt.Update (o w) p.designator.inner (tree n) at))))) (width_same P f g agree x h) (width_same P f g agree n k)

    element_step_same : (o : Update) (x n : Valued) → VK x → VK n → element_step g o at x n ≡ element_step f o at x n
    element_step_same o x n h k = two (λ w b. and_so (place_in x) (λ p. and_so w (λ k. and_so (if_is b o) (λ o. does (stmt.Update o p.designator.inner (tree n) at))))) (width_same P f g agree n k) (is_same P f g agree basic.Set x h)

    based_same : (p : Place) (base : TypeRef) → IsIn P base → if_held (is_held g base) (new_fixed (record_of g base) (array_of g base) p base at) ≡ if_held (is_held f base) (new_fixed (record_of f base) (array_of f base) p base at)
    based_same p base h = three (λ b q a. if_held b (new_fixed q a p base at)) (held_same P f g agree base h) (record_same P f g agree base h) (array_same P f g agree base h)

    new_one_same : (x : Valued) → VK x → new_one g at x ≡ new_one f at x
    new_one_same x h =
        and_same (place_in x) (λ p. and_so (pointed g p.of) (λ base. if_held (is_held g base) (new_fixed (record_of g base) (array_of g base) p base at))) (λ p. and_so (pointed f p.of) (λ base. if_held (is_held f base) (new_fixed (record_of f base) (array_of f base) p base at))) λ p i.
        ap (λ o. and_so o (λ base. if_held (is_held g base) (new_fixed (record_of g base) (array_of g base) p base at))) (pointed_same P f g agree p.of (place_kind x p i h))
        ∙ and_same (pointed f p.of) (λ base. if_held (is_held g base) (new_fixed (record_of g base) (array_of g base) p base at)) (λ base. if_held (is_held f base) (new_fixed (record_of f base) (array_of f base) p base at)) (λ base k. based_same p base (pointed_in P f g agree p.of base (place_kind x p i h) k))

    many_same : (p : Place) (n : Valued) (base : TypeRef) → IsIn P base → if_held (is_held g base) (and_so (array_of g base) (λ a. new_elements a.0 a.1 p n at)) ≡ if_held (is_held f base) (and_so (array_of f base) (λ a. new_elements a.0 a.1 p n at))
    many_same p n base h = two (λ b o. if_held b (and_so o (λ a. new_elements a.0 a.1 p n at))) (held_same P f g agree base h) (array_same P f g agree base h)

    new_many_same : (x n : Valued) → VK x → VK n → new_many g at x n ≡ new_many f at x n
    new_many_same x n h l =
        and_same (place_in x) (λ p. and_so (width_of g n) (λ w. and_so (pointed g p.of) (λ base. if_held (is_held g base) (and_so (array_of g base) (λ a. new_elements a.0 a.1 p n at))))) (λ p. and_so (width_of f n) (λ w. and_so (pointed f p.of) (λ base. if_held (is_held f base) (and_so (array_of f base) (λ a. new_elements a.0 a.1 p n at))))) λ p i.
        two (λ w o. and_so w (λ w. o)) (width_same P f g agree n l)
        (ap (λ o. and_so o (λ base. if_held (is_held g base) (and_so (array_of g base) (λ a. new_elements a.0 a.1 p n at)))) (pointed_same P f g agree p.of (place_kind x p i h))
        ∙ and_same (pointed f p.of) (λ base. if_held (is_held g base) (and_so (array_of g base) (λ a. new_elements a.0 a.1 p n at))) (λ base. if_held (is_held f base) (and_so (array_of f base) (λ a. new_elements a.0 a.1 p n at))) (λ base k. many_same p n base (pointed_in P f g agree p.of base (place_kind x p i h) k)))

    one_same : (o : Predeclared) (x : Valued) → VK x → fit_one g o at x ≡ fit_one f o at x
    one_same pre.Abs x h = ap (λ o. and_so o (λ w. value (monadic (unary.Abs w) at x))) (width_same P f g agree x h)
    one_same pre.Cap x h = ap (λ b. and_so (if_is b unary.Cap) (λ op. value (monadic op at x))) (is_same P f g agree basic.Char x h)
    one_same pre.Chr x h = ap (λ b. and_so (if_is b unary.Chr) (λ op. value (monadic op at x))) (integer_same P f g agree x h)
    one_same pre.Long x h = ap (λ o. and_so o (λ w. and_so (longer w) (λ l. value (monadic (unary.Long l) at x)))) (width_same P f g agree x h)
    one_same pre.Short x h = ap (λ o. and_so o (λ w. and_so (shorter w) (λ l. value (monadic (unary.Short l) at x)))) (width_same P f g agree x h)
    one_same pre.Odd x h = ap (λ b. and_so (if_is b unary.Odd) (λ op. value (monadic op at x))) (integer_same P f g agree x h)
    one_same pre.Ord x h = ap (λ b. and_so (if_is b unary.Ord) (λ op. value (monadic op at x))) (is_same P f g agree basic.Char x h)
    one_same pre.Len x h = and_same (place_in x) (λ p. len_at g 0 p) (λ p. len_at f 0 p) (λ p i. len_same 0 p (place_kind x p i h))
    one_same pre.Assert x h = ap (λ b. if_is b (sound (means.Statement (record { inner = stmt.Assert (tree x) (pos 0) at })))) (is_same P f g agree basic.Boolean x h)
    one_same pre.Halt x h = refl
    one_same pre.Inc x h = step_same update.Inc x one h tt
    one_same pre.Dec x h = step_same update.Dec x one h tt
    one_same pre.New x h = new_one_same x h
    one_same pre.Ash x h = refl
    one_same pre.Max x h = refl
    one_same pre.Min x h = refl
    one_same pre.Copy x h = refl
    one_same pre.Incl x h = refl
    one_same pre.Excl x h = refl

    two_same : (o : Predeclared) (x n : Valued) → VK x → VK n → fit_two g o at x n ≡ fit_two f o at x n
    two_same pre.Ash x n h k = two (λ a b. and_so (if_is (a && b) binary.Ash) (λ op. value (dyadic op at x n))) (integer_same P f g agree x h) (integer_same P f g agree n k)
    two_same pre.Len x n h k = and_same (place_in x) (λ p. and_so (number_in (constant_in n)) (λ z. len_of g z p)) (λ p. and_so (number_in (constant_in n)) (λ z. len_of f z p)) (λ p i. and_same (number_in (constant_in n)) (λ z. len_of g z p) (λ z. len_of f z p) (λ z l. len_of_same z p (place_kind x p i h)))
    two_same pre.Assert x n h k = ap (λ b. and_so (number_in (constant_in n)) (λ z. if_is b (sound (means.Statement (record { inner = stmt.Assert (tree x) z at }))))) (is_same P f g agree basic.Boolean x h)
    two_same pre.Inc x n h k = step_same update.Inc x n h k
    two_same pre.Dec x n h k = step_same update.Dec x n h k
    two_same pre.Incl x n h k = element_step_same update.Incl x n h k
    two_same pre.Excl x n h k = element_step_same update.Excl x n h k
    two_same pre.Copy x y h k = two (λ a b. and_so (place_in y) (λ p. if_is ((a || is_some (text_of x)) && b) (sound (means.Statement (record { inner = stmt.Copy (text_tree x) p.designator.inner at }))))) (chars_same P f g agree x h) (chars_same P f g agree y k)
    two_same pre.New x n h k = new_many_same x n h k
    two_same pre.Abs x n h k = refl
    two_same pre.Cap x n h k = refl
    two_same pre.Chr x n h k = refl
    two_same pre.Long x n h k = refl
    two_same pre.Short x n h k = refl
    two_same pre.Odd x n h k = refl
    two_same pre.Ord x n h k = refl
    two_same pre.Max x n h k = refl
    two_same pre.Min x n h k = refl
    two_same pre.Halt x n h k = refl

    pub fit_same : (o : Predeclared) (xs : List Valued) → AllByRecursion (λ x. KindIn P (type x)) xs → fit g o at xs ≡ fit f o at xs
    fit_same o [] h = refl
    fit_same o (x ∷ []) h = one_same o x h.0
    fit_same o (x ∷ y ∷ []) h = two_same o x y h.0 h.1.0
    fit_same o (x ∷ y ∷ z ∷ zs) h = refl
