-- Actual parameters, with other interfaces around.
use Rattle.std.proofs.Common.{◌≡◌, refl, sym, ap, ◌∙◌, subst, List, [], ◌∷◌, Option, Some, None, Bool, true, false, not}
use Rattle.std.specs.Prelude.{◌&&◌, ◌||◌, is_some}
use Rattle.std.specs.List.{AllByRecursion}
use Rattle.ob_tree.specs.declared.pos.Pos.{Pos}
use Rattle.ob_tree.specs.declared.names.QName.{QName}
use Rattle.ob_tree.specs.declared.ident.Qualident.{Qualident}
use Rattle.ob_types.specs.declared.types.Basic.TheVariants as basic
use Rattle.ob_types.specs.declared.types.Mode.{Mode}
use Rattle.ob_types.specs.declared.types.Mode.TheVariants as mode
use Rattle.ob_types.specs.declared.types.TypeRef.{TypeRef}
use Rattle.ob_types.specs.declared.types.TypeRef.TheVariants as ref
use Rattle.ob_types.specs.declared.desc.Desc.{Desc}
use Rattle.ob_types.specs.declared.typed.Passing.{Passing}
use Rattle.ob_types.specs.declared.typed.Actual.{Actual}
use Rattle.ob_types.specs.declared.typed.Designator.TheFolds.{fold-roll-Actual}
use Rattle.ob_types.specs.declared.typed.TypedExpr.{TypedExpr}
use Rattle.ob_types.specs.declared.typed.TypedExpr.TheVariants as e
use Rattle.ob_types.specs.TypedSyntax.{Desig, Expr}
use Rattle.ob_types.specs.TypedView.{OneActual, designator_layer, expr_layer, actual_layer, expr_view, actual_view, actuals_view}
use Rattle.ob_uses_roots.specs.Counts.{counts_of_expr, counts_of_actuals, formals}
use Rattle.ob_rules.specs.declared.meant.Meant.{Meant}
use Rattle.ob_rules.specs.declared.meant.Meant.TheVariants as means
use Rattle.ob_rules.specs.declared.values.Place.{Place}
use Rattle.ob_rules.specs.declared.values.Valued.{Valued}
use Rattle.ob_rules.specs.declared.broken.Rule.TheVariants as rule
use Rattle.ob_rules.specs.declared.broken.Rule.{Rule}
use Rattle.ob_rules.specs.Judged.{Judged, sound, breaks, also, wants}
use Rattle.ob_rules.specs.Shapes.{Map, open_at, open_element, passing_of, record_of, is_array}
use Rattle.ob_rules.specs.Names.{Around, map_of}
use Rattle.ob_rules.specs.Values.{text_of, type_in, type}
use Rattle.ob_rules.specs.Phrases.{Phrase}
use Rattle.ob_rules.specs.Designators.{is_one_type}
use Rattle.ob_rules.specs.Calls.{actual_of, both_records, takes_variable, unless_guarded, unless_read_only, variable_actual, meant_actual, var_actual, array_takes, takes_value, tree_for, value_actual, actual}
use Rattle.law_local_judged.specs.Agreement.{IsIn, Agree}
use Rattle.law_local_judged.specs.Said.{KindIn, CountsIn, ExprIn, SaidIn, PlaceIn, ValuedIn, ValuedTied, PlaceTied, MeantIn, MeantTied, ActualIn}
use Rattle.law_local_judged.specs.Followed.{beside, Agrees, Follows}
use Rattle.law_local_judged.proofs.Tests.{two, shape_same, open_element_in, same_same, record_same, record_in, extends_same, passing_same, is_array_same}
use Rattle.law_local_judged.proofs.Following.{follows_none, follows_sound, follows_to, follows_wants, follows_also, follows_then, follows_weaker, none_then, then_node, front_said}
use Rattle.law_local_judged.proofs.Mentioned.{counts_left, counts_right, value_of_mentions, tree_mentions, text_tree_mentions}
use Rattle.law_local_judged.proofs.Names.{maps_agree}
use Rattle.law_local_judged.proofs.Values.{three, elements_same, fits_same, type_in_in}
use Rattle.law_lists.proofs.Lists.{none_some}

actual_seen : (how : Passing) (t : TypeRef) (x : TypedExpr) → actual_view (actual_of how t x) ≡ record { passing = how; formal = t; e = expr_view x }
actual_seen how t x = fold-roll-Actual Desig Expr OneActual designator_layer expr_layer actual_layer (record { passing = how; formal = t; value = x })

module _ (P : QName → Type 0) where
  abbrev OneIn : OneActual → Type 0
  OneIn x = IsIn P x.formal × CountsIn P (counts_of_expr x.e)

  pub actual_mentions : (how : Passing) (t : TypeRef) (x : TypedExpr) → ActualIn P (actual_of how t x) → IsIn P t × ExprIn P x
  actual_mentions how t x h = subst OneIn (actual_seen how t x) h

  pub actual_expr : (how : Passing) (t : TypeRef) (x : TypedExpr) → CountsIn P (counts_of_expr (actual_view (actual_of how t x)).e) → ExprIn P x
  actual_expr how t x h = subst (λ (y : OneActual). CountsIn P (counts_of_expr y.e)) (actual_seen how t x) h

  pub actuals_mention : (xs : List Actual) → CountsIn P (counts_of_actuals (actuals_view xs)) → CountsIn P (formals (actuals_view xs)) → AllByRecursion (ActualIn P) xs
  actuals_mention [] h k = tt
  actuals_mention (x ∷ xs) h k =
      ((k.0, counts_left P (counts_of_expr (actual_view x).e) (counts_of_actuals (actuals_view xs)) h), actuals_mention xs (counts_right P (counts_of_expr (actual_view x).e) (counts_of_actuals (actuals_view xs)) h) k.1)

  abbrev AF : Type 0 → Judged Actual → Judged Actual → Type 0
  AF R i j = Follows P (λ x. Unit {0}) (ActualIn P) R i j

  actual_breaks : (R : Type 0) (which : Rule) (at : Pos) (j : Judged Actual) → AF R (breaks which at) j
  actual_breaks R which at j = follows_none P (λ x. Unit {0}) (ActualIn P) R (breaks which at) j refl

  module _ (f g : Map) (agree : Agree P f g) where
    open_same : (t : TypeRef) → IsIn P t → open_element g t ≡ open_element f t
    open_same t h = ap (λ o. open_at o) (shape_same P f g agree t h)

    -- ---- by value

    array_takes_same : (t : TypeRef) (o : Option TypeRef) → IsIn P t → ((u : TypeRef) → o ≡ Some u → IsIn P u) → array_takes g t o ≡ array_takes f t o
    array_takes_same t None i h = refl
    array_takes_same t (Some u) i h = elements_same P f g agree t u i (h u refl)

    takes_by_same : (o : Option TypeRef) (t : TypeRef) (x : Valued) → ((u : TypeRef) → o ≡ Some u → IsIn P u) → IsIn P t → KindIn P (type x) → takes_value g o t x ≡ takes_value f o t x
    takes_by_same None t x h i k = fits_same P f g agree t x i k
    takes_by_same (Some u) t x h i k =
        two (λ a b. a || (b && is_some (text_of x))) (array_takes_same u (type_in (type x)) (h u refl) (λ w e. type_in_in P f g agree (type x) w k e)) (same_same P f g agree u (ref.Basic basic.Char) (h u refl) tt)

    takes_value_same : (t : TypeRef) (x : Valued) → IsIn P t → KindIn P (type x) → takes_value g (open_element g t) t x ≡ takes_value f (open_element f t) t x
    takes_value_same t x i k = ap (λ o. takes_value g o t x) (open_same t i) ∙ takes_by_same (open_element f t) t x (λ u e. open_element_in P f g agree t u i e) i k

    value_actual_same : (t : TypeRef) (start : Pos) (x : Valued) → IsIn P t → KindIn P (type x) → value_actual g t start x ≡ value_actual f t start x
    value_actual_same t start x i k =
        three (λ b how a. wants b rule.UnfitParameter start (actual_of how t (tree_for a x))) (takes_value_same t x i k) (passing_same P f g agree mode.Value t i) (is_array_same P f g agree t i)

    tree_for_mentions : (b : Bool) (x : Valued) → ExprIn P (tree_for b x) → ValuedIn P x
    tree_for_mentions true x h = text_tree_mentions P x h
    tree_for_mentions false x h = tree_mentions P x h

    pub value_actual_follows : (t : TypeRef) (start : Pos) (x : Valued) → ValuedTied P x → AF (ValuedIn P x) (value_actual f t start x) (value_actual g t start x)
    value_actual_follows t start x tied =
        follows_weaker P (λ x. Unit {0}) (ActualIn P) (IsIn P t × ValuedIn P x) (ValuedIn P x) (value_actual f t start x) (value_actual g t start x) (λ r. r.1)
        (follows_to P (λ x. Unit {0}) (ActualIn P) (IsIn P t × ValuedIn P x) (value_actual f t start x) (value_actual g t start x)
        (follows_wants P (λ x. Unit {0}) (ActualIn P) (IsIn P t × ValuedIn P x) (takes_value f (open_element f t) t x) (takes_value f (open_element f t) t x) rule.UnfitParameter start (actual_of (passing_of f mode.Value t) t (tree_for (is_array f t) x)) tt
        (λ m. let k = actual_mentions (passing_of f mode.Value t) t (tree_for (is_array f t) x) m in (k.0, tree_for_mentions (is_array f t) x k.1)) (λ r. refl))
        (λ r. value_actual_same t start x r.0 (tied r.1)))

    -- ---- as VAR

    both_same : (o p : Option QName) → ((q : QName) → o ≡ Some q → P q) → ((q : QName) → p ≡ Some q → P q) → both_records g o p ≡ both_records f o p
    both_same None p h k = refl
    both_same (Some a) None h k = refl
    both_same (Some a) (Some b) h k = extends_same P f g agree (ref.Named a) (ref.Named b) (h a refl) (k b refl)

    records_same : (t u : TypeRef) → IsIn P t → IsIn P u → both_records g (record_of g t) (record_of g u) ≡ both_records f (record_of f t) (record_of f u)
    records_same t u i k = two (both_records g) (record_same P f g agree t i) (record_same P f g agree u k) ∙ both_same (record_of f t) (record_of f u) (λ q e. record_in P f g agree t q i e) (λ q e. record_in P f g agree u q k e)

    takes_variable_by : (o : Option TypeRef) (t u : TypeRef) → ((w : TypeRef) → o ≡ Some w → IsIn P w) → IsIn P t → IsIn P u → takes_variable g o t u ≡ takes_variable f o t u
    takes_variable_by None t u h i k = two (λ a b. a || b) (same_same P f g agree u t k i) (records_same u t k i)
    takes_variable_by (Some w) t u h i k = elements_same P f g agree w u (h w refl) k

    takes_variable_same : (t u : TypeRef) → IsIn P t → IsIn P u → takes_variable g (open_element g t) t u ≡ takes_variable f (open_element f t) t u
    takes_variable_same t u i k = ap (λ o. takes_variable g o t u) (open_same t i) ∙ takes_variable_by (open_element f t) t u (λ w e. open_element_in P f g agree t w i e) i k

    variable_actual_same : (t : TypeRef) (start : Pos) (p : Place) → IsIn P t → IsIn P p.of → variable_actual g t start p ≡ variable_actual f t start p
    variable_actual_same t start p i k =
        two (λ b how. also (not b) rule.UnfitParameter start (also p.read_only rule.NotChangeable start (also p.guarded rule.GuardedVarParameter start (sound (actual_of how t (e.Designator p.designator.inner))))))
        (takes_variable_same t p.of i k) (passing_same P f g agree mode.Var t i)

    abbrev VR : TypeRef → Place → Type 0
    VR t p = IsIn P t × PlaceIn P p

    also_self : (R : Type 0) (b : Bool) (which : Rule) (at : Pos) (i : Judged Actual) → AF R i i → AF R (also b which at i) (also b which at i)
    also_self R b which at i h = follows_also P (λ x. Unit {0}) (ActualIn P) R b b which at i i h (λ r. refl)

    variable_actual_follows : (t : TypeRef) (start : Pos) (p : Place) → PlaceTied P p → AF (PlaceIn P p) (variable_actual f t start p) (variable_actual g t start p)
    variable_actual_follows t start p tied =
        follows_weaker P (λ x. Unit {0}) (ActualIn P) (VR t p) (PlaceIn P p) (variable_actual f t start p) (variable_actual g t start p) (λ r. r.1)
        (follows_to P (λ x. Unit {0}) (ActualIn P) (VR t p) (variable_actual f t start p) (variable_actual g t start p)
        (also_self (VR t p) (not (takes_variable f (open_element f t) t p.of)) rule.UnfitParameter start (unless_read_only f t start p)
        (also_self (VR t p) p.read_only rule.NotChangeable start (unless_guarded f t start p)
        (also_self (VR t p) p.guarded rule.GuardedVarParameter start (sound (actual_of (passing_of f mode.Var t) t (e.Designator p.designator.inner)))
        (follows_sound P (λ x. Unit {0}) (ActualIn P) (VR t p) (actual_of (passing_of f mode.Var t) t (e.Designator p.designator.inner)) tt
        (λ m. let k = actual_mentions (passing_of f mode.Var t) t (e.Designator p.designator.inner) m in (k.0, value_of_mentions P p.designator.inner k.1))))))
        (λ r. variable_actual_same t start p r.0 (tied r.1)))

    pub meant_actual_follows : (t : TypeRef) (start : Pos) (m : Meant) → MeantTied P m → AF (MeantIn P m) (meant_actual f t start m) (meant_actual g t start m)
    meant_actual_follows t start (means.Place p) h = variable_actual_follows t start p h
    meant_actual_follows t start (means.Call x) h = actual_breaks (MeantIn P (means.Call x)) rule.UnfitParameter start (breaks rule.UnfitParameter start)
    meant_actual_follows t start (means.Constant c) h = actual_breaks (Unit {0}) rule.NotChangeable start (breaks rule.NotChangeable start)
    meant_actual_follows t start (means.Procedure q s) h = actual_breaks (Unit {0}) rule.NotChangeable start (breaks rule.NotChangeable start)
    meant_actual_follows t start (means.Bound c) h = actual_breaks (MeantIn P (means.Bound c)) rule.NotChangeable start (breaks rule.NotChangeable start)
    meant_actual_follows t start (means.Out p) h = actual_breaks (Unit {0}) rule.NotChangeable start (breaks rule.NotChangeable start)
    meant_actual_follows t start (means.Predeclared p) h = actual_breaks (Unit {0}) rule.NotChangeable start (breaks rule.NotChangeable start)
    meant_actual_follows t start (means.Statement s) h = actual_breaks (MeantIn P (means.Statement s)) rule.NotChangeable start (breaks rule.NotChangeable start)

  -- ---- phrases

  module _ (u : Around) (s : QName → Option Desc) (a : Agrees P u s) where
    abbrev v : Around
    v = beside u s

    -- whether it is one name of a type is told the same
    abbrev pub NameSame : Option Qualident → Type 0
    NameSame o = is_one_type v o ≡ is_one_type u o

    abbrev pub MeantFollows : Option (Around → Judged Meant) → Type 0
    MeantFollows None = Unit {0}
    MeantFollows (Some h) = Follows P (MeantTied P) (MeantIn P) (Unit {0}) (h u) (h v)

    abbrev pub MeantNamed : Option Qualident → Option (Around → Judged Meant) → Type 0
    MeantNamed o None = Unit {0}
    MeantNamed o (Some h) = (m : Meant) → (h u).node ≡ Some m → SaidIn P (h u).notes → NameSame o

    -- AN EXPRESSION BEFORE IT IS JUDGED: its value and what it comes to as a designator follow
    pub record PhraseFollows (p : Phrase) : Type 0 where
      pub value : Follows P (ValuedTied P) (ValuedIn P) (Unit {0}) (p.value u) (p.value v)
      pub meant : MeantFollows p.meant
      pub named : (x : Valued) → (p.value u).node ≡ Some x → SaidIn P (p.value u).notes → NameSame p.name
      pub meant_named : MeantNamed p.name p.meant

    abbrev pub PhrasesFollow : List Phrase → Type 0
    PhrasesFollow ps = AllByRecursion PhraseFollows ps

    abbrev maps : Agree P (map_of u) (map_of v)
    maps = maps_agree P u s a

    var_follows : (t : TypeRef) (p : Phrase) (o : Option (Around → Judged Meant)) → MeantFollows o → AF (Unit {0}) (var_actual u t p o) (var_actual v t p o)
    var_follows t p None h = follows_none P (λ x. Unit {0}) (ActualIn P) (Unit {0}) (var_actual u t p None) (var_actual v t p None) (none_then (p.value u) (λ x. breaks rule.UnfitParameter p.start) (λ x. refl))
    var_follows t p (Some w) h =
        follows_then P (MeantTied P) (MeantIn P) (λ x. Unit {0}) (ActualIn P) (Unit {0}) (w u) (w v) (meant_actual (map_of u) t p.start) (meant_actual (map_of v) t p.start) h
        (λ m k. meant_actual_follows (map_of u) (map_of v) maps t p.start m k)

    pub actual_follows : (m : Mode) (t : TypeRef) (p : Phrase) → PhraseFollows p → AF (Unit {0}) (actual u m t p) (actual v m t p)
    actual_follows mode.Var t p h = var_follows t p p.meant h.meant
    actual_follows mode.Value t p h =
        follows_then P (ValuedTied P) (ValuedIn P) (λ x. Unit {0}) (ActualIn P) (Unit {0}) (p.value u) (p.value v) (value_actual (map_of u) t p.start) (value_actual (map_of v) t p.start) h.value
        (λ x k. value_actual_follows (map_of u) (map_of v) maps t p.start x k)

    var_named : (t : TypeRef) (p : Phrase) (o : Option (Around → Judged Meant)) → MeantNamed p.name o → (x : Actual) → (var_actual u t p o).node ≡ Some x → SaidIn P (var_actual u t p o).notes → NameSame p.name
    var_named t p None h x e said = none_some (sym (none_then (p.value u) (λ x. breaks rule.UnfitParameter p.start) (λ x. refl)) ∙ e)
    var_named t p (Some w) h x e said =
        let n = then_node (w u) (meant_actual (map_of u) t p.start) x e in
        h n.0 n.1 (front_said P (w u) (meant_actual (map_of u) t p.start) said)

    -- an actual parameter that is judged tells whether it is a type's name
    pub actual_named : (m : Mode) (t : TypeRef) (p : Phrase) → PhraseFollows p → (x : Actual) → (actual u m t p).node ≡ Some x → SaidIn P (actual u m t p).notes → NameSame p.name
    actual_named mode.Var t p h x e said = var_named t p p.meant h.meant_named x e said
    actual_named mode.Value t p h x e said =
        let n = then_node (p.value u) (value_actual (map_of u) t p.start) x e in
        h.named n.0 n.1 (front_said P (p.value u) (value_actual (map_of u) t p.start) said)
