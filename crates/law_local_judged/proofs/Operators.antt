-- Operators over values, with other interfaces around.
use Rattle.std.proofs.Common.{◌≡◌, refl, sym, subst, List, [], ◌∷◌, Option, Some, None, Bool, true, false}
use Rattle.std.specs.Prelude.{◌&&◌}
use Rattle.std.specs.List.{AllByRecursion}
use Rattle.ob_tree.specs.declared.pos.Pos.{Pos}
use Rattle.ob_tree.specs.declared.names.QName.{QName}
use Rattle.ob_tree.specs.declared.expr.Operator.{Operator}
use Rattle.ob_tree.specs.declared.expr.Operator.TheVariants as op
use Rattle.ob_tree.specs.declared.expr.Relation.{Relation}
use Rattle.ob_tree.specs.declared.expr.Sign.{Sign}
use Rattle.ob_tree.specs.declared.expr.Sign.TheVariants as sign
use Rattle.ob_types.specs.declared.types.Basic.TheVariants as basic
use Rattle.ob_types.specs.declared.value.Value.{Value}
use Rattle.ob_types.specs.declared.value.Value.TheVariants as literal
use Rattle.ob_types.specs.declared.typed.Width.{Width}
use Rattle.ob_types.specs.declared.typed.Unary.{Unary}
use Rattle.ob_types.specs.declared.typed.Unary.TheVariants as unary
use Rattle.ob_types.specs.declared.typed.Binary.{Binary}
use Rattle.ob_types.specs.declared.typed.Binary.TheVariants as binary
use Rattle.ob_types.specs.declared.typed.Connective.{Connective}
use Rattle.ob_types.specs.declared.typed.Connective.TheVariants as connective
use Rattle.ob_types.specs.declared.typed.Comparison.{Comparison}
use Rattle.ob_types.specs.declared.typed.Compared.{Compared}
use Rattle.ob_types.specs.declared.typed.TypedExpr.{TypedExpr}
use Rattle.ob_types.specs.declared.typed.TypedExpr.TheVariants as e
use Rattle.ob_types.specs.TypedKinds.{of_basic, unary_type, binary_type}
use Rattle.ob_rules.specs.declared.meant.ElementOf.{ElementOf}
use Rattle.ob_rules.specs.declared.values.Valued.{Valued}
use Rattle.ob_rules.specs.declared.values.Valued.TheVariants as valued
use Rattle.ob_rules.specs.declared.broken.Rule.TheVariants as rule
use Rattle.ob_rules.specs.declared.broken.Rule.{Rule}
use Rattle.ob_rules.specs.Judged.{Judged, sound, breaks, both, each_sound}
use Rattle.ob_rules.specs.Shapes.{Map}
use Rattle.ob_rules.specs.Constants.{fold_one, fold_two, fold_texts, fold_logical}
use Rattle.ob_rules.specs.Values.{constant, computed, is, width, is_integer, tree, text_tree, constant_in}
use Rattle.ob_rules.specs.Operators.{folded, monadic, two_of, dyadic, logical, texts, if_fit, are, binary_of, connected, combined, negated, opposite, only_value, signed_as, signed, comparison_of, is_equality, is_text, compared_as, compare_as, contained, compare, related, element_as, element_folded, single, ranged, if_integer, if_integers, element, union_of, and_so, all_constant, set_from, set_of}
use Rattle.law_local_judged.specs.Agreement.{Agree}
use Rattle.law_local_judged.specs.Said.{ExprIn, ValuedIn, ValuedTied, ElementIn, ElementBy}
use Rattle.law_local_judged.specs.Followed.{Follows}
use Rattle.law_local_judged.proofs.Following.{follows_none, follows_sound, follows_to, follows_made, follows_both, Both}
use Rattle.law_local_judged.proofs.Mentioned.{unary_mentions, binary_mentions, logical_mentions, texts_mention, value_of_mentions, tree_mentions, text_tree_mentions, constant_kind, unary_kind, binary_kind}
use Rattle.law_local_judged.proofs.Values.{combined_same, opposite_same, signed_same, related_same, element_same}
use Rattle.law_lists.proofs.Lists.{none_some}

module _ (P : QName → Type 0) where
  abbrev VT : Valued → Type 0
  VT x = ValuedTied P x

  abbrev VM : Valued → Type 0
  VM x = ValuedIn P x

  abbrev VF : Type 0 → Judged Valued → Judged Valued → Type 0
  VF R i j = Follows P (ValuedTied P) (ValuedIn P) R i j

  pub breaks_follows : (R : Type 0) (which : Rule) (at : Pos) (j : Judged Valued) → VF R (breaks which at) j
  breaks_follows R which at j = follows_none P (ValuedTied P) (ValuedIn P) R (breaks which at) j refl

  pub constant_follows : (R : Type 0) (c : Value) → R → VF R (sound (constant c)) (sound (constant c))
  constant_follows R c r = follows_sound P (ValuedTied P) (ValuedIn P) R (constant c) (λ m. constant_kind P c) (λ m. r)

  folded_follows : (R : Type 0) (at : Pos) (o : Option Value) → R → VF R (folded at o) (folded at o)
  folded_follows R at None r = breaks_follows R rule.ConstantOutOfRange at (breaks rule.ConstantOutOfRange at)
  folded_follows R at (Some c) r = constant_follows R c r

  pub monadic_follows : (op : Unary) (at : Pos) (x : Valued) → VF (VM x) (monadic op at x) (monadic op at x)
  monadic_follows op at (valued.Constant c) = folded_follows (Unit {0}) at (fold_one op c) tt
  monadic_follows op at (valued.Place p) = follows_sound P (ValuedTied P) (ValuedIn P) (VM (valued.Place p)) (computed (e.Unary op (tree (valued.Place p)) at) (unary_type op)) (λ m. unary_kind P op) (λ m. tree_mentions P (valued.Place p) (unary_mentions P op (tree (valued.Place p)) at m))
  monadic_follows op at (valued.Node n) = follows_sound P (ValuedTied P) (ValuedIn P) (VM (valued.Node n)) (computed (e.Unary op (tree (valued.Node n)) at) (unary_type op)) (λ m. unary_kind P op) (λ m. tree_mentions P (valued.Node n) (unary_mentions P op (tree (valued.Node n)) at m))

  two_follows : (F : Value → Value → Option Value) (at : Pos) (a b x : Valued) → VT x → (VM x → VM a × VM b) → VF (VM a × VM b) (two_of F at (constant_in a) (constant_in b) x) (two_of F at (constant_in a) (constant_in b) x)
  two_follows F at (valued.Constant c) (valued.Constant k) x t m = folded_follows (Unit {0} × Unit {0}) at (F c k) (tt, tt)
  two_follows F at (valued.Constant c) (valued.Place q) x t m = follows_sound P (ValuedTied P) (ValuedIn P) (VM (valued.Constant c) × VM (valued.Place q)) x t m
  two_follows F at (valued.Constant c) (valued.Node q) x t m = follows_sound P (ValuedTied P) (ValuedIn P) (VM (valued.Constant c) × VM (valued.Node q)) x t m
  two_follows F at (valued.Place p) b x t m = follows_sound P (ValuedTied P) (ValuedIn P) (VM (valued.Place p) × VM b) x t m
  two_follows F at (valued.Node p) b x t m = follows_sound P (ValuedTied P) (ValuedIn P) (VM (valued.Node p) × VM b) x t m

  both_trees : (a b : Valued) → ExprIn P (tree a) × ExprIn P (tree b) → VM a × VM b
  both_trees a b k = (tree_mentions P a k.0, tree_mentions P b k.1)

  pub dyadic_follows : (op : Binary) (at : Pos) (a b : Valued) → VF (VM a × VM b) (dyadic op at a b) (dyadic op at a b)
  dyadic_follows op at a b = two_follows (fold_two op) at a b (computed (e.Binary op (tree a) (tree b) at) (binary_type op)) (λ m. binary_kind P op) (λ m. both_trees a b (binary_mentions P op (tree a) (tree b) at m))

  logical_follows : (op : Connective) (at : Pos) (a b : Valued) → VF (VM a × VM b) (logical op at a b) (logical op at a b)
  logical_follows op at a b = two_follows (fold_logical op) at a b (computed (e.Logical op (tree a) (tree b)) (of_basic basic.Boolean)) (λ m. tt) (λ m. both_trees a b (logical_mentions P op (tree a) (tree b) m))

  texts_follow : (r : Comparison) (at : Pos) (a b : Valued) → VF (VM a × VM b) (texts r at a b) (texts r at a b)
  texts_follow r at a b = two_follows (fold_texts r) at a b (computed (e.CompareTexts r (text_tree a) (text_tree b) at) (of_basic basic.Boolean)) (λ m. tt) (λ m. let k = texts_mention P r (text_tree a) (text_tree b) at m in (text_tree_mentions P a k.0, text_tree_mentions P b k.1))

  connected_follows : (t : Bool) (op : Connective) (at : Pos) (a b : Valued) → VF (VM a × VM b) (connected t op at a b) (connected t op at a b)
  connected_follows true op at a b = logical_follows op at a b
  connected_follows false op at a b = breaks_follows (VM a × VM b) rule.UnfitOperands at (breaks rule.UnfitOperands at)

  fit_follows : (o : Option Binary) (at : Pos) (a b : Valued) → VF (VM a × VM b) (if_fit o at (λ o. dyadic o at a b)) (if_fit o at (λ o. dyadic o at a b))
  fit_follows None at a b = breaks_follows (VM a × VM b) rule.UnfitOperands at (breaks rule.UnfitOperands at)
  fit_follows (Some o) at a b = dyadic_follows o at a b

  combined_self : (map : Map) (o : Operator) (at : Pos) (a b : Valued) → VF (VM a × VM b) (combined map o at a b) (combined map o at a b)
  combined_self map op.Or at a b = connected_follows (are map basic.Boolean a b) connective.Or at a b
  combined_self map op.And at a b = connected_follows (are map basic.Boolean a b) connective.And at a b
  combined_self map op.Add at a b = fit_follows (binary_of map op.Add a b) at a b
  combined_self map op.Subtract at a b = fit_follows (binary_of map op.Subtract a b) at a b
  combined_self map op.Multiply at a b = fit_follows (binary_of map op.Multiply a b) at a b
  combined_self map op.Divide at a b = fit_follows (binary_of map op.Divide a b) at a b
  combined_self map op.Quotient at a b = fit_follows (binary_of map op.Quotient a b) at a b
  combined_self map op.Remainder at a b = fit_follows (binary_of map op.Remainder a b) at a b

  negated_follows : (t : Bool) (at : Pos) (x : Valued) → VF (VM x) (negated t at x) (negated t at x)
  negated_follows true at x = monadic_follows unary.Not at x
  negated_follows false at x = breaks_follows (VM x) rule.UnfitOperands at (breaks rule.UnfitOperands at)

  pub only_tied : (x : Valued) → VT x → VT (only_value x)
  only_tied (valued.Constant c) t = t
  only_tied (valued.Place p) t = λ m. t (value_of_mentions P p.designator.inner m)
  only_tied (valued.Node n) t = t

  pub only_mentions : (x : Valued) → VM (only_value x) → VM x
  only_mentions (valued.Constant c) m = tt
  only_mentions (valued.Place p) m = value_of_mentions P p.designator.inner m
  only_mentions (valued.Node n) m = m

  signed_self : (s : Sign) (o : Option Width) (t : Bool) (at : Pos) (x : Valued) → VT x → VF (VM x) (signed_as s o t at x) (signed_as s o t at x)
  signed_self sign.Plus (Some w) t at x h = follows_sound P (ValuedTied P) (ValuedIn P) (VM x) (only_value x) (only_tied x h) (λ m. only_mentions x m)
  signed_self sign.Plus None t at x h = breaks_follows (VM x) rule.UnfitOperands at (breaks rule.UnfitOperands at)
  signed_self sign.Minus (Some w) t at x h = monadic_follows (unary.Negate w) at x
  signed_self sign.Minus None true at x h = monadic_follows unary.Complement at x
  signed_self sign.Minus None false at x h = breaks_follows (VM x) rule.UnfitOperands at (breaks rule.UnfitOperands at)

  compare_as_self : (o : Option Compared) (t : Bool) (r : Comparison) (at : Pos) (a b : Valued) → VF (VM a × VM b) (compare_as o t r at a b) (compare_as o t r at a b)
  compare_as_self (Some c) t r at a b = dyadic_follows (binary.Compare r c) at a b
  compare_as_self None true r at a b = texts_follow r at a b
  compare_as_self None false r at a b = breaks_follows (VM a × VM b) rule.UnfitOperands at (breaks rule.UnfitOperands at)

  contained_self : (t : Bool) (at : Pos) (a b : Valued) → VF (VM a × VM b) (contained t at a b) (contained t at a b)
  contained_self true at a b = dyadic_follows binary.In at a b
  contained_self false at a b = breaks_follows (VM a × VM b) rule.UnfitOperands at (breaks rule.UnfitOperands at)

  compare_self : (map : Map) (o : Option Comparison) (at : Pos) (a b : Valued) → VF (VM a × VM b) (compare map o at a b) (compare map o at a b)
  compare_self map (Some r) at a b = compare_as_self (compared_as map (is_equality r) a b) (is_text map a && is_text map b) r at a b
  compare_self map None at a b = contained_self (is_integer map a && is map basic.Set b) at a b

  -- ---- sets

  abbrev EF : Type 0 → Judged ElementOf → Judged ElementOf → Type 0
  EF R i j = Follows P (λ x. Unit {0}) (ElementIn P) R i j

  element_breaks : (R : Type 0) (at : Pos) (j : Judged ElementOf) → EF R (breaks rule.ConstantOutOfRange at) j
  element_breaks R at j = follows_none P (λ x. Unit {0}) (ElementIn P) R (breaks rule.ConstantOutOfRange at) j refl

  element_unfit : (R : Type 0) (at : Pos) (j : Judged ElementOf) → EF R (breaks rule.UnfitOperands at) j
  element_unfit R at j = follows_none P (λ x. Unit {0}) (ElementIn P) R (breaks rule.UnfitOperands at) j refl

  element_folds : (R : Type 0) (at : Pos) (t : TypedExpr) (o : Option Value) → R → EF R (element_folded at t o) (element_folded at t o)
  element_folds R at t None r = element_breaks R at (breaks rule.ConstantOutOfRange at)
  element_folds R at t (Some c) r = follows_sound P (λ x. Unit {0}) (ElementIn P) R (element_as at t (Some c)) tt (λ m. r)

  element_stays : (R : Type 0) (at : Pos) (t : TypedExpr) → (ExprIn P t → R) → EF R (sound (element_as at t None)) (sound (element_as at t None))
  element_stays R at t r = follows_sound P (λ x. Unit {0}) (ElementIn P) R (element_as at t None) tt r

  single_self : (at : Pos) (a : Valued) → EF (VM a) (single at (e.Unary unary.Element (tree a) at) (constant_in a)) (single at (e.Unary unary.Element (tree a) at) (constant_in a))
  single_self at (valued.Constant c) = element_folds (Unit {0}) at (e.Unary unary.Element (e.Constant c) at) (fold_one unary.Element c) tt
  single_self at (valued.Place p) = element_stays (VM (valued.Place p)) at (e.Unary unary.Element (tree (valued.Place p)) at) (λ m. tree_mentions P (valued.Place p) (unary_mentions P unary.Element (tree (valued.Place p)) at m))
  single_self at (valued.Node n) = element_stays (VM (valued.Node n)) at (e.Unary unary.Element (tree (valued.Node n)) at) (λ m. tree_mentions P (valued.Node n) (unary_mentions P unary.Element (tree (valued.Node n)) at m))

  ranged_stays : (at : Pos) (a b : Valued) → EF (VM a × VM b) (sound (element_as at (e.Binary binary.Range (tree a) (tree b) at) None)) (sound (element_as at (e.Binary binary.Range (tree a) (tree b) at) None))
  ranged_stays at a b = element_stays (VM a × VM b) at (e.Binary binary.Range (tree a) (tree b) at) (λ m. both_trees a b (binary_mentions P binary.Range (tree a) (tree b) at m))

  ranged_self : (at : Pos) (a b : Valued) → EF (VM a × VM b) (ranged at (e.Binary binary.Range (tree a) (tree b) at) (constant_in a) (constant_in b)) (ranged at (e.Binary binary.Range (tree a) (tree b) at) (constant_in a) (constant_in b))
  ranged_self at (valued.Constant c) (valued.Constant k) = element_folds (Unit {0} × Unit {0}) at (e.Binary binary.Range (e.Constant c) (e.Constant k) at) (fold_two binary.Range c k) (tt, tt)
  ranged_self at (valued.Constant c) (valued.Place q) = ranged_stays at (valued.Constant c) (valued.Place q)
  ranged_self at (valued.Constant c) (valued.Node q) = ranged_stays at (valued.Constant c) (valued.Node q)
  ranged_self at (valued.Place p) b = ranged_stays at (valued.Place p) b
  ranged_self at (valued.Node p) b = ranged_stays at (valued.Node p) b

  integer_self : (t : Bool) (at : Pos) (a : Valued) → EF (VM a) (if_integer t at a) (if_integer t at a)
  integer_self true at a = single_self at a
  integer_self false at a = element_unfit (VM a) at (breaks rule.UnfitOperands at)

  integers_self : (t : Bool) (at : Pos) (a b : Valued) → EF (VM a × VM b) (if_integers t at a b) (if_integers t at a b)
  integers_self true at a b = ranged_self at a b
  integers_self false at a b = element_unfit (VM a × VM b) at (breaks rule.UnfitOperands at)

  -- the value, where there is one
  abbrev pub OM : Option Valued → Type 0
  OM None = Unit {0}
  OM (Some b) = VM b

  element_self : (map : Map) (at : Pos) (a : Valued) (o : Option Valued) → EF (VM a × OM o) (element map at a o) (element map at a o)
  element_self map at a None = follows_more (integer_self (is_integer map a) at a)
    where
      follows_more : {R : Type 0} {i j : Judged ElementOf} → EF R i j → EF (R × Unit {0}) i j
      follows_more {R} {i} {j} h = record { keeps = h.keeps; same = λ x k s m. let r = h.same x k s m in ((r.0, tt), r.1) }
  element_self map at a (Some b) = integers_self (is_integer map a && is_integer map b) at a b

  abbrev Elements : List ElementOf → Type 0
  Elements xs = AllByRecursion (ElementIn P) xs

  element_any : (x : ElementOf) → ExprIn P x.node.inner → ElementIn P x
  element_any x h = by x.constant
    where
      by : (o : Option Value) → ElementBy P o x.node.inner
      by None = h
      by (Some c) = tt

  union_mentions : (t : TypedExpr) (xs : List ElementOf) → ExprIn P (union_of t xs) → ExprIn P t × Elements xs
  union_mentions t [] h = (h, tt)
  union_mentions t (x ∷ xs) h =
      let r = union_mentions (e.Binary binary.Union t x.node.inner x.at) xs h in
      let k = binary_mentions P binary.Union t x.node.inner x.at r.0 in
      (k.0, (element_any x k.1, r.1))

  constant_elements : (v w : Value) (xs : List ElementOf) → all_constant v xs ≡ Some w → Elements xs
  constant_elements v w [] h = tt
  constant_elements v w (x ∷ xs) h = by x.constant refl h (λ z e. constant_elements z w xs e)
    where
      next : (c : Value) → x.constant ≡ Some c → (o : Option Value) → and_so o (λ w. all_constant w xs) ≡ Some w → ((z : Value) → all_constant z xs ≡ Some w → Elements xs) → Elements (x ∷ xs)
      next c k None e ih = none_some e
      next c k (Some z) e ih = (subst (λ o. ElementBy P o x.node.inner) (sym k) tt, ih z e)

      by : (o : Option Value) → x.constant ≡ o → and_so o (λ c. and_so (fold_two binary.Union v c) (λ w. all_constant w xs)) ≡ Some w → ((z : Value) → all_constant z xs ≡ Some w → Elements xs) → Elements (x ∷ xs)
      by None k e ih = none_some e
      by (Some c) k e ih = next c k (fold_two binary.Union v c) e ih

  pub set_tied : (xs : List ElementOf) → VT (set_of xs)
  set_tied xs = by (all_constant (literal.Set 0) xs)
    where
      by : (o : Option Value) → VT (set_from xs o)
      by None = λ m. tt
      by (Some c) = λ m. constant_kind P c

  pub set_mentions : (xs : List ElementOf) → VM (set_of xs) → Elements xs
  set_mentions xs = by (all_constant (literal.Set 0) xs) refl
    where
      by : (o : Option Value) → all_constant (literal.Set 0) xs ≡ o → VM (set_from xs o) → Elements xs
      by None k m = (union_mentions (e.Constant (literal.Set 0)) xs m).1
      by (Some c) k m = constant_elements (literal.Set 0) c xs k

  -- parts in a row
  pub each_follows : {A : Type 0} (T M : A → Type 0) (js ks : List (Judged A)) → Both P T M js ks → Follows P (AllByRecursion T) (AllByRecursion M) (Unit {0}) (each_sound js) (each_sound ks)
  each_follows {A} T M [] [] h = follows_sound P (AllByRecursion T) (AllByRecursion M) (Unit {0}) [] tt (λ m. tt)
  each_follows {A} T M (j ∷ js) (k ∷ ks) h = follows_unit (
      follows_made P (λ p. T p.0 × AllByRecursion T p.1) (λ p. M p.0 × AllByRecursion M p.1) (AllByRecursion T) (AllByRecursion M) (Unit {0} × Unit {0}) (λ p. p.0 ∷ p.1) (both j (each_sound js)) (both k (each_sound ks))
      (follows_both P T M (AllByRecursion T) (AllByRecursion M) (Unit {0}) (Unit {0}) j k (each_sound js) (each_sound ks) h.0 (each_follows T M js ks h.1)) (λ p h. h) (λ p t m. m))
    where
      follows_unit : {R : Type 0} {i j : Judged (List A)} → Follows P (AllByRecursion T) (AllByRecursion M) R i j → Follows P (AllByRecursion T) (AllByRecursion M) (Unit {0}) i j
      follows_unit {R} {i} {j} h = record { keeps = h.keeps; same = λ x k s m. (tt, (h.same x k s m).1) }
  each_follows {A} T M [] (k ∷ ks) h = absurd h
  each_follows {A} T M (j ∷ js) [] h = absurd h

  module _ (f g : Map) (agree : Agree P f g) where
    pub combined_follows : (o : Operator) (at : Pos) (a b : Valued) → VT a → VT b → VF (VM a × VM b) (combined f o at a b) (combined g o at a b)
    combined_follows o at a b s t = follows_to P (ValuedTied P) (ValuedIn P) (VM a × VM b) (combined f o at a b) (combined g o at a b) (combined_self f o at a b) (λ r. combined_same P f g agree o at a b (s r.0) (t r.1))

    pub opposite_follows : (at : Pos) (x : Valued) → VT x → VF (VM x) (opposite f at x) (opposite g at x)
    opposite_follows at x t = follows_to P (ValuedTied P) (ValuedIn P) (VM x) (opposite f at x) (opposite g at x) (negated_follows (is f basic.Boolean x) at x) (λ r. opposite_same P f g agree at x (t r))

    pub signed_follows : (s : Sign) (at : Pos) (x : Valued) → VT x → VF (VM x) (signed f s at x) (signed g s at x)
    signed_follows s at x t = follows_to P (ValuedTied P) (ValuedIn P) (VM x) (signed f s at x) (signed g s at x) (signed_self s (width f x) (is f basic.Set x) at x t) (λ r. signed_same P f g agree s at x (t r))

    pub related_follows : (r : Relation) (at : Pos) (a b : Valued) → VT a → VT b → VF (VM a × VM b) (related f r at a b) (related g r at a b)
    related_follows r at a b s t = follows_to P (ValuedTied P) (ValuedIn P) (VM a × VM b) (related f r at a b) (related g r at a b) (compare_self f (comparison_of r) at a b) (λ q. related_same P f g agree r at a b (s q.0) (t q.1))

    pub element_follows : (at : Pos) (a : Valued) (o : Option Valued) → VT a → ((b : Valued) → o ≡ Some b → VT b) → EF (VM a × OM o) (element f at a o) (element g at a o)
    element_follows at a o s t = follows_to P (λ x. Unit {0}) (ElementIn P) (VM a × OM o) (element f at a o) (element g at a o) (element_self f at a o) (λ r. element_same P f g agree at a o (s r.0) (λ b k. t b k (subst OM k r.1)))
