-- Expressions with other interfaces around, by induction over the tree of the grammar.
use Rattle.std.proofs.Common.{◌≡◌, refl, sym, ap, subst, List, [], ◌∷◌, map, Option, Some, None, Bool, true, false}
use Rattle.std.specs.List.{AllByRecursion}
use Rattle.ob_tree.specs.declared.pos.Pos.{Pos}
use Rattle.ob_tree.specs.declared.names.QName.{QName}
use Rattle.ob_tree.specs.declared.expr.Expr.{Expr, roll-Expr, map-Expr}
use Rattle.ob_tree.specs.declared.expr.Designator.{Designator, roll-Designator, map-Designator}
use Rattle.ob_tree.specs.declared.expr.Element.{Element, roll-Element, map-Element}
use Rattle.ob_tree.specs.declared.expr.Tail.{Tail, roll-Tail, map-Tail}
use Rattle.ob_tree.specs.declared.expr.Selector.{Selector, roll-Selector, map-Selector}
use Rattle.ob_tree.specs.declared.expr.Expr.TheOpen.{Expr-F, Tail-F, Designator-F, Selector-F}
use Rattle.ob_tree.specs.declared.expr.Expr.TheFolds.{ind-Expr, ind-Designator, ind-Element, fold-roll-Expr, fold-roll-Designator, fold-roll-Element, fold-roll-Tail, fold-roll-Selector}
use Rattle.ob_types.specs.declared.value.Value.{Value}
use Rattle.ob_types.specs.declared.value.Value.TheVariants as literal
use Rattle.ob_types.specs.declared.desc.Desc.{Desc}
use Rattle.ob_rules.specs.declared.values.Valued.{Valued}
use Rattle.ob_rules.specs.declared.values.Valued.TheVariants as valued
use Rattle.ob_rules.specs.Judged.{Judged, is_quiet, noted}
use Rattle.ob_rules.specs.Names.{Around}
use Rattle.ob_rules.specs.Values.{constant_in}
use Rattle.ob_rules.specs.Constants.{text_value}
use Rattle.ob_rules.specs.Phrases.{Phrase, Behind}
use Rattle.ob_rules.specs.Expressions.{Named, Ranged, Tailed, integer_text, marked, expr_rule, selector_rule, designator_rule, element_rule, tail_rule, phrase_of, named_of, ranged_of, tailed_of, behind_of, constant_of, constant_if, constant_judged, constant_value}
use Rattle.law_local_judged.specs.Said.{SaidIn, ValuedIn, ValuedTied}
use Rattle.law_local_judged.specs.Followed.{beside, Agrees, Follows}
use Rattle.law_local_judged.proofs.Following.{said_left}
use Rattle.law_local_judged.proofs.Actuals.{PhraseFollows, PhrasesFollow}
use Rattle.law_local_judged.proofs.Through.{BehindFollows, AreBehind}
use Rattle.law_local_judged.proofs.Nodes.{RangedFollows, integer_follows, char_follows, constant_phrase, designator_follows, paren_follows, not_follows, sign_follows, chain_follows, relate_follows, set_follows}
use Rattle.law_lists.proofs.Lists.{none_some}

module _ (P : QName → Type 0) (u : Around) (s : QName → Option Desc) (a : Agrees P u s) where
  abbrev Ph : Phrase → Type 0
  Ph p = PhraseFollows P u s a p

  abbrev B : Behind → Type 0
  B b = BehindFollows P u s a b

  abbrev R : Ranged → Type 0
  R r = RangedFollows P u s a r

  abbrev PE : Expr → Type 0
  PE x = PhraseFollows P u s a (phrase_of x)

  abbrev PS : Selector → Type 0
  PS x = BehindFollows P u s a (behind_of x)

  abbrev PD : Designator → Type 0
  PD x = AreBehind P u s a (named_of x).behind

  abbrev PL : Element → Type 0
  PL x = RangedFollows P u s a (ranged_of x)

  abbrev PT : Tail → Type 0
  PT x = PhraseFollows P u s a (tailed_of x).operand

  abbrev SE : Type 0
  SE = (x : Expr) × PE x

  abbrev SS : Type 0
  SS = (x : Selector) × PS x

  abbrev SD : Type 0
  SD = (x : Designator) × PD x

  abbrev SL : Type 0
  SL = (x : Element) × PL x

  abbrev ST : Type 0
  ST = (x : Tail) × PT x

  -- ---- parts in a row

  phrases_follow : (xs : List SE) → PhrasesFollow P u s a (map phrase_of (map (λ (x : SE). x.0) xs))
  phrases_follow [] = tt
  phrases_follow (x ∷ xs) = (x.1, phrases_follow xs)

  ranged_follow : (xs : List SL) → AllByRecursion (RangedFollows P u s a) (map ranged_of (map (λ (x : SL). x.0) xs))
  ranged_follow [] = tt
  ranged_follow (x ∷ xs) = (x.1, ranged_follow xs)

  tailed_follow : (xs : List ST) → AllByRecursion (λ t. PhraseFollows P u s a t.operand) (map tailed_of (map (λ (x : ST). x.0) xs))
  tailed_follow [] = tt
  tailed_follow (x ∷ xs) = (x.1, tailed_follow xs)

  behind_follow : (xs : List SS) → AreBehind P u s a (map behind_of (map (λ (x : SS). x.0) xs))
  behind_follow [] = tt
  behind_follow (x ∷ xs) = (x.1, behind_follow xs)

  -- ---- each alternative

  by_layer : (x : Expr-F Expr Selector Designator Element Tail) → Ph (expr_rule (map-Expr Expr Selector Designator Element Tail Phrase Behind Named Ranged Tailed phrase_of behind_of named_of ranged_of tailed_of x)) → PE (roll-Expr x)
  by_layer x h = subst Ph (sym (fold-roll-Expr Phrase Behind Named Ranged Tailed expr_rule selector_rule designator_rule element_rule tail_rule x)) h

  expr_cases : (y : Expr-F SE SS SD SL ST) → PE (roll-Expr (map-Expr SE SS SD SL ST Expr Selector Designator Element Tail (λ x. x.0) (λ x. x.0) (λ x. x.0) (λ x. x.0) (λ x. x.0) y))
  expr_cases (Expr-F.Designator n) = by_layer (Expr-F.Designator n.0) (designator_follows P u s a (named_of n.0) n.1)
  expr_cases (Expr-F.Int at text) = by_layer (Expr-F.Int at text) (integer_follows P u s a at (integer_text text))
  expr_cases (Expr-F.Char at text) = by_layer (Expr-F.Char at text) (char_follows P u s a at (marked 0 text))
  expr_cases (Expr-F.Str at text) = by_layer (Expr-F.Str at text) (constant_phrase P u s a at (text_value text))
  expr_cases (Expr-F.Nil at) = by_layer (Expr-F.Nil at) (constant_phrase P u s a at literal.Nil)
  expr_cases (Expr-F.Set at xs) = by_layer (Expr-F.Set at (map (λ (x : SL). x.0) xs)) (set_follows P u s a at (map ranged_of (map (λ (x : SL). x.0) xs)) (ranged_follow xs))
  expr_cases (Expr-F.Paren at x) = by_layer (Expr-F.Paren at x.0) (paren_follows P u s a at (phrase_of x.0) x.1)
  expr_cases (Expr-F.Not at x) = by_layer (Expr-F.Not at x.0) (not_follows P u s a at (phrase_of x.0) x.1)
  expr_cases (Expr-F.Signed k at x) = by_layer (Expr-F.Signed k at x.0) (sign_follows P u s a k at (phrase_of x.0) x.1)
  expr_cases (Expr-F.Chain x ts) = by_layer (Expr-F.Chain x.0 (map (λ (x : ST). x.0) ts)) (chain_follows P u s a (phrase_of x.0) (map tailed_of (map (λ (x : ST). x.0) ts)) x.1 (tailed_follow ts))
  expr_cases (Expr-F.Relate l o at r) = by_layer (Expr-F.Relate l.0 o at r.0) (relate_follows P u s a (phrase_of l.0) o at (phrase_of r.0) l.1 r.1)

  selector_layers : (x : Selector-F Expr Selector Designator Element Tail) → B (selector_rule (map-Selector Expr Selector Designator Element Tail Phrase Behind Named Ranged Tailed phrase_of behind_of named_of ranged_of tailed_of x)) → PS (roll-Selector x)
  selector_layers x h = subst B (sym (fold-roll-Selector Phrase Behind Named Ranged Tailed expr_rule selector_rule designator_rule element_rule tail_rule x)) h

  selector_cases : (y : Selector-F SE SS SD SL ST) → PS (roll-Selector (map-Selector SE SS SD SL ST Expr Selector Designator Element Tail (λ x. x.0) (λ x. x.0) (λ x. x.0) (λ x. x.0) (λ x. x.0) y))
  selector_cases (Selector-F.Field at x) = selector_layers (Selector-F.Field at x) tt
  selector_cases (Selector-F.Index at i) = selector_layers (Selector-F.Index at i.0) i.1
  selector_cases (Selector-F.Deref at) = selector_layers (Selector-F.Deref at) tt
  selector_cases (Selector-F.Call at xs) = selector_layers (Selector-F.Call at (map (λ (x : SE). x.0) xs)) (phrases_follow xs)

  designator_cases : (y : Designator-F SE SS SD SL ST) → PD (roll-Designator (map-Designator SE SS SD SL ST Expr Selector Designator Element Tail (λ x. x.0) (λ x. x.0) (λ x. x.0) (λ x. x.0) (λ x. x.0) y))
  designator_cases y =
      let x = map-Designator SE SS SD SL ST Expr Selector Designator Element Tail (λ x. x.0) (λ x. x.0) (λ x. x.0) (λ x. x.0) (λ x. x.0) y in
      subst (λ (n : Named). AreBehind P u s a n.behind) (sym (fold-roll-Designator Phrase Behind Named Ranged Tailed expr_rule selector_rule designator_rule element_rule tail_rule x)) (behind_follow y.selectors)

  element_by : (low : SE) (high : Option SE) → PL (roll-Element (map-Element SE SS SD SL ST Expr Selector Designator Element Tail (λ x. x.0) (λ x. x.0) (λ x. x.0) (λ x. x.0) (λ x. x.0) (record { low = low; high = high })))
  element_by low None =
      let x = map-Element SE SS SD SL ST Expr Selector Designator Element Tail (λ x. x.0) (λ x. x.0) (λ x. x.0) (λ x. x.0) (λ x. x.0) (record { low = low; high = None }) in
      subst R (sym (fold-roll-Element Phrase Behind Named Ranged Tailed expr_rule selector_rule designator_rule element_rule tail_rule x)) (record { low = low.1; high = tt })
  element_by low (Some h) =
      let x = map-Element SE SS SD SL ST Expr Selector Designator Element Tail (λ x. x.0) (λ x. x.0) (λ x. x.0) (λ x. x.0) (λ x. x.0) (record { low = low; high = Some h }) in
      subst R (sym (fold-roll-Element Phrase Behind Named Ranged Tailed expr_rule selector_rule designator_rule element_rule tail_rule x)) (record { low = low.1; high = h.1 })

  tail_cases : (y : Tail-F SE SS SD SL ST) → PT (roll-Tail (map-Tail SE SS SD SL ST Expr Selector Designator Element Tail (λ x. x.0) (λ x. x.0) (λ x. x.0) (λ x. x.0) (λ x. x.0) y))
  tail_cases y =
      let x = map-Tail SE SS SD SL ST Expr Selector Designator Element Tail (λ x. x.0) (λ x. x.0) (λ x. x.0) (λ x. x.0) (λ x. x.0) y in
      subst (λ (t : Tailed). PhraseFollows P u s a t.operand) (sym (fold-roll-Tail Phrase Behind Named Ranged Tailed expr_rule selector_rule designator_rule element_rule tail_rule x)) y.operand.1

  -- EACH EXPRESSION, DESIGNATOR AND ELEMENT of the grammar
  pub expr_follows : (x : Expr) → PE x
  expr_follows = ind-Expr PE PS PD PL PT (λ x y is. subst (λ z. PE (roll-Expr z)) is (expr_cases y)) (λ x y is. subst (λ z. PS (roll-Selector z)) is (selector_cases y)) (λ x y is. subst (λ z. PD (roll-Designator z)) is (designator_cases y)) (λ x y is. subst (λ z. PL (roll-Element z)) is (element_by y.low y.high)) (λ x y is. subst (λ z. PT (roll-Tail z)) is (tail_cases y))

  pub designator_of_follows : (x : Designator) → PD x
  designator_of_follows = ind-Designator PE PS PD PL PT (λ x y is. subst (λ z. PE (roll-Expr z)) is (expr_cases y)) (λ x y is. subst (λ z. PS (roll-Selector z)) is (selector_cases y)) (λ x y is. subst (λ z. PD (roll-Designator z)) is (designator_cases y)) (λ x y is. subst (λ z. PL (roll-Element z)) is (element_by y.low y.high)) (λ x y is. subst (λ z. PT (roll-Tail z)) is (tail_cases y))

  pub element_of_follows : (x : Element) → PL x
  element_of_follows = ind-Element PE PS PD PL PT (λ x y is. subst (λ z. PE (roll-Expr z)) is (expr_cases y)) (λ x y is. subst (λ z. PS (roll-Selector z)) is (selector_cases y)) (λ x y is. subst (λ z. PD (roll-Designator z)) is (designator_cases y)) (λ x y is. subst (λ z. PL (roll-Element z)) is (element_by y.low y.high)) (λ x y is. subst (λ z. PT (roll-Tail z)) is (tail_cases y))

-- ---- constants

module _ (P : QName → Type 0) where
  abbrev CF : Judged Value → Judged Value → Type 0
  CF i j = Follows P (λ c. Unit {0}) (λ c. Unit {0}) (Unit {0}) i j

  pub constant_judged_follows : (start : Pos) (i j : Judged Valued) → Follows P (ValuedTied P) (ValuedIn P) (Unit {0}) i j → CF (constant_judged start i) (constant_judged start j)
  constant_judged_follows start i j h = record { keeps = λ c e said. tt; same = λ c e said m. (tt, by c i.node refl e said) }
    where
      unsaid : (b : Bool) (c : Value) → (constant_if start None b).node ≡ Some c → constant_judged start j ≡ constant_judged start i
      unsaid true c e = none_some e
      unsaid false c e = none_some e

      value : (x : Valued) (c : Value) → i.node ≡ Some x → (constant_of start (constant_in x)).node ≡ Some c → SaidIn P i.notes → j ≡ i
      value (valued.Constant k) c l e said = (h.same (valued.Constant k) l said tt).1
      value (valued.Place p) c l e said = none_some e
      value (valued.Node n) c l e said = none_some e

      by : (c : Value) (o : Option Valued) → i.node ≡ o → (constant_if start o (is_quiet i.notes.broken)).node ≡ Some c → SaidIn P (noted i.notes (constant_if start o (is_quiet i.notes.broken))).notes → constant_judged start j ≡ constant_judged start i
      by c None l e said = unsaid (is_quiet i.notes.broken) c e
      by c (Some x) l e said = ap (constant_judged start) (value x c l e (said_left P i.notes (constant_if start (Some x) (is_quiet i.notes.broken)).notes said))

  pub constant_value_follows : (u : Around) (s : QName → Option Desc) (a : Agrees P u s) (p : Phrase) → PhraseFollows P u s a p → CF (constant_value u p) (constant_value (beside u s) p)
  constant_value_follows u s a p h = constant_judged_follows p.start (p.value u) (p.value (beside u s)) h.value
