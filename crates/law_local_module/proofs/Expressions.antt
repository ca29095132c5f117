-- Expressions leave nothing for later, by induction over the tree of the grammar.
use Rattle.std.proofs.Common.{◌≡◌, refl, sym, subst, Bool, true, false, not, List, [], ◌∷◌, map, Option, Some, None}
use Rattle.std.specs.Prelude.{nat_le, pos}
use Rattle.std.specs.List.{AllByRecursion}
use Rattle.ob_tree.specs.declared.pos.Pos.{Pos}
use Rattle.ob_tree.specs.declared.names.QName.{QName}
use Rattle.ob_tree.specs.declared.ident.Qualident.{Qualident}
use Rattle.ob_tree.specs.declared.expr.Sign.{Sign}
use Rattle.ob_tree.specs.declared.expr.Relation.{Relation}
use Rattle.ob_tree.specs.declared.expr.Relation.TheVariants as relates
use Rattle.ob_tree.specs.declared.expr.Expr.{Expr, roll-Expr, map-Expr}
use Rattle.ob_tree.specs.declared.expr.Designator.{Designator, roll-Designator, map-Designator}
use Rattle.ob_tree.specs.declared.expr.Element.{Element, roll-Element, map-Element}
use Rattle.ob_tree.specs.declared.expr.Tail.{Tail, roll-Tail, map-Tail}
use Rattle.ob_tree.specs.declared.expr.Selector.{Selector, roll-Selector, map-Selector}
use Rattle.ob_tree.specs.declared.expr.Expr.TheOpen.{Expr-F, Tail-F, Designator-F, Selector-F}
use Rattle.ob_tree.specs.declared.expr.Expr.TheFolds.{ind-Expr, ind-Designator, ind-Element, fold-roll-Expr, fold-roll-Designator, fold-roll-Element, fold-roll-Tail, fold-roll-Selector}
use Rattle.ob_types.specs.declared.types.TypeRef.{TypeRef}
use Rattle.ob_types.specs.declared.types.Signature.{Signature}
use Rattle.ob_types.specs.declared.value.Value.TheVariants as literal
use Rattle.ob_types.specs.declared.typed.ExprType.TheVariants as kind
use Rattle.ob_types.specs.declared.typed.TypedExpr.TheVariants as e
use Rattle.ob_types.specs.AssigningTests.{is_value}
use Rattle.ob_rules.specs.declared.meant.ElementOf.{ElementOf}
use Rattle.ob_rules.specs.declared.meant.Meant.{Meant}
use Rattle.ob_rules.specs.declared.meant.Meant.TheVariants as means
use Rattle.ob_rules.specs.declared.meant.Where.{Where}
use Rattle.ob_rules.specs.declared.meant.Where.TheVariants.{InExpression}
use Rattle.ob_rules.specs.declared.values.Valued.{Valued}
use Rattle.ob_rules.specs.declared.broken.Rule.TheVariants as rule
use Rattle.ob_rules.specs.Judged.{Judged, sound, breaks, also, wants, both, each_sound, made, ◌▷◌}
use Rattle.ob_rules.specs.Shapes.{Map}
use Rattle.ob_rules.specs.Names.{Around, map_of, type_named}
use Rattle.ob_rules.specs.Values.{constant, computed, type, type_in}
use Rattle.ob_rules.specs.Constants.{text_value}
use Rattle.ob_rules.specs.Operators.{combined, opposite, signed, related, element, set_of}
use Rattle.ob_rules.specs.Phrases.{Phrase, Behind}
use Rattle.ob_rules.specs.Expressions.{integer_literal, char_literal, procedure_value, value_meant, Named, meant_by, designator_phrase, testable, test_of, record_if, test, untestable, type_test, other_test, is_test, phrase, Tailed, combine_all, bracketed, Ranged, value_if, element_value, relation_of, relation_value, integer_text, marked, expr_rule, selector_rule, designator_rule, element_rule, tail_rule, phrase_of, named_of, ranged_of, tailed_of, behind_of}
use Rattle.law_local_module.proofs.Leaves.{Nil, AllNil, then_nil, both_nil, made_nil, each_nil, wants_nil, also_nil, found_nil, type_nil}
use Rattle.law_local_module.proofs.Operators.{combined_nil, opposite_nil, signed_nil, related_nil, element_nil}
use Rattle.law_local_module.proofs.Predeclared.{PhraseNil, PhrasesNil}
use Rattle.law_local_module.proofs.Designators.{BehindNil, AreBehind, designates_nil}

procedure_nil : (b : Bool) (at : Pos) (name : QName) (x : Valued) → Nil (procedure_value b at name x)
procedure_nil true at name x = refl
procedure_nil false at name x = refl

value_nil : (at : Pos) (m : Meant) → Nil (value_meant at m)
value_nil at (means.Procedure name s) = procedure_nil (is_value name) at name (computed (e.Procedure name s) (kind.Procedure s))
value_nil at m = refl

module _ (u : Around) where
  abbrev Ph : Phrase → Type 0
  Ph p = PhraseNil u p

  phrase_nil : (start : Pos) (f : Around → Judged Valued) → Nil (f u) → Ph (phrase start f)
  phrase_nil start f h = record { value = h; meant = tt }

  designator_nil : (n : Named) → AreBehind u n.behind → Ph (designator_phrase n)
  designator_nil n h = record {
    value = then_nil (meant_by InExpression n u) (value_meant n.ident.pos) (designates_nil u InExpression n.ident n.behind h) (λ m. value_nil n.ident.pos m);
    meant = designates_nil u InExpression n.ident n.behind h;
  }

  abbrev TF : List Tailed → Type 0
  TF ts = AllByRecursion (λ t. PhraseNil u t.operand) ts

  all_nil : (ts : List Tailed) (i : Judged Valued) → TF ts → Nil i → Nil (combine_all u ts i)
  all_nil [] i h k = k
  all_nil (t ∷ ts) i h k =
      all_nil ts (both i (t.operand.value u) ▷ λ p. combined (map_of u) t.operator t.at p.0 p.1) h.1
      (then_nil (both i (t.operand.value u)) (λ p. combined (map_of u) t.operator t.at p.0 p.1) (both_nil i (t.operand.value u) k h.0.value) (λ p. combined_nil (map_of u) t.operator t.at p.0 p.1))

  tested : (at : Pos) (i : Judged Valued) (r : Phrase) (o : Option Qualident) → Nil i → Ph r → Nil (is_test u at i r o)
  tested at i r (Some k) h l =
      then_nil (both (untestable (map_of u) at i) (type_named u k)) (λ p. test (map_of u) at p.0 p.1)
      (both_nil (untestable (map_of u) at i) (type_named u k) (then_nil i (λ x. wants (testable (map_of u) x) rule.UnfitTypeTest at x) h (λ x. wants_nil (testable (map_of u) x) rule.UnfitTypeTest at x)) (type_nil u k))
      (λ p. found_nil rule.UnfitTypeTest at (test_of (map_of u) p.0 p.1 (record_if (map_of u) (type_in (type p.0)))))
  tested at i r None h l =
      then_nil (both i (r.value u)) (λ p. also (not (testable (map_of u) p.0)) rule.UnfitTypeTest at (breaks rule.UnfitOperands at)) (both_nil i (r.value u) h l.value) (λ p. also_nil (not (testable (map_of u) p.0)) rule.UnfitTypeTest at (breaks rule.UnfitOperands at) refl)

  compared : (o : Relation) (at : Pos) (i : Judged Valued) (r : Phrase) → Nil i → Ph r → Nil (both i (r.value u) ▷ λ p. related (map_of u) o at p.0 p.1)
  compared o at i r h k = then_nil (both i (r.value u)) (λ p. related (map_of u) o at p.0 p.1) (both_nil i (r.value u) h k.value) (λ p. related_nil (map_of u) o at p.0 p.1)

  relation_nil : (o : Relation) (at : Pos) (i : Judged Valued) (r : Phrase) → Nil i → Ph r → Nil (relation_of u o at i r)
  relation_nil relates.Is at i r h k = tested at i r r.name h k
  relation_nil o at i r h k = compared o at i r h k

  abbrev pub IfNil : Option Phrase → Type 0
  IfNil None = Unit {0}
  IfNil (Some p) = PhraseNil u p

  pub record RangedNil (r : Ranged) : Type 0 where
    pub low : PhraseNil u r.low
    pub high : IfNil r.high

  high_nil : (o : Option Phrase) → IfNil o → Nil (value_if u o)
  high_nil None h = refl
  high_nil (Some p) h = made_nil (λ x. Some x) (p.value u) h.value

  one_nil : (r : Ranged) → RangedNil r → Nil (element_value u r)
  one_nil r h = then_nil (both (r.low.value u) (value_if u r.high)) (λ p. element (map_of u) r.low.start p.0 p.1) (both_nil (r.low.value u) (value_if u r.high) h.low.value (high_nil r.high h.high)) (λ p. element_nil (map_of u) r.low.start p.0 p.1)

  elements_nil : (rs : List Ranged) → AllByRecursion RangedNil rs → AllNil (map (element_value u) rs)
  elements_nil [] h = tt
  elements_nil (r ∷ rs) h = (one_nil r h.0, elements_nil rs h.1)

  -- ---- by induction

  abbrev PE : Expr → Type 0
  PE x = PhraseNil u (phrase_of x)

  abbrev PS : Selector → Type 0
  PS x = BehindNil u (behind_of x)

  abbrev PD : Designator → Type 0
  PD x = AreBehind u (named_of x).behind

  abbrev PL : Element → Type 0
  PL x = RangedNil (ranged_of x)

  abbrev PT : Tail → Type 0
  PT x = PhraseNil u (tailed_of x).operand

  abbrev SE : Type 0
  SE = (x : Expr) × PE x

  abbrev SS : Type 0
  SS = (x : Selector) × PS x

  abbrev SD : Type 0
  SD = (x : Designator) × PD x

  abbrev SL : Type 0
  SL = (x : Element) × PL x

  abbrev ST : Type 0
  ST = (x : Tail) × PT x

  phrases_nil : (xs : List SE) → PhrasesNil u (map phrase_of (map (λ (x : SE). x.0) xs))
  phrases_nil [] = tt
  phrases_nil (x ∷ xs) = (x.1, phrases_nil xs)

  ranges_nil : (xs : List SL) → AllByRecursion RangedNil (map ranged_of (map (λ (x : SL). x.0) xs))
  ranges_nil [] = tt
  ranges_nil (x ∷ xs) = (x.1, ranges_nil xs)

  tails_nil : (xs : List ST) → TF (map tailed_of (map (λ (x : ST). x.0) xs))
  tails_nil [] = tt
  tails_nil (x ∷ xs) = (x.1, tails_nil xs)

  behind_nil : (xs : List SS) → AreBehind u (map behind_of (map (λ (x : SS). x.0) xs))
  behind_nil [] = tt
  behind_nil (x ∷ xs) = (x.1, behind_nil xs)

  by_layer : (x : Expr-F Expr Selector Designator Element Tail) → Ph (expr_rule (map-Expr Expr Selector Designator Element Tail Phrase Behind Named Ranged Tailed phrase_of behind_of named_of ranged_of tailed_of x)) → PE (roll-Expr x)
  by_layer x h = subst Ph (sym (fold-roll-Expr Phrase Behind Named Ranged Tailed expr_rule selector_rule designator_rule element_rule tail_rule x)) h

  expr_cases : (y : Expr-F SE SS SD SL ST) → PE (roll-Expr (map-Expr SE SS SD SL ST Expr Selector Designator Element Tail (λ x. x.0) (λ x. x.0) (λ x. x.0) (λ x. x.0) (λ x. x.0) y))
  expr_cases (Expr-F.Designator n) = by_layer (Expr-F.Designator n.0) (designator_nil (named_of n.0) n.1)
  expr_cases (Expr-F.Int at text) = by_layer (Expr-F.Int at text) (phrase_nil at (λ u. integer_literal at (integer_text text)) (wants_nil (nat_le (integer_text text) 2147483647) rule.LiteralTooLarge at (constant (literal.Int (pos (integer_text text))))))
  expr_cases (Expr-F.Char at text) = by_layer (Expr-F.Char at text) (phrase_nil at (λ u. char_literal at (marked 0 text)) (wants_nil (nat_le (marked 0 text) 255) rule.LiteralTooLarge at (constant (literal.Char (marked 0 text)))))
  expr_cases (Expr-F.Str at text) = by_layer (Expr-F.Str at text) (phrase_nil at (λ u. sound (constant (text_value text))) refl)
  expr_cases (Expr-F.Nil at) = by_layer (Expr-F.Nil at) (phrase_nil at (λ u. sound (constant literal.Nil)) refl)
  expr_cases (Expr-F.Set at xs) =
      let rs = map ranged_of (map (λ (x : SL). x.0) xs) in
      by_layer (Expr-F.Set at (map (λ (x : SL). x.0) xs)) (phrase_nil at (λ u. made set_of (each_sound (map (element_value u) rs))) (made_nil set_of (each_sound (map (element_value u) rs)) (each_nil (map (element_value u) rs) (elements_nil rs (ranges_nil xs)))))
  expr_cases (Expr-F.Paren at x) = let p = phrase_of x.0 in by_layer (Expr-F.Paren at x.0) (phrase_nil at (λ u. made bracketed (p.value u)) (made_nil bracketed (p.value u) x.1.value))
  expr_cases (Expr-F.Not at x) = let p = phrase_of x.0 in by_layer (Expr-F.Not at x.0) (phrase_nil at (λ u. p.value u ▷ opposite (map_of u) at) (then_nil (p.value u) (opposite (map_of u) at) x.1.value (λ x. opposite_nil (map_of u) at x)))
  expr_cases (Expr-F.Signed k at x) = let p = phrase_of x.0 in by_layer (Expr-F.Signed k at x.0) (phrase_nil at (λ u. p.value u ▷ signed (map_of u) k at) (then_nil (p.value u) (signed (map_of u) k at) x.1.value (λ x. signed_nil (map_of u) k at x)))
  expr_cases (Expr-F.Chain x ts) =
      let p = phrase_of x.0 in
      let rs = map tailed_of (map (λ (x : ST). x.0) ts) in
      by_layer (Expr-F.Chain x.0 (map (λ (x : ST). x.0) ts)) (phrase_nil p.start (λ u. combine_all u rs (p.value u)) (all_nil rs (p.value u) (tails_nil ts) x.1.value))
  expr_cases (Expr-F.Relate l o at r) =
      let a = phrase_of l.0 in
      let b = phrase_of r.0 in
      by_layer (Expr-F.Relate l.0 o at r.0) (phrase_nil a.start (λ u. relation_value u o at a b) (relation_nil o at (a.value u) b l.1.value r.1))

  selector_layers : (x : Selector-F Expr Selector Designator Element Tail) → BehindNil u (selector_rule (map-Selector Expr Selector Designator Element Tail Phrase Behind Named Ranged Tailed phrase_of behind_of named_of ranged_of tailed_of x)) → PS (roll-Selector x)
  selector_layers x h = subst (BehindNil u) (sym (fold-roll-Selector Phrase Behind Named Ranged Tailed expr_rule selector_rule designator_rule element_rule tail_rule x)) h

  selector_cases : (y : Selector-F SE SS SD SL ST) → PS (roll-Selector (map-Selector SE SS SD SL ST Expr Selector Designator Element Tail (λ x. x.0) (λ x. x.0) (λ x. x.0) (λ x. x.0) (λ x. x.0) y))
  selector_cases (Selector-F.Field at x) = selector_layers (Selector-F.Field at x) tt
  selector_cases (Selector-F.Index at i) = selector_layers (Selector-F.Index at i.0) i.1
  selector_cases (Selector-F.Deref at) = selector_layers (Selector-F.Deref at) tt
  selector_cases (Selector-F.Call at xs) = selector_layers (Selector-F.Call at (map (λ (x : SE). x.0) xs)) (phrases_nil xs)

  designator_cases : (y : Designator-F SE SS SD SL ST) → PD (roll-Designator (map-Designator SE SS SD SL ST Expr Selector Designator Element Tail (λ x. x.0) (λ x. x.0) (λ x. x.0) (λ x. x.0) (λ x. x.0) y))
  designator_cases y =
      let x = map-Designator SE SS SD SL ST Expr Selector Designator Element Tail (λ x. x.0) (λ x. x.0) (λ x. x.0) (λ x. x.0) (λ x. x.0) y in
      subst (λ (n : Named). AreBehind u n.behind) (sym (fold-roll-Designator Phrase Behind Named Ranged Tailed expr_rule selector_rule designator_rule element_rule tail_rule x)) (behind_nil y.selectors)

  element_by : (low : SE) (high : Option SE) → PL (roll-Element (map-Element SE SS SD SL ST Expr Selector Designator Element Tail (λ x. x.0) (λ x. x.0) (λ x. x.0) (λ x. x.0) (λ x. x.0) (record { low = low; high = high })))
  element_by low None =
      let x = map-Element SE SS SD SL ST Expr Selector Designator Element Tail (λ x. x.0) (λ x. x.0) (λ x. x.0) (λ x. x.0) (λ x. x.0) (record { low = low; high = None }) in
      subst RangedNil (sym (fold-roll-Element Phrase Behind Named Ranged Tailed expr_rule selector_rule designator_rule element_rule tail_rule x)) (record { low = low.1; high = tt })
  element_by low (Some h) =
      let x = map-Element SE SS SD SL ST Expr Selector Designator Element Tail (λ x. x.0) (λ x. x.0) (λ x. x.0) (λ x. x.0) (λ x. x.0) (record { low = low; high = Some h }) in
      subst RangedNil (sym (fold-roll-Element Phrase Behind Named Ranged Tailed expr_rule selector_rule designator_rule element_rule tail_rule x)) (record { low = low.1; high = h.1 })

  tail_cases : (y : Tail-F SE SS SD SL ST) → PT (roll-Tail (map-Tail SE SS SD SL ST Expr Selector Designator Element Tail (λ x. x.0) (λ x. x.0) (λ x. x.0) (λ x. x.0) (λ x. x.0) y))
  tail_cases y =
      let x = map-Tail SE SS SD SL ST Expr Selector Designator Element Tail (λ x. x.0) (λ x. x.0) (λ x. x.0) (λ x. x.0) (λ x. x.0) y in
      subst (λ (t : Tailed). PhraseNil u t.operand) (sym (fold-roll-Tail Phrase Behind Named Ranged Tailed expr_rule selector_rule designator_rule element_rule tail_rule x)) y.operand.1

  -- EACH EXPRESSION, DESIGNATOR AND ELEMENT of the grammar
  pub expr_nil : (x : Expr) → PE x
  expr_nil = ind-Expr PE PS PD PL PT (λ x y is. subst (λ z. PE (roll-Expr z)) is (expr_cases y)) (λ x y is. subst (λ z. PS (roll-Selector z)) is (selector_cases y)) (λ x y is. subst (λ z. PD (roll-Designator z)) is (designator_cases y)) (λ x y is. subst (λ z. PL (roll-Element z)) is (element_by y.low y.high)) (λ x y is. subst (λ z. PT (roll-Tail z)) is (tail_cases y))

  pub designator_of_nil : (x : Designator) → PD x
  designator_of_nil = ind-Designator PE PS PD PL PT (λ x y is. subst (λ z. PE (roll-Expr z)) is (expr_cases y)) (λ x y is. subst (λ z. PS (roll-Selector z)) is (selector_cases y)) (λ x y is. subst (λ z. PD (roll-Designator z)) is (designator_cases y)) (λ x y is. subst (λ z. PL (roll-Element z)) is (element_by y.low y.high)) (λ x y is. subst (λ z. PT (roll-Tail z)) is (tail_cases y))
