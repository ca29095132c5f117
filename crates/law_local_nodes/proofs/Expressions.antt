-- Expressions have a node, or break a rule, by induction over the tree of the grammar.
use Rattle.std.proofs.Common.{sym, subst, Bool, true, false, not, List, [], ◌∷◌, map, Option, Some, None}
use Rattle.std.specs.Prelude.{nat_le, pos}
use Rattle.std.specs.List.{AllByRecursion}
use Rattle.ob_tree.specs.declared.pos.Pos.{Pos}
use Rattle.ob_tree.specs.declared.names.QName.{QName}
use Rattle.ob_tree.specs.declared.ident.Qualident.{Qualident}
use Rattle.ob_tree.specs.declared.expr.Sign.{Sign}
use Rattle.ob_tree.specs.declared.expr.Relation.{Relation}
use Rattle.ob_tree.specs.declared.expr.Relation.TheVariants as relates
use Rattle.ob_tree.specs.declared.expr.Expr.{Expr, roll-Expr, map-Expr}
use Rattle.ob_tree.specs.declared.expr.Designator.{Designator, roll-Designator, map-Designator}
use Rattle.ob_tree.specs.declared.expr.Element.{Element, roll-Element, map-Element}
use Rattle.ob_tree.specs.declared.expr.Tail.{Tail, roll-Tail, map-Tail}
use Rattle.ob_tree.specs.declared.expr.Selector.{Selector, roll-Selector, map-Selector}
use Rattle.ob_tree.specs.declared.expr.Expr.TheOpen.{Expr-F, Tail-F, Designator-F, Selector-F}
use Rattle.ob_tree.specs.declared.expr.Expr.TheFolds.{ind-Expr, ind-Designator, ind-Element, fold-roll-Expr, fold-roll-Designator, fold-roll-Element, fold-roll-Tail, fold-roll-Selector}
use Rattle.ob_types.specs.declared.types.TypeRef.{TypeRef}
use Rattle.ob_types.specs.declared.types.Signature.{Signature}
use Rattle.ob_types.specs.declared.value.Value.TheVariants as literal
use Rattle.ob_types.specs.declared.typed.ExprType.TheVariants as kind
use Rattle.ob_types.specs.declared.typed.TypedExpr.TheVariants as e
use Rattle.ob_types.specs.AssigningTests.{is_value}
use Rattle.ob_rules.specs.declared.meant.ElementOf.{ElementOf}
use Rattle.ob_rules.specs.declared.meant.Meant.{Meant}
use Rattle.ob_rules.specs.declared.meant.Meant.TheVariants as means
use Rattle.ob_rules.specs.declared.meant.Where.{Where}
use Rattle.ob_rules.specs.declared.meant.Where.TheVariants.{InExpression}
use Rattle.ob_rules.specs.declared.values.Valued.{Valued}
use Rattle.ob_rules.specs.declared.broken.Rule.TheVariants as rule
use Rattle.ob_rules.specs.Judged.{Judged, sound, breaks, also, wants, both, each_sound, made, ◌▷◌}
use Rattle.ob_rules.specs.Shapes.{Map}
use Rattle.ob_rules.specs.Names.{Around, map_of, type_named}
use Rattle.ob_rules.specs.Values.{constant, computed, type, type_in}
use Rattle.ob_rules.specs.Constants.{text_value}
use Rattle.ob_rules.specs.Operators.{combined, opposite, signed, related, element, set_of}
use Rattle.ob_rules.specs.Phrases.{Phrase, Behind}
use Rattle.ob_rules.specs.Expressions.{integer_literal, char_literal, procedure_value, value_meant, Named, meant_by, designator_phrase, testable, test_of, record_if, test, untestable, type_test, other_test, is_test, phrase, Tailed, combine_all, bracketed, Ranged, value_if, element_value, relation_of, relation_value, integer_text, marked, expr_rule, selector_rule, designator_rule, element_rule, tail_rule, phrase_of, named_of, ranged_of, tailed_of, behind_of}
use Rattle.law_names_procedures.proofs.Judges.{Speaks, speaks_more, breaks_speaks, then_speaks, both_speak, made_speaks, each_speaks, wants_speaks, also_speaks}
use Rattle.law_names_procedures.proofs.Knowing.{name_speaks}
use Rattle.law_local_nodes.proofs.Operators.{There, combined_there, opposite_there, signed_there, related_there, element_there}
use Rattle.law_local_nodes.proofs.Predeclared.{Fits, PhraseThere, PhrasesThere}
use Rattle.law_local_nodes.proofs.Guards.{Quiet}
use Rattle.law_local_nodes.proofs.Designators.{found_there, known_there, BehindThere, AreBehind, designates_there}
use Rattle.law_lists.proofs.Lists.{Anything}

procedure_there : (b : Bool) (at : Pos) (name : QName) (x : Valued) → There (procedure_value b at name x)
procedure_there true at name x = λ n. tt
procedure_there false at name x = breaks_speaks {A = Valued} Anything rule.UnfitProcedureValue at

pub value_there : (at : Pos) (m : Meant) → Fits InExpression m → There (value_meant at m)
value_there at (means.Place p) h = λ n. tt
value_there at (means.Constant v) h = λ n. tt
value_there at (means.Procedure name s) h = procedure_there (is_value name) at name (computed (e.Procedure name s) (kind.Procedure s))
value_there at (means.Call x) h = λ n. tt
value_there at (means.Statement s) h = absurd h
value_there at m h = breaks_speaks {A = Valued} Anything rule.UnfitProcedureValue at

module _ (u : Around) (q : Quiet u) where
  abbrev Ph : Phrase → Type 0
  Ph p = PhraseThere u p

  phrase_there : (start : Pos) (f : Around → Judged Valued) → There (f u) → Ph (phrase start f)
  phrase_there start f h = record { value = h; meant = tt }

  pub meant_there : (w : Where) (n : Named) → AreBehind u q n.behind → Speaks (Fits w) (meant_by w n u)
  meant_there w n h = designates_there u q w n.ident n.behind h

  designator_there : (n : Named) → AreBehind u q n.behind → Ph (designator_phrase n)
  designator_there n h = record {
    value = then_speaks (Fits InExpression) Anything (meant_by InExpression n u) (value_meant n.ident.pos) (meant_there InExpression n h) (λ m i. value_there n.ident.pos m i);
    meant = speaks_more (Fits InExpression) Anything (meant_by InExpression n u) (λ m i. tt) (meant_there InExpression n h);
  }

  -- ---- operators

  abbrev TF : List Tailed → Type 0
  TF ts = AllByRecursion (λ t. PhraseThere u t.operand) ts

  all_there : (ts : List Tailed) (i : Judged Valued) → TF ts → There i → There (combine_all u ts i)
  all_there [] i h k = k
  all_there (t ∷ ts) i h k =
      all_there ts (both i (t.operand.value u) ▷ λ p. combined (map_of u) t.operator t.at p.0 p.1) h.1
      (then_speaks (λ p. Unit {0} × Unit {0}) Anything (both i (t.operand.value u)) (λ p. combined (map_of u) t.operator t.at p.0 p.1) (both_speak Anything Anything i (t.operand.value u) k h.0.value) (λ p r. combined_there (map_of u) t.operator t.at p.0 p.1))

  tests : (at : Pos) (x : Valued) (t : TypeRef) → There (test (map_of u) at x t)
  tests at x t = found_there rule.UnfitTypeTest at (test_of (map_of u) x t (record_if (map_of u) (type_in (type x))))

  untested : (at : Pos) (i : Judged Valued) → There i → There (untestable (map_of u) at i)
  untested at i h = then_speaks Anything Anything i (λ x. wants (testable (map_of u) x) rule.UnfitTypeTest at x) h (λ x k. wants_speaks Anything (testable (map_of u) x) rule.UnfitTypeTest at x tt)

  tested : (at : Pos) (i : Judged Valued) (r : Phrase) (o : Option Qualident) → There i → Ph r → There (is_test u at i r o)
  tested at i r (Some k) h l =
      then_speaks (λ p. Unit {0} × Unit {0}) Anything (both (untestable (map_of u) at i) (type_named u k)) (λ p. test (map_of u) at p.0 p.1)
      (both_speak Anything Anything (untestable (map_of u) at i) (type_named u k) (untested at i h) (name_speaks u k (known_there u q))) (λ p m. tests at p.0 p.1)
  tested at i r None h l =
      then_speaks (λ p. Unit {0} × Unit {0}) Anything (both i (r.value u)) (λ p. also (not (testable (map_of u) p.0)) rule.UnfitTypeTest at (breaks rule.UnfitOperands at)) (both_speak Anything Anything i (r.value u) h l.value)
      (λ p m. also_speaks Anything (not (testable (map_of u) p.0)) rule.UnfitTypeTest at (breaks rule.UnfitOperands at) (breaks_speaks {A = Valued} Anything rule.UnfitOperands at))

  compared : (o : Relation) (at : Pos) (i : Judged Valued) (r : Phrase) → There i → Ph r → There (both i (r.value u) ▷ λ p. related (map_of u) o at p.0 p.1)
  compared o at i r h k = then_speaks (λ p. Unit {0} × Unit {0}) Anything (both i (r.value u)) (λ p. related (map_of u) o at p.0 p.1) (both_speak Anything Anything i (r.value u) h k.value) (λ p m. related_there (map_of u) o at p.0 p.1)

  relation_there : (o : Relation) (at : Pos) (i : Judged Valued) (r : Phrase) → There i → Ph r → There (relation_of u o at i r)
  relation_there relates.Is at i r h k = tested at i r r.name h k
  relation_there o at i r h k = compared o at i r h k

  -- ---- sets

  abbrev pub IfThere : Option Phrase → Type 0
  IfThere None = Unit {0}
  IfThere (Some p) = PhraseThere u p

  pub record RangedThere (r : Ranged) : Type 0 where
    pub low : PhraseThere u r.low
    pub high : IfThere r.high

  high_there : (o : Option Phrase) → IfThere o → There (value_if u o)
  high_there None h = λ n. tt
  high_there (Some p) h = made_speaks Anything Anything (λ x. Some x) (p.value u) h.value (λ x t. tt)

  one_there : (r : Ranged) → RangedThere r → There (element_value u r)
  one_there r h =
      then_speaks (λ p. Unit {0} × Unit {0}) Anything (both (r.low.value u) (value_if u r.high)) (λ p. element (map_of u) r.low.start p.0 p.1) (both_speak Anything Anything (r.low.value u) (value_if u r.high) h.low.value (high_there r.high h.high))
      (λ p m. element_there (map_of u) r.low.start p.0 p.1)

  elements_there : (rs : List Ranged) → AllByRecursion RangedThere rs → AllByRecursion There (map (element_value u) rs)
  elements_there [] h = tt
  elements_there (r ∷ rs) h = (one_there r h.0, elements_there rs h.1)

  -- ---- by induction

  abbrev PE : Expr → Type 0
  PE x = PhraseThere u (phrase_of x)

  abbrev PS : Selector → Type 0
  PS x = BehindThere u q (behind_of x)

  abbrev PD : Designator → Type 0
  PD x = AreBehind u q (named_of x).behind

  abbrev PL : Element → Type 0
  PL x = RangedThere (ranged_of x)

  abbrev PT : Tail → Type 0
  PT x = PhraseThere u (tailed_of x).operand

  abbrev SE : Type 0
  SE = (x : Expr) × PE x

  abbrev SS : Type 0
  SS = (x : Selector) × PS x

  abbrev SD : Type 0
  SD = (x : Designator) × PD x

  abbrev SL : Type 0
  SL = (x : Element) × PL x

  abbrev ST : Type 0
  ST = (x : Tail) × PT x

  phrases_there : (xs : List SE) → PhrasesThere u (map phrase_of (map (λ (x : SE). x.0) xs))
  phrases_there [] = tt
  phrases_there (x ∷ xs) = (x.1, phrases_there xs)

  ranges_there : (xs : List SL) → AllByRecursion RangedThere (map ranged_of (map (λ (x : SL). x.0) xs))
  ranges_there [] = tt
  ranges_there (x ∷ xs) = (x.1, ranges_there xs)

  tails_there : (xs : List ST) → TF (map tailed_of (map (λ (x : ST). x.0) xs))
  tails_there [] = tt
  tails_there (x ∷ xs) = (x.1, tails_there xs)

  behind_there : (xs : List SS) → AreBehind u q (map behind_of (map (λ (x : SS). x.0) xs))
  behind_there [] = tt
  behind_there (x ∷ xs) = (x.1, behind_there xs)

  by_layer : (x : Expr-F Expr Selector Designator Element Tail) → Ph (expr_rule (map-Expr Expr Selector Designator Element Tail Phrase Behind Named Ranged Tailed phrase_of behind_of named_of ranged_of tailed_of x)) → PE (roll-Expr x)
  by_layer x h = subst Ph (sym (fold-roll-Expr Phrase Behind Named Ranged Tailed expr_rule selector_rule designator_rule element_rule tail_rule x)) h

  expr_cases : (y : Expr-F SE SS SD SL ST) → PE (roll-Expr (map-Expr SE SS SD SL ST Expr Selector Designator Element Tail (λ x. x.0) (λ x. x.0) (λ x. x.0) (λ x. x.0) (λ x. x.0) y))
  expr_cases (Expr-F.Designator n) = by_layer (Expr-F.Designator n.0) (designator_there (named_of n.0) n.1)
  expr_cases (Expr-F.Int at text) = by_layer (Expr-F.Int at text) (phrase_there at (λ u. integer_literal at (integer_text text)) (wants_speaks Anything (nat_le (integer_text text) 2147483647) rule.LiteralTooLarge at (constant (literal.Int (pos (integer_text text)))) tt))
  expr_cases (Expr-F.Char at text) = by_layer (Expr-F.Char at text) (phrase_there at (λ u. char_literal at (marked 0 text)) (wants_speaks Anything (nat_le (marked 0 text) 255) rule.LiteralTooLarge at (constant (literal.Char (marked 0 text))) tt))
  expr_cases (Expr-F.Str at text) = by_layer (Expr-F.Str at text) (phrase_there at (λ u. sound (constant (text_value text))) (λ n. tt))
  expr_cases (Expr-F.Nil at) = by_layer (Expr-F.Nil at) (phrase_there at (λ u. sound (constant literal.Nil)) (λ n. tt))
  expr_cases (Expr-F.Set at xs) =
      let rs = map ranged_of (map (λ (x : SL). x.0) xs) in
      by_layer (Expr-F.Set at (map (λ (x : SL). x.0) xs)) (phrase_there at (λ u. made set_of (each_sound (map (element_value u) rs))) (made_speaks Anything Anything set_of (each_sound (map (element_value u) rs)) (each_speaks (map (element_value u) rs) (elements_there rs (ranges_there xs))) (λ x t. tt)))
  expr_cases (Expr-F.Paren at x) = let p = phrase_of x.0 in by_layer (Expr-F.Paren at x.0) (phrase_there at (λ u. made bracketed (p.value u)) (made_speaks Anything Anything bracketed (p.value u) x.1.value (λ x t. tt)))
  expr_cases (Expr-F.Not at x) = let p = phrase_of x.0 in by_layer (Expr-F.Not at x.0) (phrase_there at (λ u. p.value u ▷ opposite (map_of u) at) (then_speaks Anything Anything (p.value u) (opposite (map_of u) at) x.1.value (λ x t. opposite_there (map_of u) at x)))
  expr_cases (Expr-F.Signed k at x) = let p = phrase_of x.0 in by_layer (Expr-F.Signed k at x.0) (phrase_there at (λ u. p.value u ▷ signed (map_of u) k at) (then_speaks Anything Anything (p.value u) (signed (map_of u) k at) x.1.value (λ x t. signed_there (map_of u) k at x)))
  expr_cases (Expr-F.Chain x ts) =
      let p = phrase_of x.0 in
      let rs = map tailed_of (map (λ (x : ST). x.0) ts) in
      by_layer (Expr-F.Chain x.0 (map (λ (x : ST). x.0) ts)) (phrase_there p.start (λ u. combine_all u rs (p.value u)) (all_there rs (p.value u) (tails_there ts) x.1.value))
  expr_cases (Expr-F.Relate l o at r) =
      let a = phrase_of l.0 in
      let b = phrase_of r.0 in
      by_layer (Expr-F.Relate l.0 o at r.0) (phrase_there a.start (λ u. relation_value u o at a b) (relation_there o at (a.value u) b l.1.value r.1))

  selector_layers : (x : Selector-F Expr Selector Designator Element Tail) → BehindThere u q (selector_rule (map-Selector Expr Selector Designator Element Tail Phrase Behind Named Ranged Tailed phrase_of behind_of named_of ranged_of tailed_of x)) → PS (roll-Selector x)
  selector_layers x h = subst (BehindThere u q) (sym (fold-roll-Selector Phrase Behind Named Ranged Tailed expr_rule selector_rule designator_rule element_rule tail_rule x)) h

  selector_cases : (y : Selector-F SE SS SD SL ST) → PS (roll-Selector (map-Selector SE SS SD SL ST Expr Selector Designator Element Tail (λ x. x.0) (λ x. x.0) (λ x. x.0) (λ x. x.0) (λ x. x.0) y))
  selector_cases (Selector-F.Field at x) = selector_layers (Selector-F.Field at x) tt
  selector_cases (Selector-F.Index at i) = selector_layers (Selector-F.Index at i.0) i.1
  selector_cases (Selector-F.Deref at) = selector_layers (Selector-F.Deref at) tt
  selector_cases (Selector-F.Call at xs) = selector_layers (Selector-F.Call at (map (λ (x : SE). x.0) xs)) (phrases_there xs)

  designator_cases : (y : Designator-F SE SS SD SL ST) → PD (roll-Designator (map-Designator SE SS SD SL ST Expr Selector Designator Element Tail (λ x. x.0) (λ x. x.0) (λ x. x.0) (λ x. x.0) (λ x. x.0) y))
  designator_cases y =
      let x = map-Designator SE SS SD SL ST Expr Selector Designator Element Tail (λ x. x.0) (λ x. x.0) (λ x. x.0) (λ x. x.0) (λ x. x.0) y in
      subst (λ (n : Named). AreBehind u q n.behind) (sym (fold-roll-Designator Phrase Behind Named Ranged Tailed expr_rule selector_rule designator_rule element_rule tail_rule x)) (behind_there y.selectors)

  element_by : (low : SE) (high : Option SE) → PL (roll-Element (map-Element SE SS SD SL ST Expr Selector Designator Element Tail (λ x. x.0) (λ x. x.0) (λ x. x.0) (λ x. x.0) (λ x. x.0) (record { low = low; high = high })))
  element_by low None =
      let x = map-Element SE SS SD SL ST Expr Selector Designator Element Tail (λ x. x.0) (λ x. x.0) (λ x. x.0) (λ x. x.0) (λ x. x.0) (record { low = low; high = None }) in
      subst RangedThere (sym (fold-roll-Element Phrase Behind Named Ranged Tailed expr_rule selector_rule designator_rule element_rule tail_rule x)) (record { low = low.1; high = tt })
  element_by low (Some h) =
      let x = map-Element SE SS SD SL ST Expr Selector Designator Element Tail (λ x. x.0) (λ x. x.0) (λ x. x.0) (λ x. x.0) (λ x. x.0) (record { low = low; high = Some h }) in
      subst RangedThere (sym (fold-roll-Element Phrase Behind Named Ranged Tailed expr_rule selector_rule designator_rule element_rule tail_rule x)) (record { low = low.1; high = h.1 })

  tail_cases : (y : Tail-F SE SS SD SL ST) → PT (roll-Tail (map-Tail SE SS SD SL ST Expr Selector Designator Element Tail (λ x. x.0) (λ x. x.0) (λ x. x.0) (λ x. x.0) (λ x. x.0) y))
  tail_cases y =
      let x = map-Tail SE SS SD SL ST Expr Selector Designator Element Tail (λ x. x.0) (λ x. x.0) (λ x. x.0) (λ x. x.0) (λ x. x.0) y in
      subst (λ (t : Tailed). PhraseThere u t.operand) (sym (fold-roll-Tail Phrase Behind Named Ranged Tailed expr_rule selector_rule designator_rule element_rule tail_rule x)) y.operand.1

  -- EACH EXPRESSION, DESIGNATOR AND ELEMENT of the grammar
  pub expr_there : (x : Expr) → PE x
  expr_there = ind-Expr PE PS PD PL PT (λ x y is. subst (λ z. PE (roll-Expr z)) is (expr_cases y)) (λ x y is. subst (λ z. PS (roll-Selector z)) is (selector_cases y)) (λ x y is. subst (λ z. PD (roll-Designator z)) is (designator_cases y)) (λ x y is. subst (λ z. PL (roll-Element z)) is (element_by y.low y.high)) (λ x y is. subst (λ z. PT (roll-Tail z)) is (tail_cases y))

  pub designator_of_there : (x : Designator) → PD x
  designator_of_there = ind-Designator PE PS PD PL PT (λ x y is. subst (λ z. PE (roll-Expr z)) is (expr_cases y)) (λ x y is. subst (λ z. PS (roll-Selector z)) is (selector_cases y)) (λ x y is. subst (λ z. PD (roll-Designator z)) is (designator_cases y)) (λ x y is. subst (λ z. PL (roll-Element z)) is (element_by y.low y.high)) (λ x y is. subst (λ z. PT (roll-Tail z)) is (tail_cases y))
