-- The law of expressions, by induction over the tree of the grammar.
use Rattle.std.proofs.Common.{◌≡◌, sym, ◌∙◌, subst, ℕ, ◌<◌, List, [], ◌∷◌, map, Option, Some, None, Bool, true, arith}
use Rattle.std.proofs.lemmas.Bool.Decides.{nat_tests}
use Rattle.std.specs.Prelude.{nat_lt}
use Rattle.ob_tree.specs.declared.names.QName.{QName}
use Rattle.ob_tree.specs.declared.expr.Expr.{Expr, roll-Expr, map-Expr}
use Rattle.ob_tree.specs.declared.expr.Designator.{Designator, roll-Designator, map-Designator}
use Rattle.ob_tree.specs.declared.expr.Element.{Element, roll-Element, map-Element}
use Rattle.ob_tree.specs.declared.expr.Tail.{Tail, roll-Tail, map-Tail}
use Rattle.ob_tree.specs.declared.expr.Selector.{Selector, roll-Selector, map-Selector}
use Rattle.ob_tree.specs.declared.expr.Expr.TheOpen.{Expr-F, Tail-F, Designator-F, Selector-F}
use Rattle.ob_tree.specs.declared.expr.Expr.TheFolds.{ind-Expr, ind-Designator, ind-Element, fold-roll-Expr, fold-roll-Designator, fold-roll-Element, fold-roll-Tail, fold-roll-Selector}
use Rattle.ob_types.specs.declared.types.TypeRef.{TypeRef}
use Rattle.ob_meaning.specs.Values.{Program, Formals, Held}
use Rattle.law_simulation_relation.specs.Typed.{AreCharacters}
use Rattle.ob_rules.specs.Phrases.{Phrase, Behind}
use Rattle.ob_rules.specs.Expressions.{Named, Ranged, Tailed, integer_text, marked, expr_rule, selector_rule, designator_rule, element_rule, tail_rule, phrase_of, named_of, ranged_of, tailed_of, behind_of}
use Rattle.law_typing.specs.Meant.{PhraseIs, ArePhrases, BehindIs, AreBehind, NamedIs, RangedIs, AreRanged, AreTailed}
use Rattle.law_typing.specs.Spelled.{all_true, are_bytes, expr_layer, selector_layer, designator_layer, element_layer, tail_layer, is_spelled, designator_spelled, element_spelled, tail_spelled, selector_spelled}
use Rattle.law_typing.proofs.Operators.{and_is}
use Rattle.law_typing.proofs.Phrases.{integer_is, char_is, string_is, nil_is, designator_is, paren_is, not_is, sign_is, chain_is, relate_is, set_phrase}

byte_small : (c : ℕ) → nat_lt c 256 ≡ true → c < 256
byte_small c e = grind (arith, nat_tests)

characters_are : (text : List ℕ) → are_bytes text ≡ true → AreCharacters text
characters_are [] e = tt
characters_are (c ∷ cs) e = let p = and_is (nat_lt c 256) (are_bytes cs) e in (byte_small c p.0, characters_are cs p.1)

module _ (program : Program) (Has : Formals → QName → Type 0) (unit : List ℕ) (held : List Held) (result : Option TypeRef) where
  abbrev PE : Expr → Type 0
  PE x = is_spelled x ≡ true → PhraseIs program Has unit held result (phrase_of x)

  abbrev PS : Selector → Type 0
  PS x = selector_spelled x ≡ true → BehindIs program Has unit held result (behind_of x)

  abbrev PD : Designator → Type 0
  PD x = designator_spelled x ≡ true → NamedIs program Has unit held result (named_of x)

  abbrev PL : Element → Type 0
  PL x = element_spelled x ≡ true → RangedIs program Has unit held result (ranged_of x)

  abbrev PT : Tail → Type 0
  PT x = tail_spelled x ≡ true → PhraseIs program Has unit held result (tailed_of x).operand

  abbrev SE : Type 0
  SE = (x : Expr) × PE x

  abbrev SS : Type 0
  SS = (x : Selector) × PS x

  abbrev SD : Type 0
  SD = (x : Designator) × PD x

  abbrev SL : Type 0
  SL = (x : Element) × PL x

  abbrev ST : Type 0
  ST = (x : Tail) × PT x

  -- PARTS IN A ROW

  phrases_are : (xs : List SE) → all_true (map is_spelled (map (λ (x : SE). x.0) xs)) ≡ true → ArePhrases program Has unit held result (map phrase_of (map (λ (x : SE). x.0) xs))
  phrases_are [] e = tt
  phrases_are (x ∷ xs) e = let p = and_is (is_spelled x.0) (all_true (map is_spelled (map (λ (x : SE). x.0) xs))) e in (x.1 p.0, phrases_are xs p.1)

  ranged_are : (xs : List SL) → all_true (map element_spelled (map (λ (x : SL). x.0) xs)) ≡ true → AreRanged program Has unit held result (map ranged_of (map (λ (x : SL). x.0) xs))
  ranged_are [] e = tt
  ranged_are (x ∷ xs) e = let p = and_is (element_spelled x.0) (all_true (map element_spelled (map (λ (x : SL). x.0) xs))) e in (x.1 p.0, ranged_are xs p.1)

  tailed_are : (xs : List ST) → all_true (map tail_spelled (map (λ (x : ST). x.0) xs)) ≡ true → AreTailed program Has unit held result (map tailed_of (map (λ (x : ST). x.0) xs))
  tailed_are [] e = tt
  tailed_are (x ∷ xs) e = let p = and_is (tail_spelled x.0) (all_true (map tail_spelled (map (λ (x : ST). x.0) xs))) e in (x.1 p.0, tailed_are xs p.1)

  behind_are : (xs : List SS) → all_true (map selector_spelled (map (λ (x : SS). x.0) xs)) ≡ true → AreBehind program Has unit held result (map behind_of (map (λ (x : SS). x.0) xs))
  behind_are [] e = tt
  behind_are (x ∷ xs) e = let p = and_is (selector_spelled x.0) (all_true (map selector_spelled (map (λ (x : SS). x.0) xs))) e in (x.1 p.0, behind_are xs p.1)

  -- EACH ALTERNATIVE

  abbrev Ph : Phrase → Type 0
  Ph p = PhraseIs program Has unit held result p

  abbrev open_expr : Expr-F SE SS SD SL ST → Expr-F Expr Selector Designator Element Tail
  open_expr y = map-Expr SE SS SD SL ST Expr Selector Designator Element Tail (λ x. x.0) (λ x. x.0) (λ x. x.0) (λ x. x.0) (λ x. x.0) y

  -- by the layer of phrases, and that of spelling
  by_layers : (x : Expr-F Expr Selector Designator Element Tail) → (expr_layer (map-Expr Expr Selector Designator Element Tail Bool Bool Bool Bool Bool is_spelled selector_spelled designator_spelled element_spelled tail_spelled x) ≡ true → Ph (expr_rule (map-Expr Expr Selector Designator Element Tail Phrase Behind Named Ranged Tailed phrase_of behind_of named_of ranged_of tailed_of x))) → PE (roll-Expr x)
  by_layers x h e =
      subst Ph (sym (fold-roll-Expr Phrase Behind Named Ranged Tailed expr_rule selector_rule designator_rule element_rule tail_rule x))
      (h (sym (fold-roll-Expr Bool Bool Bool Bool Bool expr_layer selector_layer designator_layer element_layer tail_layer x) ∙ e))

  expr_cases : (y : Expr-F SE SS SD SL ST) → PE (roll-Expr (open_expr y))
  expr_cases (Expr-F.Designator n) = by_layers (Expr-F.Designator n.0) (λ e. designator_is program Has unit held result (named_of n.0) (n.1 e))
  expr_cases (Expr-F.Int at text) = by_layers (Expr-F.Int at text) (λ e. integer_is program Has unit held result at (integer_text text))
  expr_cases (Expr-F.Char at text) = by_layers (Expr-F.Char at text) (λ e. char_is program Has unit held result at (marked 0 text))
  expr_cases (Expr-F.Str at text) = by_layers (Expr-F.Str at text) (λ e. string_is program Has unit held result at text (characters_are text e))
  expr_cases (Expr-F.Nil at) = by_layers (Expr-F.Nil at) (λ e. nil_is program Has unit held result at)
  expr_cases (Expr-F.Set at xs) = by_layers (Expr-F.Set at (map (λ (x : SL). x.0) xs)) (λ e. set_phrase program Has unit held result at (map ranged_of (map (λ (x : SL). x.0) xs)) (ranged_are xs e))
  expr_cases (Expr-F.Paren at x) = by_layers (Expr-F.Paren at x.0) (λ e. paren_is program Has unit held result at (phrase_of x.0) (x.1 e))
  expr_cases (Expr-F.Not at x) = by_layers (Expr-F.Not at x.0) (λ e. not_is program Has unit held result at (phrase_of x.0) (x.1 e))
  expr_cases (Expr-F.Signed s at x) = by_layers (Expr-F.Signed s at x.0) (λ e. sign_is program Has unit held result s at (phrase_of x.0) (x.1 e))
  expr_cases (Expr-F.Chain x ts) = by_layers (Expr-F.Chain x.0 (map (λ (x : ST). x.0) ts)) (λ e. let p = and_is (is_spelled x.0) (all_true (map tail_spelled (map (λ (x : ST). x.0) ts))) e in chain_is program Has unit held result (phrase_of x.0) (map tailed_of (map (λ (x : ST). x.0) ts)) (x.1 p.0) (tailed_are ts p.1))
  expr_cases (Expr-F.Relate l o at r) = by_layers (Expr-F.Relate l.0 o at r.0) (λ e. let p = and_is (is_spelled l.0) (is_spelled r.0) e in relate_is program Has unit held result (phrase_of l.0) o at (phrase_of r.0) (l.1 p.0) (r.1 p.1))

  abbrev B : Behind → Type 0
  B b = BehindIs program Has unit held result b

  selector_layers : (x : Selector-F Expr Selector Designator Element Tail) → (selector_layer (map-Selector Expr Selector Designator Element Tail Bool Bool Bool Bool Bool is_spelled selector_spelled designator_spelled element_spelled tail_spelled x) ≡ true → B (selector_rule (map-Selector Expr Selector Designator Element Tail Phrase Behind Named Ranged Tailed phrase_of behind_of named_of ranged_of tailed_of x))) → PS (roll-Selector x)
  selector_layers x h e =
      subst B (sym (fold-roll-Selector Phrase Behind Named Ranged Tailed expr_rule selector_rule designator_rule element_rule tail_rule x))
      (h (sym (fold-roll-Selector Bool Bool Bool Bool Bool expr_layer selector_layer designator_layer element_layer tail_layer x) ∙ e))

  selector_cases : (y : Selector-F SE SS SD SL ST) → PS (roll-Selector (map-Selector SE SS SD SL ST Expr Selector Designator Element Tail (λ x. x.0) (λ x. x.0) (λ x. x.0) (λ x. x.0) (λ x. x.0) y))
  selector_cases (Selector-F.Field at x) = selector_layers (Selector-F.Field at x) (λ e. tt)
  selector_cases (Selector-F.Index at i) = selector_layers (Selector-F.Index at i.0) (λ e. i.1 e)
  selector_cases (Selector-F.Deref at) = selector_layers (Selector-F.Deref at) (λ e. tt)
  selector_cases (Selector-F.Call at xs) = selector_layers (Selector-F.Call at (map (λ (x : SE). x.0) xs)) (λ e. phrases_are xs e)

  designator_cases : (y : Designator-F SE SS SD SL ST) → PD (roll-Designator (map-Designator SE SS SD SL ST Expr Selector Designator Element Tail (λ x. x.0) (λ x. x.0) (λ x. x.0) (λ x. x.0) (λ x. x.0) y))
  designator_cases y e =
      let x = map-Designator SE SS SD SL ST Expr Selector Designator Element Tail (λ x. x.0) (λ x. x.0) (λ x. x.0) (λ x. x.0) (λ x. x.0) y in
      subst (NamedIs program Has unit held result) (sym (fold-roll-Designator Phrase Behind Named Ranged Tailed expr_rule selector_rule designator_rule element_rule tail_rule x))
      (behind_are y.selectors (sym (fold-roll-Designator Bool Bool Bool Bool Bool expr_layer selector_layer designator_layer element_layer tail_layer x) ∙ e))

  element_by : (low : SE) (high : Option SE) → PL (roll-Element (map-Element SE SS SD SL ST Expr Selector Designator Element Tail (λ x. x.0) (λ x. x.0) (λ x. x.0) (λ x. x.0) (λ x. x.0) (record { low = low; high = high })))
  element_by low None e =
      let x = map-Element SE SS SD SL ST Expr Selector Designator Element Tail (λ x. x.0) (λ x. x.0) (λ x. x.0) (λ x. x.0) (λ x. x.0) (record { low = low; high = None }) in
      let p = and_is (is_spelled low.0) true (sym (fold-roll-Element Bool Bool Bool Bool Bool expr_layer selector_layer designator_layer element_layer tail_layer x) ∙ e) in
      subst (RangedIs program Has unit held result) (sym (fold-roll-Element Phrase Behind Named Ranged Tailed expr_rule selector_rule designator_rule element_rule tail_rule x)) (record { low = low.1 p.0; high = tt })
  element_by low (Some h) e =
      let x = map-Element SE SS SD SL ST Expr Selector Designator Element Tail (λ x. x.0) (λ x. x.0) (λ x. x.0) (λ x. x.0) (λ x. x.0) (record { low = low; high = Some h }) in
      let p = and_is (is_spelled low.0) (is_spelled h.0) (sym (fold-roll-Element Bool Bool Bool Bool Bool expr_layer selector_layer designator_layer element_layer tail_layer x) ∙ e) in
      subst (RangedIs program Has unit held result) (sym (fold-roll-Element Phrase Behind Named Ranged Tailed expr_rule selector_rule designator_rule element_rule tail_rule x)) (record { low = low.1 p.0; high = h.1 p.1 })

  tail_cases : (y : Tail-F SE SS SD SL ST) → PT (roll-Tail (map-Tail SE SS SD SL ST Expr Selector Designator Element Tail (λ x. x.0) (λ x. x.0) (λ x. x.0) (λ x. x.0) (λ x. x.0) y))
  tail_cases y e =
      let x = map-Tail SE SS SD SL ST Expr Selector Designator Element Tail (λ x. x.0) (λ x. x.0) (λ x. x.0) (λ x. x.0) (λ x. x.0) y in
      subst (λ (t : Tailed). Ph t.operand) (sym (fold-roll-Tail Phrase Behind Named Ranged Tailed expr_rule selector_rule designator_rule element_rule tail_rule x))
      (y.operand.1 (sym (fold-roll-Tail Bool Bool Bool Bool Bool expr_layer selector_layer designator_layer element_layer tail_layer x) ∙ e))

  -- the whole: each expression, designator and element of the grammar
  pub expr_is : (x : Expr) → PE x
  expr_is = ind-Expr PE PS PD PL PT (λ x y is. subst (λ z. PE (roll-Expr z)) is (expr_cases y)) (λ x y is. subst (λ z. PS (roll-Selector z)) is (selector_cases y)) (λ x y is. subst (λ z. PD (roll-Designator z)) is (designator_cases y)) (λ x y is. subst (λ z. PL (roll-Element z)) is (element_by y.low y.high)) (λ x y is. subst (λ z. PT (roll-Tail z)) is (tail_cases y))

  pub designator_of_is : (x : Designator) → PD x
  designator_of_is = ind-Designator PE PS PD PL PT (λ x y is. subst (λ z. PE (roll-Expr z)) is (expr_cases y)) (λ x y is. subst (λ z. PS (roll-Selector z)) is (selector_cases y)) (λ x y is. subst (λ z. PD (roll-Designator z)) is (designator_cases y)) (λ x y is. subst (λ z. PL (roll-Element z)) is (element_by y.low y.high)) (λ x y is. subst (λ z. PT (roll-Tail z)) is (tail_cases y))

  pub element_of_is : (x : Element) → PL x
  element_of_is = ind-Element PE PS PD PL PT (λ x y is. subst (λ z. PE (roll-Expr z)) is (expr_cases y)) (λ x y is. subst (λ z. PS (roll-Selector z)) is (selector_cases y)) (λ x y is. subst (λ z. PD (roll-Designator z)) is (designator_cases y)) (λ x y is. subst (λ z. PL (roll-Element z)) is (element_by y.low y.high)) (λ x y is. subst (λ z. PT (roll-Tail z)) is (tail_cases y))
