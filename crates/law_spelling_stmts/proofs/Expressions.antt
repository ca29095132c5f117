-- Expressions of the grammar fit, by induction over their trees.
use Rattle.std.proofs.Common.{Bool, true, false, List, [], ◌∷◌, map, Option, Some, None, sym, subst, ◌≡◌, ℕ, ◌<◌, ◌^◌, ◌∙◌, arith}
use Rattle.std.specs.Prelude.{not, pos, nat_lt, nat_le, ◌&&◌}
use Rattle.std.specs.List.{AllByRecursion}
use Rattle.ob_tree.specs.declared.pos.Pos.{Pos}
use Rattle.ob_tree.specs.declared.names.QName.{QName}
use Rattle.ob_tree.specs.declared.ident.Qualident.{Qualident}
use Rattle.ob_tree.specs.declared.expr.Relation.{Relation}
use Rattle.ob_tree.specs.declared.expr.Relation.TheVariants as relates
use Rattle.ob_tree.specs.declared.expr.Expr.{Expr, roll-Expr, map-Expr}
use Rattle.ob_tree.specs.declared.expr.Selector.{Selector, roll-Selector, map-Selector}
use Rattle.ob_tree.specs.declared.expr.Designator.{Designator, roll-Designator, map-Designator}
use Rattle.ob_tree.specs.declared.expr.Element.{Element, roll-Element, map-Element}
use Rattle.ob_tree.specs.declared.expr.Tail.{Tail, roll-Tail, map-Tail}
use Rattle.ob_tree.specs.declared.expr.Expr.TheOpen.{Expr-F, Selector-F, Designator-F, Tail-F}
use Rattle.ob_tree.specs.declared.expr.Expr.TheFolds.{ind-Expr, ind-Designator, ind-Element, fold-roll-Expr, fold-roll-Selector, fold-roll-Designator, fold-roll-Element, fold-roll-Tail}
use Rattle.ob_types.specs.declared.types.TypeRef.{TypeRef}
use Rattle.ob_types.specs.declared.typed.Guarded.{Guarded}
use Rattle.ob_types.specs.declared.typed.Guarded.TheVariants as guarded
use Rattle.ob_types.specs.declared.typed.ExprType.TheVariants as kind
use Rattle.ob_types.specs.declared.typed.TypedExpr.TheVariants as e
use Rattle.ob_types.specs.TypedSyntax.{ProcedureValue, IsPointer, IsRecord}
use Rattle.ob_types.specs.TypedView.{designator_view, expr_view}
use Rattle.ob_types.proofs.TypedViews.{view_procedure_value, view_is_pointer, view_is_record}
use Rattle.ob_rules.specs.declared.values.Place.{Place}
use Rattle.ob_rules.specs.declared.values.Valued.{Valued}
use Rattle.ob_rules.specs.declared.values.Valued.TheVariants as valued
use Rattle.ob_rules.specs.declared.meant.Meant.{Meant}
use Rattle.ob_rules.specs.declared.meant.Meant.TheVariants as means
use Rattle.ob_rules.specs.declared.meant.Where.{Where}
use Rattle.ob_rules.specs.declared.meant.Where.TheVariants.{InExpression}
use Rattle.ob_rules.specs.declared.broken.Rule.TheVariants as rule
use Rattle.ob_rules.specs.Judged.{Judged, sound, made, breaks, both, each_sound, ◌▷◌, is_quiet}
use Rattle.ob_rules.specs.Shapes.{Map, pointed_record}
use Rattle.ob_rules.specs.Names.{Around, map_of, type_named}
use Rattle.ob_rules.specs.Values.{computed, type_in, tree, type, place_in, constant, constant_in}
use Rattle.ob_rules.specs.Operators.{combined, opposite, signed, related, element, set_of}
use Rattle.ob_rules.specs.Designators.{guard_of, if_extends}
use Rattle.ob_rules.specs.Phrases.{Phrase, Behind}
use Rattle.ob_rules.specs.Expressions.{procedure_value, value_meant, Named, meant_by, designator_phrase, testable, record_if, record_test, pointer_test, test_record, test_of, test, untestable, is_test, Tailed, combine_all, bracketed, Ranged, value_if, element_value, relation_of, expr_rule, selector_rule, designator_rule, element_rule, tail_rule, phrase_of, named_of, ranged_of, tailed_of, behind_of, integer_literal, integer_text, char_literal, marked, constant_of, constant_if, constant_value, phrase}
use Rattle.std.proofs.lemmas.Bool.Decides.{nat_tests}
use Rattle.ob_types.specs.declared.value.Value.TheVariants as literal
use Rattle.ob_rules.specs.Constants.{text_value}
use Rattle.law_typing.specs.Known.{ConstantIs}
use Rattle.law_typing.specs.Spelled.{all_true}
use Rattle.law_spelling.specs.Coded.{PosFits}
use Rattle.law_spelling_read.specs.ReadPlaces.{pos_fits, text_fits, expr_layer, selector_layer, designator_layer, element_layer, tail_layer, expr_fits, designator_fits, element_fits, tail_fits, selector_fits}
use Rattle.law_spelling_stmts.proofs.Setting.{Con, Setting, PlaceOk, ValuedOk, MeantOk, Keeps, any_keeps, then_keeps, both_keep, made_keeps, each_keep, wants_so, wants_keeps, also_keeps, found_keeps, node_e, tree_ok}
use Rattle.law_spelling_stmts.proofs.Folding.{text_con}
use Rattle.law_spelling_stmts.proofs.Values.{combined_keeps, opposite_keeps, signed_keeps, related_keeps, ElementOk, element_keeps, set_keeps}
use Rattle.law_spelling_stmts.proofs.Calls.{PhraseOk, ArePhrases}
use Rattle.law_spelling_stmts.proofs.Designators.{BehindOk, designates_keeps}
use Rattle.law_lists.proofs.Lists.{Anything, IfThere, and_parts, less}

-- ---- designators

procedure_keeps : (k : Setting) (b : Bool) (at : Pos) (q : QName) (x : Valued) → ValuedOk k x → Keeps (ValuedOk k) (procedure_value b at q x)
procedure_keeps k true at q x h = h
procedure_keeps k false at q x h = tt

value_meant_keeps : (k : Setting) (at : Pos) (m : Meant) → MeantOk k m → Keeps (ValuedOk k) (value_meant at m)
value_meant_keeps k at (means.Place p) h = h
value_meant_keeps k at (means.Constant v) h = h
value_meant_keeps k at (means.Procedure q s) h = procedure_keeps k _ at q (computed (e.Procedure q s) (kind.Procedure s)) (node_e k _ (ProcedureValue q s) (view_procedure_value q s) tt tt)
value_meant_keeps k at (means.Call x) h = h
value_meant_keeps k at (means.Statement s) h = tt
value_meant_keeps k at m h = tt

pub record NamedOk (k : Setting) (n : Named) : Type 0 where
  pub at : PosFits n.ident.pos
  pub behind : AllByRecursion (BehindOk k) n.behind

pub meant_keeps : (k : Setting) (w : Where) (n : Named) → NamedOk k n → (u : Around) → k.Stands u → Keeps (MeantOk k) (meant_by w n u)
meant_keeps k w n g u s = designates_keeps k u s w n.ident g.at n.behind g.behind

designator_ok : (k : Setting) (n : Named) → NamedOk k n → PhraseOk k (designator_phrase n)
designator_ok k n g = record {
  start = g.at;
  value = λ u s. then_keeps (MeantOk k) (ValuedOk k) (meant_by InExpression n u) (value_meant n.ident.pos) (meant_keeps k InExpression n g u s) (λ m h. value_meant_keeps k n.ident.pos m h);
  meant = meant_keeps k InExpression n g;
}

-- ---- tests

record_test_ok : (k : Setting) (p : Place) (o : Option (Guarded × QName)) → PlaceOk k p → IfThere (ValuedOk k) (record_test p o)
record_test_ok k p None h = tt
record_test_ok k p (Some g) h = node_e k _ (IsRecord (designator_view p.designator.inner) g.1) (view_is_record p.designator.inner g.1) h tt

pointer_test_ok : (k : Setting) (x : Valued) (o : Option (Guarded × QName)) → ValuedOk k x → IfThere (ValuedOk k) (pointer_test x o)
pointer_test_ok k x None h = tt
pointer_test_ok k x (Some g) h = node_e k _ (IsPointer (expr_view (tree x)) g.1) (view_is_pointer (tree x) g.1) (tree_ok k x h) tt

test_record_ok : (k : Setting) (map : Map) (x : Valued) (t : TypeRef) → ValuedOk k x → IfThere (ValuedOk k) (test_record map (place_in x) t)
test_record_ok k map (valued.Place p) t h = record_test_ok k p (guard_of map p t) h
test_record_ok k map (valued.Constant v) t h = tt
test_record_ok k map (valued.Node n) t h = tt

test_of_ok : (k : Setting) (map : Map) (x : Valued) (t : TypeRef) (o : Option QName) → ValuedOk k x → IfThere (ValuedOk k) (test_of map x t o)
test_of_ok k map x t (Some a) h = pointer_test_ok k x (if_extends map guarded.Pointer (Some a) (pointed_record map t)) h
test_of_ok k map x t None h = test_record_ok k map x t h

test_keeps : (k : Setting) (map : Map) (at : Pos) (x : Valued) (t : TypeRef) → ValuedOk k x → Keeps (ValuedOk k) (test map at x t)
test_keeps k map at x t h = found_keeps (ValuedOk k) rule.UnfitTypeTest at (test_of map x t (record_if map (type_in (type x)))) (test_of_ok k map x t (record_if map (type_in (type x))) h)

untestable_keeps : (k : Setting) (map : Map) (at : Pos) (j : Judged Valued) → Keeps (ValuedOk k) j → Keeps (ValuedOk k) (untestable map at j)
untestable_keeps k map at j h = then_keeps (ValuedOk k) (ValuedOk k) j _ h (λ v q. wants_keeps (ValuedOk k) (testable map v) rule.UnfitTypeTest at v q)

is_test_keeps : (k : Setting) (u : Around) (at : Pos) (j : Judged Valued) (r : Phrase) (o : Option Qualident) → Keeps (ValuedOk k) j → Keeps (ValuedOk k) (is_test u at j r o)
is_test_keeps k u at j r (Some q) h =
    then_keeps (λ (p : Valued × TypeRef). ValuedOk k p.0 × Unit {0}) (ValuedOk k) (both (untestable (map_of u) at j) (type_named u q)) (λ p. test (map_of u) at p.0 p.1)
    (both_keep (ValuedOk k) Anything (untestable (map_of u) at j) (type_named u q) (untestable_keeps k (map_of u) at j h) (any_keeps (type_named u q))) (λ p g. test_keeps k (map_of u) at p.0 p.1 g.0)
is_test_keeps k u at j r None h = then_keeps Anything (ValuedOk k) (both j (r.value u)) _ (any_keeps (both j (r.value u))) (λ p g. also_keeps (ValuedOk k) (not (testable (map_of u) p.0)) rule.UnfitTypeTest at (breaks rule.UnfitOperands at) tt)

-- ---- chains, relations and sets

abbrev TailOk : Setting → Tailed → Type 0
TailOk k t = PosFits t.at × PhraseOk k t.operand

combine_keeps : (k : Setting) (u : Around) → k.Stands u → (ts : List Tailed) → AllByRecursion (TailOk k) ts → (j : Judged Valued) → Keeps (ValuedOk k) j → Keeps (ValuedOk k) (combine_all u ts j)
combine_keeps k u s [] g j h = h
combine_keeps k u s (t ∷ ts) g j h =
    combine_keeps k u s ts g.1 (both j (t.operand.value u) ▷ λ p. combined (map_of u) t.operator t.at p.0 p.1)
    (then_keeps (λ (p : Valued × Valued). ValuedOk k p.0 × ValuedOk k p.1) (ValuedOk k) (both j (t.operand.value u)) (λ p. combined (map_of u) t.operator t.at p.0 p.1) (both_keep (ValuedOk k) (ValuedOk k) j (t.operand.value u) h (g.0.1.value u s)) (λ p q. combined_keeps k (map_of u) t.operator t.at g.0.0 p.0 p.1 q.0 q.1))

two_keeps : (k : Setting) (u : Around) → k.Stands u → (o : Relation) (at : Pos) → PosFits at → (j : Judged Valued) (r : Phrase) → Keeps (ValuedOk k) j → PhraseOk k r → Keeps (ValuedOk k) (both j (r.value u) ▷ λ p. related (map_of u) o at p.0 p.1)
two_keeps k u s o at f j r h g = then_keeps (λ (p : Valued × Valued). ValuedOk k p.0 × ValuedOk k p.1) (ValuedOk k) (both j (r.value u)) (λ p. related (map_of u) o at p.0 p.1) (both_keep (ValuedOk k) (ValuedOk k) j (r.value u) h (g.value u s)) (λ p q. related_keeps k (map_of u) o at f p.0 p.1 q.0 q.1)

relation_keeps : (k : Setting) (u : Around) → k.Stands u → (o : Relation) (at : Pos) → PosFits at → (j : Judged Valued) (r : Phrase) → Keeps (ValuedOk k) j → PhraseOk k r → Keeps (ValuedOk k) (relation_of u o at j r)
relation_keeps k u s relates.Is at f j r h g = is_test_keeps k u at j r r.name h
relation_keeps k u s relates.Equal at f j r h g = two_keeps k u s relates.Equal at f j r h g
relation_keeps k u s relates.NotEqual at f j r h g = two_keeps k u s relates.NotEqual at f j r h g
relation_keeps k u s relates.Less at f j r h g = two_keeps k u s relates.Less at f j r h g
relation_keeps k u s relates.LessEqual at f j r h g = two_keeps k u s relates.LessEqual at f j r h g
relation_keeps k u s relates.Greater at f j r h g = two_keeps k u s relates.Greater at f j r h g
relation_keeps k u s relates.GreaterEqual at f j r h g = two_keeps k u s relates.GreaterEqual at f j r h g
relation_keeps k u s relates.In at f j r h g = two_keeps k u s relates.In at f j r h g

pub record RangedOk (k : Setting) (r : Ranged) : Type 0 where
  pub low : PhraseOk k r.low
  pub high : IfThere (PhraseOk k) r.high

high_keeps : (k : Setting) (u : Around) → k.Stands u → (o : Option Phrase) → IfThere (PhraseOk k) o → Keeps (IfThere (ValuedOk k)) (value_if u o)
high_keeps k u s None g = tt
high_keeps k u s (Some p) g = made_keeps (ValuedOk k) (IfThere (ValuedOk k)) (λ x. Some x) (p.value u) (g.value u s) (λ x h. h)

element_value_keeps : (k : Setting) (u : Around) → k.Stands u → (r : Ranged) → RangedOk k r → Keeps (ElementOk k) (element_value u r)
element_value_keeps k u s r g =
    then_keeps (λ (p : Valued × Option Valued). ValuedOk k p.0 × IfThere (ValuedOk k) p.1) (ElementOk k) (both (r.low.value u) (value_if u r.high)) (λ p. element (map_of u) r.low.start p.0 p.1)
    (both_keep (ValuedOk k) (IfThere (ValuedOk k)) (r.low.value u) (value_if u r.high) (g.low.value u s) (high_keeps k u s r.high g.high)) (λ p h. element_keeps k (map_of u) r.low.start g.low.start p.0 p.1 h.0 h.1)

elements_keep : (k : Setting) (u : Around) → k.Stands u → (rs : List Ranged) → AllByRecursion (RangedOk k) rs → AllByRecursion (Keeps (ElementOk k)) (map (element_value u) rs)
elements_keep k u s [] g = tt
elements_keep k u s (r ∷ rs) g = (element_value_keeps k u s r g.0, elements_keep k u s rs g.1)

bracket_ok : (k : Setting) (x : Valued) → ValuedOk k x → ValuedOk k (bracketed x)
bracket_ok k (valued.Place p) h = h
bracket_ok k (valued.Constant v) h = h
bracket_ok k (valued.Node n) h = h

-- ---- constants

constant_con : (k : Setting) (start : Pos) (x : Valued) → ValuedOk k x → Keeps Con (constant_of start (constant_in x))
constant_con k start (valued.Constant v) h = h
constant_con k start (valued.Place p) h = tt
constant_con k start (valued.Node n) h = tt

constant_if_keeps : (k : Setting) (start : Pos) (o : Option Valued) (b : Bool) → IfThere (ValuedOk k) o → Keeps Con (constant_if start o b)
constant_if_keeps k start (Some x) b h = constant_con k start x h
constant_if_keeps k start None true h = tt
constant_if_keeps k start None false h = tt

pub constant_keeps : (k : Setting) (u : Around) → k.Stands u → (p : Phrase) → PhraseOk k p → Keeps Con (constant_value u p)
constant_keeps k u s p g = constant_if_keeps k p.start (p.value u).node (is_quiet (p.value u).notes.broken) (g.value u s)

-- ---- by induction

pub pos_ok : (at : Pos) → pos_fits at ≡ true → PosFits at
pos_ok at e = let p = and_parts (nat_lt at.line (2 ^ 32)) (nat_lt at.col (2 ^ 32)) e in (less at.line (2 ^ 32) p.0, less at.col (2 ^ 32) p.1)

number_long : (n : ℕ) → nat_le n 2147483647 ≡ true → ConstantIs (literal.Int (pos n))
number_long n e = grind (arith, nat_tests)

code_small : (n : ℕ) → nat_le n 255 ≡ true → n < 256
code_small n e = grind (arith, nat_tests)

plain : (k : Setting) (at : Pos) (f : Around → Judged Valued) → PosFits at → ((u : Around) → k.Stands u → Keeps (ValuedOk k) (f u)) → PhraseOk k (phrase at f)
plain k at f h g = record { start = h; value = g; meant = tt }

module _ (k : Setting) where
  abbrev PX : Expr → Type 0
  PX x = expr_fits x ≡ true → PhraseOk k (phrase_of x)

  abbrev PB : Selector → Type 0
  PB x = selector_fits x ≡ true → BehindOk k (behind_of x)

  abbrev PD : Designator → Type 0
  PD x = designator_fits x ≡ true → NamedOk k (named_of x)

  abbrev PR : Element → Type 0
  PR x = element_fits x ≡ true → RangedOk k (ranged_of x)

  abbrev PT : Tail → Type 0
  PT x = tail_fits x ≡ true → TailOk k (tailed_of x)

  abbrev SX : Type 0
  SX = (x : Expr) × PX x

  abbrev SB : Type 0
  SB = (x : Selector) × PB x

  abbrev SD : Type 0
  SD = (x : Designator) × PD x

  abbrev SR : Type 0
  SR = (x : Element) × PR x

  abbrev ST : Type 0
  ST = (x : Tail) × PT x

  abbrev exprs_in : List SX → List Expr
  exprs_in xs = map (λ (x : SX). x.0) xs

  phrases_are : (xs : List SX) → all_true (map expr_fits (exprs_in xs)) ≡ true → ArePhrases k (map phrase_of (exprs_in xs))
  phrases_are [] e = tt
  phrases_are (x ∷ xs) e = let p = and_parts (expr_fits x.0) (all_true (map expr_fits (exprs_in xs))) e in (x.1 p.0, phrases_are xs p.1)

  selectors_are : (xs : List SB) → all_true (map selector_fits (map (λ (x : SB). x.0) xs)) ≡ true → AllByRecursion (BehindOk k) (map behind_of (map (λ (x : SB). x.0) xs))
  selectors_are [] e = tt
  selectors_are (x ∷ xs) e = let p = and_parts (selector_fits x.0) (all_true (map selector_fits (map (λ (x : SB). x.0) xs))) e in (x.1 p.0, selectors_are xs p.1)

  ranges_are : (xs : List SR) → all_true (map element_fits (map (λ (x : SR). x.0) xs)) ≡ true → AllByRecursion (RangedOk k) (map ranged_of (map (λ (x : SR). x.0) xs))
  ranges_are [] e = tt
  ranges_are (x ∷ xs) e = let p = and_parts (element_fits x.0) (all_true (map element_fits (map (λ (x : SR). x.0) xs))) e in (x.1 p.0, ranges_are xs p.1)

  tails_are : (xs : List ST) → all_true (map tail_fits (map (λ (x : ST). x.0) xs)) ≡ true → AllByRecursion (TailOk k) (map tailed_of (map (λ (x : ST). x.0) xs))
  tails_are [] e = tt
  tails_are (x ∷ xs) e = let p = and_parts (tail_fits x.0) (all_true (map tail_fits (map (λ (x : ST). x.0) xs))) e in (x.1 p.0, tails_are xs p.1)

  by_layers : (x : Expr-F Expr Selector Designator Element Tail) → (expr_layer (map-Expr Expr Selector Designator Element Tail Bool Bool Bool Bool Bool expr_fits selector_fits designator_fits element_fits tail_fits x) ≡ true → PhraseOk k (expr_rule (map-Expr Expr Selector Designator Element Tail Phrase Behind Named Ranged Tailed phrase_of behind_of named_of ranged_of tailed_of x))) → PX (roll-Expr x)
  by_layers x h e =
      subst (PhraseOk k) (sym (fold-roll-Expr Phrase Behind Named Ranged Tailed expr_rule selector_rule designator_rule element_rule tail_rule x))
      (h (sym (fold-roll-Expr Bool Bool Bool Bool Bool expr_layer selector_layer designator_layer element_layer tail_layer x) ∙ e))

  expr_cases : (y : Expr-F SX SB SD SR ST) → PX (roll-Expr (map-Expr SX SB SD SR ST Expr Selector Designator Element Tail (λ x. x.0) (λ x. x.0) (λ x. x.0) (λ x. x.0) (λ x. x.0) y))
  expr_cases (Expr-F.Designator n) = by_layers (Expr-F.Designator n.0) (λ e. designator_ok k (named_of n.0) (n.1 e))
  expr_cases (Expr-F.Int at text) = by_layers (Expr-F.Int at text) (λ e. plain k at (λ u. integer_literal at (integer_text text)) (pos_ok at e) (λ u s. wants_so (ValuedOk k) (nat_le (integer_text text) 2147483647) rule.LiteralTooLarge at (constant (literal.Int (pos (integer_text text)))) (λ i. (number_long (integer_text text) i, tt))))
  expr_cases (Expr-F.Char at text) = by_layers (Expr-F.Char at text) (λ e. plain k at (λ u. char_literal at (marked 0 text)) (pos_ok at e) (λ u s. wants_so (ValuedOk k) (nat_le (marked 0 text) 255) rule.LiteralTooLarge at (constant (literal.Char (marked 0 text))) (λ i. (code_small (marked 0 text) i, tt))))
  expr_cases (Expr-F.Str at text) = by_layers (Expr-F.Str at text) (λ e. let p = and_parts (pos_fits at) (text_fits text) e in plain k at (λ u. sound (constant (text_value text))) (pos_ok at p.0) (λ u s. text_con text p.1))
  expr_cases (Expr-F.Nil at) = by_layers (Expr-F.Nil at) (λ e. plain k at (λ u. sound (constant literal.Nil)) (pos_ok at e) (λ u s. (tt, tt)))
  expr_cases (Expr-F.Set at xs) =
      let rs = map ranged_of (map (λ (x : SR). x.0) xs) in
      by_layers (Expr-F.Set at (map (λ (x : SR). x.0) xs)) (λ e. let p = and_parts (pos_fits at) (all_true (map element_fits (map (λ (x : SR). x.0) xs))) e in plain k at (λ u. made set_of (each_sound (map (element_value u) rs))) (pos_ok at p.0) (λ u s. made_keeps (AllByRecursion (ElementOk k)) (ValuedOk k) set_of (each_sound (map (element_value u) rs)) (each_keep (ElementOk k) (map (element_value u) rs) (elements_keep k u s rs (ranges_are xs p.1))) (λ es h. set_keeps k es h)))
  expr_cases (Expr-F.Paren at x) = by_layers (Expr-F.Paren at x.0) (λ e. let p = and_parts (pos_fits at) (expr_fits x.0) e in plain k at (λ u. made bracketed ((phrase_of x.0).value u)) (pos_ok at p.0) (λ u s. made_keeps (ValuedOk k) (ValuedOk k) bracketed ((phrase_of x.0).value u) ((x.1 p.1).value u s) (λ v h. bracket_ok k v h)))
  expr_cases (Expr-F.Not at x) = by_layers (Expr-F.Not at x.0) (λ e. let p = and_parts (pos_fits at) (expr_fits x.0) e in plain k at (λ u. (phrase_of x.0).value u ▷ opposite (map_of u) at) (pos_ok at p.0) (λ u s. then_keeps (ValuedOk k) (ValuedOk k) ((phrase_of x.0).value u) (opposite (map_of u) at) ((x.1 p.1).value u s) (λ v h. opposite_keeps k (map_of u) at (pos_ok at p.0) v h)))
  expr_cases (Expr-F.Signed o at x) = by_layers (Expr-F.Signed o at x.0) (λ e. let p = and_parts (pos_fits at) (expr_fits x.0) e in plain k at (λ u. (phrase_of x.0).value u ▷ signed (map_of u) o at) (pos_ok at p.0) (λ u s. then_keeps (ValuedOk k) (ValuedOk k) ((phrase_of x.0).value u) (signed (map_of u) o at) ((x.1 p.1).value u s) (λ v h. signed_keeps k (map_of u) o at (pos_ok at p.0) v h)))
  expr_cases (Expr-F.Chain x ts) =
      let us = map tailed_of (map (λ (x : ST). x.0) ts) in
      by_layers (Expr-F.Chain x.0 (map (λ (x : ST). x.0) ts)) (λ e. let p = and_parts (expr_fits x.0) (all_true (map tail_fits (map (λ (x : ST). x.0) ts))) e in plain k (phrase_of x.0).start (λ u. combine_all u us ((phrase_of x.0).value u)) (x.1 p.0).start (λ u s. combine_keeps k u s us (tails_are ts p.1) ((phrase_of x.0).value u) ((x.1 p.0).value u s)))
  expr_cases (Expr-F.Relate l o at r) = by_layers (Expr-F.Relate l.0 o at r.0) (λ e. let p = and_parts (pos_fits at) (expr_fits l.0 && expr_fits r.0) e in let q = and_parts (expr_fits l.0) (expr_fits r.0) p.1 in plain k (phrase_of l.0).start (λ u. relation_of u o at ((phrase_of l.0).value u) (phrase_of r.0)) (l.1 q.0).start (λ u s. relation_keeps k u s o at (pos_ok at p.0) ((phrase_of l.0).value u) (phrase_of r.0) ((l.1 q.0).value u s) (r.1 q.1)))

  selector_layers : (x : Selector-F Expr Selector Designator Element Tail) → (selector_layer (map-Selector Expr Selector Designator Element Tail Bool Bool Bool Bool Bool expr_fits selector_fits designator_fits element_fits tail_fits x) ≡ true → BehindOk k (selector_rule (map-Selector Expr Selector Designator Element Tail Phrase Behind Named Ranged Tailed phrase_of behind_of named_of ranged_of tailed_of x))) → PB (roll-Selector x)
  selector_layers x h e =
      subst (BehindOk k) (sym (fold-roll-Selector Phrase Behind Named Ranged Tailed expr_rule selector_rule designator_rule element_rule tail_rule x))
      (h (sym (fold-roll-Selector Bool Bool Bool Bool Bool expr_layer selector_layer designator_layer element_layer tail_layer x) ∙ e))

  selector_cases : (y : Selector-F SX SB SD SR ST) → PB (roll-Selector (map-Selector SX SB SD SR ST Expr Selector Designator Element Tail (λ x. x.0) (λ x. x.0) (λ x. x.0) (λ x. x.0) (λ x. x.0) y))
  selector_cases (Selector-F.Field at x) = selector_layers (Selector-F.Field at x) (λ e. pos_ok at e)
  selector_cases (Selector-F.Index at i) = selector_layers (Selector-F.Index at i.0) (λ e. let p = and_parts (pos_fits at) (expr_fits i.0) e in (pos_ok at p.0, i.1 p.1))
  selector_cases (Selector-F.Deref at) = selector_layers (Selector-F.Deref at) (λ e. pos_ok at e)
  selector_cases (Selector-F.Call at xs) = selector_layers (Selector-F.Call at (exprs_in xs)) (λ e. let p = and_parts (pos_fits at) (all_true (map expr_fits (exprs_in xs))) e in (pos_ok at p.0, phrases_are xs p.1))

  designator_cases : (y : Designator-F SX SB SD SR ST) → PD (roll-Designator (map-Designator SX SB SD SR ST Expr Selector Designator Element Tail (λ x. x.0) (λ x. x.0) (λ x. x.0) (λ x. x.0) (λ x. x.0) y))
  designator_cases y e =
      let x = map-Designator SX SB SD SR ST Expr Selector Designator Element Tail (λ x. x.0) (λ x. x.0) (λ x. x.0) (λ x. x.0) (λ x. x.0) y in
      let p = and_parts (pos_fits y.ident.pos) (all_true (map selector_fits (map (λ (x : SB). x.0) y.selectors))) (sym (fold-roll-Designator Bool Bool Bool Bool Bool expr_layer selector_layer designator_layer element_layer tail_layer x) ∙ e) in
      subst (NamedOk k) (sym (fold-roll-Designator Phrase Behind Named Ranged Tailed expr_rule selector_rule designator_rule element_rule tail_rule x))
      (record { at = pos_ok y.ident.pos p.0; behind = selectors_are y.selectors p.1 })

  element_by : (low : SX) (high : Option SX) → PR (roll-Element (map-Element SX SB SD SR ST Expr Selector Designator Element Tail (λ x. x.0) (λ x. x.0) (λ x. x.0) (λ x. x.0) (λ x. x.0) (record { low = low; high = high })))
  element_by low None e =
      let x = map-Element SX SB SD SR ST Expr Selector Designator Element Tail (λ x. x.0) (λ x. x.0) (λ x. x.0) (λ x. x.0) (λ x. x.0) (record { low = low; high = None }) in
      let p = and_parts (expr_fits low.0) true (sym (fold-roll-Element Bool Bool Bool Bool Bool expr_layer selector_layer designator_layer element_layer tail_layer x) ∙ e) in
      subst (RangedOk k) (sym (fold-roll-Element Phrase Behind Named Ranged Tailed expr_rule selector_rule designator_rule element_rule tail_rule x)) (record { low = low.1 p.0; high = tt })
  element_by low (Some h) e =
      let x = map-Element SX SB SD SR ST Expr Selector Designator Element Tail (λ x. x.0) (λ x. x.0) (λ x. x.0) (λ x. x.0) (λ x. x.0) (record { low = low; high = Some h }) in
      let p = and_parts (expr_fits low.0) (expr_fits h.0) (sym (fold-roll-Element Bool Bool Bool Bool Bool expr_layer selector_layer designator_layer element_layer tail_layer x) ∙ e) in
      subst (RangedOk k) (sym (fold-roll-Element Phrase Behind Named Ranged Tailed expr_rule selector_rule designator_rule element_rule tail_rule x)) (record { low = low.1 p.0; high = h.1 p.1 })

  tail_cases : (y : Tail-F SX SB SD SR ST) → PT (roll-Tail (map-Tail SX SB SD SR ST Expr Selector Designator Element Tail (λ x. x.0) (λ x. x.0) (λ x. x.0) (λ x. x.0) (λ x. x.0) y))
  tail_cases y e =
      let x = map-Tail SX SB SD SR ST Expr Selector Designator Element Tail (λ x. x.0) (λ x. x.0) (λ x. x.0) (λ x. x.0) (λ x. x.0) y in
      let p = and_parts (pos_fits y.pos) (expr_fits y.operand.0) (sym (fold-roll-Tail Bool Bool Bool Bool Bool expr_layer selector_layer designator_layer element_layer tail_layer x) ∙ e) in
      subst (TailOk k) (sym (fold-roll-Tail Phrase Behind Named Ranged Tailed expr_rule selector_rule designator_rule element_rule tail_rule x)) (pos_ok y.pos p.0, y.operand.1 p.1)

  pub expr_ok : (x : Expr) → PX x
  expr_ok = ind-Expr PX PB PD PR PT (λ x y is. subst (λ z. PX (roll-Expr z)) is (expr_cases y)) (λ x y is. subst (λ z. PB (roll-Selector z)) is (selector_cases y)) (λ x y is. subst (λ z. PD (roll-Designator z)) is (designator_cases y)) (λ x y is. subst (λ z. PR (roll-Element z)) is (element_by y.low y.high)) (λ x y is. subst (λ z. PT (roll-Tail z)) is (tail_cases y))

  pub designator_named : (x : Designator) → PD x
  designator_named = ind-Designator PX PB PD PR PT (λ x y is. subst (λ z. PX (roll-Expr z)) is (expr_cases y)) (λ x y is. subst (λ z. PB (roll-Selector z)) is (selector_cases y)) (λ x y is. subst (λ z. PD (roll-Designator z)) is (designator_cases y)) (λ x y is. subst (λ z. PR (roll-Element z)) is (element_by y.low y.high)) (λ x y is. subst (λ z. PT (roll-Tail z)) is (tail_cases y))

  pub element_ok : (x : Element) → PR x
  element_ok = ind-Element PX PB PD PR PT (λ x y is. subst (λ z. PX (roll-Expr z)) is (expr_cases y)) (λ x y is. subst (λ z. PB (roll-Selector z)) is (selector_cases y)) (λ x y is. subst (λ z. PD (roll-Designator z)) is (designator_cases y)) (λ x y is. subst (λ z. PR (roll-Element z)) is (element_by y.low y.high)) (λ x y is. subst (λ z. PT (roll-Tail z)) is (tail_cases y))
