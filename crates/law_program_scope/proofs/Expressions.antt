-- Expressions name variables that are there, by induction over their trees.
use Rattle.std.proofs.Common.{Bool, true, false, List, [], ◌∷◌, map, Option, Some, None, sym, subst}
use Rattle.std.specs.Prelude.{not}
use Rattle.std.specs.List.{AllByRecursion}
use Rattle.ob_tree.specs.declared.pos.Pos.{Pos}
use Rattle.ob_tree.specs.declared.names.QName.{QName}
use Rattle.ob_tree.specs.declared.ident.Qualident.{Qualident}
use Rattle.ob_tree.specs.declared.expr.Relation.{Relation}
use Rattle.ob_tree.specs.declared.expr.Relation.TheVariants as relates
use Rattle.ob_tree.specs.declared.expr.Expr.{Expr, roll-Expr, map-Expr}
use Rattle.ob_tree.specs.declared.expr.Selector.{Selector, roll-Selector, map-Selector}
use Rattle.ob_tree.specs.declared.expr.Designator.{Designator, roll-Designator, map-Designator}
use Rattle.ob_tree.specs.declared.expr.Element.{Element, roll-Element, map-Element}
use Rattle.ob_tree.specs.declared.expr.Tail.{Tail, roll-Tail, map-Tail}
use Rattle.ob_tree.specs.declared.expr.Expr.TheOpen.{Expr-F, Selector-F, Designator-F, Tail-F}
use Rattle.ob_tree.specs.declared.expr.Expr.TheFolds.{ind-Expr, ind-Designator, fold-roll-Expr, fold-roll-Selector, fold-roll-Designator, fold-roll-Element, fold-roll-Tail}
use Rattle.ob_types.specs.declared.types.TypeRef.{TypeRef}
use Rattle.ob_types.specs.declared.typed.Guarded.{Guarded}
use Rattle.ob_types.specs.declared.typed.Guarded.TheVariants as guarded
use Rattle.ob_types.specs.declared.typed.ExprType.TheVariants as kind
use Rattle.ob_types.specs.declared.typed.TypedExpr.TheVariants as e
use Rattle.ob_types.specs.TypedSyntax.{ProcedureValue, IsPointer, IsRecord}
use Rattle.ob_types.specs.TypedView.{designator_view, expr_view}
use Rattle.ob_types.proofs.TypedViews.{view_procedure_value, view_is_pointer, view_is_record}
use Rattle.ob_scheme.specs.Context.{Context}
use Rattle.ob_rules.specs.declared.values.Place.{Place}
use Rattle.ob_rules.specs.declared.values.Valued.{Valued}
use Rattle.ob_rules.specs.declared.values.Valued.TheVariants as valued
use Rattle.ob_rules.specs.declared.meant.Meant.{Meant}
use Rattle.ob_rules.specs.declared.meant.Meant.TheVariants as means
use Rattle.ob_rules.specs.declared.meant.Where.{Where}
use Rattle.ob_rules.specs.declared.meant.Where.TheVariants.{InExpression}
use Rattle.ob_rules.specs.declared.broken.Rule.TheVariants as rule
use Rattle.ob_rules.specs.Judged.{Judged, also, breaks, both, each_sound, ◌▷◌}
use Rattle.ob_rules.specs.Shapes.{Map, pointed_record}
use Rattle.ob_rules.specs.Names.{Around, map_of, type_named}
use Rattle.ob_rules.specs.Values.{computed, type_in, tree, type, place_in}
use Rattle.ob_rules.specs.Operators.{combined, opposite, signed, related, element, set_of}
use Rattle.ob_rules.specs.Designators.{guard_of, if_extends}
use Rattle.ob_rules.specs.Phrases.{Phrase, Behind}
use Rattle.ob_rules.specs.Expressions.{procedure_value, value_meant, Named, meant_by, designator_phrase, testable, record_if, record_test, pointer_test, test_record, test_of, test, untestable, is_test, Tailed, combine_all, bracketed, Ranged, value_if, element_value, relation_of, expr_rule, selector_rule, designator_rule, element_rule, tail_rule, phrase_of, named_of, ranged_of, tailed_of, behind_of}
use Rattle.law_program_scope.proofs.Setting.{Stands, PlaceOk, ValuedOk, MeantOk, Keeps, any_keeps, then_keeps, both_keep, made_keeps, each_keep, wants_keeps, also_keeps, found_keeps, named_e, tree_ok}
use Rattle.law_program_scope.proofs.Values.{combined_keeps, opposite_keeps, signed_keeps, related_keeps, ElementOk, element_keeps, set_keeps}
use Rattle.law_program_scope.proofs.Calls.{PhraseOk, ArePhrases}
use Rattle.law_program_scope.proofs.Designators.{BehindOk, designates_keeps}
use Rattle.law_lists.proofs.Lists.{Anything, IfThere}

-- a value alone
abbrev ValueOk : Context → (Around → Judged Valued) → Type 0
ValueOk k f = (u : Around) → Stands k u → Keeps (ValuedOk k) (f u)

-- ---- designators

procedure_keeps : (k : Context) (b : Bool) (at : Pos) (q : QName) (x : Valued) → ValuedOk k x → Keeps (ValuedOk k) (procedure_value b at q x)
procedure_keeps k true at q x h = h
procedure_keeps k false at q x h = tt

value_meant_keeps : (k : Context) (at : Pos) (m : Meant) → MeantOk k m → Keeps (ValuedOk k) (value_meant at m)
value_meant_keeps k at (means.Place p) h = h
value_meant_keeps k at (means.Constant v) h = tt
value_meant_keeps k at (means.Procedure q s) h = procedure_keeps k _ at q (computed (e.Procedure q s) (kind.Procedure s)) (named_e k _ (ProcedureValue q s) (view_procedure_value q s) tt)
value_meant_keeps k at (means.Call x) h = h
value_meant_keeps k at (means.Statement s) h = tt
value_meant_keeps k at m h = tt

abbrev pub NamedOk : Context → Named → Type 0
NamedOk k n = AllByRecursion (BehindOk k) n.behind

pub meant_keeps : (k : Context) (w : Where) (n : Named) → NamedOk k n → (u : Around) → Stands k u → Keeps (MeantOk k) (meant_by w n u)
meant_keeps k w n g u s = designates_keeps k u s w n.ident n.behind g

designator_ok : (k : Context) (n : Named) → NamedOk k n → PhraseOk k (designator_phrase n)
designator_ok k n g = (λ u s. then_keeps (MeantOk k) (ValuedOk k) (meant_by InExpression n u) (value_meant n.ident.pos) (meant_keeps k InExpression n g u s) (λ m h. value_meant_keeps k n.ident.pos m h), meant_keeps k InExpression n g)

-- ---- tests

record_test_ok : (k : Context) (p : Place) (o : Option (Guarded × QName)) → PlaceOk k p → IfThere (ValuedOk k) (record_test p o)
record_test_ok k p None h = tt
record_test_ok k p (Some g) h = named_e k _ (IsRecord (designator_view p.designator.inner) g.1) (view_is_record p.designator.inner g.1) h.0

pointer_test_ok : (k : Context) (x : Valued) (o : Option (Guarded × QName)) → ValuedOk k x → IfThere (ValuedOk k) (pointer_test x o)
pointer_test_ok k x None h = tt
pointer_test_ok k x (Some g) h = named_e k _ (IsPointer (expr_view (tree x)) g.1) (view_is_pointer (tree x) g.1) (tree_ok k x h)

test_record_ok : (k : Context) (map : Map) (x : Valued) (t : TypeRef) → ValuedOk k x → IfThere (ValuedOk k) (test_record map (place_in x) t)
test_record_ok k map (valued.Place p) t h = record_test_ok k p (guard_of map p t) h
test_record_ok k map (valued.Constant v) t h = tt
test_record_ok k map (valued.Node n) t h = tt

test_of_ok : (k : Context) (map : Map) (x : Valued) (t : TypeRef) (o : Option QName) → ValuedOk k x → IfThere (ValuedOk k) (test_of map x t o)
test_of_ok k map x t (Some a) h = pointer_test_ok k x (if_extends map guarded.Pointer (Some a) (pointed_record map t)) h
test_of_ok k map x t None h = test_record_ok k map x t h

test_keeps : (k : Context) (map : Map) (at : Pos) (x : Valued) (t : TypeRef) → ValuedOk k x → Keeps (ValuedOk k) (test map at x t)
test_keeps k map at x t h = found_keeps (ValuedOk k) rule.UnfitTypeTest at (test_of map x t (record_if map (type_in (type x)))) (test_of_ok k map x t (record_if map (type_in (type x))) h)

untestable_keeps : (k : Context) (map : Map) (at : Pos) (j : Judged Valued) → Keeps (ValuedOk k) j → Keeps (ValuedOk k) (untestable map at j)
untestable_keeps k map at j h = then_keeps (ValuedOk k) (ValuedOk k) j _ h (λ v q. wants_keeps (ValuedOk k) (testable map v) rule.UnfitTypeTest at v q)

is_test_keeps : (k : Context) (u : Around) (at : Pos) (j : Judged Valued) (r : Phrase) (o : Option Qualident) → Keeps (ValuedOk k) j → Keeps (ValuedOk k) (is_test u at j r o)
is_test_keeps k u at j r (Some q) h =
    then_keeps (λ (p : Valued × TypeRef). ValuedOk k p.0 × Unit {0}) (ValuedOk k) (both (untestable (map_of u) at j) (type_named u q)) (λ p. test (map_of u) at p.0 p.1)
    (both_keep (ValuedOk k) Anything (untestable (map_of u) at j) (type_named u q) (untestable_keeps k (map_of u) at j h) (any_keeps (type_named u q))) (λ p g. test_keeps k (map_of u) at p.0 p.1 g.0)
is_test_keeps k u at j r None h = then_keeps Anything (ValuedOk k) (both j (r.value u)) _ (any_keeps (both j (r.value u))) (λ p g. also_none p)
  where
    also_none : (p : Valued × Valued) → Keeps (ValuedOk k) (also (not (testable (map_of u) p.0)) rule.UnfitTypeTest at (breaks rule.UnfitOperands at))
    also_none p = also_keeps (ValuedOk k) (not (testable (map_of u) p.0)) rule.UnfitTypeTest at (breaks rule.UnfitOperands at) (tt)

-- ---- chains, relations and sets

combine_keeps : (k : Context) (u : Around) → Stands k u → (ts : List Tailed) → AllByRecursion (λ (t : Tailed). PhraseOk k t.operand) ts → (j : Judged Valued) → Keeps (ValuedOk k) j → Keeps (ValuedOk k) (combine_all u ts j)
combine_keeps k u s [] g j h = h
combine_keeps k u s (t ∷ ts) g j h =
    combine_keeps k u s ts g.1 (both j (t.operand.value u) ▷ λ p. combined (map_of u) t.operator t.at p.0 p.1)
    (then_keeps (λ (p : Valued × Valued). ValuedOk k p.0 × ValuedOk k p.1) (ValuedOk k) (both j (t.operand.value u)) (λ p. combined (map_of u) t.operator t.at p.0 p.1) (both_keep (ValuedOk k) (ValuedOk k) j (t.operand.value u) h (g.0.0 u s)) (λ p q. combined_keeps k (map_of u) t.operator t.at p.0 p.1 q.0 q.1))

relation_keeps : (k : Context) (u : Around) → Stands k u → (o : Relation) (at : Pos) (j : Judged Valued) (r : Phrase) → Keeps (ValuedOk k) j → PhraseOk k r → Keeps (ValuedOk k) (relation_of u o at j r)
relation_keeps k u s relates.Is at j r h g = is_test_keeps k u at j r r.name h
relation_keeps k u s relates.Equal at j r h g = then_keeps (λ (p : Valued × Valued). ValuedOk k p.0 × ValuedOk k p.1) (ValuedOk k) (both j (r.value u)) (λ p. related (map_of u) relates.Equal at p.0 p.1) (both_keep (ValuedOk k) (ValuedOk k) j (r.value u) h (g.0 u s)) (λ p q. related_keeps k (map_of u) relates.Equal at p.0 p.1 q.0 q.1)
relation_keeps k u s relates.NotEqual at j r h g = then_keeps (λ (p : Valued × Valued). ValuedOk k p.0 × ValuedOk k p.1) (ValuedOk k) (both j (r.value u)) (λ p. related (map_of u) relates.NotEqual at p.0 p.1) (both_keep (ValuedOk k) (ValuedOk k) j (r.value u) h (g.0 u s)) (λ p q. related_keeps k (map_of u) relates.NotEqual at p.0 p.1 q.0 q.1)
relation_keeps k u s relates.Less at j r h g = then_keeps (λ (p : Valued × Valued). ValuedOk k p.0 × ValuedOk k p.1) (ValuedOk k) (both j (r.value u)) (λ p. related (map_of u) relates.Less at p.0 p.1) (both_keep (ValuedOk k) (ValuedOk k) j (r.value u) h (g.0 u s)) (λ p q. related_keeps k (map_of u) relates.Less at p.0 p.1 q.0 q.1)
relation_keeps k u s relates.LessEqual at j r h g = then_keeps (λ (p : Valued × Valued). ValuedOk k p.0 × ValuedOk k p.1) (ValuedOk k) (both j (r.value u)) (λ p. related (map_of u) relates.LessEqual at p.0 p.1) (both_keep (ValuedOk k) (ValuedOk k) j (r.value u) h (g.0 u s)) (λ p q. related_keeps k (map_of u) relates.LessEqual at p.0 p.1 q.0 q.1)
relation_keeps k u s relates.Greater at j r h g = then_keeps (λ (p : Valued × Valued). ValuedOk k p.0 × ValuedOk k p.1) (ValuedOk k) (both j (r.value u)) (λ p. related (map_of u) relates.Greater at p.0 p.1) (both_keep (ValuedOk k) (ValuedOk k) j (r.value u) h (g.0 u s)) (λ p q. related_keeps k (map_of u) relates.Greater at p.0 p.1 q.0 q.1)
relation_keeps k u s relates.GreaterEqual at j r h g = then_keeps (λ (p : Valued × Valued). ValuedOk k p.0 × ValuedOk k p.1) (ValuedOk k) (both j (r.value u)) (λ p. related (map_of u) relates.GreaterEqual at p.0 p.1) (both_keep (ValuedOk k) (ValuedOk k) j (r.value u) h (g.0 u s)) (λ p q. related_keeps k (map_of u) relates.GreaterEqual at p.0 p.1 q.0 q.1)
relation_keeps k u s relates.In at j r h g = then_keeps (λ (p : Valued × Valued). ValuedOk k p.0 × ValuedOk k p.1) (ValuedOk k) (both j (r.value u)) (λ p. related (map_of u) relates.In at p.0 p.1) (both_keep (ValuedOk k) (ValuedOk k) j (r.value u) h (g.0 u s)) (λ p q. related_keeps k (map_of u) relates.In at p.0 p.1 q.0 q.1)

abbrev RangedOk : Context → Ranged → Type 0
RangedOk k r = PhraseOk k r.low × IfThere (PhraseOk k) r.high

high_keeps : (k : Context) (u : Around) → Stands k u → (o : Option Phrase) → IfThere (PhraseOk k) o → Keeps (IfThere (ValuedOk k)) (value_if u o)
high_keeps k u s None g = tt
high_keeps k u s (Some p) g = made_keeps (ValuedOk k) (IfThere (ValuedOk k)) (λ x. Some x) (p.value u) (g.0 u s) (λ x h. h)

element_value_keeps : (k : Context) (u : Around) → Stands k u → (r : Ranged) → RangedOk k r → Keeps (ElementOk k) (element_value u r)
element_value_keeps k u s r g =
    then_keeps (λ (p : Valued × Option Valued). ValuedOk k p.0 × IfThere (ValuedOk k) p.1) (ElementOk k) (both (r.low.value u) (value_if u r.high)) (λ p. element (map_of u) r.low.start p.0 p.1)
    (both_keep (ValuedOk k) (IfThere (ValuedOk k)) (r.low.value u) (value_if u r.high) (g.0.0 u s) (high_keeps k u s r.high g.1)) (λ p h. element_keeps k (map_of u) r.low.start p.0 p.1 h.0 h.1)

elements_keep : (k : Context) (u : Around) → Stands k u → (rs : List Ranged) → AllByRecursion (RangedOk k) rs → AllByRecursion (Keeps (ElementOk k)) (map (element_value u) rs)
elements_keep k u s [] g = tt
elements_keep k u s (r ∷ rs) g = (element_value_keeps k u s r g.0, elements_keep k u s rs g.1)

bracket_ok : (k : Context) (x : Valued) → ValuedOk k x → ValuedOk k (bracketed x)
bracket_ok k (valued.Place p) h = h
bracket_ok k (valued.Constant v) h = h
bracket_ok k (valued.Node n) h = h

-- ---- by induction

module _ (k : Context) where
  abbrev PE : Expr → Type 0
  PE x = PhraseOk k (phrase_of x)

  abbrev PS : Selector → Type 0
  PS x = BehindOk k (behind_of x)

  abbrev PD : Designator → Type 0
  PD x = NamedOk k (named_of x)

  abbrev PL : Element → Type 0
  PL x = RangedOk k (ranged_of x)

  abbrev PT : Tail → Type 0
  PT x = PhraseOk k (tailed_of x).operand

  abbrev SE : Type 0
  SE = (x : Expr) × PE x

  abbrev SS : Type 0
  SS = (x : Selector) × PS x

  abbrev SD : Type 0
  SD = (x : Designator) × PD x

  abbrev SL : Type 0
  SL = (x : Element) × PL x

  abbrev ST : Type 0
  ST = (x : Tail) × PT x

  phrases_are : (xs : List SE) → ArePhrases k (map phrase_of (map (λ (x : SE). x.0) xs))
  phrases_are [] = tt
  phrases_are (x ∷ xs) = (x.1, phrases_are xs)

  ranged_are : (xs : List SL) → AllByRecursion (RangedOk k) (map ranged_of (map (λ (x : SL). x.0) xs))
  ranged_are [] = tt
  ranged_are (x ∷ xs) = (x.1, ranged_are xs)

  tailed_are : (xs : List ST) → AllByRecursion (λ (t : Tailed). PhraseOk k t.operand) (map tailed_of (map (λ (x : ST). x.0) xs))
  tailed_are [] = tt
  tailed_are (x ∷ xs) = (x.1, tailed_are xs)

  behind_are : (xs : List SS) → AllByRecursion (BehindOk k) (map behind_of (map (λ (x : SS). x.0) xs))
  behind_are [] = tt
  behind_are (x ∷ xs) = (x.1, behind_are xs)

  by_layer : (x : Expr-F Expr Selector Designator Element Tail) → PhraseOk k (expr_rule (map-Expr Expr Selector Designator Element Tail Phrase Behind Named Ranged Tailed phrase_of behind_of named_of ranged_of tailed_of x)) → PE (roll-Expr x)
  by_layer x h = subst (PhraseOk k) (sym (fold-roll-Expr Phrase Behind Named Ranged Tailed expr_rule selector_rule designator_rule element_rule tail_rule x)) h

  expr_cases : (y : Expr-F SE SS SD SL ST) → PE (roll-Expr (map-Expr SE SS SD SL ST Expr Selector Designator Element Tail (λ x. x.0) (λ x. x.0) (λ x. x.0) (λ x. x.0) (λ x. x.0) y))
  expr_cases (Expr-F.Designator n) = by_layer (Expr-F.Designator n.0) (designator_ok k (named_of n.0) n.1)
  expr_cases (Expr-F.Int at text) = by_layer (Expr-F.Int at text) (λ u s. wants_keeps (ValuedOk k) _ rule.LiteralTooLarge at _ tt, tt)
  expr_cases (Expr-F.Char at text) = by_layer (Expr-F.Char at text) (λ u s. wants_keeps (ValuedOk k) _ rule.LiteralTooLarge at _ tt, tt)
  expr_cases (Expr-F.Str at text) = by_layer (Expr-F.Str at text) (λ u s. tt, tt)
  expr_cases (Expr-F.Nil at) = by_layer (Expr-F.Nil at) (λ u s. tt, tt)
  expr_cases (Expr-F.Set at xs) =
      let rs = map ranged_of (map (λ (x : SL). x.0) xs) in
      by_layer (Expr-F.Set at (map (λ (x : SL). x.0) xs)) (λ u s. made_keeps (AllByRecursion (ElementOk k)) (ValuedOk k) set_of (each_sound (map (element_value u) rs)) (each_keep (ElementOk k) (map (element_value u) rs) (elements_keep k u s rs (ranged_are xs))) (λ es h. set_keeps k es h), tt)
  expr_cases (Expr-F.Paren at x) = by_layer (Expr-F.Paren at x.0) (λ u s. made_keeps (ValuedOk k) (ValuedOk k) bracketed ((phrase_of x.0).value u) (x.1.0 u s) (λ v h. bracket_ok k v h), tt)
  expr_cases (Expr-F.Not at x) = by_layer (Expr-F.Not at x.0) (λ u s. then_keeps (ValuedOk k) (ValuedOk k) ((phrase_of x.0).value u) (opposite (map_of u) at) (x.1.0 u s) (λ v h. opposite_keeps k (map_of u) at v h), tt)
  expr_cases (Expr-F.Signed o at x) = by_layer (Expr-F.Signed o at x.0) (λ u s. then_keeps (ValuedOk k) (ValuedOk k) ((phrase_of x.0).value u) (signed (map_of u) o at) (x.1.0 u s) (λ v h. signed_keeps k (map_of u) o at v h), tt)
  expr_cases (Expr-F.Chain x ts) = by_layer (Expr-F.Chain x.0 (map (λ (x : ST). x.0) ts)) (λ u s. combine_keeps k u s (map tailed_of (map (λ (x : ST). x.0) ts)) (tailed_are ts) ((phrase_of x.0).value u) (x.1.0 u s), tt)
  expr_cases (Expr-F.Relate l o at r) = by_layer (Expr-F.Relate l.0 o at r.0) (λ u s. relation_keeps k u s o at ((phrase_of l.0).value u) (phrase_of r.0) (l.1.0 u s) r.1, tt)

  selector_layer : (x : Selector-F Expr Selector Designator Element Tail) → BehindOk k (selector_rule (map-Selector Expr Selector Designator Element Tail Phrase Behind Named Ranged Tailed phrase_of behind_of named_of ranged_of tailed_of x)) → PS (roll-Selector x)
  selector_layer x h = subst (BehindOk k) (sym (fold-roll-Selector Phrase Behind Named Ranged Tailed expr_rule selector_rule designator_rule element_rule tail_rule x)) h

  selector_cases : (y : Selector-F SE SS SD SL ST) → PS (roll-Selector (map-Selector SE SS SD SL ST Expr Selector Designator Element Tail (λ x. x.0) (λ x. x.0) (λ x. x.0) (λ x. x.0) (λ x. x.0) y))
  selector_cases (Selector-F.Field at x) = selector_layer (Selector-F.Field at x) tt
  selector_cases (Selector-F.Index at i) = selector_layer (Selector-F.Index at i.0) i.1
  selector_cases (Selector-F.Deref at) = selector_layer (Selector-F.Deref at) tt
  selector_cases (Selector-F.Call at xs) = selector_layer (Selector-F.Call at (map (λ (x : SE). x.0) xs)) (phrases_are xs)

  designator_cases : (y : Designator-F SE SS SD SL ST) → PD (roll-Designator (map-Designator SE SS SD SL ST Expr Selector Designator Element Tail (λ x. x.0) (λ x. x.0) (λ x. x.0) (λ x. x.0) (λ x. x.0) y))
  designator_cases y =
      let x = map-Designator SE SS SD SL ST Expr Selector Designator Element Tail (λ x. x.0) (λ x. x.0) (λ x. x.0) (λ x. x.0) (λ x. x.0) y in
      subst (NamedOk k) (sym (fold-roll-Designator Phrase Behind Named Ranged Tailed expr_rule selector_rule designator_rule element_rule tail_rule x)) (behind_are y.selectors)

  element_by : (low : SE) (high : Option SE) → PL (roll-Element (map-Element SE SS SD SL ST Expr Selector Designator Element Tail (λ x. x.0) (λ x. x.0) (λ x. x.0) (λ x. x.0) (λ x. x.0) (record { low = low; high = high })))
  element_by low None =
      let x = map-Element SE SS SD SL ST Expr Selector Designator Element Tail (λ x. x.0) (λ x. x.0) (λ x. x.0) (λ x. x.0) (λ x. x.0) (record { low = low; high = None }) in
      subst (RangedOk k) (sym (fold-roll-Element Phrase Behind Named Ranged Tailed expr_rule selector_rule designator_rule element_rule tail_rule x)) (low.1, tt)
  element_by low (Some h) =
      let x = map-Element SE SS SD SL ST Expr Selector Designator Element Tail (λ x. x.0) (λ x. x.0) (λ x. x.0) (λ x. x.0) (λ x. x.0) (record { low = low; high = Some h }) in
      subst (RangedOk k) (sym (fold-roll-Element Phrase Behind Named Ranged Tailed expr_rule selector_rule designator_rule element_rule tail_rule x)) (low.1, h.1)

  tail_cases : (y : Tail-F SE SS SD SL ST) → PT (roll-Tail (map-Tail SE SS SD SL ST Expr Selector Designator Element Tail (λ x. x.0) (λ x. x.0) (λ x. x.0) (λ x. x.0) (λ x. x.0) y))
  tail_cases y =
      let x = map-Tail SE SS SD SL ST Expr Selector Designator Element Tail (λ x. x.0) (λ x. x.0) (λ x. x.0) (λ x. x.0) (λ x. x.0) y in
      subst (λ (t : Tailed). PhraseOk k t.operand) (sym (fold-roll-Tail Phrase Behind Named Ranged Tailed expr_rule selector_rule designator_rule element_rule tail_rule x)) y.operand.1

  pub expr_ok : (x : Expr) → PE x
  expr_ok = ind-Expr PE PS PD PL PT (λ x y is. subst (λ z. PE (roll-Expr z)) is (expr_cases y)) (λ x y is. subst (λ z. PS (roll-Selector z)) is (selector_cases y)) (λ x y is. subst (λ z. PD (roll-Designator z)) is (designator_cases y)) (λ x y is. subst (λ z. PL (roll-Element z)) is (element_by y.low y.high)) (λ x y is. subst (λ z. PT (roll-Tail z)) is (tail_cases y))

  pub designator_named : (x : Designator) → PD x
  designator_named = ind-Designator PE PS PD PL PT (λ x y is. subst (λ z. PE (roll-Expr z)) is (expr_cases y)) (λ x y is. subst (λ z. PS (roll-Selector z)) is (selector_cases y)) (λ x y is. subst (λ z. PD (roll-Designator z)) is (designator_cases y)) (λ x y is. subst (λ z. PL (roll-Element z)) is (element_by y.low y.high)) (λ x y is. subst (λ z. PT (roll-Tail z)) is (tail_cases y))
