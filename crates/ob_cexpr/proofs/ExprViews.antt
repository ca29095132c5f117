-- What each alternative of an expression says, by its parts.
use Rattle.std.proofs.Common.{◌≡◌, List, ℕ, sym, ap, ◌∙◌, map}
use Rattle.std.specs.Option.{option_map}
use Rattle.ob_tree.specs.declared.pos.Pos.{Pos}
use Rattle.ob_tree.specs.declared.ident.Ident.{Ident}
use Rattle.ob_tree.specs.declared.expr.Sign.{Sign}
use Rattle.ob_tree.specs.declared.expr.Relation.{Relation}
use Rattle.ob_tree.specs.declared.expr.Expr.{Expr}
use Rattle.ob_tree.specs.declared.expr.Expr.TheVariants as e
use Rattle.ob_tree.specs.declared.expr.Tail.{Tail}
use Rattle.ob_tree.specs.declared.expr.Element.{Element}
use Rattle.ob_tree.specs.declared.expr.Designator.{Designator}
use Rattle.ob_tree.specs.declared.expr.Selector.TheVariants as s
use Rattle.ob_tree.specs.declared.expr.Expr.TheOpen.{Expr-F, Selector-F}
use Rattle.ob_tree.specs.declared.expr.Expr.TheFolds.{fold-roll-Expr, fold-roll-Selector}
use Rattle.ob_types.specs.declared.value.Value.TheVariants as literal
use Rattle.ob_rules.specs.declared.values.Valued.{Valued}
use Rattle.ob_rules.specs.declared.meant.Where.TheVariants.{InExpression}
use Rattle.ob_rules.specs.Judged.{Judged, sound, made, each_sound, ◌▷◌}
use Rattle.ob_rules.specs.Names.{Around, map_of}
use Rattle.ob_rules.specs.Phrases.{Phrase, Behind, Dot, Index, Up, Round}
use Rattle.ob_rules.specs.Values.{constant}
use Rattle.ob_rules.specs.Constants.{text_value}
use Rattle.ob_rules.specs.Operators.{opposite, signed, set_of}
use Rattle.ob_rules.specs.Expressions.{Named, Ranged, Tailed, expr_rule, selector_rule, designator_rule, element_rule, tail_rule, phrase_of, named_of, ranged_of, tailed_of, behind_of, combine_all, relation_of, element_value, meant_by, value_meant, bracketed}
use Rattle.ob_cexpr.specs.Plain.{set_judged}

pub value_designator : (d : Designator) (u : Around) → (phrase_of (e.Designator d)).value u ≡ (meant_by InExpression (named_of d) u ▷ λ m. value_meant (named_of d).ident.pos m)
value_designator d u = ap (λ p. p.value u) (ap phrase_of (sym (e.rolls-Designator d)) ∙ fold-roll-Expr Phrase Behind Named Ranged Tailed expr_rule selector_rule designator_rule element_rule tail_rule (Expr-F.Designator d))

pub value_str : (at : Pos) (text : List ℕ) (u : Around) → (phrase_of (e.Str at text)).value u ≡ sound (constant (text_value text))
value_str at text u = ap (λ p. p.value u) (ap phrase_of (sym (e.rolls-Str at text)) ∙ fold-roll-Expr Phrase Behind Named Ranged Tailed expr_rule selector_rule designator_rule element_rule tail_rule (Expr-F.Str at text))

pub value_nil : (at : Pos) (u : Around) → (phrase_of (e.Nil at)).value u ≡ sound (constant literal.Nil)
value_nil at u = ap (λ p. p.value u) (ap phrase_of (sym (e.rolls-Nil at)) ∙ fold-roll-Expr Phrase Behind Named Ranged Tailed expr_rule selector_rule designator_rule element_rule tail_rule (Expr-F.Nil at))

pub value_set : (at : Pos) (xs : List Element) (u : Around) → (phrase_of (e.Set at xs)).value u ≡ set_judged u xs
unfolding set_judged
value_set at xs u = ap (λ p. p.value u) (ap phrase_of (sym (e.rolls-Set at xs)) ∙ fold-roll-Expr Phrase Behind Named Ranged Tailed expr_rule selector_rule designator_rule element_rule tail_rule (Expr-F.Set at xs))

pub value_paren : (at : Pos) (x : Expr) (u : Around) → (phrase_of (e.Paren at x)).value u ≡ ((phrase_of x).value u ▷ λ v. sound (bracketed v))
value_paren at x u = ap (λ p. p.value u) (ap phrase_of (sym (e.rolls-Paren at x)) ∙ fold-roll-Expr Phrase Behind Named Ranged Tailed expr_rule selector_rule designator_rule element_rule tail_rule (Expr-F.Paren at x))

pub value_not : (at : Pos) (x : Expr) (u : Around) → (phrase_of (e.Not at x)).value u ≡ ((phrase_of x).value u ▷ λ v. opposite (map_of u) at v)
value_not at x u = ap (λ p. p.value u) (ap phrase_of (sym (e.rolls-Not at x)) ∙ fold-roll-Expr Phrase Behind Named Ranged Tailed expr_rule selector_rule designator_rule element_rule tail_rule (Expr-F.Not at x))

pub value_signed : (g : Sign) (at : Pos) (x : Expr) (u : Around) → (phrase_of (e.Signed g at x)).value u ≡ ((phrase_of x).value u ▷ λ v. signed (map_of u) g at v)
value_signed g at x u = ap (λ p. p.value u) (ap phrase_of (sym (e.rolls-Signed g at x)) ∙ fold-roll-Expr Phrase Behind Named Ranged Tailed expr_rule selector_rule designator_rule element_rule tail_rule (Expr-F.Signed g at x))

pub value_chain : (x : Expr) (ts : List Tail) (u : Around) → (phrase_of (e.Chain x ts)).value u ≡ combine_all u (map tailed_of ts) ((phrase_of x).value u)
value_chain x ts u = ap (λ p. p.value u) (ap phrase_of (sym (e.rolls-Chain x ts)) ∙ fold-roll-Expr Phrase Behind Named Ranged Tailed expr_rule selector_rule designator_rule element_rule tail_rule (Expr-F.Chain x ts))

pub value_relate : (l : Expr) (op : Relation) (at : Pos) (r : Expr) (u : Around) → (phrase_of (e.Relate l op at r)).value u ≡ relation_of u op at ((phrase_of l).value u) (phrase_of r)
value_relate l op at r u = ap (λ p. p.value u) (ap phrase_of (sym (e.rolls-Relate l op at r)) ∙ fold-roll-Expr Phrase Behind Named Ranged Tailed expr_rule selector_rule designator_rule element_rule tail_rule (Expr-F.Relate l op at r))

pub behind_index : (at : Pos) (i : Expr) → behind_of (s.Index at i) ≡ Index at (phrase_of i)
behind_index at i = ap behind_of (sym (s.rolls-Index at i)) ∙ fold-roll-Selector Phrase Behind Named Ranged Tailed expr_rule selector_rule designator_rule element_rule tail_rule (Selector-F.Index at i)

pub behind_call : (at : Pos) (xs : List Expr) → behind_of (s.Call at xs) ≡ Round at (map phrase_of xs)
behind_call at xs = ap behind_of (sym (s.rolls-Call at xs)) ∙ fold-roll-Selector Phrase Behind Named Ranged Tailed expr_rule selector_rule designator_rule element_rule tail_rule (Selector-F.Call at xs)

pub behind_field : (at : Pos) (x : Ident) → behind_of (s.Field at x) ≡ Dot at x
behind_field at x = ap behind_of (sym (s.rolls-Field at x)) ∙ fold-roll-Selector Phrase Behind Named Ranged Tailed expr_rule selector_rule designator_rule element_rule tail_rule (Selector-F.Field at x)

pub behind_up : (at : Pos) → behind_of (s.Deref at) ≡ Up at
behind_up at = ap behind_of (sym (s.rolls-Deref at)) ∙ fold-roll-Selector Phrase Behind Named Ranged Tailed expr_rule selector_rule designator_rule element_rule tail_rule (Selector-F.Deref at)
