-- Arguments, judged by themselves.
use Rattle.std.proofs.Common.{◌≡◌, refl, sym, subst}
use Rattle.ob_tree.specs.declared.expr.Expr.{Expr, roll-Expr, out-Expr}
use Rattle.ob_tree.specs.declared.expr.Expr.TheViews.{roll-out-Expr}
use Rattle.ob_tree.specs.declared.expr.Expr.TheOpen.{Expr-F}
use Rattle.ob_tree.specs.declared.expr.Expr.TheFolds.{fold-roll-Expr}
use Rattle.ob_tree.specs.declared.expr.Tail.{Tail}
use Rattle.ob_tree.specs.declared.expr.Element.{Element}
use Rattle.ob_tree.specs.declared.expr.Designator.{Designator}
use Rattle.ob_tree.specs.declared.expr.Selector.{Selector}
use Rattle.ob_rules.specs.Names.{Around}
use Rattle.ob_rules.specs.Phrases.{Phrase, Behind}
use Rattle.ob_rules.specs.Expressions.{Named, Ranged, Tailed, expr_rule, selector_rule, designator_rule, element_rule, tail_rule, phrase_of}
use Rattle.ob_cexpr_arguments.proofs.ArgumentLaws.{by_meant}

-- a designator's value is by what it comes to
abbrev IsByMeant : Around → Phrase → Type 0
IsByMeant u p = p.value u ≡ by_meant u p.start p.meant (p.value u)

rolled_value : (x : Expr-F Expr Selector Designator Element Tail) (u : Around) → IsByMeant u (phrase_of (roll-Expr x))
rolled_value (Expr-F.Designator d) u = subst (λ (p : Phrase). IsByMeant u p) (sym (fold-roll-Expr Phrase Behind Named Ranged Tailed expr_rule selector_rule designator_rule element_rule tail_rule (Expr-F.Designator d))) refl
rolled_value (Expr-F.Int at text) u = subst (λ (p : Phrase). IsByMeant u p) (sym (fold-roll-Expr Phrase Behind Named Ranged Tailed expr_rule selector_rule designator_rule element_rule tail_rule (Expr-F.Int at text))) refl
rolled_value (Expr-F.Char at text) u = subst (λ (p : Phrase). IsByMeant u p) (sym (fold-roll-Expr Phrase Behind Named Ranged Tailed expr_rule selector_rule designator_rule element_rule tail_rule (Expr-F.Char at text))) refl
rolled_value (Expr-F.Str at text) u = subst (λ (p : Phrase). IsByMeant u p) (sym (fold-roll-Expr Phrase Behind Named Ranged Tailed expr_rule selector_rule designator_rule element_rule tail_rule (Expr-F.Str at text))) refl
rolled_value (Expr-F.Nil at) u = subst (λ (p : Phrase). IsByMeant u p) (sym (fold-roll-Expr Phrase Behind Named Ranged Tailed expr_rule selector_rule designator_rule element_rule tail_rule (Expr-F.Nil at))) refl
rolled_value (Expr-F.Set at xs) u = subst (λ (p : Phrase). IsByMeant u p) (sym (fold-roll-Expr Phrase Behind Named Ranged Tailed expr_rule selector_rule designator_rule element_rule tail_rule (Expr-F.Set at xs))) refl
rolled_value (Expr-F.Paren at y) u = subst (λ (p : Phrase). IsByMeant u p) (sym (fold-roll-Expr Phrase Behind Named Ranged Tailed expr_rule selector_rule designator_rule element_rule tail_rule (Expr-F.Paren at y))) refl
rolled_value (Expr-F.Not at y) u = subst (λ (p : Phrase). IsByMeant u p) (sym (fold-roll-Expr Phrase Behind Named Ranged Tailed expr_rule selector_rule designator_rule element_rule tail_rule (Expr-F.Not at y))) refl
rolled_value (Expr-F.Signed s at y) u = subst (λ (p : Phrase). IsByMeant u p) (sym (fold-roll-Expr Phrase Behind Named Ranged Tailed expr_rule selector_rule designator_rule element_rule tail_rule (Expr-F.Signed s at y))) refl
rolled_value (Expr-F.Chain y ts) u = subst (λ (p : Phrase). IsByMeant u p) (sym (fold-roll-Expr Phrase Behind Named Ranged Tailed expr_rule selector_rule designator_rule element_rule tail_rule (Expr-F.Chain y ts))) refl
rolled_value (Expr-F.Relate l op at r) u = subst (λ (p : Phrase). IsByMeant u p) (sym (fold-roll-Expr Phrase Behind Named Ranged Tailed expr_rule selector_rule designator_rule element_rule tail_rule (Expr-F.Relate l op at r))) refl

pub phrase_value : (x : Expr) (u : Around) → (phrase_of x).value u ≡ by_meant u (phrase_of x).start (phrase_of x).meant ((phrase_of x).value u)
phrase_value x u = subst (λ (y : Expr). IsByMeant u (phrase_of y)) (roll-out-Expr x) (rolled_value (out-Expr x) u)
