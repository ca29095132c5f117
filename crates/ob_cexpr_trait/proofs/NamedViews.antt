-- What a designator says, by its parts.
use Rattle.std.proofs.Common.{◌≡◌, map}
use Rattle.ob_tree.specs.declared.expr.Designator.{Designator}
use Rattle.ob_tree.specs.declared.expr.Expr.TheFolds.{fold_out-Designator}
use Rattle.ob_rules.specs.Phrases.{Phrase, Behind}
use Rattle.ob_rules.specs.Expressions.{Named, Ranged, Tailed, expr_rule, selector_rule, designator_rule, element_rule, tail_rule, named_of, behind_of}

-- a designator by its name and its selectors
pub named_is : (d : Designator) → named_of d ≡ record { ident = d.ident; behind = map behind_of d.selectors }
named_is d = fold_out-Designator Phrase Behind Named Ranged Tailed expr_rule selector_rule designator_rule element_rule tail_rule d
