use Rattle.std.proofs.Common.{◌+◌, ◌*◌, length}
use Rattle.ob_tree.specs.declared.symbol.Symbol.TheVariants as s
use Rattle.ob_parse_grammar.specs.Phrase.{AnExpr, many, nest}
use Rattle.ob_parse_grammar.specs.Expressions as spec
use Rattle.ob_parse_grammar.specs.Grammar.{reads}
use Rattle.ob_parse_grammar.proofs.Loops.{GoesOn, JoinsOn}
use Rattle.ob_parse_expr.proofs.expr.+expr.Given as goal

abbrev pub decreases-nested_expr : goal.decreases-nested_expr
decreases-nested_expr l = 32 * l.levels

abbrev pub decreases-negated : goal.decreases-negated
decreases-negated l = 32 * l.levels

abbrev pub decreases-paren : goal.decreases-paren
decreases-paren l = 32 * l.levels + 1

abbrev pub decreases-further_index : goal.decreases-further_index
decreases-further_index l = 32 * l.levels + 1

abbrev pub decreases-next_expr : goal.decreases-next_expr
decreases-next_expr l = 32 * l.levels + 1

abbrev pub decreases-element : goal.decreases-element
decreases-element l = 32 * l.levels + 1

abbrev pub decreases-further_indexes : goal.decreases-further_indexes
decreases-further_indexes l = 32 * l.levels + 2

abbrev pub decreases-next_element : goal.decreases-next_element
decreases-next_element l = 32 * l.levels + 2

abbrev pub decreases-exprs : goal.decreases-exprs
decreases-exprs l = 32 * l.levels + 2

abbrev pub decreases-index : goal.decreases-index
decreases-index l = 32 * l.levels + 3

abbrev pub decreases-elements : goal.decreases-elements
decreases-elements l = 32 * l.levels + 3

abbrev pub decreases-call : goal.decreases-call
decreases-call l = 32 * l.levels + 3

abbrev pub decreases-selector : goal.decreases-selector
decreases-selector l = 32 * l.levels + 4

abbrev pub decreases-set : goal.decreases-set
decreases-set l = 32 * l.levels + 4

abbrev pub decreases-selectors : goal.decreases-selectors
decreases-selectors l = 32 * l.levels + 5

abbrev pub decreases-designator : goal.decreases-designator
decreases-designator l = 32 * l.levels + 6

abbrev pub decreases-factor : goal.decreases-factor
decreases-factor l = 32 * l.levels + 7

abbrev pub decreases-negation : goal.decreases-negation
decreases-negation l = 32 * l.levels + 8

abbrev pub decreases-mul_tail : goal.decreases-mul_tail
decreases-mul_tail l = 32 * l.levels + 8

abbrev pub decreases-mul_tails : goal.decreases-mul_tails
decreases-mul_tails l = 32 * l.levels + 9

abbrev pub decreases-term : goal.decreases-term
decreases-term l = 32 * l.levels + 11

abbrev pub decreases-signed : goal.decreases-signed
decreases-signed l = 32 * l.levels + 13

abbrev pub decreases-add_tail : goal.decreases-add_tail
decreases-add_tail l = 32 * l.levels + 12

abbrev pub decreases-add_tails : goal.decreases-add_tails
decreases-add_tails l = 32 * l.levels + 13

abbrev pub decreases-simple : goal.decreases-simple
decreases-simple l = 32 * l.levels + 15

abbrev pub decreases-product : goal.decreases-product
decreases-product l = 32 * l.levels + 10

abbrev pub decreases-with_sign : goal.decreases-with_sign
decreases-with_sign l = 32 * l.levels + 12

abbrev pub decreases-sum : goal.decreases-sum
decreases-sum l = 32 * l.levels + 14

abbrev pub decreases-relate : goal.decreases-relate
decreases-relate l = 32 * l.levels + 16

abbrev pub decreases-expr : goal.decreases-expr
decreases-expr l = 32 * l.levels + 17

abbrev pub decreases-unnamed : goal.decreases-unnamed
decreases-unnamed l = 32 * l.levels + 6

abbrev pub decreases-term_behind : goal.decreases-term_behind
decreases-term_behind l = 32 * l.levels + 11

abbrev pub decreases-simple_behind : goal.decreases-simple_behind
decreases-simple_behind l = 32 * l.levels + 15

abbrev pub decreases-expr_behind : goal.decreases-expr_behind
decreases-expr_behind l = 32 * l.levels + 17

abbrev pub invariant-further_indexes-more : goal.invariant-further_indexes-more
invariant-further_indexes-more l = GoesOn (reads l.levels (many spec.further_index) l.fn.tokens) l.levels spec.further_index l.found l.tokens

abbrev pub decreases-further_indexes-more : goal.decreases-further_indexes-more
decreases-further_indexes-more l = length l.tokens

abbrev pub invariant-mul_tails-more : goal.invariant-mul_tails-more
invariant-mul_tails-more l = GoesOn (reads l.levels (many spec.mul_tail) l.fn.tokens) l.levels spec.mul_tail l.found l.tokens

abbrev pub decreases-mul_tails-more : goal.decreases-mul_tails-more
decreases-mul_tails-more l = length l.tokens

abbrev pub invariant-add_tails-more : goal.invariant-add_tails-more
invariant-add_tails-more l = GoesOn (reads l.levels (many spec.add_tail) l.fn.tokens) l.levels spec.add_tail l.found l.tokens

abbrev pub decreases-add_tails-more : goal.decreases-add_tails-more
decreases-add_tails-more l = length l.tokens

abbrev pub invariant-exprs-more : goal.invariant-exprs-more
invariant-exprs-more l = GoesOn (reads l.levels spec.exprs l.fn.tokens) l.levels (spec.next_of s.Comma (nest AnExpr)) l.found l.tokens

abbrev pub decreases-exprs-more : goal.decreases-exprs-more
decreases-exprs-more l = length l.tokens

abbrev pub invariant-elements-more : goal.invariant-elements-more
invariant-elements-more l = GoesOn (reads l.levels spec.elements l.fn.tokens) l.levels (spec.next_of s.Comma spec.element) l.found l.tokens

abbrev pub decreases-elements-more : goal.decreases-elements-more
decreases-elements-more l = length l.tokens

abbrev pub invariant-selectors-more : goal.invariant-selectors-more
invariant-selectors-more l = JoinsOn (reads l.levels (many spec.selector) l.fn.tokens) l.levels spec.selector l.found l.tokens

abbrev pub decreases-selectors-more : goal.decreases-selectors-more
decreases-selectors-more l = length l.tokens
