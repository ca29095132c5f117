use Rattle.std.proofs.Common.{length}
use Rattle.ob_tree.specs.declared.symbol.Symbol.TheVariants as s
use Rattle.ob_parse_grammar.specs.Expressions as spec
use Rattle.ob_parse_grammar.specs.Grammar.{reads}
use Rattle.ob_parse_grammar.proofs.Loops.{GoesOn}
use Rattle.ob_parse_expr.proofs.names.ident_list.Given as goal

abbrev pub invariant-more : goal.invariant-more
invariant-more l = GoesOn (reads 0 spec.ident_list l.fn.tokens) 0 (spec.next_of s.Comma spec.ident_def) l.found l.tokens

abbrev pub decreases-more : goal.decreases-more
decreases-more l = length l.tokens
