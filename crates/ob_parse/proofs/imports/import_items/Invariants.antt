use Rattle.std.proofs.Common.{length}
use Rattle.ob_tree.specs.declared.symbol.Symbol.TheVariants as s
use Rattle.ob_parse_grammar.specs.Expressions as expr
use Rattle.ob_parse_grammar.specs.Declarations as spec
use Rattle.ob_parse_grammar.specs.Grammar.{reads}
use Rattle.ob_parse_grammar.proofs.Loops.{GoesOn}
use Rattle.ob_parse.proofs.imports.import_items.Given as goal

abbrev pub invariant-more : goal.invariant-more
invariant-more l = GoesOn (reads 0 (expr.separated s.Comma spec.import_item) l.fn.tokens) 0 (expr.next_of s.Comma spec.import_item) l.found l.tokens

abbrev pub decreases-more : goal.decreases-more
decreases-more l = length l.tokens
