use Rattle.std.proofs.Common.{length}
use Rattle.ob_parse_grammar.specs.Phrase.{many}
use Rattle.ob_parse_grammar.specs.Declarations as spec
use Rattle.ob_parse_grammar.specs.Grammar.{reads}
use Rattle.ob_parse_grammar.proofs.Loops.{JoinsOn}
use Rattle.ob_parse.proofs.decl.blocks.Given as goal

abbrev pub invariant-more : goal.invariant-more
invariant-more l = JoinsOn (reads l.levels (many spec.block) l.fn.tokens) l.levels spec.block l.found l.tokens

abbrev pub decreases-more : goal.decreases-more
decreases-more l = length l.tokens
