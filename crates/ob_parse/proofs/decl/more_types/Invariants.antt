use Rattle.std.proofs.Common.{length}
use Rattle.ob_parse_grammar.specs.Phrase.{many}
use Rattle.ob_parse_grammar.specs.Declarations as spec
use Rattle.ob_parse_grammar.specs.Grammar.{reads}
use Rattle.ob_parse_grammar.proofs.Loops.{GoesOn}
use Rattle.ob_parse.proofs.decl.more_types.Given as goal

abbrev pub invariant-more : goal.invariant-more
invariant-more l = GoesOn (reads l.levels (many spec.named_type) l.fn.tokens) l.levels spec.named_type l.found l.tokens

abbrev pub decreases-more : goal.decreases-more
decreases-more l = length l.tokens
