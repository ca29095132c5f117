use Rattle.std.proofs.Common.{◌+◌, ◌*◌, length}
use Rattle.ob_parse_grammar.specs.Phrase.{many}
use Rattle.ob_parse_grammar.specs.Declarations as spec
use Rattle.ob_parse_grammar.specs.Grammar.{reads}
use Rattle.ob_parse_grammar.proofs.Loops.{GoesOn}
use Rattle.ob_parse.proofs.procedure.+procedures.Given as goal

abbrev pub decreases-forked : goal.decreases-forked
decreases-forked l = 8 * l.levels

abbrev pub decreases-procedure_item : goal.decreases-procedure_item
decreases-procedure_item l = 8 * l.levels + 1

abbrev pub decreases-procedure_items : goal.decreases-procedure_items
decreases-procedure_items l = 8 * l.levels + 2

abbrev pub decreases-declarations : goal.decreases-declarations
decreases-declarations l = 8 * l.levels + 3

abbrev pub decreases-procedure : goal.decreases-procedure
decreases-procedure l = 8 * l.levels + 4

abbrev pub invariant-procedure_items-more : goal.invariant-procedure_items-more
invariant-procedure_items-more l = GoesOn (reads l.levels (many spec.procedure_item) l.fn.tokens) l.levels spec.procedure_item l.found l.tokens

abbrev pub decreases-procedure_items-more : goal.decreases-procedure_items-more
decreases-procedure_items-more l = length l.tokens
