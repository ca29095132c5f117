use Rattle.std.proofs.Common.{◌∙◌, sym}
use Rattle.ob_parse_grammar.specs.Phrase.{many}
use Rattle.ob_parse_grammar.specs.Declarations as spec
use Rattle.ob_parse_grammar.specs.Grammar.{reads}
use Rattle.ob_parse_grammar.proofs.Loops.{join_turn}
use Rattle.ob_parse.proofs.Turns.{takes_block}
use Rattle.ob_parse.proofs.decl.blocks.Goals as goal

pub more-smaller : goal.more-smaller
more-smaller c = (takes_block c.args.levels).falls c.more.tokens _ c.block.new.tokens (sym c.sees_block.ensures ∙ c.more-test.true) c.in_ok-x.ensures

pub more-preserved : goal.more-preserved
more-preserved c = rw c.in_ok-append.ensures.ok
    (join_turn c.args.levels spec.block (takes_block c.args.levels) (reads c.args.levels (many spec.block) c.args.tokens.now) c.more.found c.more.tokens _ c.block.new.tokens
    c.more.invariant (sym c.sees_block.ensures ∙ c.more-test.true) c.in_ok-x.ensures)
