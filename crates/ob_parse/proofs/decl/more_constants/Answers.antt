use Rattle.std.proofs.Common.{◌∙◌, sym}
use Rattle.ob_parse_grammar.specs.Phrase.{many}
use Rattle.ob_parse_grammar.specs.Declarations as spec
use Rattle.ob_parse_grammar.specs.Grammar.{reads}
use Rattle.ob_parse_grammar.proofs.Loops.{on_turn}
use Rattle.ob_parse.proofs.Turns.{takes_constant, constant_starts}
use Rattle.ob_parse.proofs.decl.more_constants.Goals as goal

pub more-smaller : goal.more-smaller
more-smaller c = (takes_constant c.args.levels).falls c.more.tokens _ c.constant.new.tokens (constant_starts c.more.tokens ∙ sym c.sees.ensures ∙ c.more-test.true) c.in_ok-x.ensures

pub more-preserved : goal.more-preserved
more-preserved c = rw c.in_ok-push.ensures.ok
    (on_turn c.args.levels spec.constant (takes_constant c.args.levels) (reads c.args.levels (many spec.constant) c.args.tokens.now) c.more.found c.more.tokens _ c.constant.new.tokens
    c.more.invariant (constant_starts c.more.tokens ∙ sym c.sees.ensures ∙ c.more-test.true) c.in_ok-x.ensures)
