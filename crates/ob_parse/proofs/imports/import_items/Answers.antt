use Rattle.std.proofs.Common.{◌∙◌, sym}
use Rattle.ob_tree.specs.declared.symbol.Symbol.TheVariants as s
use Rattle.ob_parse_grammar.specs.Expressions as expr
use Rattle.ob_parse_grammar.specs.Declarations as spec
use Rattle.ob_parse_grammar.specs.Grammar.{reads}
use Rattle.ob_parse_grammar.proofs.Loops.{on_turn, next_starts}
use Rattle.ob_parse.proofs.Turns.{takes_import_item}
use Rattle.ob_parse.proofs.imports.import_items.Goals as goal

pub more-smaller : goal.more-smaller
more-smaller c = (takes_import_item 0).falls c.more.tokens _ c.next_import.new.tokens (next_starts s.Comma spec.import_item c.more.tokens ∙ sym c.sees.ensures ∙ c.more-test.true) c.in_ok-x.ensures

pub more-preserved : goal.more-preserved
more-preserved c = rw c.in_ok-push-2.ensures.ok
    (on_turn 0 (expr.next_of s.Comma spec.import_item) (takes_import_item 0) (reads 0 (expr.separated s.Comma spec.import_item) c.args.tokens.now) c.more.found c.more.tokens _ c.next_import.new.tokens
    c.more.invariant (next_starts s.Comma spec.import_item c.more.tokens ∙ sym c.sees.ensures ∙ c.more-test.true) c.in_ok-x.ensures)
