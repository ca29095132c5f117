use Rattle.std.proofs.Common.{◌∙◌, sym}
use Rattle.ob_tree.specs.declared.symbol.Symbol.TheVariants as s
use Rattle.ob_parse_grammar.specs.Expressions as spec
use Rattle.ob_parse_grammar.specs.Grammar.{reads}
use Rattle.ob_parse_grammar.proofs.Loops.{on_turn, next_starts}
use Rattle.ob_parse_expr.proofs.Turns.{takes_ident_def}
use Rattle.ob_parse_expr.proofs.names.ident_list.Goals as goal

pub more-smaller : goal.more-smaller
more-smaller c = (takes_ident_def 0).falls c.more.tokens _ c.next_ident_def.new.tokens (next_starts s.Comma spec.ident_def c.more.tokens ∙ sym c.sees.ensures ∙ c.more-test.true) c.in_ok-x.ensures

pub more-preserved : goal.more-preserved
more-preserved c = rw c.in_ok-push-2.ensures.ok
    (on_turn 0 (spec.next_of s.Comma spec.ident_def) (takes_ident_def 0) (reads 0 spec.ident_list c.args.tokens.now) c.more.found c.more.tokens _ c.next_ident_def.new.tokens
    c.more.invariant (next_starts s.Comma spec.ident_def c.more.tokens ∙ sym c.sees.ensures ∙ c.more-test.true) c.in_ok-x.ensures)
