use Rattle.std.proofs.Common.{◌∙◌, ◌≤◌, sym, arith}
use Rattle.ob_tree.specs.declared.symbol.Symbol.TheVariants as s
use Rattle.ob_parse_grammar.specs.Phrase.{AType, many}
use Rattle.ob_parse_grammar.specs.Expressions as expr
use Rattle.ob_parse_grammar.specs.Types as types
use Rattle.ob_parse_grammar.specs.Grammar.{reads}
use Rattle.ob_parse_grammar.proofs.Loops.{on_turn, join_turn, deeper, next_starts}
use Rattle.ob_parse.proofs.Turns.{takes_section, takes_field_list, joins_first, separated_first}
use Rattle.ob_parse.proofs.type_node.+types.Goals as goal

pub further_sections-more-smaller : goal.further_sections-more-smaller
further_sections-more-smaller t c = (takes_section c.args.levels).falls c.more.tokens _ c.next_section.new.tokens (next_starts s.Semicolon types.section c.more.tokens ∙ sym c.sees.ensures ∙ c.more-test.true) c.in_ok-x.ensures

pub further_sections-more-preserved : goal.further_sections-more-preserved
further_sections-more-preserved t c = rw c.in_ok-push.ensures.ok
    (on_turn c.args.levels (expr.next_of s.Semicolon types.section) (takes_section c.args.levels) (reads c.args.levels (many (expr.next_of s.Semicolon types.section)) c.args.tokens.now) c.more.found c.more.tokens _ c.next_section.new.tokens
    c.more.invariant (next_starts s.Semicolon types.section c.more.tokens ∙ sym c.sees.ensures ∙ c.more-test.true) c.in_ok-x.ensures)

pub field_lists-more-smaller : goal.field_lists-more-smaller
field_lists-more-smaller t c = (takes_field_list c.args.levels).falls c.more.tokens _ c.next_field_list.new.tokens (next_starts s.Semicolon types.field_list c.more.tokens ∙ sym c.sees.ensures ∙ c.more-test.true) c.in_ok-x.ensures

pub field_lists-more-preserved : goal.field_lists-more-preserved
field_lists-more-preserved t c = rw c.in_ok-append.ensures.ok
    (join_turn c.args.levels (expr.next_of s.Semicolon types.field_list) (takes_field_list c.args.levels) (reads c.args.levels (expr.separated s.Semicolon types.field_list) c.args.tokens.now) c.more.found c.more.tokens _ c.next_field_list.new.tokens
    c.more.invariant (next_starts s.Semicolon types.field_list c.more.tokens ∙ sym c.sees.ensures ∙ c.more-test.true) c.in_ok-x.ensures)

pub nested_type-returns : goal.nested_type-returns
nested_type-returns t c = let some : 1 ≤ c.args.levels = omega arith in rw (deeper c.args.levels AType c.args.tokens.now some) c.type_node.ensures

pub field_lists-more-init : goal.field_lists-more-init
field_lists-more-init t c =
    joins_first c.args.levels (expr.next_of s.Semicolon types.field_list) c.in_ok-found.found c.field_list.new.tokens _
    (separated_first c.args.levels s.Semicolon types.field_list c.args.tokens.now c.in_ok-found.found c.field_list.new.tokens c.in_ok-found.ensures)
