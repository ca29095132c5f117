use Rattle.std.proofs.Common.{◌≡◌, ◌∙◌, ◌≤◌, sym, arith}
use Rattle.ob_parse_grammar.specs.Phrase.{many}
use Rattle.ob_parse_grammar.specs.Declarations as spec
use Rattle.ob_parse_grammar.specs.Grammar.{reads}
use Rattle.ob_parse_grammar.proofs.Loops.{on_turn}
use Rattle.ob_parse.proofs.Turns.{takes_procedure_item, procedure_item_starts, fork_deep, fork_on}
use Rattle.ob_parse.proofs.procedure.+procedures.Goals as goal

pub procedure_items-more-smaller : goal.procedure_items-more-smaller
procedure_items-more-smaller t c = (takes_procedure_item c.args.levels).falls c.more.tokens _ c.procedure_item.new.tokens (procedure_item_starts c.more.tokens ∙ sym c.sees.ensures ∙ c.more-test.true) c.in_ok-x.ensures

pub procedure_items-more-preserved : goal.procedure_items-more-preserved
procedure_items-more-preserved t c = rw c.in_ok-push.ensures.ok
    (on_turn c.args.levels spec.procedure_item (takes_procedure_item c.args.levels) (reads c.args.levels (many spec.procedure_item) c.args.tokens.now) c.more.found c.more.tokens _ c.procedure_item.new.tokens
    c.more.invariant (procedure_item_starts c.more.tokens ∙ sym c.sees.ensures ∙ c.more-test.true) c.in_ok-x.ensures)

pub forked-returns-then-levels-eq0 : goal.forked-returns-then-levels-eq0
forked-returns-then-levels-eq0 t c =
    let none : c.args.levels ≡ 0 = omega arith in
    fork_deep c.args.levels c.args.tokens.now c.in_ok-pos.ensures.0 _ c.in_ok-pos.pos c.in_ok-pos.ensures.1 c.in_ok-pos.ensures.2 (sym c.sees.ensures ∙ c.if-sees.false) none

pub forked-returns-else-levels-eq0 : goal.forked-returns-else-levels-eq0
forked-returns-else-levels-eq0 t c =
    let some : 1 ≤ c.args.levels = omega arith in
    rw (fork_on c.args.levels c.args.tokens.now c.in_ok-pos.ensures.0 c.expect.new.self c.in_ok-pos.ensures.1 (sym c.sees.ensures ∙ c.if-sees.false) some) c.procedure.ensures
