use Rattle.std.proofs.Common.{take, drop, sym, arith}
use Rattle.std.specs.Prelude.{reverse}
use Rattle.std.proofs.lemmas.List.{length-drop}
use Rattle.ob_machine_calls.proofs.Comings.{has_no_copies}
use Rattle.ob_machine_calls.proofs.Copied.{words_missing}
use Rattle.ob_machine_calls.proofs.rows.call_from.Goals as goal

pub returns-then-from-slots-clause-comes : goal.returns-then-from-slots-clause-comes
returns-then-from-slots-clause-comes c =
    let s = c.args.state.now in
    let q = c.in-Some.q.now in
    let args = drop c.args.from s.operands.items in
    let long = length-drop c.args.from s.operands.items in
    has_no_copies c.args.image.now c.args.here.now c.args.waiting.now s c.args.r q args (reverse (take c.args.below s.operands.items)) (sym c.in-Some.ensures.found) (words_missing _ q.params args (λ e. c.if-from-slots.true (omega (arith, e, long, c.requires.from, c.slots.ensures, c.len.ensures, s.operands.ok.0))))
