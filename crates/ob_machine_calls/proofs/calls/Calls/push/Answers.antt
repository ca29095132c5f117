use Rattle.std.proofs.Common.{◌≡◌, ◌∷◌, [], length, ap, ◌∙◌, arith}
use Rattle.std.proofs.lemmas.List.{length-append}
use Rattle.ob_machine_calls.specs.declared.calls.Waiting.{Waiting}
use Rattle.std.specs.Prelude.{reverse}
use Rattle.ob_machine_calls.specs.Kept.{act_of}
use Rattle.ob_machine_calls.proofs.Acts.{pushed_acts, pushed_counted, operands_few, calls_waiting}
use Rattle.ob_machine_calls.proofs.calls.Calls.push.Goals as goal

pub move_all-requires : goal.move_all-requires
move_all-requires c =
    let d = c.self.inside in
    let many = operands_few d c.self.invariant in
    let calls = calls_waiting d c.args.self.now c.self.view_is in
    omega (arith, many, calls, c.requires.room, c.requires.few, c.self.invariant.operands, d.operands.ok.0)

pub invariant_of-self : goal.invariant_of-self
invariant_of-self c =
    let d = c.self.inside in
    let w : Waiting = record { place = c.args.place; operands = c.len-count.result } in
    let calls = calls_waiting d c.args.self.now c.self.view_is in
    let n : c.len-count.result ≡ length c.args.operands.now.items = c.len-count.ensures ∙ c.args.operands.now.ok.0 in
    record {
      counted = rw (c.push_reserved.ensures.items, c.move_all.ensures.items) (pushed_counted w d.waiting.items d.operands.items c.args.operands.now.items n (omega (arith, c.len-count.ensures, c.requires.few)) c.requires.some c.self.invariant.counted);
      few = rw c.push_reserved.ensures.items (omega (arith, calls, c.requires.room, length-append d.waiting.items (w ∷ [])));
      room = omega (arith, c.push_reserved.ensures.capacity, c.self.invariant.room);
      operands = omega (arith, c.move_all.ensures.room, c.self.invariant.operands);
    }

pub returns-clause-calls : goal.returns-clause-calls
returns-clause-calls c =
    let d = c.self.inside in
    let w : Waiting = record { place = c.args.place; operands = c.len-count.result } in
    let n : c.len-count.result ≡ length c.args.operands.now.items = c.len-count.ensures ∙ c.args.operands.now.ok.0 in
    rw (c.push_reserved.ensures.items, c.move_all.ensures.items) (pushed_acts w d.waiting.items d.operands.items c.args.operands.now.items n ∙ ap (λ acts. act_of w (reverse c.args.operands.now.items) ∷ acts) c.self.view_is)
