use Rattle.std.proofs.Common.{◌<◌, ◌≤◌, ◌-◌, length, arith}
use Rattle.std.proofs.lemmas.Result.{err_from_is_err_and}
use Rattle.ob_format.specs.Words.{all_at}
use Rattle.ob_desc.specs.Grammar.{method}
use Rattle.ob_format.proofs.Ends.{goes_on, ends, is_done, is_over}
use Rattle.ob_desc.proofs.members.methods_of.Goals as goal

pub returns-in_err-item : goal.returns-in_err-item
returns-in_err-item c =
    let p = err_from_is_err_and c.from_residual.result c.from_residual.ensures.1 in
    let long : 0 < length c.loop.rest.now = grind arith in
    rw (p.1, p.2) (ends c.in_err-item.field-0.0 method.take c.loop.items (length c.args.bytes.now) c.loop.counter c.loop.rest.now (all_at method.take (length c.args.bytes.now) c.args.bytes.now) c.loop-test.true long c.in_err-item.ensures c.loop.invariant)

pub loop-preserved : goal.loop-preserved
loop-preserved c =
    let long : 0 < length c.loop.rest.now = grind arith in
    rw c.in_ok-push.ensures.ok (goes_on method.take c.loop.items (length c.args.bytes.now) c.loop.counter c.loop.rest.now c.in_ok-item.item c.in_ok-item.after.now (all_at method.take (length c.args.bytes.now) c.args.bytes.now) c.loop-test.true long c.in_ok-item.ensures c.loop.invariant)

pub returns-then-is_empty : goal.returns-then-is_empty
returns-then-is_empty c =
    let none : length c.loop.rest.now ≤ 0 = grind arith in
    is_done method.take c.loop.items (length c.args.bytes.now - c.loop.counter) c.loop.rest.now (all_at method.take (length c.args.bytes.now) c.args.bytes.now) none c.loop.invariant

pub returns-then-not-is_empty : goal.returns-then-not-is_empty
returns-then-not-is_empty c =
    let long : 0 < length c.loop.rest.now = grind arith in
    is_over method.take c.loop.items (length c.args.bytes.now) c.loop.counter c.loop.rest.now (all_at method.take (length c.args.bytes.now) c.args.bytes.now) c.loop-test.false long c.loop.invariant

pub returns : goal.returns
returns c =
    let none : length c.loop.rest.now ≤ 0 = grind arith in
    is_done method.take c.loop.items (length c.args.bytes.now - c.loop.counter) c.loop.rest.now (all_at method.take (length c.args.bytes.now) c.args.bytes.now) none c.loop.invariant
