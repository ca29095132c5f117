use Rattle.std.proofs.Common.{◌≡◌, ◌-◌, true, false, length}
use Rattle.std.proofs.lemmas.Result.{err_from_is_err_and}
use Rattle.ob_desc.specs.Forms.{run_at}
use Rattle.ob_desc.specs.Grammar.{begins_field, field}
use Rattle.ob_desc.proofs.Runs.{goes_on, fails, stops, over}
use Rattle.ob_desc.proofs.members.fields_of.Goals as goal

pub returns-then-not-begins_as_field : goal.returns-then-not-begins_as_field
returns-then-not-begins_as_field c =
    let is : begins_field c.loop.rest.now ≡ false = cc in
    stops begins_field field.take c.loop.items (length c.args.bytes.now - c.loop.counter) c.loop.rest.now (run_at begins_field field.take (length c.args.bytes.now) c.args.bytes.now) is c.loop.invariant

pub returns-in_err-item : goal.returns-in_err-item
returns-in_err-item c =
    let is : begins_field c.loop.rest.now ≡ true = cc in
    let p = err_from_is_err_and c.from_residual.result c.from_residual.ensures.1 in
    rw (p.1, p.2) (fails c.in_err-item.field-0.0 begins_field field.take c.loop.items (length c.args.bytes.now) c.loop.counter c.loop.rest.now (run_at begins_field field.take (length c.args.bytes.now) c.args.bytes.now) c.loop-test.true is c.in_err-item.ensures c.loop.invariant)

pub loop-preserved : goal.loop-preserved
loop-preserved c =
    let is : begins_field c.loop.rest.now ≡ true = cc in
    rw c.in_ok-push.ensures.ok (goes_on begins_field field.take c.loop.items (length c.args.bytes.now) c.loop.counter c.loop.rest.now c.in_ok-item.item c.in_ok-item.after.now (run_at begins_field field.take (length c.args.bytes.now) c.args.bytes.now) c.loop-test.true is c.in_ok-item.ensures c.loop.invariant)

pub returns-then-begins_as_field : goal.returns-then-begins_as_field
returns-then-begins_as_field c =
    let is : begins_field c.loop.rest.now ≡ true = cc in
    over begins_field field.take c.loop.items (length c.args.bytes.now) c.loop.counter c.loop.rest.now (run_at begins_field field.take (length c.args.bytes.now) c.args.bytes.now) c.loop-test.false is c.loop.invariant

pub returns : goal.returns
returns c =
    let is : begins_field c.loop.rest.now ≡ false = cc in
    stops begins_field field.take c.loop.items (length c.args.bytes.now - c.loop.counter) c.loop.rest.now (run_at begins_field field.take (length c.args.bytes.now) c.args.bytes.now) is c.loop.invariant
