use Rattle.std.proofs.Common.{◌++◌, ◌∷◌, [], ◌≤◌, ◌-◌, ◌+◌, length, ap, arith}
use Rattle.std.proofs.lemmas.Result.{err_from_is_err_and}
use Rattle.ob_format.specs.Words.{after_at, back}
use Rattle.ob_desc.specs.Grammar.{param_at, params_at}
use Rattle.ob_format.proofs.Ends.{goes_on, ends, is_done, is_over, taken, refused, tail_after}
use Rattle.ob_desc.proofs.signatures.params_of.Goals as goal

pub returns-in_err-param : goal.returns-in_err-param
returns-in_err-param c =
    let p = err_from_is_err_and c.from_residual.result c.from_residual.ensures.1 in
    let fails = refused c.in_err-param.field-0.0 44 param_at c.loop.rest.now (rw c.split_at_byte.ensures.before at c.in_err-param.ensures) in
    rw (p.1, p.2) (ends c.in_err-param.field-0.0 (after_at 44 param_at) c.loop.items (length c.args.inner.now + 1) c.loop.counter (44 ∷ c.loop.rest.now) (params_at c.args.inner.now) c.loop-test.true (omega arith) fails c.loop.invariant)

pub loop-preserved : goal.loop-preserved
loop-preserved c =
    let found = taken 44 param_at c.loop.rest.now c.in_ok-param.param (rw c.split_at_byte.ensures.before at c.in_ok-param.ensures) in
    let step = goes_on (after_at 44 param_at) c.loop.items (length c.args.inner.now + 1) c.loop.counter (44 ∷ c.loop.rest.now) c.in_ok-param.param (back 44 c.loop.rest.now) (params_at c.args.inner.now) c.loop-test.true (omega arith) found c.loop.invariant in
    rw (c.in_ok-push.ensures.ok, tail_after 44 c.loop.rest.now c.split_at_byte.result.1.now c.split_at_byte.ensures.after c.in-len1-up.len_at_least, c.split_at_byte.ensures.after) step

pub returns-in-empty : goal.returns-in-empty
returns-in-empty c =
    let found = taken 44 param_at c.loop.rest.now c.in_ok-param.param (rw c.split_at_byte.ensures.before at c.in_ok-param.ensures) in
    let step = goes_on (after_at 44 param_at) c.loop.items (length c.args.inner.now + 1) c.loop.counter (44 ∷ c.loop.rest.now) c.in_ok-param.param (back 44 c.loop.rest.now) (params_at c.args.inner.now) c.loop-test.true (omega arith) found c.loop.invariant in
    let none : length (back 44 c.loop.rest.now) ≤ 0 = omega (arith, c.in-empty.len_below, ap length c.split_at_byte.ensures.after) in
    rw (c.in_ok-push.ensures.ok) (is_done (after_at 44 param_at) (c.loop.items ++ c.in_ok-param.param ∷ []) (length c.args.inner.now + 1 - (c.loop.counter + 1)) (back 44 c.loop.rest.now) (params_at c.args.inner.now) none step)

pub returns : goal.returns
returns c = is_over (after_at 44 param_at) c.loop.items (length c.args.inner.now + 1) c.loop.counter (44 ∷ c.loop.rest.now) (params_at c.args.inner.now) c.loop-test.false (omega arith) c.loop.invariant
