use Rattle.std.proofs.Common.{◌≡◌, ◌<◌, ◌∙◌, get_or, length, arith}
use Rattle.ob_format.proofs.Splits.{split_is}
use Rattle.ob_format.proofs.words.split_at_byte.Goals as goal
use Rattle.ob_format.proofs.words.split_at_byte.Goals.{then-loop-count-test+else-bytes-count, else-loop-count-test}

pub returns-clause-before : goal.returns-clause-before
returns-clause-before c =
    let at : c.loop-count.count < length c.args.bytes.now → get_or c.args.bytes.now c.loop-count.count 0 ≡ c.args.c = λ lt. elim c.loop-count-test.branch [
      | then-loop-count-test+else-bytes-count w ↦ w.if-bytes-count.false
      | else-loop-count-test w ↦ absurd (omega (arith, w.loop-count-test.false))
    ] in
    c.split_at.ensures.front ∙ (split_is c.args.c c.args.bytes.now c.loop-count.count c.loop-count.invariant.within c.loop-count.invariant.before at).0

pub returns-clause-after : goal.returns-clause-after
returns-clause-after c =
    let at : c.loop-count.count < length c.args.bytes.now → get_or c.args.bytes.now c.loop-count.count 0 ≡ c.args.c = λ lt. elim c.loop-count-test.branch [
      | then-loop-count-test+else-bytes-count w ↦ w.if-bytes-count.false
      | else-loop-count-test w ↦ absurd (omega (arith, w.loop-count-test.false))
    ] in
    c.split_at.ensures.back ∙ (split_is c.args.c c.args.bytes.now c.loop-count.count c.loop-count.invariant.within c.loop-count.invariant.before at).1
