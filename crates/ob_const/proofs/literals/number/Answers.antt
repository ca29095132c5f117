use Rattle.std.proofs.Common.{◌≡◌, ◌+◌, ◌*◌, ◌∙◌, ap}
use Rattle.ob_const.proofs.Digits.{over}
use Rattle.ob_const.proofs.literals.number.Goals as goal

pub returns-then-n-limit : goal.returns-then-n-limit
returns-then-n-limit c =
    over c.args.base c.digits.n c.digits.c-index c.args.limit (c.digits.n * c.args.base + c.from.result) c.args.text.now c.requires.some c.digits-test.true c.digits.invariant.so_far
    (ap (λ d. c.digits.n * c.args.base + d) (c.from.ensures ∙ c.digit.ensures)) c.if-n-limit.true
