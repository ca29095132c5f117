use Rattle.std.proofs.Common.{◌≡◌, ◌∙◌, ◌*ℤ◌, w64, to_z, of_z, arith}
use Rattle.std.proofs.lemmas.Int.{ints, to_z-of_z}
use Rattle.ob_machine_step.proofs.Powers.{product_is}
use Rattle.ob_machine_step.proofs.shifts.scaled.Goals as goal

pub overflow_mul-result : goal.overflow_mul-result
overflow_mul-result c =
    let y : to_z w64 (of_z w64 c.from.result) ≡ c.args.word = omega (arith, ints) in
    (product_is c.args.word (to_z w64 (of_z w64 c.from.result)) c.power.result c.args.exponent c.ranges.word c.requires y c.power.ensures).1

pub returns : goal.returns
returns c =
    let y : to_z w64 (of_z w64 c.from.result) ≡ c.args.word = omega (arith, ints) in
    let p = product_is c.args.word (to_z w64 (of_z w64 c.from.result)) c.power.result c.args.exponent c.ranges.word c.requires y c.power.ensures in
    to_z-of_z w64 (to_z w64 (of_z w64 c.from.result) *ℤ to_z w64 c.power.result) p.1 ∙ p.0
