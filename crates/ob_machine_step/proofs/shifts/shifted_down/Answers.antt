use Rattle.std.proofs.Common.{rules, ◌≡◌, ◌^◌, pos, ap, w32, to_z, of_z, arith}
use Rattle.std.specs.Int.RustNames.{FitsSigned}
use Rattle.std.proofs.lemmas.Int.{to_z-of_z}
use Rattle.ob_machine_step.proofs.Powers.{below_31}
use Rattle.ob_machine_step.proofs.shifts.shifted_down.Goals as goal

pub overflow_cast-power : goal.overflow_cast-power
overflow_cast-power c = below_31 c.power.result c.args.exponent (omega arith) c.power.ensures

pub returns : goal.returns
returns c =
    let f : FitsSigned w32 c.div_euclid.result = search rules in
    let s = below_31 c.power.result c.args.exponent (omega arith) c.power.ensures in
    let k = s.sfits in
    let a : to_z w32 (of_z w32 c.args.word) ≡ c.args.word = to_z-of_z w32 c.args.word c.ranges.word in
    let b : to_z w32 c.power.result ≡ pos c.power.result = to_z-of_z w32 (pos c.power.result) s in
    let d : pos c.power.result ≡ pos (2 ^ c.args.exponent) = ap pos c.power.ensures in
    let e = to_z-of_z w32 c.div_euclid.result f in
    let h = c.div_euclid.ensures in
    cc
