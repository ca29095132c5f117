use Rattle.std.proofs.Common.{rules, ◌≡◌, ◌^◌, pos, ap, w64, to_z, of_z, arith}
use Rattle.std.specs.Int.RustNames.{FitsSigned}
use Rattle.std.proofs.lemmas.Int.{ints, to_z-of_z}
use Rattle.ob_const.proofs.Powers.{below_42, quotient_is}
use Rattle.ob_const.proofs.shifts.halved.Goals as goal

pub overflow_cast-power : goal.overflow_cast-power
overflow_cast-power c = below_42 c.power.result c.args.places c.requires c.power.ensures

pub returns : goal.returns
returns c =
    let f : FitsSigned w64 c.div_euclid.result = search rules in
    let s = below_42 c.power.result c.args.places c.requires c.power.ensures in
    let a : to_z w64 (of_z w64 c.from.result) ≡ c.args.n = omega (arith, ints) in
    let b : to_z w64 c.power.result ≡ pos c.power.result = to_z-of_z w64 (pos c.power.result) s in
    let d : pos c.power.result ≡ pos (2 ^ c.args.places) = ap pos c.power.ensures in
    let e = to_z-of_z w64 c.div_euclid.result f in
    let h = c.div_euclid.ensures in
    let q = quotient_is c.args.n (2 ^ c.args.places) in
    cc
