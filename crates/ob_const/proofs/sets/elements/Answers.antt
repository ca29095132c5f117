use Rattle.std.proofs.Common.{◌≡◌, ◌+◌, ◌-◌, ◌≤◌, ◌^◌, suc, ap, arith}
use Rattle.std.proofs.Math.Pow.{pow_mono}
use Rattle.ob_types.specs.declared.value.Value.TheVariants as literal
use Rattle.ob_const.proofs.sets.elements.Goals as goal

pub overflow_sub-bits : goal.overflow_sub-bits
overflow_sub-bits c = let m : 2 ^ c.args.i ≤ 2 ^ (c.args.j + 1) = pow_mono (omega arith) in omega arith

pub returns-then-i-j : goal.returns-then-i-j
returns-then-i-j c =
    let m : 2 ^ suc c.args.j ≤ 2 ^ c.args.i = pow_mono (omega arith) in
    let e : 0 ≡ 2 ^ suc c.args.j - 2 ^ c.args.i = omega arith in
    ap literal.Set e
