use Rattle.std.proofs.Common.{◌+◌, ◌≤◌, ◌^◌, arith}
use Rattle.std.proofs.Math.Pow.{pow_mono}
use Rattle.ob_machine_operands.proofs.sets.set_of.Goals as goal

pub overflow_sub-bits : goal.overflow_sub-bits
overflow_sub-bits c = let m : 2 ^ c.args.first ≤ 2 ^ (c.args.last + 1) = pow_mono (omega arith) in omega arith
