use Rattle.std.proofs.Common.{◌≡◌, length}
use Rattle.ob_instr.specs.Table.{position_at}
use Rattle.ob_machine.proofs.running.position_at.Given as goal

abbrev pub invariant-loop-rest : goal.invariant-loop-rest
invariant-loop-rest l = position_at l.positions l.pc ≡ position_at l.rest l.pc

abbrev pub decreases-loop-rest : goal.decreases-loop-rest
decreases-loop-rest l = length l.rest
