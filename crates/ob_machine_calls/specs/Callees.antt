-- What the instruction of a call names.
use Rattle.std.specs.Prelude.{◌≤◌, Bool, true, false, List, length, take, drop, reverse, ℤ, pos}
use Rattle.ob_trap.specs.declared.trap.Trap.TheVariants as trap
use Rattle.ob_instr.specs.declared.opcode.Opcode.{Opcode}
use Rattle.ob_instr.specs.declared.opcode.Opcode.TheVariants as op
use Rattle.ob_instr.specs.Image.{Image, World}
use Rattle.ob_instr.specs.Rows.{Effect, Traps, Unable, calls, calls_with}
use Rattle.ob_machine_calls.specs.declared.callee.Callee.{Callee}
use Rattle.ob_machine_calls.specs.declared.callee.Callee.TheVariants as callee

-- what is done then, with operands, the last one last
abbrev pub callee_effect : Image → List ℤ → Callee → World → Effect
callee_effect img operands (callee.With r) w = calls_with img r (reverse operands) w
callee_effect img operands (callee.At r from below) w = calls img r (drop from operands) (reverse (take below operands)) w
callee_effect img operands callee.Nil w = Traps trap.Nil (pos 0) w
callee_effect img operands callee.Unable w = Unable

-- the operands that it names are there
abbrev pub IsWithin : List ℤ → Callee → Type 0
IsWithin operands (callee.At r from below) = (from ≤ length operands) × (below ≤ from)
IsWithin operands _ = Unit {0}

-- a call, but none of an own procedure
abbrev pub is_other_call : Opcode → Bool
is_other_call op.CallX = true
is_other_call op.CallV = true
is_other_call op.CallP = true
is_other_call op.CallR = true
is_other_call op.CallS = true
is_other_call o = false
