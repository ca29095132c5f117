-- The numbers of the traps.
use Rattle.std.specs.Prelude.{ℕ, zero, suc, ℤ, pos, negsuc, Bool, true, false, Option, None, slice_get}
use Rattle.ob_trap.specs.declared.trap.Trap.{Trap}
use Rattle.ob_trap.specs.declared.trap.Trap.TheVariants.{IndexOutside, Nil, GuardFails, NoCase, NoMatch, NoReturn, NoDivisor, Overflow, NoElement, AssertionFails, Halted, HeapFull, StackFull, OtherType, NoEnd, NoLength}
use Rattle.ob_trap.specs.declared.trap.TheConstants.{TRAPS}

abbrev pub trap_number : Trap → ℕ
trap_number IndexOutside = 1
trap_number Nil = 2
trap_number GuardFails = 3
trap_number NoCase = 4
trap_number NoMatch = 5
trap_number NoReturn = 6
trap_number NoDivisor = 7
trap_number Overflow = 8
trap_number NoElement = 9
trap_number AssertionFails = 10
trap_number Halted = 11
trap_number HeapFull = 12
trap_number StackFull = 13
trap_number OtherType = 14
trap_number NoEnd = 15
trap_number NoLength = 16

-- the trap of a number, of those from 1 to 16
abbrev pub trap_of : ℤ → Option Trap
trap_of (pos zero) = None
trap_of (pos (suc n)) = slice_get TRAPS n
trap_of (negsuc n) = None

-- an assertion and HALT tell a number of their own
abbrev pub tells_number : Trap → Bool
tells_number AssertionFails = true
tells_number Halted = true
tells_number _ = false
