-- Each trap is that of its number, and the numbers are small.
use Rattle.std.proofs.Common.{◌≡◌, ◌≤◌, refl, Some, arith}
use Rattle.std.specs.Prelude.{pos}
use Rattle.ob_trap.specs.declared.trap.Trap.{Trap}
use Rattle.ob_trap.specs.declared.trap.Trap.TheVariants.{IndexOutside, Nil, GuardFails, NoCase, NoMatch, NoReturn, NoDivisor, Overflow, NoElement, AssertionFails, Halted, HeapFull, StackFull, OtherType, NoEnd, NoLength}
use Rattle.ob_trap.specs.Numbers.{trap_number, trap_of}

pub trap_again : (t : Trap) → trap_of (pos (trap_number t)) ≡ Some t
trap_again IndexOutside = refl
trap_again Nil = refl
trap_again GuardFails = refl
trap_again NoCase = refl
trap_again NoMatch = refl
trap_again NoReturn = refl
trap_again NoDivisor = refl
trap_again Overflow = refl
trap_again NoElement = refl
trap_again AssertionFails = refl
trap_again Halted = refl
trap_again HeapFull = refl
trap_again StackFull = refl
trap_again OtherType = refl
trap_again NoEnd = refl
trap_again NoLength = refl

pub number_small : (t : Trap) → trap_number t ≤ 16
number_small IndexOutside = omega arith
number_small Nil = omega arith
number_small GuardFails = omega arith
number_small NoCase = omega arith
number_small NoMatch = omega arith
number_small NoReturn = omega arith
number_small NoDivisor = omega arith
number_small Overflow = omega arith
number_small NoElement = omega arith
number_small AssertionFails = omega arith
number_small Halted = omega arith
number_small HeapFull = omega arith
number_small StackFull = omega arith
number_small OtherType = omega arith
number_small NoEnd = omega arith
number_small NoLength = omega arith
