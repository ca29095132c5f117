-- What a trap says of operands that are passed on as they are.
use Rattle.std.proofs.Common.{◌≡◌, ℤ, subst}
use Rattle.ob_instr.specs.Image.{World}
use Rattle.ob_instr.specs.Rows.{Effect, Traps, on_found}
use Rattle.ob_trap.specs.Numbers.{trap_of}

pub trap_passed : (a b c d : ℤ) → c ≡ a → d ≡ b → (w : World) (x : Effect) → on_found (trap_of c) (λ kind. Traps kind d w) ≡ x → on_found (trap_of a) (λ kind. Traps kind b w) ≡ x
trap_passed a b c d e f w x h = subst (λ n. on_found (trap_of n) (λ kind. Traps kind b w) ≡ x) e (subst (λ n. on_found (trap_of c) (λ kind. Traps kind n w) ≡ x) f h)
