use Rattle.std.proofs.Common.{◌≡◌, ◌-◌, ◌∙◌, suc, zero, ℤ, pos, negsuc, false, Some, get_or, ap, subst, sym, arith, w32}
use Rattle.std.proofs.lemmas.Bool.{false≢true, ltb-false}
use Rattle.std.specs.Prelude.{int_lt, nat_abs}
use Rattle.std.proofs.lemmas.Int.{to_z-of_z}
use Rattle.std.proofs.lemmas.Option.{slice_get-get_or}
use Rattle.ob_trap.specs.declared.trap.Trap.TheVariants.{IndexOutside}
use Rattle.ob_trap.specs.declared.trap.TheConstants.{TRAPS}
use Rattle.ob_trap.specs.Numbers.{trap_of}
use Rattle.ob_trap.proofs.trap.Trap.of_number.Goals as goal

within : (z : ℤ) → int_lt z (pos 1) ≡ false → int_lt (pos 16) z ≡ false → Some (get_or TRAPS (nat_abs z - 1) IndexOutside) ≡ trap_of z
within (pos zero) a b = absurd (false≢true (sym a))
within (pos (suc n)) a b =
    let e : suc n - 1 ≡ n = omega arith in
    rw e (sym (slice_get-get_or TRAPS n IndexOutside (omega (arith, ltb-false 16 (suc n) b))))
within (negsuc n) a b = absurd (false≢true (sym a))

pub returns : goal.returns
returns c =
    let e = to_z-of_z w32 c.args.number c.ranges.number in
    subst (λ z. Some (get_or TRAPS (nat_abs z - 1) IndexOutside) ≡ trap_of c.args.number) (sym e)
    (within c.args.number (ap (λ z. int_lt z (pos 1)) (sym e) ∙ c.if-number-lt1.false) (ap (λ z. int_lt (pos 16) z) (sym e) ∙ c.if-number-gt16.false))
