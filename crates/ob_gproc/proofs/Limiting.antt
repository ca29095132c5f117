-- Which limit of its code a module exceeds first, by the two tests.
use Rattle.std.proofs.Common.{◌≡◌, Bool, true, false, cond, not, Option, Some, None, Result, Ok, Err, sym, ap, ◌∙◌}
use Rattle.std.specs.Prelude.{◌↔◌}
use Rattle.std.specs.Result.{IsErrOf}
use Rattle.ob_tree.specs.declared.which.Which.{Which}
use Rattle.ob_tree.specs.declared.which.Which.TheVariants as which
use Rattle.ob_gproc.specs.declared.fault.GenFault.{GenFault}
use Rattle.ob_gproc.specs.declared.fault.GenFault.TheVariants as fault

abbrev pub limit_by : (few short : Bool) → Option Which
limit_by few short = cond (not few) (Some which.Operands) (cond (not short) (Some which.Code) None)

abbrev pub limit_in : {X : Type 0} → Result X GenFault → Option Which
limit_in (Ok x) = None
limit_in (Err (fault.Limit w)) = Some w
limit_in (Err fault.Beyond) = None
limit_in (Err fault.Memory) = None

pub many_exceeds : (few short : Bool) → few ≡ false → Some which.Operands ≡ limit_by few short
many_exceeds few short f = sym (ap (λ b. limit_by b short) f)

pub long_exceeds : (few short : Bool) → few ≡ true → short ≡ false → Some which.Code ≡ limit_by few short
long_exceeds few short f s = sym (ap (λ b. limit_by b short) f ∙ ap (limit_by true) s)

pub none_exceeded : (few short : Bool) → few ≡ true → short ≡ true → None ≡ limit_by few short
none_exceeded few short f s = sym (ap (λ b. limit_by b short) f ∙ ap (limit_by true) s)

some_or : Option Which → Which → Which
some_or (Some w) v = w
some_or None v = v

answered : {X : Type 0} (r : Result X GenFault) (w : Which) → limit_in r ≡ Some w → r ≡ Err (fault.Limit w)
unfolding some_or
answered (Ok x) w h = absurd cc
answered (Err (fault.Limit v)) w h = ap (λ (o : Option Which). Err (fault.Limit (some_or o v))) h
answered (Err fault.Beyond) w h = absurd cc
answered (Err fault.Memory) w h = absurd cc

-- an answer that names that limit is the first limit that is exceeded
pub limit_told : {X : Type 0} (few short : Bool) (r : Result X GenFault) → limit_in r ≡ limit_by few short → (w : Which) → IsErrOf r (fault.Limit w) ↔ (limit_by few short ≡ Some w)
limit_told few short r e w = (λ h. sym e ∙ ap limit_in h, λ h. answered r w (e ∙ h))
