-- One more procedure in front of some.
use Rattle.std.proofs.Common.{◌≡◌, ◌+◌, ◌-◌, ◌++◌, ℕ, suc, zero, List, arith, refl}
use Rattle.ob_format.specs.Format.{Adds}
use Rattle.ob_format.specs.Exact.{then_adds}
use Rattle.ob_demo.specs.Source.{procedure, procedures}

same : (k m : ℕ) → procedures k (suc m) ≡ procedure k ++ procedures (k + 1) (suc m - 1)
unfolding procedures
same k m =
    let e : suc m - 1 ≡ m = omega arith in
    let g : k + 1 ≡ suc k = omega arith in
    rw (e, g) refl

pub one_more : {a b c : List ℕ} (k n : ℕ) → (n ≡ 0 → ⊥) → Adds a b (procedure k) → Adds b c (procedures (k + 1) (n - 1)) → Adds a c (procedures k n)
one_more k zero f p q = absurd (f refl)
one_more k (suc m) f p q = rw (same k m) (then_adds p q)
