-- How large a product of two words is.
use Rattle.std.proofs.Common.{◌≡◌, ◌^◌, ◌≤◌, ℤ, pos, negsuc, ◌*ℤ◌, ◌≤ℤ◌, w32, subst, sym, arith}
use Rattle.std.specs.Int.RustNames.{FitsSigned, unsigned_abs}
use Rattle.std.proofs.lemmas.Int.{ints, unsigned_abs-mul}
use Rattle.std.proofs.Math.Nat.{mul-le-mul}

abs_small : (x : ℤ) → FitsSigned w32 x → unsigned_abs x ≤ 2147483648
abs_small (pos n) f = let h = f.sfits in omega arith
abs_small (negsuc n) f = let h = f.sfits in omega arith

between : (z : ℤ) → unsigned_abs z ≤ 4611686018427387904 → (negsuc (2 ^ 62) ≤ℤ z) × (z ≤ℤ pos (2 ^ 62))
between (pos n) h = (omega (arith, ints), omega (arith, ints))
between (negsuc n) h = (omega (arith, ints), omega (arith, ints))

pub product_between : (x y z : ℤ) → FitsSigned w32 x → FitsSigned w32 y → z ≡ x *ℤ y → (negsuc (2 ^ 62) ≤ℤ z) × (z ≤ℤ pos (2 ^ 62))
product_between x y z fx fy e =
    let p = abs_small x fx in
    let q = abs_small y fy in
    let m = unsigned_abs-mul x y in
    let t = mul-le-mul p q in
    subst (λ v. (negsuc (2 ^ 62) ≤ℤ v) × (v ≤ℤ pos (2 ^ 62))) (sym e) (between (x *ℤ y) (omega arith))
