-- A number times a power of 2.
use Rattle.std.proofs.Common.{◌≡◌, ℕ, ◌*◌, ◌^◌, ◌<◌, ◌≤◌, ℤ, pos, negsuc, ◌*ℤ◌, refl, sym, ap, subst, ◌∙◌, w32, w64, to_z, arith}
use Rattle.std.specs.Int.RustNames.{FitsSigned, unsigned_abs}
use Rattle.std.proofs.lemmas.Int.{fits_signed_mul, to_z_pos}
use Rattle.std.proofs.Math.Pow.{pow_mono}
use Rattle.std.specs.Int.{int_div_euclid}
use Rattle.ob_types.specs.Numbers.{quotient}

small_abs : (x : ℤ) → FitsSigned w32 x → unsigned_abs x ≤ 2147483648
small_abs (pos n) f = let h = f.sfits in omega arith
small_abs (negsuc n) f = let h = f.sfits in omega arith

scaled_fits : (x : ℤ) (e : ℕ) → FitsSigned w32 x → e ≤ 31 → FitsSigned w64 (x *ℤ pos (2 ^ e))
scaled_fits x e f le =
    let m : 2 ^ e ≤ 2 ^ 31 = pow_mono le in
    fits_signed_mul w64 x (pos (2 ^ e)) 2147483648 2147483648 (small_abs x f) (omega arith) (omega arith)

pub product_is : (x y : ℤ) (p e : ℕ) → FitsSigned w32 x → e ≤ 31 → y ≡ x → p ≡ 2 ^ e → (y *ℤ to_z w64 p ≡ x *ℤ pos (2 ^ e)) × FitsSigned w64 (y *ℤ to_z w64 p)
product_is x y p e f le same is =
    let m : 2 ^ e ≤ 2 ^ 31 = pow_mono le in
    let small : p < 2 ^ 63 = omega arith in
    let q : y *ℤ to_z w64 p ≡ x *ℤ pos (2 ^ e) = ap (λ z. z *ℤ to_z w64 p) same ∙ ap (λ z. x *ℤ z) (to_z_pos w64 p small ∙ ap pos is) in
    (q, subst (FitsSigned w64) (sym q) (scaled_fits x e f le))

pub below_42 : (p e : ℕ) → e ≤ 41 → p ≡ 2 ^ e → FitsSigned w64 (pos p)
below_42 p e le is = let m : 2 ^ e ≤ 2 ^ 41 = pow_mono le in record { sfits = omega arith }

pub quotient_is : (x : ℤ) (n : ℕ) → int_div_euclid x (pos n) ≡ quotient x n
quotient_is (pos a) n = refl
quotient_is (negsuc a) n = refl
