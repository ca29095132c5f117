-- A word times a power of 2, and divided by one.
use Rattle.std.proofs.Common.{◌≡◌, ◌≢◌, ℕ, zero, suc, ◌*◌, ◌^◌, ◌<◌, ◌≤◌, ℤ, pos, negsuc, neg_ℤ, ◌*ℤ◌, ◌<ℤ◌, ◌≤ℤ◌, false, Option, Some, None, refl, sym, ap, subst, ◌∙◌, w32, w64, to_z, arith}
use Rattle.std.specs.Prelude.{if◌then◌else◌}
use Rattle.std.specs.Int.{int_div_euclid}
use Rattle.std.specs.Int.RustNames.{FitsSigned, unsigned_abs}
use Rattle.std.proofs.lemmas.Bool.Decides.{nat_tests}
use Rattle.std.proofs.lemmas.Int.{ints, fits_signed_mul, to_z_pos}
use Rattle.std.proofs.Math.Pow.{pow_mono}
use native.Mathlib.Nat.{div-eq_of_lt}
use Rattle.ob_instr.specs.Rows.{in_width}

abbrev pub as_word : ℤ → Option ℤ
as_word z = if in_width 4 z then Some z else None

pub up_zero : (e : ℕ) → as_word (pos 0 *ℤ pos (2 ^ e)) ≡ Some (pos 0)
up_zero e = let z : 0 * 2 ^ e ≡ 0 = omega arith in ap (λ n. as_word (pos n)) z

far : (k : ℕ) → 2147483648 < k → in_width 4 (neg_ℤ (pos k)) ≡ false
far zero lt = absurd (omega arith)
far (suc k) lt = grind (arith, nat_tests)

not_word : (z : ℤ) → in_width 4 z ≡ false → as_word z ≡ None
not_word z e = ap (λ b. if b then Some z else None) e

pub up_far : (x : ℤ) (e : ℕ) → x ≢ pos 0 → 32 ≤ e → as_word (x *ℤ pos (2 ^ e)) ≡ None
up_far (pos zero) e some le = absurd (some refl)
up_far (pos (suc n)) e some le =
    let m : 2 ^ 32 ≤ 2 ^ e = pow_mono le in
    let k : 2147483648 ≤ suc n * 2 ^ e = omega arith in
    not_word (pos (suc n * 2 ^ e)) (grind (arith, nat_tests))
up_far (negsuc n) e some le =
    let m : 2 ^ 32 ≤ 2 ^ e = pow_mono le in
    not_word (neg_ℤ (pos (suc n * 2 ^ e))) (far (suc n * 2 ^ e) (omega arith))

pub down_far_up : (x : ℤ) (e : ℕ) → FitsSigned w32 x → pos 0 ≤ℤ x → 31 ≤ e → int_div_euclid x (pos (2 ^ e)) ≡ pos 0
down_far_up (pos a) e f le far =
    let m : 2 ^ 31 ≤ 2 ^ e = pow_mono far in
    let s = f.sfits in
    let lt : a < 2 ^ e = omega arith in
    ap pos (div-eq_of_lt lt)
down_far_up (negsuc a) e f le far = absurd (omega (arith, ints))

pub down_far_low : (x : ℤ) (e : ℕ) → FitsSigned w32 x → x <ℤ pos 0 → 31 ≤ e → int_div_euclid x (pos (2 ^ e)) ≡ negsuc 0
down_far_low (pos a) e f le far = absurd (omega (arith, ints))
down_far_low (negsuc a) e f le far =
    let m : 2 ^ 31 ≤ 2 ^ e = pow_mono far in
    let s = f.sfits in
    let lt : a < 2 ^ e = omega arith in
    ap negsuc (div-eq_of_lt lt)

small_abs : (x : ℤ) → FitsSigned w32 x → unsigned_abs x ≤ 2147483648
small_abs (pos n) f = let h = f.sfits in omega arith
small_abs (negsuc n) f = let h = f.sfits in omega arith

pub scaled_fits : (x : ℤ) (e : ℕ) → FitsSigned w32 x → e < 32 → FitsSigned w64 (x *ℤ pos (2 ^ e))
scaled_fits x e f lt =
    let le : e ≤ 31 = omega arith in
    let m : 2 ^ e ≤ 2 ^ 31 = pow_mono le in
    fits_signed_mul w64 x (pos (2 ^ e)) 2147483648 2147483648 (small_abs x f) (omega arith) (omega arith)

pub ruleset ups = (up_zero, up_far)

pub ruleset downs = (down_far_up, down_far_low)

pub product_is : (x y : ℤ) (p e : ℕ) → FitsSigned w32 x → e < 32 → y ≡ x → p ≡ 2 ^ e → (y *ℤ to_z w64 p ≡ x *ℤ pos (2 ^ e)) × FitsSigned w64 (y *ℤ to_z w64 p)
product_is x y p e f lt same is =
    let le : e ≤ 31 = omega arith in
    let m : 2 ^ e ≤ 2 ^ 31 = pow_mono le in
    let small : p < 2 ^ 63 = omega arith in
    let q : y *ℤ to_z w64 p ≡ x *ℤ pos (2 ^ e) = ap (λ z. z *ℤ to_z w64 p) same ∙ ap (λ z. x *ℤ z) (to_z_pos w64 p small ∙ ap pos is) in
    (q, subst (FitsSigned w64) (sym q) (scaled_fits x e f lt))

pub below_31 : (p e : ℕ) → e < 31 → p ≡ 2 ^ e → FitsSigned w32 (pos p)
below_31 p e lt is = let le : e ≤ 30 = omega arith in let m : 2 ^ e ≤ 2 ^ 30 = pow_mono le in record { sfits = omega arith }
