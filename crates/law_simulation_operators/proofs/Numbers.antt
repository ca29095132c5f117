-- MOD, ASH, ODD, CAP and CHR on numbers: what the machine computes is what they mean.
use Rattle.std.proofs.Common.{◌≡◌, ◌≤◌, ℕ, zero, suc, ◌<◌, ℤ, refl, sym, ap, ◌∙◌, arith}
use Rattle.std.proofs.lemmas.Bool.Decides.{nat_tests}
use Rattle.std.proofs.lemmas.Nat.{div-add-mod'}
use Rattle.std.proofs.lemmas.Int.{ints}
use Rattle.std.proofs.Math.Nat.{mod-lt, suc-mod}
use Rattle.std.specs.Prelude.{pos, negsuc, ◌+ℤ◌, ◌-◌, ◌%◌, unsigned_abs, int_lt, nat_le, nat_eq, Bool, true, false, ◌&&◌, if◌then◌else◌}
use Rattle.std.specs.Int.{int_rem_euclid}
use Rattle.ob_types.specs.declared.typed.Width.{Width}
use Rattle.ob_types.specs.declared.typed.Width.TheVariants as width
use Rattle.ob_instr.specs.Rows as rows
use Rattle.ob_instr.specs.Rows.{truth, is_within}
use Rattle.ob_types.specs.Numbers.{is_in, is_odd, is_positive, capital, remainder, shifted}

-- MOD, of a positive divisor

pub same_remainder : (x : ℤ) (k : ℕ) → 0 < k → int_rem_euclid x (pos k) ≡ remainder x k
same_remainder (pos n) k up = let h = div-add-mod' n k in omega (arith, ints, h)
same_remainder (negsuc n) k up = let h = div-add-mod' n k in let l = mod-lt n up in omega (arith, ints, h, l)

abbrev rest_of : ℤ → ℕ → ℕ
rest_of (pos a) k = a % k
rest_of (negsuc a) k = k - 1 - a % k

rest_is : (x : ℤ) (k : ℕ) → int_rem_euclid x (pos k) ≡ pos (rest_of x k)
rest_is (pos a) k = refl
rest_is (negsuc a) k = refl

rest_small : (x : ℤ) (k : ℕ) → 0 < k → rest_of x k < k
rest_small (pos a) k up = mod-lt a up
rest_small (negsuc a) k up = omega (arith, up)

less_in : (v : Width) (m n : ℕ) → m ≤ n → is_in v (pos n) ≡ true → is_in v (pos m) ≡ true
less_in width.ShortInt m n le e = grind (arith, nat_tests)
less_in width.Integer m n le e = grind (arith, nat_tests)
less_in width.LongInt m n le e = grind (arith, nat_tests)

pub remainder_in : (v : Width) (x : ℤ) (k : ℕ) → 0 < k → is_in v (pos k) ≡ true → is_in v (remainder x k) ≡ true
remainder_in v x k up e = ap (is_in v) (sym (same_remainder x k up) ∙ rest_is x k) ∙ less_in v (rest_of x k) k (let h = rest_small x k up in omega (arith, h)) e

-- ASH

pub same_shift : (x n : ℤ) → rows.shifted x n ≡ shifted x n
same_shift x (pos n) = refl
same_shift (pos m) (negsuc n) = refl
same_shift (negsuc m) (negsuc n) = refl

-- ODD

odd_digit : (n : ℕ) → n < 2 → pos n ≡ truth (nat_eq n 1)
odd_digit zero lt = refl
odd_digit (suc zero) lt = refl
odd_digit (suc (suc n)) lt = absurd (omega (arith, lt))

other_digit : (n : ℕ) → n < 2 → pos (2 - 1 - n) ≡ truth (nat_eq (suc n % 2) 1)
other_digit zero lt = refl
other_digit (suc zero) lt = refl
other_digit (suc (suc n)) lt = absurd (omega (arith, lt))

pub same_odd : (x : ℤ) → int_rem_euclid x (pos 2) ≡ truth (is_odd x)
same_odd (pos n) = odd_digit (n % 2) (mod-lt n (omega arith))
same_odd (negsuc n) = other_digit (n % 2) (mod-lt n (omega arith)) ∙ ap (λ m. truth (nat_eq m 1)) (sym (suc-mod n 2))

-- CAP

pub same_capital : (n : ℕ) → rows.capital (pos n) ≡ pos (capital n)
same_capital n = by (nat_le 97 n && nat_le n 122)
  where
    by : (b : Bool) → (if b then pos (n - 32) else pos n) ≡ pos (if b then n - 32 else n)
    by true = refl
    by false = refl

pub capital_small : (n : ℕ) → n < 256 → capital n < 256
capital_small n lt = by (nat_le 97 n && nat_le n 122)
  where
    by : (b : Bool) → (if b then n - 32 else n) < 256
    by true = omega (arith, lt)
    by false = lt

-- CHR

pub is_code : (x : ℤ) → (is_positive (x +ℤ pos 1) && int_lt x (pos 256)) ≡ is_within x (pos 256)
is_code (pos n) = grind (arith, nat_tests)
is_code (negsuc zero) = refl
is_code (negsuc (suc n)) = let e : negsuc (suc n) +ℤ pos 1 ≡ negsuc n = omega (arith, ints) in ap (λ z. is_positive z && true) e

pub code_is : (x : ℤ) → is_within x (pos 256) ≡ true → (x ≡ pos (unsigned_abs x)) × (unsigned_abs x < 256)
code_is (pos n) e = (refl, grind (arith, nat_tests))
code_is (negsuc n) e = absurd (cc)
