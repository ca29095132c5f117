-- Numbers that are read digit by digit.
use Rattle.std.proofs.Common.{◌≡◌, refl, sym, ap, ◌∙◌, ℕ, zero, suc, ◌+◌, ◌*◌, ◌-◌, ◌≤◌, ◌<◌, ◌≢◌, Bool, true, false, List, [], ◌∷◌, ◌++◌, take, length, drop, arith, nat_le, slice_index_or, Option, Some, None}
use Rattle.std.proofs.Math.Nat.{le-mul_of_pos_right}
use Rattle.std.proofs.lemmas.Bool.Decides.{nat_tests}
use Rattle.ob_rules.specs.Expressions.{digit, number_in, marked, is_marked}
use Rattle.ob_rules.specs.Constants.{when}

-- they only grow
pub grows : (base n : ℕ) (cs : List ℕ) → 1 ≤ base → n ≤ number_in base n cs
grows base n [] h = omega arith
grows base n (c ∷ cs) h =
    let more : n * base + digit c ≤ number_in base (n * base + digit c) cs = grows base (n * base + digit c) cs h in
    let times : n ≤ n * base = le-mul_of_pos_right n h in
    omega arith

next_digit : (i : ℕ) (text : List ℕ) → i < length text → drop i text ≡ slice_index_or text i 0 ∷ drop (suc i) text
next_digit i [] h = absurd (omega arith)
next_digit zero (c ∷ cs) h = refl
next_digit (suc i) (c ∷ cs) h = next_digit i cs (omega arith)

above : (n limit : ℕ) → limit < n → None ≡ when (nat_le n limit) n
above n limit h = grind (arith, nat_tests)

-- once above the limit it stays there
pub over : (base n i limit m : ℕ) (text : List ℕ) → 1 ≤ base → i < length text → number_in base 0 text ≡ number_in base n (drop i text) → m ≡ n * base + digit (slice_index_or text i 0) → limit < m → None ≡ when (nat_le (number_in base 0 text) limit) (number_in base 0 text)
over base n i limit m text h within so_far is more =
    let rest : number_in base 0 text ≡ number_in base m (drop (suc i) text) =
    so_far ∙ ap (number_in base n) (next_digit i text within) ∙ ap (λ k. number_in base k (drop (suc i) text)) (sym is) in
    let g : m ≤ number_in base m (drop (suc i) text) = grows base m (drop (suc i) text) h in
    above (number_in base 0 text) limit (omega arith)

-- the digits before the last character
marked_front : (n c : ℕ) (cs : List ℕ) → marked n (c ∷ cs) ≡ number_in 16 n (take (length cs) (c ∷ cs))
marked_front n c [] = refl
marked_front n c (d ∷ cs) = marked_front (n * 16 + digit c) d cs

pub marked_but_last : (cs : List ℕ) → cs ≢ [] → marked 0 cs ≡ number_in 16 0 (take (length cs - 1) cs)
marked_but_last [] h = absurd (h refl)
marked_but_last (c ∷ cs) h = let e : length (c ∷ cs) - 1 ≡ length cs = omega arith in marked_front 0 c cs ∙ ap (λ k. number_in 16 0 (take k (c ∷ cs))) (sym e)

last_front : (c : ℕ) (cs : List ℕ) → nat_le 72 (slice_index_or (c ∷ cs) (length cs) 0) ≡ is_marked (c ∷ cs)
last_front c [] = refl
last_front c (d ∷ cs) = last_front d cs

pub last_is : (cs : List ℕ) → cs ≢ [] → nat_le 72 (slice_index_or cs (length cs - 1) 0) ≡ is_marked cs
last_is [] h = absurd (h refl)
last_is (c ∷ cs) h = let e : length (c ∷ cs) - 1 ≡ length cs = omega arith in ap (λ k. nat_le 72 (slice_index_or (c ∷ cs) k 0)) e ∙ last_front c cs
