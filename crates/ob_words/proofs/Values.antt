-- The value of digits.
use Rattle.std.proofs.Common.{ℕ, ◌+◌, ◌-◌, ◌*◌, ◌<◌, ◌≤◌, List, [], ◌∷◌, length, slice_index_or, arith}
use Rattle.ob_words.specs.Numbers.{value_from}

-- more digits make it no less
pub grows : (n : ℕ) (bs : List ℕ) → n ≤ value_from n bs
grows n [] = omega arith
grows n (b ∷ bs) = let h = grows (n * 10 + (b - 48)) bs in omega (arith, h)

pub over : (most n : ℕ) (bs : List ℕ) → most < n → most < value_from n bs
over most n bs h = let g = grows n bs in omega (arith, g, h)

pub over_first : (most n : ℕ) (xs : List ℕ) → 1 ≤ length xs → most < n * 10 + (slice_index_or xs 0 0 - 48) → most < value_from n xs
over_first most n [] h o = absurd (omega (arith, h))
over_first most n (b ∷ bs) h o = over most (n * 10 + (b - 48)) bs o
