-- Sizes that are counted up to 2^32.
use Rattle.std.proofs.Common.{◌≡◌, ℕ, ◌+◌, ◌<◌, arith}
use Rattle.std.specs.Prelude.{min, nat_le}
use Rattle.std.proofs.lemmas.Bool.Decides.{nat_tests}

-- a limit below 2^32 is kept where it is kept by the number that is counted
pub few_words : (w : ℕ) → nat_le (min w 4294967296) 1048576 ≡ nat_le w 1048576
few_words w = grind (arith, nat_tests)

pub inside : (p w r : ℕ) → r < 4294967296 → nat_le (p + min w 4294967296) r ≡ nat_le (p + w) r
inside p w r l = grind (arith, nat_tests)
