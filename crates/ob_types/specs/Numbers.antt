-- What numbers of a width, elements of sets, relations and texts come to.
use Rattle.std.specs.Prelude.{ℕ, zero, suc, ◌-◌, ◌/◌, ◌%◌, ◌^◌, List, [], ◌∷◌, ℤ, pos, negsuc, ◌-ℤ◌, ◌*ℤ◌, unsigned_abs, int_lt, nat_lt, nat_le, nat_eq, Option, Some, None, Bool, true, false, not, ◌&&◌, ◌||◌, if◌then◌else◌}
use Rattle.ob_types.specs.declared.typed.Width.{Width}
use Rattle.ob_types.specs.declared.typed.Width.TheVariants as width
use Rattle.ob_types.specs.declared.typed.Comparison.{Comparison}
use Rattle.ob_types.specs.declared.typed.Comparison.TheVariants as comparison

-- INTEGERS

-- the numbers of n bits in two's complement: their positive half is below 2 to the n - 1, and so is the other
abbrev pub bits_but_one : Width → ℕ
bits_but_one width.ShortInt = 7
bits_but_one width.Integer = 15
bits_but_one width.LongInt = 31

abbrev pub is_below : ℕ → ℤ → Bool
is_below limit (pos n) = nat_lt n limit
is_below limit (negsuc n) = nat_lt n limit

abbrev pub is_in : Width → ℤ → Bool
is_in w z = is_below (2 ^ bits_but_one w) z

abbrev pub is_positive : ℤ → Bool
is_positive z = int_lt (pos 0) z

-- x DIV y and x MOD y, of a positive y: x = (x DIV y) * y + x MOD y, and 0 <= x MOD y < y
abbrev pub quotient : ℤ → ℕ → ℤ
quotient (pos n) y = pos (n / y)
quotient (negsuc n) y = negsuc (n / y)

abbrev pub remainder : ℤ → ℕ → ℤ
remainder x y = x -ℤ (quotient x y *ℤ pos y)

-- x times 2 to the n, rounded down
abbrev pub shifted : ℤ → ℤ → ℤ
shifted x (pos n) = x *ℤ pos (2 ^ n)
shifted x (negsuc n) = quotient x (2 ^ suc n)

abbrev pub is_odd : ℤ → Bool
is_odd z = nat_eq (unsigned_abs z % 2) 1

abbrev pub capital : ℕ → ℕ
capital c = if (nat_le 97 c && nat_le c 122) then c - 32 else c

-- SETS

-- an element is a number from 0 to 31, else it traps
abbrev pub element_in : ℤ → Option ℕ
element_in (pos n) = if nat_lt n 32 then Some n else None
element_in (negsuc n) = None

-- the elements of a set that is written as a number: i where its bit i is 1
abbrev pub has_bit : ℕ → ℕ → Bool
has_bit n i = nat_eq ((n / 2 ^ i) % 2) 1

-- RELATIONS

abbrev pub holds : Comparison → (equal less : Bool) → Bool
holds comparison.Equal equal less = equal
holds comparison.NotEqual equal less = not equal
holds comparison.Less equal less = less
holds comparison.LessEqual equal less = equal || less
holds comparison.Greater equal less = not (equal || less)
holds comparison.GreaterEqual equal less = not less

-- texts are ordered by their first characters that differ; one that ends before is less
abbrev pub text_equal : List ℕ → List ℕ → Bool
text_equal [] [] = true
text_equal [] (d ∷ ds) = false
text_equal (c ∷ cs) [] = false
text_equal (c ∷ cs) (d ∷ ds) = nat_eq c d && text_equal cs ds

abbrev pub text_less : List ℕ → List ℕ → Bool
text_less [] [] = false
text_less [] (d ∷ ds) = true
text_less (c ∷ cs) [] = false
text_less (c ∷ cs) (d ∷ ds) = nat_lt c d || (nat_eq c d && text_less cs ds)
