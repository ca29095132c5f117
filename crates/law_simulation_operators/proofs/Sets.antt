-- A set's word: what the machine's operators on words of sets give is the word of what the operators on sets give.
use Rattle.std.proofs.Common.{◌≡◌, ℕ, zero, suc, ◌+◌, ◌<◌, refl, sym, ap, ◌∙◌, subst, arith}
use Rattle.std.proofs.lemmas.Bool.Decides.{nat_tests}
use Rattle.std.proofs.lemmas.Nat.{or_lt, xor_lt, and_le_l, pow_pos}
use Rattle.std.proofs.lemmas.Nat.Bits.{bit_at-zero, bit_at_and, bit_at_or, bit_at_xor, bit_at_not, bit_at-lt, bit_at_cat_low, bit_at_cat_high, bit_at_mask_inside, bit_at_mask_below, bit_at_mask_above, same_from_bits_below}
use Rattle.std.proofs.lemmas.Int.{of_z-to_z}
use Rattle.std.proofs.Math.Nat.{pow-succ', pow-le-pow_right}
use Rattle.std.specs.Prelude.{◌^◌, ◌*◌, ◌-◌, ◌%◌, min, max, Bool, true, false, not, ◌&&◌, ◌||◌, if◌then◌else◌, nat_lt, nat_le, nat_eq}
use Rattle.std.specs.Int.{w32, cast_signed, cast_unsigned, bit_at, bit_not, int_bit_and, int_bit_or, int_bit_xor, int_bit_not}
use Rattle.std.specs.Int.Bits.{bit_and}
use Rattle.std.specs.Int.RustNames.{bit_or, bit_xor}
use Rattle.ob_instr.specs.Rows.{set_from, has_element}
use Rattle.ob_types.specs.Numbers.{has_bit}
use Rattle.ob_meaning.specs.Operators.{agree_below}
use Rattle.law_simulation_relation.specs.Relation.{bits_below, set_word}

abbrev pub digit : Bool → ℕ
digit true = 1
digit false = 0

-- BITS

pub bits_small : (n : ℕ) (f : ℕ → Bool) → bits_below n f < 2 ^ n
bits_small zero f = omega arith
bits_small (suc n) f = by (f n) (bits_small n f)
  where
    by : (x : Bool) → bits_below n f < 2 ^ n → bits_below n f + (if x then 2 ^ n else 0) < 2 ^ suc n
    by true h = omega (arith, h, pow-succ' 2 n)
    by false h = omega (arith, h, pow-succ' 2 n)

bits_at : (n : ℕ) (f : ℕ → Bool) (i : ℕ) → i < n → bit_at (bits_below n f) i ≡ digit (f i)
bits_at zero f i lt = absurd (omega (arith, lt))
bits_at (suc n) f i lt = by (nat_lt i n) refl (λ h. bits_at n f i h)
  where
    full : bits_below (suc n) f ≡ digit (f n) * 2 ^ n + bits_below n f
    full = go (f n)
      where
        go : (x : Bool) → bits_below n f + (if x then 2 ^ n else 0) ≡ digit x * 2 ^ n + bits_below n f
        go true = omega arith
        go false = omega arith

    lowest : (x : Bool) → bit_at (digit x) 0 ≡ digit x
    lowest true = refl
    lowest false = refl

    by : (b : Bool) → nat_lt i n ≡ b → (i < n → bit_at (bits_below n f) i ≡ digit (f i)) → bit_at (bits_below (suc n) f) i ≡ digit (f i)
    by true e below = let h : i < n = grind (arith, nat_tests) in ap (λ m. bit_at m i) full ∙ bit_at_cat_low (digit (f n)) n (bits_below n f) i h ∙ below h
    by false e below =
        let h : i ≡ n = grind (arith, nat_tests) in
        let z : i - n ≡ 0 = omega (arith, h) in
        ap (λ m. bit_at m i) full ∙ bit_at_cat_high (digit (f n)) n (bits_below n f) i (bits_small n f) (omega (arith, h)) ∙ ap (λ k. bit_at (digit (f n)) k) z ∙ lowest (f n) ∙ ap (λ k. digit (f k)) (sym h)

-- a number with the bits of a set is the set's
same_bits : (n : ℕ) (f : ℕ → Bool) → n < 2 ^ 32 → ((i : ℕ) → i < 32 → bit_at n i ≡ digit (f i)) → n ≡ bits_below 32 f
same_bits n f small h = same_from_bits_below 32 n (bits_below 32 f) small (bits_small 32 f) (λ i lt. h i lt ∙ sym (bits_at 32 f i lt))

pub set_is : (n : ℕ) (f : ℕ → Bool) → n < 2 ^ 32 → ((i : ℕ) → i < 32 → bit_at n i ≡ digit (f i)) → cast_signed w32 n ≡ set_word f
set_is n f small h = ap (cast_signed w32) (same_bits n f small h)

-- the number of a set's word
unsigned : (f : ℕ → Bool) → cast_unsigned w32 (set_word f) ≡ bits_below 32 f
unsigned f = of_z-to_z w32 (bits_below 32 f) (bits_small 32 f)

-- a set by its first 32 elements
pub set_same : (f g : ℕ → Bool) → ((i : ℕ) → i < 32 → f i ≡ g i) → set_word f ≡ set_word g
set_same f g h = set_is (bits_below 32 f) g (bits_small 32 f) (λ i lt. bits_at 32 f i lt ∙ ap digit (h i lt))

-- CONSTANTS, ELEMENTS AND RANGES

digit_bit : (n : ℕ) → n < 2 → n ≡ digit (nat_eq n 1)
digit_bit zero lt = refl
digit_bit (suc zero) lt = refl
digit_bit (suc (suc n)) lt = absurd (omega (arith, lt))

below_is : (i : ℕ) → i < 32 → nat_lt i 32 ≡ true
below_is i lt = grind (arith, nat_tests)

pub literal_set : (n : ℕ) → n < 2 ^ 32 → set_word (λ i. nat_lt i 32 && has_bit n i) ≡ cast_signed w32 n
literal_set n lt = sym (set_is n (λ i. nat_lt i 32 && has_bit n i) lt (λ i small. digit_bit (bit_at n i) (bit_at-lt n i) ∙ ap (λ b. digit (b && has_bit n i)) (sym (below_is i small))))

range_bits : (i j : ℕ) → i < 32 → j < 32 → (b : Bool) → nat_le i j ≡ b → cast_signed w32 (if b then 2 ^ suc j - 2 ^ i else 0) ≡ set_word (λ k. nat_le i k && nat_le k j)
range_bits i j lo hi true e = set_is (2 ^ suc j - 2 ^ i) (λ k. nat_le i k && nat_le k j) (omega (arith, pow-le-pow_right {n = 2} (omega arith) {i = suc j} {j = 32} (omega (arith, hi)), pow_pos i)) (λ k lt. by k (nat_le i k) (nat_le k j) refl refl)
  where
    by : (k : ℕ) (a b : Bool) → nat_le i k ≡ a → nat_le k j ≡ b → bit_at (2 ^ suc j - 2 ^ i) k ≡ digit (a && b)
    by k true true f g = bit_at_mask_inside i (suc j) k (grind (arith, nat_tests)) (grind (arith, nat_tests))
    by k true false f g = bit_at_mask_above i (suc j) k (grind (arith, nat_tests))
    by k false b f g = bit_at_mask_below i (suc j) k (grind (arith, nat_tests))
range_bits i j lo hi false e = set_is 0 (λ k. nat_le i k && nat_le k j) (omega arith) (λ k lt. by k (nat_le i k) (nat_le k j) refl refl)
  where
    by : (k : ℕ) (a b : Bool) → nat_le i k ≡ a → nat_le k j ≡ b → bit_at 0 k ≡ digit (a && b)
    by k true true f g = absurd (grind (arith, nat_tests))
    by k true false f g = bit_at-zero k
    by k false b f g = bit_at-zero k

pub range_set : (i j : ℕ) → i < 32 → j < 32 → set_from i j ≡ set_word (λ k. nat_le i k && nat_le k j)
range_set i j lo hi = range_bits i j lo hi (nat_le i j) refl

pub element_set : (i : ℕ) → i < 32 → set_from i i ≡ set_word (λ k. nat_eq k i)
element_set i lt = range_set i i lt lt ∙ set_same (λ k. nat_le i k && nat_le k i) (λ k. nat_eq k i) (λ k small. by k (nat_le i k) (nat_le k i) (nat_eq k i) refl refl refl)
  where
    by : (k : ℕ) (a b c : Bool) → nat_le i k ≡ a → nat_le k i ≡ b → nat_eq k i ≡ c → (a && b) ≡ c
    by k true true true e f g = refl
    by k true true false e f g = absurd (grind (arith, nat_tests))
    by k true false true e f g = absurd (grind (arith, nat_tests))
    by k true false false e f g = refl
    by k false b true e f g = absurd (grind (arith, nat_tests))
    by k false b false e f g = refl

pub has_element_is : (i : ℕ) (f : ℕ → Bool) → i < 32 → has_element i (set_word f) ≡ f i
has_element_is i f lt = ap (λ n. nat_eq (bit_at n i) 1) (unsigned f) ∙ ap (λ n. nat_eq n 1) (bits_at 32 f i lt) ∙ by (f i)
  where
    by : (x : Bool) → nat_eq (digit x) 1 ≡ x
    by true = refl
    by false = refl

-- OPERATORS

pub or_set : (f g : ℕ → Bool) → int_bit_or w32 (set_word f) (set_word g) ≡ set_word (λ i. f i || g i)
or_set f g =
    ap (λ n. cast_signed w32 (bit_or n (cast_unsigned w32 (set_word g)))) (unsigned f) ∙ ap (λ n. cast_signed w32 (bit_or (bits_below 32 f) n)) (unsigned g) ∙
    set_is (bit_or (bits_below 32 f) (bits_below 32 g)) (λ i. f i || g i) (or_lt 32 _ _ (bits_small 32 f) (bits_small 32 g)) (λ i lt. bit_at_or (bits_below 32 f) (bits_below 32 g) i ∙ ap (λ n. max n (bit_at (bits_below 32 g) i)) (bits_at 32 f i lt) ∙ ap (λ n. max (digit (f i)) n) (bits_at 32 g i lt) ∙ by (f i) (g i))
  where
    by : (x y : Bool) → max (digit x) (digit y) ≡ digit (x || y)
    by true true = refl
    by true false = refl
    by false true = refl
    by false false = refl

pub and_set : (f g : ℕ → Bool) → int_bit_and w32 (set_word f) (set_word g) ≡ set_word (λ i. f i && g i)
and_set f g =
    ap (λ n. cast_signed w32 (bit_and n (cast_unsigned w32 (set_word g)))) (unsigned f) ∙ ap (λ n. cast_signed w32 (bit_and (bits_below 32 f) n)) (unsigned g) ∙
    set_is (bit_and (bits_below 32 f) (bits_below 32 g)) (λ i. f i && g i) (omega (arith, and_le_l (bits_below 32 f) (bits_below 32 g), bits_small 32 f)) (λ i lt. bit_at_and (bits_below 32 f) (bits_below 32 g) i ∙ ap (λ n. min n (bit_at (bits_below 32 g) i)) (bits_at 32 f i lt) ∙ ap (λ n. min (digit (f i)) n) (bits_at 32 g i lt) ∙ by (f i) (g i))
  where
    by : (x y : Bool) → min (digit x) (digit y) ≡ digit (x && y)
    by true true = refl
    by true false = refl
    by false true = refl
    by false false = refl

pub xor_set : (f g : ℕ → Bool) → int_bit_xor w32 (set_word f) (set_word g) ≡ set_word (λ i. if f i then not (g i) else g i)
xor_set f g =
    ap (λ n. cast_signed w32 (bit_xor n (cast_unsigned w32 (set_word g)))) (unsigned f) ∙ ap (λ n. cast_signed w32 (bit_xor (bits_below 32 f) n)) (unsigned g) ∙
    set_is (bit_xor (bits_below 32 f) (bits_below 32 g)) (λ i. if f i then not (g i) else g i) (xor_lt 32 _ _ (bits_small 32 f) (bits_small 32 g)) (λ i lt. bit_at_xor (bits_below 32 f) (bits_below 32 g) i ∙ ap (λ n. (n + bit_at (bits_below 32 g) i) % 2) (bits_at 32 f i lt) ∙ ap (λ n. (digit (f i) + n) % 2) (bits_at 32 g i lt) ∙ by (f i) (g i))
  where
    by : (x y : Bool) → (digit x + digit y) % 2 ≡ digit (if x then not y else y)
    by true true = refl
    by true false = refl
    by false true = refl
    by false false = refl

pub not_set : (f : ℕ → Bool) → int_bit_not w32 (set_word f) ≡ set_word (λ i. nat_lt i 32 && not (f i))
not_set f =
    ap (λ n. cast_signed w32 (bit_not w32 n)) (unsigned f) ∙
    set_is (bit_not w32 (bits_below 32 f)) (λ i. nat_lt i 32 && not (f i)) (omega (arith, bits_small 32 f)) (λ i lt. bit_at_not w32 (bits_below 32 f) i (bits_small 32 f) lt ∙ ap (λ n. 1 - n) (bits_at 32 f i lt) ∙ by (f i) ∙ ap (λ b. digit (b && not (f i))) (sym (below_is i lt)))
  where
    by : (x : Bool) → 1 - digit x ≡ digit (not x)
    by true = refl
    by false = refl

-- the elements of the one that are not of the other
pub minus_set : (f g : ℕ → Bool) → int_bit_and w32 (set_word f) (int_bit_not w32 (set_word g)) ≡ set_word (λ i. f i && not (g i))
minus_set f g =
    ap (λ z. int_bit_and w32 (set_word f) z) (not_set g) ∙ and_set f (λ i. nat_lt i 32 && not (g i)) ∙
    set_same (λ i. f i && (nat_lt i 32 && not (g i))) (λ i. f i && not (g i)) (λ i lt. ap (λ b. f i && (b && not (g i))) (below_is i lt))

-- EQUALITY

agree_is : (n : ℕ) (f g : ℕ → Bool) → agree_below n f g ≡ true → (i : ℕ) → i < n → f i ≡ g i
agree_is zero f g e i lt = absurd (omega (arith, lt))
agree_is (suc n) f g e i lt = by (nat_lt i n) refl (λ rest h. agree_is n f g rest i h)
  where
    both : (x y z : Bool) → ((if x then y else not y) && z) ≡ true → (x ≡ y) × (z ≡ true)
    both true true true e = (refl, refl)
    both true true false e = absurd (cc)
    both true false z e = absurd (cc)
    both false true z e = absurd (cc)
    both false false true e = (refl, refl)
    both false false false e = absurd (cc)

    by : (b : Bool) → nat_lt i n ≡ b → (agree_below n f g ≡ true → i < n → f i ≡ g i) → f i ≡ g i
    by true h below = below ((both (f n) (g n) (agree_below n f g) e).1) (grind (arith, nat_tests))
    by false h below = let same : i ≡ n = grind (arith, nat_tests) in subst (λ k. f k ≡ g k) (sym same) ((both (f n) (g n) (agree_below n f g) e).0)

agrees : (n : ℕ) (f g : ℕ → Bool) → ((i : ℕ) → i < n → f i ≡ g i) → agree_below n f g ≡ true
agrees zero f g h = refl
agrees (suc n) f g h = both (f n) (g n) (agree_below n f g) (h n (omega arith)) (agrees n f g (λ i lt. h i (omega (arith, lt))))
  where
    both : (x y z : Bool) → x ≡ y → z ≡ true → ((if x then y else not y) && z) ≡ true
    both true true z e f = f
    both true false z e f = absurd (cc)
    both false true z e f = absurd (cc)
    both false false z e f = f

digit_same : (x y : Bool) → digit x ≡ digit y → x ≡ y
digit_same true true e = refl
digit_same true false e = absurd (omega (arith, e))
digit_same false true e = absurd (omega (arith, e))
digit_same false false e = refl

pub words_agree : (f g : ℕ → Bool) → set_word f ≡ set_word g → agree_below 32 f g ≡ true
words_agree f g e = let same : bits_below 32 f ≡ bits_below 32 g = sym (unsigned f) ∙ ap (cast_unsigned w32) e ∙ unsigned g in agrees 32 f g (λ i lt. digit_same (f i) (g i) (sym (bits_at 32 f i lt) ∙ ap (λ n. bit_at n i) same ∙ bits_at 32 g i lt))

pub agree_words : (f g : ℕ → Bool) → agree_below 32 f g ≡ true → set_word f ≡ set_word g
agree_words f g e = set_same f g (agree_is 32 f g e)

-- WITH ONE ELEMENT MORE OR LESS

or_turned : (x y : Bool) → (x || y) ≡ (y || x)
or_turned true true = refl
or_turned true false = refl
or_turned false true = refl
or_turned false false = refl

and_turned : (x y : Bool) → (x && y) ≡ (y && x)
and_turned true true = refl
and_turned true false = refl
and_turned false true = refl
and_turned false false = refl

pub with_one : (f : ℕ → Bool) (i : ℕ) → i < 32 → int_bit_or w32 (set_word f) (set_from i i) ≡ set_word (λ k. nat_eq k i || f k)
with_one f i lt = ap (int_bit_or w32 (set_word f)) (element_set i lt) ∙ or_set f (λ k. nat_eq k i) ∙ set_same (λ k. f k || nat_eq k i) (λ k. nat_eq k i || f k) (λ k small. or_turned (f k) (nat_eq k i))

pub without_one : (f : ℕ → Bool) (i : ℕ) → i < 32 → int_bit_and w32 (set_word f) (int_bit_not w32 (set_from i i)) ≡ set_word (λ k. not (nat_eq k i) && f k)
without_one f i lt = ap (λ z. int_bit_and w32 (set_word f) (int_bit_not w32 z)) (element_set i lt) ∙ minus_set f (λ k. nat_eq k i) ∙ set_same (λ k. f k && not (nat_eq k i)) (λ k. not (nat_eq k i) && f k) (λ k small. and_turned (f k) (not (nat_eq k i)))
