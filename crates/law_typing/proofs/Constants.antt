-- What constants come to is a constant.
use Rattle.std.proofs.Common.{◌≡◌, refl, ℕ, suc, ◌<◌, List, Option, Some, None, Bool, true, false, arith}
use Rattle.std.specs.Prelude.{◌-◌, ◌^◌, ℤ, pos, negsuc, neg_ℤ, ◌+ℤ◌, ◌-ℤ◌, ◌*ℤ◌, unsigned_abs, not, ◌&&◌, ◌||◌, nat_lt, nat_le, bit_and, bit_or, bit_xor, if◌then◌else◌}
use Rattle.std.specs.Ordering.{int_eq}
use Rattle.std.proofs.lemmas.Bool.Decides.{nat_tests}
use Rattle.std.proofs.lemmas.Nat.{or_lt, xor_lt, and_le_l, pow_pos}
use Rattle.std.proofs.Math.Nat.{pow-le-pow_right}
use Rattle.ob_types.specs.declared.value.Value.{Value}
use Rattle.ob_types.specs.declared.value.Value.TheVariants as literal
use Rattle.ob_types.specs.declared.typed.Width.TheVariants as width
use Rattle.ob_types.specs.declared.typed.Comparison.{Comparison}
use Rattle.ob_types.specs.declared.typed.Unary.{Unary}
use Rattle.ob_types.specs.declared.typed.Unary.TheVariants as unary
use Rattle.ob_types.specs.declared.typed.Binary.{Binary}
use Rattle.ob_types.specs.declared.typed.Binary.TheVariants as binary
use Rattle.ob_types.specs.declared.typed.Connective.{Connective}
use Rattle.ob_types.specs.declared.typed.Connective.TheVariants as connective
use Rattle.ob_types.specs.Assigning.{characters}
use Rattle.ob_types.specs.Numbers.{is_in, is_positive, quotient, remainder, shifted, is_odd, capital, has_bit, element_in}
use Rattle.ob_rules.specs.Constants.{when, integer, long, bounded_shift, shift_down, ash, of_nat, of_nats, all_elements, elements, byte_of, and_so, integer_in, set_in, char_in, truth_in, truth, fold_one, divided, related, on_integers, on_sets, fold_two, texts_related, fold_texts, on_truths, fold_logical}
use Rattle.law_typing.specs.Makes.{IfThere}
use Rattle.law_typing.specs.Known.{ConstantIs}

abbrev pub IsLong : ℤ → Type 0
IsLong z = is_in width.LongInt z ≡ true

abbrev Gives : Option Value → Type 0
Gives o = IfThere ConstantIs o

when_integer : (b : Bool) (z : ℤ) → (b ≡ true → IsLong z) → Gives (when b (literal.Int z))
when_integer true z h = h refl
when_integer false z h = tt

long_is : (z : ℤ) → Gives (long z)
long_is z = when_integer (is_in width.LongInt z) z (λ e. e)

on_integer : (v : Value) (f : ℤ → Option Value) → ConstantIs v → ((z : ℤ) → IsLong z → Gives (f z)) → Gives (and_so (integer_in v) f)
on_integer (literal.Int z) f h k = k z h
on_integer (literal.Bool b) f h k = tt
on_integer (literal.Char c) f h k = tt
on_integer (literal.Set n) f h k = tt
on_integer (literal.Str text) f h k = tt
on_integer literal.Nil f h k = tt

on_set : (v : Value) (f : ℕ → Option Value) → ConstantIs v → ((n : ℕ) → n < 2 ^ 32 → Gives (f n)) → Gives (and_so (set_in v) f)
on_set (literal.Int z) f h k = tt
on_set (literal.Bool b) f h k = tt
on_set (literal.Char c) f h k = tt
on_set (literal.Set n) f h k = k n h
on_set (literal.Str text) f h k = tt
on_set literal.Nil f h k = tt

on_char : (v : Value) (f : ℕ → Option Value) → ConstantIs v → ((n : ℕ) → n < 256 → Gives (f n)) → Gives (and_so (char_in v) f)
on_char (literal.Int z) f h k = tt
on_char (literal.Bool b) f h k = tt
on_char (literal.Char c) f h k = k c h
on_char (literal.Set n) f h k = tt
on_char (literal.Str text) f h k = tt
on_char literal.Nil f h k = tt

on_truth : (v : Value) (f : Bool → Option Value) → ((b : Bool) → Gives (f b)) → Gives (and_so (truth_in v) f)
on_truth (literal.Int z) f k = tt
on_truth (literal.Bool b) f k = k b
on_truth (literal.Char c) f k = tt
on_truth (literal.Set n) f k = tt
on_truth (literal.Str text) f k = tt
on_truth literal.Nil f k = tt

-- SETS

below_all : (n : ℕ) → n < 2 ^ 32 → all_elements - n < 2 ^ 32
below_all n h = omega (arith, h)

elements_small : (i j : ℕ) → i < 32 → j < 32 → 2 ^ suc j - 2 ^ i < 2 ^ 32
elements_small i j lo hi = let p = pow-le-pow_right {n = 2} (omega arith) {i = suc j} {j = 32} (omega (arith, hi)) in let q = pow_pos i in omega (arith, p, q)

element_small : (z : ℤ) → IfThere (λ i. i < 32) (element_in z)
element_small (pos n) = go (nat_lt n 32) refl
  where
    go : (b : Bool) → nat_lt n 32 ≡ b → IfThere (λ i. i < 32) (if b then Some n else None)
    go true e = grind (arith, nat_tests)
    go false e = tt
element_small (negsuc n) = tt

of_element : (o : Option ℕ) → IfThere (λ i. i < 32) o → Gives (of_nat (λ i. elements i i) o)
of_element None h = tt
of_element (Some i) h = elements_small i i h h

of_elements : (o p : Option ℕ) → IfThere (λ i. i < 32) o → IfThere (λ i. i < 32) p → Gives (of_nats elements o p)
of_elements None p h k = tt
of_elements (Some i) None h k = tt
of_elements (Some i) (Some j) h k = elements_small i j h k

of_bit : (s : ℕ) (o : Option ℕ) → Gives (of_nat (λ i. literal.Bool (has_bit s i)) o)
of_bit s None = tt
of_bit s (Some i) = tt

-- CHARACTERS

capital_small : (c : ℕ) → c < 256 → capital c < 256
capital_small c h = go (nat_le 97 c && nat_le c 122)
  where
    go : (b : Bool) → (if b then c - 32 else c) < 256
    go true = omega (arith, h)
    go false = h

when_byte : (n : ℕ) (b : Bool) → nat_lt n 256 ≡ b → Gives (when b (literal.Char n))
when_byte n true e = grind (arith, nat_tests)
when_byte n false e = tt

byte_is : (z : ℤ) → Gives (byte_of z)
byte_is (pos n) = when_byte n (nat_lt n 256) refl
byte_is (negsuc n) = tt

code_is : (c : ℕ) → c < 256 → IsLong (pos c)
code_is c h = grind (arith, nat_tests)

-- SHIFTS

bounded_is : (x n : ℤ) (b : Bool) → IsLong x → Gives (bounded_shift x n b)
bounded_is x n true h = long_is (shifted x n)
bounded_is x n false h = when_integer (int_eq x (pos 0)) x (λ e. h)

down_is : (x : ℤ) (n : ℕ) (b : Bool) → Gives (shift_down x n b)
down_is x n true = long_is (shifted x (negsuc n))
down_is x n false = long_is (shifted x (negsuc 40))

ash_is : (x n : ℤ) → IsLong x → Gives (ash x n)
ash_is x (pos n) h = bounded_is x (pos n) (nat_le n 31) h
ash_is x (negsuc n) h = down_is x n (nat_le n 40)

divided_is : (b : Bool) (z : ℤ) → Gives (divided b z)
divided_is true z = long_is z
divided_is false z = tt

-- OPERATIONS

pub fold_one_is : (op : Unary) (v : Value) → ConstantIs v → Gives (fold_one op v)
fold_one_is (unary.Negate w) v h = on_integer v (λ z. long (neg_ℤ z)) h (λ z e. long_is (neg_ℤ z))
fold_one_is unary.Not v h = on_truth v (λ b. truth (not b)) (λ b. tt)
fold_one_is unary.Complement v h = on_set v (λ s. Some (literal.Set (all_elements - s))) h below_all
fold_one_is (unary.Abs w) v h = on_integer v (λ z. long (pos (unsigned_abs z))) h (λ z e. long_is (pos (unsigned_abs z)))
fold_one_is unary.Cap v h = on_char v (λ c. Some (literal.Char (capital c))) h capital_small
fold_one_is unary.Chr v h = on_integer v byte_of h (λ z e. byte_is z)
fold_one_is (unary.Long w) v h = on_integer v (λ z. Some (literal.Int z)) h (λ z e. e)
fold_one_is unary.Odd v h = on_integer v (λ z. truth (is_odd z)) h (λ z e. tt)
fold_one_is unary.Ord v h = on_char v (λ c. Some (literal.Int (pos c))) h code_is
fold_one_is (unary.Short w) v h = on_integer v (λ z. integer w z) h (λ z e. when_integer (is_in w z) z (λ f. e))
fold_one_is unary.Element v h = on_integer v (λ z. of_nat (λ i. elements i i) (element_in z)) h (λ z e. of_element (element_in z) (element_small z))

two_integers : (a b : Value) (f : ℤ → ℤ → Option Value) → ConstantIs a → ConstantIs b → ((x y : ℤ) → IsLong x → Gives (f x y)) → Gives (on_integers a b f)
two_integers a b f h k g = on_integer a (λ x. and_so (integer_in b) (f x)) h (λ x e. on_integer b (f x) k (λ y e2. g x y e))

two_sets : (a b : Value) (f : ℕ → ℕ → ℕ) → ConstantIs a → ConstantIs b → ((x y : ℕ) → x < 2 ^ 32 → y < 2 ^ 32 → f x y < 2 ^ 32) → Gives (on_sets a b f)
two_sets a b f h k g = on_set a (λ x. and_so (set_in b) (λ y. Some (literal.Set (f x y)))) h (λ x e. on_set b (λ y. Some (literal.Set (f x y))) k (λ y e2. g x y e e2))

and_small : (x y : ℕ) → x < 2 ^ 32 → bit_and x y < 2 ^ 32
and_small x y h = let l = and_le_l x y in omega (arith, h, l)

related_is : (r : Comparison) (a b : Value) → Gives (related r a b)
related_is r (literal.Int x) (literal.Int y) = tt
related_is r (literal.Char x) (literal.Char y) = tt
related_is r (literal.Bool x) (literal.Bool y) = tt
related_is r (literal.Set x) (literal.Set y) = tt
related_is r a b = tt

pub fold_two_is : (op : Binary) (a b : Value) → ConstantIs a → ConstantIs b → Gives (fold_two op a b)
fold_two_is (binary.Add w) a b h k = two_integers a b (λ x y. long (x +ℤ y)) h k (λ x y e. long_is (x +ℤ y))
fold_two_is (binary.Subtract w) a b h k = two_integers a b (λ x y. long (x -ℤ y)) h k (λ x y e. long_is (x -ℤ y))
fold_two_is (binary.Multiply w) a b h k = two_integers a b (λ x y. long (x *ℤ y)) h k (λ x y e. long_is (x *ℤ y))
fold_two_is (binary.Quotient w) a b h k = two_integers a b (λ x y. divided (is_positive y) (quotient x (unsigned_abs y))) h k (λ x y e. divided_is (is_positive y) (quotient x (unsigned_abs y)))
fold_two_is (binary.Remainder w) a b h k = two_integers a b (λ x y. divided (is_positive y) (remainder x (unsigned_abs y))) h k (λ x y e. divided_is (is_positive y) (remainder x (unsigned_abs y)))
fold_two_is binary.Union a b h k = two_sets a b bit_or h k (λ x y. or_lt 32 x y)
fold_two_is binary.Difference a b h k = two_sets a b (λ x y. bit_and x (all_elements - y)) h k (λ x y e f. and_small x (all_elements - y) e)
fold_two_is binary.Intersection a b h k = two_sets a b bit_and h k (λ x y e f. and_small x y e)
fold_two_is binary.SymmetricDifference a b h k = two_sets a b bit_xor h k (λ x y. xor_lt 32 x y)
fold_two_is binary.Range a b h k = two_integers a b (λ x y. of_nats elements (element_in x) (element_in y)) h k (λ x y e. of_elements (element_in x) (element_in y) (element_small x) (element_small y))
fold_two_is binary.In a b h k = on_integer a (λ x. and_so (set_in b) (λ s. of_nat (λ i. literal.Bool (has_bit s i)) (element_in x))) h (λ x e. on_set b (λ s. of_nat (λ i. literal.Bool (has_bit s i)) (element_in x)) k (λ s f. of_bit s (element_in x)))
fold_two_is binary.Ash a b h k = two_integers a b ash h k (λ x y e. ash_is x y e)
fold_two_is (binary.Compare r c) a b h k = related_is r a b

texts_is : (r : Comparison) (a b : Option (List ℕ)) → Gives (texts_related r a b)
texts_is r None b = tt
texts_is r (Some a) None = tt
texts_is r (Some a) (Some b) = tt

pub fold_texts_is : (r : Comparison) (a b : Value) → Gives (fold_texts r a b)
fold_texts_is r a b = texts_is r (characters a) (characters b)

truths_is : (a b : Value) (f : Bool → Bool → Bool) → Gives (on_truths a b f)
truths_is a b f = on_truth a (λ x. and_so (truth_in b) (λ y. truth (f x y))) (λ x. on_truth b (λ y. truth (f x y)) (λ y. tt))

pub fold_logical_is : (op : Connective) (a b : Value) → Gives (fold_logical op a b)
fold_logical_is connective.And a b = truths_is a b (λ x y. x && y)
fold_logical_is connective.Or a b = truths_is a b (λ x y. x || y)
