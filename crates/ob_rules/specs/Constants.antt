-- What constants come to. There is no value where the result leaves LONGINT, or the operation would trap.
use Rattle.std.specs.Prelude.{ℕ, zero, suc, ◌+◌, ◌-◌, ◌^◌, Bool, true, false, not, ◌&&◌, ◌||◌, nat_lt, nat_le, nat_eq, List, [], ◌∷◌, length, ℤ, pos, negsuc, ◌+ℤ◌, ◌-ℤ◌, ◌*ℤ◌, neg_ℤ, int_lt, int_le, unsigned_abs, Option, Some, None, bit_and, bit_or, bit_xor}
use Rattle.std.specs.Ordering.{int_eq}
use Rattle.ob_types.specs.declared.value.Value.{Value}
use Rattle.ob_types.specs.declared.value.Value.TheVariants as literal
use Rattle.ob_types.specs.declared.typed.Width.{Width}
use Rattle.ob_types.specs.declared.typed.Width.TheVariants as width
use Rattle.ob_types.specs.declared.typed.Comparison.{Comparison}
use Rattle.ob_types.specs.declared.typed.Comparison.TheVariants as comparison
use Rattle.ob_types.specs.declared.typed.Unary.{Unary}
use Rattle.ob_types.specs.declared.typed.Unary.TheVariants as unary
use Rattle.ob_types.specs.declared.typed.Binary.{Binary}
use Rattle.ob_types.specs.declared.typed.Binary.TheVariants as binary
use Rattle.ob_types.specs.declared.typed.Connective.{Connective}
use Rattle.ob_types.specs.declared.typed.Connective.TheVariants as connective
use Rattle.ob_types.specs.Assigning.{characters}
use Rattle.ob_types.specs.Numbers.{is_in, is_positive, quotient, remainder, shifted, is_odd, capital, has_bit, element_in, holds, text_equal, text_less}

abbrev pub when : {A : Type 0} → Bool → A → Option A
when true x = Some x
when false x = None

-- a string of one character is that character
abbrev pub text_value : List ℕ → Value
text_value (c ∷ []) = literal.Char c
text_value text = literal.Str text

-- an integer within a type
abbrev pub integer : Width → ℤ → Option Value
integer w z = when (is_in w z) (literal.Int z)

abbrev pub long : ℤ → Option Value
long z = integer width.LongInt z

abbrev pub bounded_shift : ℤ → ℤ → Bool → Option Value
bounded_shift x n true = long (shifted x n)
bounded_shift x n false = when (int_eq x (pos 0)) (literal.Int x)

abbrev pub shift_down : ℤ → ℕ → Bool → Option Value
shift_down x n true = long (shifted x (negsuc n))
shift_down x n false = long (shifted x (negsuc 40))

-- x times 2 to the n: beyond 31 places it leaves LONGINT, but for 0, and far downwards all that is left is its sign
abbrev pub ash : ℤ → ℤ → Option Value
ash x (pos n) = bounded_shift x (pos n) (nat_le n 31)
ash x (negsuc n) = shift_down x n (nat_le n 40)

abbrev pub of_nat : (ℕ → Value) → Option ℕ → Option Value
of_nat f None = None
of_nat f (Some n) = Some (f n)

abbrev pub of_nats : (ℕ → ℕ → Value) → Option ℕ → Option ℕ → Option Value
of_nats f None b = None
of_nats f (Some a) None = None
of_nats f (Some a) (Some b) = Some (f a b)

abbrev pub all_elements : ℕ
all_elements = 2 ^ 32 - 1

-- the elements from i to j
abbrev pub elements : ℕ → ℕ → Value
elements i j = literal.Set (2 ^ suc j - 2 ^ i)

abbrev pub byte_of : ℤ → Option Value
byte_of (pos n) = when (nat_lt n 256) (literal.Char n)
byte_of (negsuc n) = None

abbrev pub and_so : {A B : Type 0} → Option A → (A → Option B) → Option B
and_so None f = None
and_so (Some v) f = f v

abbrev pub integer_in : Value → Option ℤ
integer_in (literal.Int z) = Some z
integer_in v = None

abbrev pub set_in : Value → Option ℕ
set_in (literal.Set s) = Some s
set_in v = None

abbrev pub char_in : Value → Option ℕ
char_in (literal.Char c) = Some c
char_in v = None

abbrev pub truth_in : Value → Option Bool
truth_in (literal.Bool b) = Some b
truth_in v = None

abbrev pub truth : Bool → Option Value
truth b = Some (literal.Bool b)

abbrev pub fold_one : Unary → Value → Option Value
fold_one (unary.Negate w) v = and_so (integer_in v) (λ z. long (neg_ℤ z))
fold_one unary.Not v = and_so (truth_in v) (λ b. truth (not b))
fold_one unary.Complement v = and_so (set_in v) (λ s. Some (literal.Set (all_elements - s)))
fold_one (unary.Abs w) v = and_so (integer_in v) (λ z. long (pos (unsigned_abs z)))
fold_one unary.Cap v = and_so (char_in v) (λ c. Some (literal.Char (capital c)))
fold_one unary.Chr v = and_so (integer_in v) byte_of
fold_one (unary.Long w) v = and_so (integer_in v) (λ z. Some (literal.Int z))
fold_one unary.Odd v = and_so (integer_in v) (λ z. truth (is_odd z))
fold_one unary.Ord v = and_so (char_in v) (λ c. Some (literal.Int (pos c)))
fold_one (unary.Short w) v = and_so (integer_in v) (λ z. integer w z)
fold_one unary.Element v = and_so (integer_in v) (λ z. of_nat (λ i. elements i i) (element_in z))

abbrev pub divided : Bool → ℤ → Option Value
divided true z = long z
divided false z = None

-- the characters up to the first 0X
abbrev pub up_to_end : List ℕ → List ℕ
up_to_end [] = []
up_to_end (zero ∷ cs) = []
up_to_end (suc c ∷ cs) = suc c ∷ up_to_end cs

abbrev pub same_truth : Bool → Bool → Bool
same_truth true b = b
same_truth false b = not b

abbrev pub related : Comparison → Value → Value → Option Value
related r (literal.Int a) (literal.Int b) = truth (holds r (int_eq a b) (int_lt a b))
related r (literal.Char a) (literal.Char b) = truth (holds r (nat_eq a b) (nat_lt a b))
related r (literal.Bool a) (literal.Bool b) = truth (holds r (same_truth a b) false)
related r (literal.Set a) (literal.Set b) = truth (holds r (nat_eq a b) false)
related r a b = None

abbrev pub on_integers : Value → Value → (ℤ → ℤ → Option Value) → Option Value
on_integers a b f = and_so (integer_in a) (λ x. and_so (integer_in b) (f x))

abbrev pub on_sets : Value → Value → (ℕ → ℕ → ℕ) → Option Value
on_sets a b f = and_so (set_in a) (λ x. and_so (set_in b) (λ y. Some (literal.Set (f x y))))

abbrev pub fold_two : Binary → Value → Value → Option Value
fold_two (binary.Add w) a b = on_integers a b (λ x y. long (x +ℤ y))
fold_two (binary.Subtract w) a b = on_integers a b (λ x y. long (x -ℤ y))
fold_two (binary.Multiply w) a b = on_integers a b (λ x y. long (x *ℤ y))
fold_two (binary.Quotient w) a b = on_integers a b (λ x y. divided (is_positive y) (quotient x (unsigned_abs y)))
fold_two (binary.Remainder w) a b = on_integers a b (λ x y. divided (is_positive y) (remainder x (unsigned_abs y)))
fold_two binary.Union a b = on_sets a b bit_or
fold_two binary.Difference a b = on_sets a b (λ x y. bit_and x (all_elements - y))
fold_two binary.Intersection a b = on_sets a b bit_and
fold_two binary.SymmetricDifference a b = on_sets a b bit_xor
fold_two binary.Range a b = on_integers a b (λ x y. of_nats elements (element_in x) (element_in y))
fold_two binary.In a b = and_so (integer_in a) (λ x. and_so (set_in b) (λ s. of_nat (λ i. literal.Bool (has_bit s i)) (element_in x)))
fold_two binary.Ash a b = on_integers a b ash
fold_two (binary.Compare r c) a b = related r a b

abbrev pub texts_related : Comparison → Option (List ℕ) → Option (List ℕ) → Option Value
texts_related r None b = None
texts_related r (Some a) None = None
texts_related r (Some a) (Some b) = truth (holds r (text_equal (up_to_end a) (up_to_end b)) (text_less (up_to_end a) (up_to_end b)))

-- strings, and characters as strings of one
abbrev pub fold_texts : Comparison → Value → Value → Option Value
fold_texts r a b = texts_related r (characters a) (characters b)

abbrev pub on_truths : Value → Value → (Bool → Bool → Bool) → Option Value
on_truths a b f = and_so (truth_in a) (λ x. and_so (truth_in b) (λ y. truth (f x y)))

abbrev pub fold_logical : Connective → Value → Value → Option Value
fold_logical connective.And a b = on_truths a b (λ x y. x && y)
fold_logical connective.Or a b = on_truths a b (λ x y. x || y)
