-- What operators and predeclared functions compute.
use Rattle.std.specs.Prelude.{ℕ, zero, suc, ◌-◌, min, List, [], ◌∷◌, ◌++◌, length, replicate, ℤ, pos, negsuc, ◌+ℤ◌, ◌-ℤ◌, ◌*ℤ◌, neg_ℤ, unsigned_abs, int_lt, nat_lt, nat_le, nat_eq, Option, Some, None, Bool, true, false, not, ◌&&◌, ◌||◌, if◌then◌else◌}
use Rattle.std.specs.Ordering.{int_eq}
use Rattle.std.specs.Fmt.{signed_decimal}
use Rattle.ob_trap.specs.declared.trap.Trap.{Trap}
use Rattle.ob_types.specs.declared.value.Value.{Value as Literal}
use Rattle.ob_types.specs.declared.value.Value.TheVariants as literal
use Rattle.ob_types.specs.Numbers.{is_in, is_positive, quotient, remainder, shifted, is_odd, capital, element_in, has_bit, holds}
use Rattle.ob_types.specs.declared.typed.Width.{Width}
use Rattle.ob_types.specs.declared.typed.Width.TheVariants as width
use Rattle.ob_types.specs.declared.typed.Comparison.{Comparison}
use Rattle.ob_types.specs.declared.typed.Comparison.TheVariants as comparison
use Rattle.ob_types.specs.declared.typed.Compared.{Compared}
use Rattle.ob_types.specs.declared.typed.Compared.TheVariants as compared
use Rattle.ob_types.specs.declared.typed.Unary.{Unary}
use Rattle.ob_types.specs.declared.typed.Unary.TheVariants as unary
use Rattle.ob_types.specs.declared.typed.Binary.{Binary}
use Rattle.ob_types.specs.declared.typed.Binary.TheVariants as binary
use Rattle.ob_types.specs.declared.typed.Update.{Update}
use Rattle.ob_types.specs.declared.typed.Update.TheVariants as update
use Rattle.ob_meaning.specs.Values.{Value, Truth, Character, Integer, SetOf, Nil, Object, ProcedureAt, Elements, truth_of, character_of, integer_of, set_of, same_name}
use Rattle.ob_trap.specs.declared.trap.Trap.TheVariants as traps

-- a value, or a trap
pub data Computed : Type 0 where
  Is : (v : Value) → Computed
  Traps : (kind : Trap) → Computed

abbrev pub unless : Bool → Trap → Value → Computed
unless true kind v = Is v
unless false kind v = Traps kind

-- INTEGERS

-- a result outside its type traps
abbrev pub integer_in : Width → ℤ → Computed
integer_in w z = unless (is_in w z) traps.Overflow (Integer z)

-- SETS

abbrev pub with_element_in : Option ℕ → (ℕ → Value) → Computed
with_element_in None v = Traps traps.NoElement
with_element_in (Some i) v = Is (v i)

abbrev pub with_elements_in : Option ℕ → Option ℕ → (ℕ → ℕ → Value) → Computed
with_elements_in None j v = Traps traps.NoElement
with_elements_in (Some i) None v = Traps traps.NoElement
with_elements_in (Some i) (Some j) v = Is (v i j)

-- the first n of the numbers are in both sets or in neither
abbrev pub agree_below : ℕ → (ℕ → Bool) → (ℕ → Bool) → Bool
agree_below zero f g = true
agree_below (suc n) f g = (if f n then g n else not (g n)) && agree_below n f g

-- RELATIONS

-- NIL is equal to NIL alone, an object to itself, and a procedure to itself
abbrev pub is_same : Value → Value → Bool
is_same Nil Nil = true
is_same (Object m) (Object n) = nat_eq m n
is_same (ProcedureAt p) (ProcedureAt q) = same_name p q
is_same a b = false

abbrev pub relate : Compared → Comparison → Value → Value → Bool
relate compared.Integer r a b = holds r (int_eq (integer_of a) (integer_of b)) (int_lt (integer_of a) (integer_of b))
relate compared.Char r a b = holds r (nat_eq (character_of a) (character_of b)) (nat_lt (character_of a) (character_of b))
relate compared.Boolean r a b = holds r (if truth_of a then truth_of b else not (truth_of b)) false
relate compared.Set r a b = holds r (agree_below 32 (set_of a) (set_of b)) false
relate compared.Pointer r a b = holds r (is_same a b) false
relate compared.Procedure r a b = holds r (is_same a b) false

-- OPERATIONS ON ONE VALUE

abbrev pub compute : Unary → Value → Computed
compute (unary.Negate w) v = integer_in w (neg_ℤ (integer_of v))
compute unary.Not v = Is (Truth (not (truth_of v)))
compute unary.Complement v = Is (SetOf (λ i. nat_lt i 32 && not (set_of v i)))
compute (unary.Abs w) v = integer_in w (pos (unsigned_abs (integer_of v)))
compute unary.Cap v = Is (Character (capital (character_of v)))
compute unary.Chr v = unless (is_positive (integer_of v +ℤ pos 1) && int_lt (integer_of v) (pos 256)) traps.Overflow (Character (unsigned_abs (integer_of v)))
compute (unary.Long w) v = Is v
compute unary.Odd v = Is (Truth (is_odd (integer_of v)))
compute unary.Ord v = Is (Integer (pos (character_of v)))
compute (unary.Short w) v = integer_in w (integer_of v)
compute unary.Element v = with_element_in (element_in (integer_of v)) (λ i. SetOf (λ k. nat_eq k i))

-- OPERATIONS ON TWO VALUES

abbrev pub compute_both : Binary → Value → Value → Computed
compute_both (binary.Add w) a b = integer_in w (integer_of a +ℤ integer_of b)
compute_both (binary.Subtract w) a b = integer_in w (integer_of a -ℤ integer_of b)
compute_both (binary.Multiply w) a b = integer_in w (integer_of a *ℤ integer_of b)
compute_both (binary.Quotient w) a b = unless (is_positive (integer_of b)) traps.NoDivisor (Integer (quotient (integer_of a) (unsigned_abs (integer_of b))))
compute_both (binary.Remainder w) a b = unless (is_positive (integer_of b)) traps.NoDivisor (Integer (remainder (integer_of a) (unsigned_abs (integer_of b))))
compute_both binary.Union a b = Is (SetOf (λ i. set_of a i || set_of b i))
compute_both binary.Difference a b = Is (SetOf (λ i. set_of a i && not (set_of b i)))
compute_both binary.Intersection a b = Is (SetOf (λ i. set_of a i && set_of b i))
compute_both binary.SymmetricDifference a b = Is (SetOf (λ i. if set_of a i then not (set_of b i) else set_of b i))
compute_both binary.Range a b = with_elements_in (element_in (integer_of a)) (element_in (integer_of b)) (λ i j. SetOf (λ k. nat_le i k && nat_le k j))
compute_both binary.In a b = with_element_in (element_in (integer_of a)) (λ i. Truth (set_of b i))
compute_both binary.Ash a b = integer_in width.LongInt (shifted (integer_of a) (integer_of b))
compute_both (binary.Compare r c) a b = Is (Truth (relate c r a b))

-- INC, DEC, INCL AND EXCL

abbrev pub updated : Update → Value → Value → Computed
updated (update.Inc w) v n = integer_in w (integer_of v +ℤ integer_of n)
updated (update.Dec w) v n = integer_in w (integer_of v -ℤ integer_of n)
updated update.Incl v n = with_element_in (element_in (integer_of n)) (λ i. SetOf (λ k. nat_eq k i || set_of v k))
updated update.Excl v n = with_element_in (element_in (integer_of n)) (λ i. SetOf (λ k. not (nat_eq k i) && set_of v k))

-- CONSTANTS

abbrev pub constant_value : Literal → Value
constant_value (literal.Bool b) = Truth b
constant_value (literal.Char c) = Character c
constant_value (literal.Int z) = Integer z
constant_value (literal.Set n) = SetOf (λ i. nat_lt i 32 && has_bit n i)
constant_value (literal.Str text) = Nil
constant_value literal.Nil = Nil

-- TEXTS

-- the characters up to the first 0X; none where there is no 0X
abbrev pub before_all : ℕ → Option (List ℕ) → Option (List ℕ)
before_all c None = None
before_all c (Some text) = Some (c ∷ text)

abbrev pub up_to_end : List ℕ → Option (List ℕ)
up_to_end [] = None
up_to_end (c ∷ cs) = if nat_eq c 0 then Some [] else before_all c (up_to_end cs)

-- the first n elements of an array, as characters
abbrev pub characters : ℕ → (ℕ → Value) → List ℕ
characters zero element = []
characters (suc n) element = character_of (element 0) ∷ characters n (λ i. element (suc i))

-- the i-th character of a string, and 0X behind its end
abbrev pub character_at : List ℕ → ℕ → ℕ
character_at [] i = 0
character_at (c ∷ cs) zero = c
character_at (c ∷ cs) (suc i) = character_at cs i

-- an array of n characters that holds a string, and 0X behind it
abbrev pub text_value : ℕ → List ℕ → Value
text_value n text = Elements n (λ i. Character (character_at text i))

-- an array with a string and its 0X in its first elements, the others as they were
abbrev pub with_text : List ℕ → ℕ → (ℕ → Value) → Value
with_text text n element = Elements n (λ i. if nat_le i (length text) then Character (character_at text i) else element i)

-- WHAT OUT WRITES

-- the columns that are asked for: none below 0, and at most 255
abbrev pub columns : ℤ → ℕ
columns (pos n) = min n 255
columns (negsuc n) = 0

-- a number in decimal, right in its columns
abbrev pub padded : ℤ → ℤ → List ℕ
padded z n = replicate (columns n - length (signed_decimal z)) 32 ++ signed_decimal z
