-- Texts of one line: words, each after a space.
use Rattle.std.specs.Prelude.{◌≡◌, ℕ, zero, suc, ◌+◌, ◌-◌, ◌*◌, ◌^◌, ◌<◌, true, false, cond, ◌==◌, nat_lt, List, [], ◌∷◌, ◌++◌, length, Option, Some, None, decimal, ℤ, pos, negsuc, FitsSigned}
use Rattle.std.specs.Int.{w32}
use Rattle.std.specs.Fmt.{signed_decimal}
use Rattle.std.specs.List.{flat_map, AllByRecursion}
use Rattle.std.specs.Char.{is_ascii_digit}
use Rattle.ob_format.specs.Format.{Format, ◌>>=◌, whole}
use Rattle.ob_format.specs.Names.{is_identifier}

-- the bytes before the first c, and the rest from it on
abbrev pub front : ℕ → List ℕ → List ℕ
front c [] = []
front c (b ∷ bs) = cond (b == c) [] (b ∷ front c bs)

abbrev pub back : ℕ → List ℕ → List ℕ
back c [] = []
back c (b ∷ bs) = cond (b == c) (b ∷ bs) (back c bs)

-- how the values of a type are spelled as a word
pub record Word (A : Type 0) : Type 1 where
  pub parse : List ℕ → Option A
  pub print : A → List ℕ
  pub fits : A → Type 0

pub record IsWord {A : Type 0} (w : Word A) : Type 0 where
  pub found : (t : List ℕ) (a : A) → w.parse t ≡ Some a → (w.print a ≡ t) × w.fits a
  pub again : (a : A) → w.fits a → w.parse (w.print a) ≡ Some a

-- no byte is c
abbrev pub IsFree : ℕ → List ℕ → Type 0
IsFree c t = AllByRecursion (λ b. (b == c) ≡ false) t

-- the word after a byte c, up to the next c
unfoldable pub word_at : ℕ → List ℕ → Option (List ℕ × List ℕ)
word_at c [] = None
word_at c (b ∷ bs) = cond (b == c) (Some (front c bs, back c bs)) None

unfoldable pub after_at : {A : Type 0} → ℕ → (List ℕ → Option A) → List ℕ → Option (A × List ℕ)
after_at c parse bytes = do
  word ← word_at c bytes
  a ← parse word.0
  Some (a, word.1)

abbrev pub after : {A : Type 0} → ℕ → Word A → Format A
after c w = record { take = after_at c w.parse; spell = λ a. c ∷ w.print a; fits = w.fits }

-- no word has the byte c
abbrev pub IsClear : {A : Type 0} → ℕ → Word A → Type 0
IsClear {A} c w = (a : A) → w.fits a → IsFree c (w.print a)

-- nothing, or the next word
abbrev pub IsEnd : ℕ → List ℕ → Type 0
IsEnd c [] = Unit {0}
IsEnd c (b ∷ bs) = b ≡ c

-- What is taken was spelled so, and what is spelled is taken again, where a word ends.
pub record IsText {A : Type 0} (c : ℕ) (f : Format A) : Type 0 where
  pub found : (bytes : List ℕ) (x : A × List ℕ) → f.take bytes ≡ Some x → (bytes ≡ f.spell x.0 ++ x.1) × f.fits x.0
  pub again : (x : A) (rest : List ℕ) → f.fits x → IsEnd c rest → f.take (f.spell x ++ rest) ≡ Some (x, rest)
  pub opens : (x : A) (rest : List ℕ) → f.fits x → IsEnd c (f.spell x ++ rest)

-- values to the end, each of at least one byte
unfoldable pub all_at : {A : Type 0} → (List ℕ → Option (A × List ℕ)) → ℕ → List ℕ → Option (List A)
all_at f n [] = Some []
all_at f zero (b ∷ bs) = None
all_at f (suc n) (b ∷ bs) = do
  a ← f (b ∷ bs)
  more ← all_at f n a.1
  Some (a.0 ∷ more)

abbrev pub all_of : {A : Type 0} → Format A → Word (List A)
all_of f = record { parse = λ t. all_at f.take (length t) t; print = λ xs. flat_map f.spell xs; fits = λ xs. AllByRecursion f.fits xs }

-- a value, and a word that is the rest
unfoldable pub then_at : {A B : Type 0} → (List ℕ → Option (A × List ℕ)) → (List ℕ → Option B) → List ℕ → Option (A × B)
then_at f g bytes = do
  a ← f bytes
  b ← g a.1
  Some (a.0, b)

infixr 12 ◌▹◌
abbrev pub ◌▹◌ : {A B : Type 0} → Format A → Word B → Word (A × B)
f ▹ w = record { parse = then_at f.take w.parse; print = λ p. f.spell p.0 ++ w.print p.1; fits = λ p. f.fits p.0 × w.fits p.1 }

-- ---- numbers

unfoldable pub digits_at : ℕ → List ℕ → Option ℕ
digits_at n [] = Some n
digits_at n (c ∷ cs) = cond (is_ascii_digit c) (cond (nat_lt (n * 10 + (c - 48)) (2 ^ 32)) (digits_at (n * 10 + (c - 48)) cs) None) None

-- decimal, without leading zeros
unfoldable pub numeral_at : List ℕ → Option ℕ
numeral_at [] = None
numeral_at (c ∷ []) = digits_at 0 (c ∷ [])
numeral_at (c ∷ d ∷ ds) = cond (c == 48) None (digits_at 0 (c ∷ d ∷ ds))

abbrev pub numeral : Word ℕ
numeral = record { parse = numeral_at; print = decimal; fits = λ n. n < 2 ^ 32 }

-- ---- names

unfoldable pub identifier_at : List ℕ → Option (List ℕ)
identifier_at t = cond (is_identifier t) (Some t) None

abbrev pub identifier : Word (List ℕ)
identifier = record { parse = identifier_at; print = λ t. t; fits = λ t. is_identifier t ≡ true }

-- a value of a format, and nothing after it
abbrev pub sole : {A : Type 0} → Format A → Word A
sole f = record { parse = whole f; print = f.spell; fits = f.fits }

-- a number with a sign where it is negative
unfoldable pub signed_at : List ℕ → Option ℤ
signed_at [] = None
signed_at (c ∷ t) = cond (c == 45)
    (numeral_at t >>= λ n. cond (nat_lt 0 n) (cond (nat_lt n (2 ^ 31 + 1)) (Some (negsuc (n - 1))) None) None)
    (numeral_at (c ∷ t) >>= λ n. cond (nat_lt n (2 ^ 31)) (Some (pos n)) None)

abbrev pub signed : Word ℤ
signed = record { parse = signed_at; print = signed_decimal; fits = FitsSigned w32 }

-- the same words for another type
unfoldable pub mapped_at : {A B : Type 0} → (List ℕ → Option A) → (A → B) → List ℕ → Option B
mapped_at parse to t = do
  a ← parse t
  Some (to a)

abbrev pub mapped : {A B : Type 0} → Word A → (A → B) → (B → A) → Word B
mapped w to from = record { parse = mapped_at w.parse to; print = λ b. w.print (from b); fits = λ b. w.fits (from b) }
