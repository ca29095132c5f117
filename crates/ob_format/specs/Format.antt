-- A format: how the values of a type are spelled as bytes, and how they are read from the front of bytes.
use Rattle.std.specs.Prelude.{◌≡◌, ℕ, zero, suc, ◌^◌, ◌<◌, Bool, List, [], ◌∷◌, ◌++◌, length, get_or, take, drop, nat_lt, nat_le, ◌≤◌, ◌&&◌, ◌==◌, if◌then◌else◌, Option, Some, None, IfSome, Result, Ok, Err, ℤ, FitsSigned}
use Rattle.std.specs.Int.{Width, w16, w32, byte_len, from_be_bytes, to_be_bytes, cast_signed, cast_unsigned}
use Rattle.std.specs.List.{flat_map, AllByRecursion, IsDistinct}
use Rattle.std.specs.List.Sorted.{IsStrictlySortedBy}
use Rattle.std.specs.Ordering.{is_eq}
use Rattle.std.specs.declared.cmp.Ordering.{Ordering}
use Rattle.ob_format.specs.Order.{rises, differ}
use Rattle.ob_format.specs.declared.fault.Fault.{Fault}
use Rattle.ob_format.specs.declared.fault.Fault.TheVariants as faults

-- spell: the one spelling of a value; fits: which values have one;
-- take: the value at the front of the bytes, and the bytes after it
pub record Format (A : Type 0) : Type 1 where
  pub take : List ℕ → Option (A × List ℕ)
  pub spell : A → List ℕ
  pub fits : A → Type 0

abbrev pub IsBytes : List ℕ → Type 0
IsBytes bytes = (i : ℕ) → get_or bytes i 0 < 256

-- The new bytes are the old ones with the part behind them.
pub record Adds (old new part : List ℕ) : Type 0 where
  pub is : new ≡ old ++ part

-- What is taken was spelled so, and what is spelled is taken again, whatever follows.
pub record IsExact {A : Type 0} (f : Format A) : Type 0 where
  pub found : (bytes : List ℕ) (x : A × List ℕ) → IsBytes bytes → f.take bytes ≡ Some x → (bytes ≡ f.spell x.0 ++ x.1) × f.fits x.0 × IsBytes x.1
  pub again : (x : A) (rest : List ℕ) → f.fits x → f.take (f.spell x ++ rest) ≡ Some (x, rest)

-- What a function returned, seen by view, is what taking gives, unless memory ran out.
abbrev pub Fails : {Y : Type 0} → Fault → Option Y → Type 0
Fails faults.Memory taken = Unit {0}
Fails faults.Damaged taken = taken ≡ None

abbrev pub Gives : {X Y : Type 0} → (X → Y) → Result X Fault → Option Y → Type 0
Gives view (Ok x) taken = taken ≡ Some (view x)
Gives view (Err e) taken = Fails e taken

-- The same for a function that takes no memory.
abbrev pub Finds : {X Y : Type 0} → (X → Y) → Option X → Option Y → Type 0
Finds view (Some x) taken = taken ≡ Some (view x)
Finds view None taken = taken ≡ None

infixl 10 ◌>>=◌
abbrev pub ◌>>=◌ : {A B : Type 0} → Option A → (A → Option B) → Option B
(Some x) >>= f = f x
None >>= f = None

-- a number of the width's bytes, the high one first
abbrev pub number_at : Width → List ℕ → Option (ℕ × List ℕ)
number_at w bytes = if nat_lt (length bytes) (byte_len w) then None else Some (from_be_bytes w (take (byte_len w) bytes), drop (byte_len w) bytes)

abbrev pub number : Width → ℕ → Format ℕ
number w limit = record { take = number_at w; spell = to_be_bytes w; fits = λ n. n < limit }

-- a number of four bytes, and one of two
unfoldable pub word32 : Format ℕ
word32 = number w32 (2 ^ 32)

unfoldable pub word16 : Format ℕ
word16 = number w16 (2 ^ 16)

-- one byte
unfoldable pub byte_at : List ℕ → Option (ℕ × List ℕ)
byte_at [] = None
byte_at (b ∷ rest) = Some (b, rest)

unfoldable pub byte : Format ℕ
byte = record { take = byte_at; spell = λ n. n ∷ []; fits = λ n. n < 256 }

-- n bytes
abbrev pub bytes_at : ℕ → List ℕ → Option (List ℕ × List ℕ)
bytes_at n bytes = if nat_lt (length bytes) n then None else Some (take n bytes, drop n bytes)

-- a length of the width's bytes, and that many bytes
unfoldable pub text_at : Width → List ℕ → Option (List ℕ × List ℕ)
text_at w bytes = do
  n ← number_at w bytes
  bytes_at n.0 n.1

abbrev pub text : Width → ℕ → Format (List ℕ)
text w limit = record { take = text_at w; spell = λ t. to_be_bytes w (length t) ++ t; fits = λ t. length t < limit }

-- n bytes
unfoldable pub fixed_at : ℕ → List ℕ → Option (List ℕ × List ℕ)
fixed_at n bytes = bytes_at n bytes

-- a length of four bytes, and that many bytes
unfoldable pub text32 : Format (List ℕ)
text32 = text w32 (2 ^ 32)

-- a length of two bytes, and that many bytes
unfoldable pub text16 : Format (List ℕ)
text16 = text w16 (2 ^ 16)

abbrev pub fixed : ℕ → Format (List ℕ)
fixed n = record { take = fixed_at n; spell = λ t. t; fits = λ t. length t ≡ n }

-- two values, one after the other
unfoldable pub pair_at : {A B : Type 0} → (List ℕ → Option (A × List ℕ)) → (List ℕ → Option (B × List ℕ)) → List ℕ → Option ((A × B) × List ℕ)
pair_at f g bytes = do
  a ← f bytes
  b ← g a.1
  Some ((a.0, b.0), b.1)

infixr 12 ◌⊗◌
abbrev pub ◌⊗◌ : {A B : Type 0} → Format A → Format B → Format (A × B)
f ⊗ g = record { take = pair_at f.take g.take; spell = λ p. f.spell p.0 ++ g.spell p.1; fits = λ p. f.fits p.0 × g.fits p.1 }

-- the values that a function reads from those of a format, as a number from a byte, or a description from a text
unfoldable pub parsed_at : {A B : Type 0} → (List ℕ → Option (A × List ℕ)) → (A → Option B) → List ℕ → Option (B × List ℕ)
parsed_at f parse bytes = do
  a ← f bytes
  b ← parse a.0
  Some (b, a.1)

abbrev pub parsed : {A B : Type 0} → Format A → (A → Option B) → (B → A) → (B → Type 0) → Format B
parsed f parse print fits = record { take = parsed_at f.take parse; spell = λ b. f.spell (print b); fits = fits }

-- parse and print are each other's inverse, between the values of f that it accepts and those that fit
pub record IsParsed {A B : Type 0} (f : Format A) (parse : A → Option B) (print : B → A) (fits : B → Type 0) : Type 0 where
  pub found : (a : A) (b : B) → f.fits a → IsBytes (f.spell a) → parse a ≡ Some b → (print b ≡ a) × fits b
  pub again : (b : B) → fits b → f.fits (print b) × (parse (print b) ≡ Some b)

-- a signed number of four bytes
unfoldable pub int : Format ℤ
int = parsed (number w32 (2 ^ 32)) (λ n. Some (cast_signed w32 n)) (cast_unsigned w32) (FitsSigned w32)

-- the same bytes for another type of values, as the fields of a struct
unfoldable pub made_at : {A B : Type 0} → (List ℕ → Option (A × List ℕ)) → (A → B) → List ℕ → Option (B × List ℕ)
made_at f to bytes = do
  a ← f bytes
  Some (to a.0, a.1)

abbrev pub made : {A B : Type 0} → Format A → (A → B) → (B → A) → Format B
made f to from = record { take = made_at f.take to; spell = λ b. f.spell (from b); fits = λ b. f.fits (from b) }

-- the values of a format that pass a test p, which decides P
unfoldable pub such_that_at : {A : Type 0} → (List ℕ → Option (A × List ℕ)) → (A → Bool) → List ℕ → Option (A × List ℕ)
such_that_at f p bytes = do
  x ← f bytes
  if p x.0 then Some x else None

abbrev pub such_that : {A : Type 0} → Format A → (A → Bool) → (A → Type 0) → Format A
such_that f p P = record { take = such_that_at f.take p; spell = f.spell; fits = λ x. f.fits x × P x }

-- fixed bytes, and a value after them
unfoldable pub skip_at : List ℕ → List ℕ → Option (List ℕ)
skip_at [] bytes = Some bytes
skip_at (c ∷ cs) [] = None
skip_at (c ∷ cs) (b ∷ bytes) = if c == b then skip_at cs bytes else None

unfoldable pub lead_at : {A : Type 0} → List ℕ → (List ℕ → Option (A × List ℕ)) → List ℕ → Option (A × List ℕ)
lead_at front f bytes = do
  rest ← skip_at front bytes
  f rest

abbrev pub lead : {A : Type 0} → List ℕ → Format A → Format A
lead front f = record { take = lead_at front f.take; spell = λ x. front ++ f.spell x; fits = f.fits }

-- n values, one after the other
unfoldable pub items_at : {A : Type 0} → (List ℕ → Option (A × List ℕ)) → ℕ → List ℕ → Option (List A × List ℕ)
items_at f zero bytes = Some ([], bytes)
items_at f (suc n) bytes = do
  first ← f bytes
  others ← items_at f n first.1
  Some (first.0 ∷ others.0, others.1)

-- a count of four bytes, and that many values
unfoldable pub list_at : {A : Type 0} → (List ℕ → Option (A × List ℕ)) → List ℕ → Option (List A × List ℕ)
list_at f bytes = do
  n ← number_at w32 bytes
  items_at f n.0 n.1

unfoldable pub list_of : {A : Type 0} → Format A → Format (List A)
list_of f = record { take = list_at f.take; spell = λ xs. to_be_bytes w32 (length xs) ++ flat_map f.spell xs; fits = λ xs. (length xs < 2 ^ 32) × AllByRecursion f.fits xs }

-- a list whose items rise
abbrev pub rising : {A : Type 0} → Format A → (A → A → Ordering) → Format (List A)
rising f R = such_that (list_of f) (rises R) (IsStrictlySortedBy R)

-- a list of at most n items, no two of them the same
abbrev pub few : {A : Type 0} → ℕ → Format A → (A → A → Ordering) → Format (List A)
few n f R = such_that (list_of f) (λ xs. nat_le (length xs) n && differ R xs) (λ xs. (length xs ≤ n) × IsDistinct (λ x y. is_eq (R x y)) xs)

-- a byte 0, or a byte 1 and a value
unfoldable pub optional_at : {A : Type 0} → (List ℕ → Option (A × List ℕ)) → List ℕ → Option (Option A × List ℕ)
optional_at f [] = None
optional_at f (zero ∷ rest) = Some (None, rest)
optional_at f (suc zero ∷ rest) = do
  x ← f rest
  Some (Some x.0, x.1)
optional_at f (suc (suc b) ∷ rest) = None

abbrev pub optional_bytes : {A : Type 0} → Format A → Option A → List ℕ
optional_bytes f None = 0 ∷ []
optional_bytes f (Some x) = 1 ∷ f.spell x

unfoldable pub optional : {A : Type 0} → Format A → Format (Option A)
optional f = record { take = optional_at f.take; spell = optional_bytes f; fits = λ o. IfSome o f.fits }

-- nothing follows
unfoldable pub whole : {A : Type 0} → Format A → List ℕ → Option A
whole f bytes = do
  x ← f.take bytes
  if nat_lt 0 (length x.1) then None else Some x.0
