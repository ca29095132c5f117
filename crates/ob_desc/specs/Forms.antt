-- Forms of words: tables, tests, keywords.
use Rattle.std.specs.Prelude.{ℕ, zero, suc, Bool, cond, ◌==◌, List, [], ◌∷◌, ◌++◌, Option, Some, None, bytes_eq}
use Rattle.ob_format.specs.Format.{Format, ◌>>=◌, made_at, skip_at}
use Rattle.ob_format.specs.Words.{front, back, Word}

-- a word of a table
abbrev pub lookup : {K : Type 0} → List (List ℕ × K) → List ℕ → Option K
lookup [] t = None
lookup (e ∷ es) t = cond (bytes_eq t e.0) (Some e.1) (lookup es t)

-- a byte c, and a word to the end of the text
unfoldable pub last_at : {A : Type 0} → ℕ → (List ℕ → Option A) → List ℕ → Option A
last_at c parse [] = None
last_at c parse (b ∷ t) = cond (b == c) (parse t) None

abbrev pub last : {A : Type 0} → ℕ → Word A → Word A
last c w = record { parse = last_at c w.parse; print = λ a. c ∷ w.print a; fits = w.fits }

-- fixed bytes, and a word behind them
unfoldable pub led_at : {A : Type 0} → List ℕ → (List ℕ → Option A) → List ℕ → Option A
led_at before parse t = do
  rest ← skip_at before t
  parse rest

abbrev pub led : {A : Type 0} → List ℕ → Word A → Word A
led before w = record { parse = led_at before w.parse; print = λ a. before ++ w.print a; fits = w.fits }

-- the values of a word that pass a test p, which decides P
unfoldable pub kept_at : {A : Type 0} → (List ℕ → Option A) → (A → Bool) → List ℕ → Option A
kept_at parse p t = do
  a ← parse t
  cond (p a) (Some a) None

abbrev pub kept : {A : Type 0} → Word A → (A → Bool) → (A → Type 0) → Word A
kept w p P = record { parse = kept_at w.parse p; print = w.print; fits = λ a. w.fits a × P a }

-- the values of a struct for which P holds, by its parts
abbrev pub made_where : {A B : Type 0} → Format A → (A → B) → (B → A) → (B → Type 0) → Format B
made_where f to from P = record { take = made_at f.take to; spell = λ b. f.spell (from b); fits = λ b. f.fits (from b) × P b }

-- a keyword of a table up to the first c, and from there on what belongs to the keyword
unfoldable pub chosen_at : {K A : Type 0} → ℕ → List (List ℕ × K) → (K → List ℕ → Option A) → List ℕ → Option A
chosen_at c table by t = do
  k ← lookup table (front c t)
  by k (back c t)

-- values for as long as the text begins as one does, and the rest
unfoldable pub run_at : {A : Type 0} → (List ℕ → Bool) → (List ℕ → Option (A × List ℕ)) → ℕ → List ℕ → Option (List A × List ℕ)
run_at here f zero t = cond (here t) None (Some ([], t))
run_at here f (suc n) t = cond (here t) (f t >>= λ a. run_at here f n a.1 >>= λ more. Some (a.0 ∷ more.0, more.1)) (Some ([], t))
