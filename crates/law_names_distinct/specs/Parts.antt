-- Names that are made of words with marks between them.
use Rattle.std.specs.Prelude.{◌≡◌, ℕ, Bool, true, false, ◌==◌, ◌||◌, List, [], ◌∷◌, ◌++◌}
use Rattle.std.specs.List.{AllByRecursion}

-- one of / : ^ [ . (
abbrev pub is_mark : ℕ → Bool
is_mark c = (c == 47) || ((c == 58) || ((c == 94) || ((c == 91) || ((c == 46) || (c == 40)))))

-- a word has no marks
abbrev pub IsWord : List ℕ → Type 0
IsWord x = AllByRecursion (λ c. is_mark c ≡ false) x

-- nothing, or what begins with a mark
abbrev pub IsTail : List ℕ → Type 0
IsTail [] = Unit {0}
IsTail (c ∷ cs) = is_mark c ≡ true

-- without the mark of a scope
abbrev pub IsInScope : List ℕ → Type 0
IsInScope x = AllByRecursion (λ c. (c == 47) ≡ false) x

-- the name begins with r, and what is behind it begins with a mark and is of the same scope
pub record IsPart (r n : List ℕ) : Type 0 where
  pub rest : List ℕ
  pub is : n ≡ r ++ rest
  pub tail : IsTail rest
  pub scope : IsInScope rest
