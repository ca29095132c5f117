-- Words that are all 0.
use Rattle.std.specs.Prelude.{ℕ, List, ℤ, pos, replicate}

-- so many words, which the checker does not write out
unfoldable pub none : ℕ → List ℤ
none n = replicate n (pos 0)
