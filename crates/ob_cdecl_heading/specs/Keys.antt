-- What stands for two names at once.
use Rattle.std.specs.Prelude.{ℕ, List, [], ◌∷◌}

-- each byte of the first behind a 1, and behind a 0 the second
abbrev pub key : List ℕ → List ℕ → List ℕ
key [] a = 0 ∷ a
key (c ∷ x) a = 1 ∷ c ∷ key x a
