-- Numbers of operands, of which those above the limit are told no further.
use Rattle.std.specs.Prelude.{ℕ, min}

-- more than an activation may have count as one more than that
abbrev pub capped : ℕ → ℕ
capped n = min n 257
