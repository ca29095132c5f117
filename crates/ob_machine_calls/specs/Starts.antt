-- Where the last operands begin.
use Rattle.std.specs.Prelude.{ℕ, ◌+◌, ◌-◌, ℤ, pos, negsuc, Option, Some, None, nat_le, if◌then◌else◌}

-- how many operands stand below the last ones, so many and some more, where they are there
abbrev pub start_of : ℕ → ℤ → ℕ → Option ℕ
start_of len (pos n) more = if nat_le (more + n) len then Some (len - (more + n)) else None
start_of len (negsuc n) more = None
