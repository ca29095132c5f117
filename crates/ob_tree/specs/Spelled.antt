-- The bytes of a spelling.
use Rattle.std.specs.Prelude.{ℕ, ◌≡◌, ◌≤◌, List, length, take}
use Rattle.ob_tree.specs.declared.spelling.Held.{Held}
use Rattle.ob_tree.specs.declared.spelling.Held.TheVariants.{Short, Long}

-- few ones stand in front of zeros, more in a list of their own
abbrev pub bytes_of : Held → List ℕ
bytes_of (Short len bytes) = take len bytes
bytes_of (Long bytes) = bytes.value

-- the row of few ones holds 14
abbrev pub IsShort : Held → Type 0
IsShort (Short len bytes) = (len ≤ 14) × (length bytes ≡ 14)
IsShort (Long bytes) = Unit {0}
