-- Texts in words.
use Rattle.std.specs.Prelude.{◌≡◌, ℕ, suc, ◌+◌, ◌<◌, true, false, List, take, drop, length, ℤ, pos}
use Rattle.std.specs.declared.cmp.Ordering.{Ordering}
use Rattle.std.specs.declared.cmp.Ordering.TheVariants as ordering
use Rattle.ob_instr.specs.Rows.{Missing, Endless, Ends, chars_at, chars_from, chars_lt, chars_eq}
use Rattle.ob_machine_step.specs.declared.texts.Ending.{Ending}
use Rattle.ob_machine_step.specs.declared.texts.Ending.TheVariants as ending

-- so many words behind some
abbrev pub text : List ℤ → ℕ → ℕ → List ℤ
text words start count = take count (drop start words)

-- the ending of a text at an address, with the array's length
abbrev pub TextIs : List ℤ → ℤ → ℤ → Ending → Type 0
TextIs words x n ending.Missing = chars_at words x n ≡ Missing
TextIs words x n ending.Endless = chars_at words x n ≡ Endless
TextIs words x n (ending.After start count) = (x ≡ pos (suc start)) × (start + count < length words) × (chars_at words x n ≡ Ends (text words start count))

-- the same behind so many words
abbrev pub TextIsFrom : List ℤ → ℕ → ℕ → Ending → Type 0
TextIsFrom words start n ending.Missing = chars_from words n (pos (suc start)) ≡ Missing
TextIsFrom words start n ending.Endless = chars_from words n (pos (suc start)) ≡ Endless
TextIsFrom words start n (ending.After first count) = (first ≡ start) × (start + count < length words) × (chars_from words n (pos (suc start)) ≡ Ends (text words start count))

-- how two texts are ordered
abbrev pub IsOrder : List ℤ → List ℤ → Ordering → Type 0
IsOrder s t ordering.Less = (chars_lt s t ≡ true) × (chars_lt t s ≡ false) × (chars_eq s t ≡ false)
IsOrder s t ordering.Equal = (chars_lt s t ≡ false) × (chars_lt t s ≡ false) × (chars_eq s t ≡ true)
IsOrder s t ordering.Greater = (chars_lt s t ≡ false) × (chars_lt t s ≡ true) × (chars_eq s t ≡ false)
