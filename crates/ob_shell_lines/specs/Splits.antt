-- How the code goes through a line and a script.
use Rattle.std.specs.Prelude.{◌≡◌, ℕ, ◌+◌, ◌≤◌, ◌<◌, List, [], ◌∷◌, ◌++◌, Bool, true, false, length, ◌⊎◌}
use Rattle.ob_shell_lines.specs.Lines.{lines_of, within, exceeds, is_blank}

abbrev pub starts_blank : List ℕ → Bool
starts_blank [] = false
starts_blank (b ∷ bs) = is_blank b

-- The line ends before the bytes behind it, whatever comes behind these.
pub record Ended (bytes line after : List ℕ) : Type 0 where
  pub parts : length line + 1 + length after ≡ length bytes
  pub lines : (more : List ℕ) → lines_of (bytes ++ more) ≡ line ∷ lines_of (after ++ more)

-- The line has not ended: what comes behind it belongs to it.
pub record Open (bytes line after : List ℕ) : Type 0 where
  pub all : line ≡ bytes
  pub none : after ≡ []
  pub last : lines_of bytes ≡ bytes ∷ []
  pub more : (more : List ℕ) → (l : List ℕ) × (ls : List (List ℕ)) × (lines_of (bytes ++ more) ≡ l ∷ ls) × (length bytes ≤ length l)

abbrev pub FirstLine : List ℕ → List ℕ → List ℕ → Type 0
FirstLine bytes line after = Ended bytes line after ⊎ Open bytes line after

-- the lines from here on are those that are done, of which this is the first, or the first of them passes a limit
abbrev pub Stops : ℕ → ℕ → List (List ℕ) → Type 0
Stops whole at lines = (within whole at lines ≡ []) × (exceeds whole at lines ≡ true)

abbrev pub GoesOn : ℕ → ℕ → List (List ℕ) → List ℕ → ℕ → List (List ℕ) → Type 0
GoesOn whole at lines line next others = (within whole at lines ≡ line ∷ within whole next others) × (exceeds whole at lines ≡ exceeds whole next others)

-- Bytes behind a text: there are none, or the text alone passes the limit of a script.
abbrev pub Behind : ℕ → List ℕ → Type 0
Behind total more = (more ≡ []) ⊎ (1048576 < total)
