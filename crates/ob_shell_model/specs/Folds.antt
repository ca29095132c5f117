-- What the lines of a script print, and what they leave: once for every kind of world.
use Rattle.std.specs.Prelude.{ℕ, ◌+◌, List, [], ◌∷◌, ◌++◌, Bool, false, ◌||◌, if◌then◌else◌, length}
use Rattle.ob_shell_lines.specs.Lines.{Line, lines_of, exceeds, done_lines, line_of}

-- A part of what a line does: changes of files, and what is printed behind them.
pub record Part (C : Type 0) : Type 0 where
  pub changes : List C
  pub text : List ℕ

-- What a line comes to: the world after it, its parts in order, and whether the line was refused, unknown or stopped. Most lines have one
-- part; a demo has two, its first printed line and the text of its run; a `make` has one for each compile and one at its end.
pub record Answer (W C : Type 0) : Type 0 where
  pub world : W
  pub parts : List (Part C)
  pub refused : Bool

-- one part
abbrev pub part : {C : Type 0} → List C → List ℕ → List (Part C)
part changes text = record { changes = changes; text = text } ∷ []

-- what parts print
abbrev pub printed_by : {C : Type 0} → List (Part C) → List ℕ
printed_by [] = []
printed_by (p ∷ ps) = p.text ++ printed_by ps

-- the changes that they make
abbrev pub made_by : {C : Type 0} → List (Part C) → List C
made_by [] = []
made_by (p ∷ ps) = p.changes ++ made_by ps

-- the answer to the line with this number, in a world
abbrev pub Answers : Type 0 → Type 0 → Type 0
Answers W C = W → ℕ → Line → Answer W C

-- the text of these lines, the first of which has the number n
unfoldable pub text_from : {W C : Type 0} → Answers W C → W → ℕ → List (List ℕ) → List ℕ
text_from answer w n [] = []
text_from answer w n (l ∷ ls) = printed_by (answer w n (line_of l)).parts ++ text_from answer (answer w n (line_of l)).world (n + 1) ls

-- whether one of them was refused, unknown or stopped, or one before was
unfoldable pub refused_from : {W C : Type 0} → Answers W C → W → ℕ → List (List ℕ) → Bool → Bool
refused_from answer w n [] before = before
refused_from answer w n (l ∷ ls) before = refused_from answer (answer w n (line_of l)).world (n + 1) ls (before || (answer w n (line_of l)).refused)

-- the world after these lines
unfoldable pub world_from : {W C : Type 0} → Answers W C → W → ℕ → List (List ℕ) → W
world_from answer w n [] = w
world_from answer w n (l ∷ ls) = world_from answer (answer w n (line_of l)).world (n + 1) ls

-- the changes that these lines make
unfoldable pub changes_from : {W C : Type 0} → Answers W C → W → ℕ → List (List ℕ) → List C
changes_from answer w n [] = []
changes_from answer w n (l ∷ ls) = made_by (answer w n (line_of l)).parts ++ changes_from answer (answer w n (line_of l)).world (n + 1) ls

-- A SESSION: its text, its status, and its changes

abbrev pub session_text : {W C : Type 0} → Answers W C → W → List ℕ → List ℕ
session_text answer w script = text_from answer w 1 (done_lines script)

abbrev pub session_status : {W C : Type 0} → Answers W C → W → List ℕ → ℕ
session_status answer w script = if exceeds (length script) 0 (lines_of script) then 7 else if refused_from answer w 1 (done_lines script) false then 1 else 0

abbrev pub session_changes : {W C : Type 0} → Answers W C → W → List ℕ → List C
session_changes answer w script = changes_from answer w 1 (done_lines script)
