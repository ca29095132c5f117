-- How a session ends: whole, or cut short.
use Rattle.std.specs.Prelude.{◌≡◌, ℕ, ◌+◌, ◌-◌, ◌≤◌, List, [], ◌∷◌, ◌++◌, Bool, true, false, ◌||◌, nat_lt, nat_eq, length, take, drop}
use Rattle.ob_io.specs.Io.{SameFiles}
use Rattle.ob_link.specs.Files.{Files}
use Rattle.ob_shell_lines.specs.Lines.{done_lines, line_of}
use Rattle.ob_words.specs.declared.asked.Settings.{Settings}
use Rattle.ob_shell_model.specs.Folds.{Part, Answer, Answers, printed_by, made_by, text_from, changes_from, world_from, session_text, session_status, session_changes}
use Rattle.ob_shell_model.specs.Bytes.{World, Change, answer, start, changed}

-- the statuses of a session that was not cut short
abbrev pub is_whole : ℕ → Bool
is_whole status = nat_lt status 2 || nat_eq status 7

-- A kind of session, seen from outside: its answers, its first world, and what its changes make of files.
pub record Kind (W C : Type 0) : Type 0 where
  pub answer : Answers W C
  pub first : W
  pub make : Files → List C → Files

abbrev pub first_part : {C : Type 0} → List (Part C) → Part C
first_part [] = record { changes = []; text = [] }
first_part (p ∷ ps) = p

-- the answer to the next of some lines; where there is none, nothing is done
abbrev pub next_of : {W C : Type 0} → Answers W C → W → ℕ → List (List ℕ) → Answer W C
next_of answer w n [] = record { world = w; parts = []; refused = false }
next_of answer w n (l ∷ ls) = answer w n (line_of l)

-- the part behind the first so many; where there is none, nothing is done
abbrev pub part_at : {C : Type 0} → ℕ → List (Part C) → Part C
part_at k ps = first_part (drop k ps)

-- the changes of the first so many parts, and of the next one the first so many
abbrev pub changes_up_to : {C : Type 0} → List (Part C) → ℕ → ℕ → List C
changes_up_to ps whole made = made_by (take whole ps) ++ take made (part_at whole ps).changes

-- Of these parts of a line so many were done whole, and of the next one a piece of its text was written and the first so many of its
-- changes were made. Where memory was wanting nothing of that one was done, and at least one was left, if the line has parts; where the
-- folder failed nothing of it was written; where the sink failed all its changes were made; where the script failed nothing of the line
-- was done.
pub record PartsCut {C : Type 0} (ps : List (Part C)) (make : List C → Files) (before now : List ℕ) (new : Files) (status : ℕ) : Type 0 where
  pub whole : ℕ
  pub piece : List ℕ
  pub left : List ℕ
  pub made : ℕ
  pub written : now ≡ before ++ (printed_by (take whole ps) ++ piece)
  pub front : (part_at whole ps).text ≡ piece ++ left
  pub files : SameFiles new (make (changes_up_to ps whole made))
  pub sink : status ≡ 4 → length (part_at whole ps).changes ≤ made
  pub memory : status ≡ 5 → (made ≡ 0) × (piece ≡ []) × (whole ≤ length ps - 1)
  pub folder : status ≡ 6 → piece ≡ []
  pub read : status ≡ 3 → (whole ≡ 0) × (made ≡ 0) × (piece ≡ [])

-- Of the lines that are done these were done whole, and of the next one some of its parts, and of the next of these a piece of its text
-- and the first of its changes. Only a demo and a `make` have more than one part.
pub record IsCut {W C : Type 0} (kind : Kind W C) (before now : List ℕ) (old new : Files) (lines : List (List ℕ)) (status : ℕ) : Type 0 where
  pub past : List (List ℕ)
  pub rest : List (List ℕ)
  pub split : lines ≡ past ++ rest
  pub cut : PartsCut (next_of kind.answer (world_from kind.answer kind.first 1 past) (1 + length past) rest).parts (λ cs. kind.make old (changes_from kind.answer kind.first 1 past ++ cs)) (before ++ text_from kind.answer kind.first 1 past) now new status

-- How a session of a kind ends over this script: whole, or cut short.
pub record Ends {W C : Type 0} (kind : Kind W C) (before now : List ℕ) (old new : Files) (script : List ℕ) (status : ℕ) : Type 0 where
  pub whole : is_whole status ≡ true → (now ≡ before ++ session_text kind.answer kind.first script) × (status ≡ session_status kind.answer kind.first script) × SameFiles new (kind.make old (session_changes kind.answer kind.first script))
  pub cut : 3 ≤ status → status ≤ 6 → IsCut kind before now old new (done_lines script) status

-- the session over bytes, with these settings and over these files
abbrev pub bytes : Settings → Files → Kind World Change
bytes s files = record { answer = answer s; first = start s files; make = changed }
