-- Where the session over bytes stands in a script.
use Rattle.std.specs.Prelude.{◌≡◌, ℕ, ◌+◌, List, ◌++◌, Bool, false, length}
use Rattle.ob_link.specs.Files.{Files}
use Rattle.ob_load.specs.Standing.{Standing}
use Rattle.ob_shell_lines.specs.Lines.{lines_of, within, exceeds, done_lines}
use Rattle.ob_words.specs.declared.asked.Settings.{Settings}
use Rattle.ob_shell_model.specs.Folds.{text_from}
use Rattle.ob_shell_model.specs.Bytes.{World, answer, start}
use Rattle.ob_shell_session.specs.Does.{Shows}
use Rattle.ob_shell_input.specs.Reading.{ended}
use Rattle.ob_shell_model.specs.Session.{bytes}
use Rattle.ob_shell_session.specs.Session.{Going}

-- The session stands behind so many bytes of a script, with these left: behind whole lines that ended, but where it is behind the last.
pub record Goes (s : Settings) (before now : List ℕ) (old there : Files) (script : List ℕ) (system : Standing) (n at : ℕ) (left : List ℕ) (refused last : Bool) : Type 0 where
  pub w : World
  pub shows : Shows system there w
  pub whole : at + length left ≡ length script
  pub going : Going (bytes s old) before now old there (done_lines script) w n (within (length script) at (lines_of left)) refused
  pub limit : exceeds (length script) 0 (lines_of script) ≡ exceeds (length script) at (lines_of left)
  pub got : List ℕ
  pub parts : last ≡ false → script ≡ got ++ left
  pub ended_so : last ≡ false → (more : List ℕ) → ended (got ++ more) ≡ going.past ++ ended more

-- What a session that a failed read cut short has taken of its script, and what it has written: the texts of exactly the lines whose
-- byte 10 was taken.
pub record Pieces (s : Settings) (before now : List ℕ) (old : Files) (script left : List ℕ) : Type 0 where
  pub got : List ℕ
  pub parts : script ≡ got ++ left
  pub written : now ≡ before ++ text_from (answer s) (start s old) 1 (ended got)
  -- these are the first of the lines that are done
  pub after : List (List ℕ)
  pub split : done_lines script ≡ ended got ++ after
