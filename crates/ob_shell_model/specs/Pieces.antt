-- What a session writes that a failed read cut short.
use Rattle.std.specs.Prelude.{◌≡◌, ℕ, List, ◌++◌}
use Rattle.ob_link.specs.Files.{Files}
use Rattle.ob_words.specs.declared.asked.Settings.{Settings}
use Rattle.ob_shell_input.specs.Reading.{ended}
use Rattle.ob_shell_model.specs.Folds.{text_from}
use Rattle.ob_shell_model.specs.Library.{Library}
use Rattle.ob_shell_model.specs.Model.{start, answer}

-- What a session that a failed read cut short has written: the meaning's text of exactly the lines whose byte 10 was taken.
pub record WritesPieces (s : Settings) (before now : List ℕ) (old : Files) (l : Library) (script left : List ℕ) : Type 0 where
  pub got : List ℕ
  pub parts : script ≡ got ++ left
  pub written : now ≡ before ++ text_from (answer s) (start old l) 1 (ended got)
