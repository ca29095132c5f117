-- The headline of a session, from what is said of builds.
use Rattle.std.specs.Prelude.{◌≡◌, ℕ, ◌≤◌, List, ◌++◌}
use Rattle.ob_link.specs.Files.{Files}
use Rattle.ob_shell_lines.specs.Lines.{done_lines}
use Rattle.ob_words.specs.declared.asked.Settings.{Settings}
use Rattle.ob_builds.specs.Simulated.{AreSettings}
use Rattle.ob_builds.specs.Promises.{Promises}
use Rattle.ob_shell_model.specs.Folds.{text_from}
use Rattle.ob_shell_model.specs.Bytes as bytes
use Rattle.ob_shell_model.specs.Session as session
use Rattle.ob_shell_model.specs.Session.{Ends}
use Rattle.ob_shell_model.specs.Library.{Library}
use Rattle.ob_shell_model.specs.Model.{start, answer}
use Rattle.ob_shell_model.specs.Headline.{Headline, Stands}

-- with accepted words the status is 0, 1 or 3 to 7
abbrev pub HeadlineHolds : Type 0
HeadlineHolds = Promises →
    (s : Settings) (l : Library) (before now : List ℕ) (old new : Files) (script : List ℕ) (status : ℕ) → AreSettings s → Stands s old l script →
    (status ≡ 2 → ⊥) → status ≤ 7 →
    Ends (session.bytes s old) before now old new script status → Headline s before now old new l script status

-- the texts of the first lines, and of no others
abbrev pub LinesHold : Type 0
LinesHold = Promises →
    (s : Settings) (l : Library) (old : Files) (script : List ℕ) → AreSettings s → Stands s old l script →
    (past rest : List (List ℕ)) → done_lines script ≡ past ++ rest → text_from (bytes.answer s) (bytes.start s old) 1 past ≡ text_from (answer s) (start old l) 1 past
