-- The words of the session's contract.
use Rattle.std.specs.Prelude.{◌≡◌, ℕ, ◌+◌, ◌≤◌, List, ◌++◌, Bool, false, length}
use Rattle.ob_io.specs.Io.{Rose, SameFiles}
use Rattle.ob_link.specs.Files.{Files}
use Rattle.ob_shell_reports.specs.declared.stop.Stop.{Stop}
use Rattle.ob_shell_reports.specs.declared.stop.Stop.TheVariants.{Sink, Folder, Memory}
use Rattle.ob_shell_model.specs.Folds.{text_from, changes_from, world_from, refused_from}
use Rattle.ob_shell_model.specs.Session.{Kind}

-- which status comes only where a count of faults rose
pub record Causes (script script_now sink sink_now folder folder_now status : ℕ) : Type 0 where
  pub reads : status ≡ 3 → Rose script script_now
  pub writes : status ≡ 4 → Rose sink sink_now
  pub files : status ≡ 6 → Rose folder folder_now
  pub known : status ≤ 7

-- the status of a session that was cut short
abbrev pub StatusIs : Stop → ℕ → Type 0
StatusIs Sink s = s ≡ 4
StatusIs Memory s = s ≡ 5
StatusIs Folder s = s ≡ 6

-- Where a session stands behind some lines: what they have printed and changed, and what is left of the lines that are done.
pub record Going {W C : Type 0} (kind : Kind W C) (before now : List ℕ) (old there : Files) (all : List (List ℕ)) (w : W) (n : ℕ) (rest : List (List ℕ)) (refused : Bool) : Type 0 where
  pub past : List (List ℕ)
  pub split : all ≡ past ++ rest
  pub number : 1 + length past ≡ n
  pub world : world_from kind.answer kind.first 1 past ≡ w
  pub written : now ≡ before ++ text_from kind.answer kind.first 1 past
  pub files : SameFiles there (kind.make old (changes_from kind.answer kind.first 1 past))
  pub verdict : refused_from kind.answer kind.first 1 all false ≡ refused_from kind.answer w n rest refused
