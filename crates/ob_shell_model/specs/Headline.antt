-- The headline, as clauses of a session over files that some library keeps.
use Rattle.std.specs.Prelude.{◌≡◌, ℕ, ◌+◌, ◌≤◌, List, [], ◌++◌, true, false, length, take, map, Option, Some, Contains, ◌⊎◌}
use Rattle.ob_io.specs.Io.{SameFiles}
use Rattle.ob_link.specs.Plan.{Holds}
use Rattle.ob_link.specs.Files.{Files}
use Rattle.ob_shell_lines.specs.Lines.{Demo, done_lines, line_of}
use Rattle.ob_words.specs.declared.asked.Settings.{Settings}
use Rattle.ob_shell_model.specs.Folds.{world_from, changes_from, session_changes}
use Rattle.ob_shell_model.specs.Session.{Kind, Ends, IsCut, is_whole, next_of, changes_up_to}
use Rattle.ob_builds.specs.Builds.{Text, Build, shows_of, tree_of}
use Rattle.ob_shell_model.specs.Library.{Library, IsLibrary, Kept, Change, ObjectBecomes, after_all}
use Rattle.ob_shell_model.specs.Model.{World, start, answer, written_all, demo_behind}
use Rattle.ob_builds.specs.Apart.{IsTextOfBuild, Apart}
use Rattle.ob_builds.specs.Afresh.{AreTogether, taken_afresh}

-- the session by the meaning
abbrev pub kind : Settings → Files → Library → Kind World Change
kind s files l = record { answer = answer s; first = start files l; make = written_all }

-- WHICH TEXTS ARE TO BE APART

abbrev pub IsIn : Library → Build → Type 0
IsIn l b = (name : List ℕ) × ((l.objects name ≡ Holds b) ⊎ (l.symbols name ≡ Holds b))

-- a build that a line of the script makes
abbrev pub IsMade : Settings → Files → Library → List ℕ → Build → Type 0
IsMade s files l script b = (name : List ℕ) × Contains (session_changes (answer s) (start files l) script) (ObjectBecomes name b)

-- a build of the first so many modules of a demo of these lines
abbrev pub IsOfDemo : List (List ℕ) → Build → Type 0
IsOfDemo lines b = (n k : ℕ) × (l : List ℕ) × (x : ℕ × World) × Contains lines l × (line_of l ≡ Demo n) × (k ≤ n) × (demo_behind n k ≡ Some x) × IsIn x.1.library b

abbrev pub IsText : Settings → Files → Library → List ℕ → Text → Type 0
IsText s files l script t = (b : Build) × (IsIn l b ⊎ IsMade s files l script b ⊎ IsOfDemo (done_lines script) b) × IsTextOfBuild b t

-- THE CLAUSES

-- a library that the files keep, and texts that are apart
pub record Stands (s : Settings) (files : Files) (l : Library) (script : List ℕ) : Type 0 where
  pub library : IsLibrary l
  pub kept : Kept files l
  pub apart : Apart (IsText s files l script)

-- Behind all lines before, the loaded sources taken afresh together are a well formed program, whose interfaces are those of the
-- builds: each is checked by the rules over the interfaces of those before it. No two have one name, and each stands behind all that it
-- imports and has the text of each of its uses among those before it.
pub record IsWellFormed (w : World) : Type 0 where
  pub program : taken_afresh ([], []) (map (λ b. b.source) w.loaded) ≡ Some (map shows_of w.loaded, map tree_of w.loaded)
  pub together : AreTogether [] w.loaded

-- What a session leaves: the library after the first so many of its changes, after all of them where it was not cut short, and else
-- after those of the lines that were done and the very first ones of the line that was cut. The files keep it, and its builds are valid.
pub record KeepsOn (s : Settings) (before now : List ℕ) (old new : Files) (l : Library) (script : List ℕ) (status : ℕ) : Type 0 where
  pub made : ℕ
  pub files : SameFiles new (written_all old (take made (session_changes (answer s) (start old l) script)))
  pub kept : Kept new (after_all l (take made (session_changes (answer s) (start old l) script)))
  pub library : IsLibrary (after_all l (take made (session_changes (answer s) (start old l) script)))
  pub all : is_whole status ≡ true → length (session_changes (answer s) (start old l) script) ≤ made
  pub cut : is_whole status ≡ false → (c : IsCut (kind s old l) before now old new (done_lines script) status) × (take made (session_changes (answer s) (start old l) script) ≡ changes_from (answer s) (start old l) 1 c.past ++ changes_up_to (next_of (answer s) (world_from (answer s) (start old l) 1 c.past) (1 + length c.past) c.rest).parts c.cut.whole c.cut.made)

-- the library that a session leaves
abbrev pub left_by : (s : Settings) (before now : List ℕ) (old new : Files) (l : Library) (script : List ℕ) (status : ℕ) → KeepsOn s before now old new l script status → Library
left_by s before now old new l script status k = after_all l (take k.made (session_changes (answer s) (start old l) script))

-- The bytes written, the status and the files are those of the meaning, and so is every front of them where the session was cut
-- short; a library is left; the program of the loaded builds is well formed at each command.
pub record Headline (s : Settings) (before now : List ℕ) (old new : Files) (l : Library) (script : List ℕ) (status : ℕ) : Type 0 where
  pub ends : Ends (kind s old l) before now old new script status
  pub keeps : KeepsOn s before now old new l script status
  pub afresh : (past rest : List (List ℕ)) → done_lines script ≡ past ++ rest → IsWellFormed (world_from (answer s) (start old l) 1 past)
