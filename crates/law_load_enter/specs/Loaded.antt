-- What the object files of builds that are loaded together have of them.
use Rattle.std.specs.Prelude.{◌≡◌, ℕ, List, map, Some, Contains}
use Rattle.ob_types.specs.TypedSyntax.{Procedure}
use Rattle.ob_obj.specs.Grammar.{file}
use Rattle.ob_obj.specs.Images.{global_words, AreEnterable}
use Rattle.ob_meaning.specs.Commands.{command_named}
use Rattle.law_simulation_relation.specs.Layout.{procedure_index}
use Rattle.ob_link.specs.Files.{command_in}
use Rattle.ob_link.specs.Members.{empty_image}
use Rattle.ob_builds.specs.Builds.{Build, tree_of, name_of, file_of, asks}
use Rattle.ob_builds.specs.Written.{BuildsAreWritten}
use Rattle.law_builds.specs.Linked.{BuildsAreLinked}
use Rattle.law_program_runs.specs.Builds.{AreLoaded, AreEntered}

-- a module shows its own name
abbrev pub NamesAreShown : Type 0
NamesAreShown = (bs : List Build) → AreLoaded bs → (b : Build) → Contains bs b → (tree_of b).name ≡ name_of b

-- the words of a file's globals are those that the plan counts
abbrev pub WordsAreCounted : Type 0
WordsAreCounted = (bs : List Build) → AreLoaded bs → (b : Build) → Contains bs b → asks.words b ≡ global_words (file_of b)

-- a command has in its file the number of its procedure
abbrev pub CommandsAreThere : Type 0
CommandsAreThere = (bs : List Build) → AreLoaded bs → (b : Build) → Contains bs b → (x : List ℕ) (p : Procedure) → command_named (tree_of b) x ≡ Some p → command_in (file_of b) x ≡ Some (procedure_index (tree_of b).procedures x)

-- a file has a spelling, where all builds can be written
abbrev pub LoadedFit : Type 0
LoadedFit = BuildsAreWritten → (bs : List Build) → AreLoaded bs → (b : Build) → Contains bs b → file.fits (file_of b)

-- the files can be entered one behind the other, where there is room for their words
abbrev pub LoadedEnter : Type 0
LoadedEnter = BuildsAreWritten → BuildsAreLinked → (bs : List Build) → AreEntered bs → AreEnterable empty_image (map file_of bs)
