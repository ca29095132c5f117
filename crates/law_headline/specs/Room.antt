-- The room for globals that a load counts is that of the declarations.
use Rattle.std.specs.Prelude.{◌≡◌, ◌+◌, List, [], ◌++◌, not, nat_lt, Contains}
use Rattle.ob_meaning.specs.Globals.{globals_words, all_globals, has_room_for_globals}
use Rattle.ob_link.specs.Plan.{most_globals, words_of}
use Rattle.ob_builds.specs.Builds.{Build, tree_of, asks}
use Rattle.ob_builds.specs.Afresh.{AreTogether}
use Rattle.law_program_runs.specs.Builds.{program_of}

-- The words that a load counts of each of some builds are those of its module's declarations in their program: of its variables, and of
-- the strings that it uses as arrays. So are those of all, and a load of the new ones behind the loaded ones is refused for want of room
-- just where the declarations of their program have no room.
pub record IsRoomDeclared (loaded new : List Build) : Type 0 where
  pub each : (b : Build) → Contains (loaded ++ new) b → asks.words b ≡ globals_words (program_of (loaded ++ new)) (tree_of b)
  pub all : words_of asks loaded + words_of asks new ≡ all_globals (program_of (loaded ++ new)) (program_of (loaded ++ new))
  pub refused : nat_lt most_globals (words_of asks loaded + words_of asks new) ≡ not (has_room_for_globals (program_of (loaded ++ new)))

-- THE LAW: so it is of builds that are together, whatever their ages.
abbrev pub RoomIsDeclared : Type 0
RoomIsDeclared = (loaded new : List Build) → AreTogether [] (loaded ++ new) → IsRoomDeclared loaded new
