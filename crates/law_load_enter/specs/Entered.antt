-- The object files of builds that go together can be entered, one behind the other.
use Rattle.std.specs.Prelude.{◌≤◌, List, [], map}
use Rattle.ob_obj.specs.Images.{AreEnterable}
use Rattle.ob_link.specs.Members.{empty_image}
use Rattle.ob_link.specs.Plan.{most_globals, words_of}
use Rattle.ob_builds.specs.Builds.{Build, file_of, asks}
use Rattle.ob_builds.specs.Afresh.{AreTogether}
use Rattle.ob_builds.specs.Written.{BuildsAreWritten}
use Rattle.law_builds.specs.Linked.{BuildsAreLinked}

-- Each has a spelling, a new name, and links that name something in those before it; and there is room for the words of all.
abbrev pub FilesEnter : Type 0
FilesEnter = BuildsAreWritten → BuildsAreLinked → (bs : List Build) → AreTogether [] bs → words_of asks bs ≤ most_globals → AreEnterable empty_image (map file_of bs)
