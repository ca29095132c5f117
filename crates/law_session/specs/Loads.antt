-- A load over files that keep a library is a load over the library.
use Rattle.ob_builds.specs.Written.{BuildsAreWritten}
use Rattle.law_builds.specs.Linked.{BuildsAreLinked}
use Rattle.law_session.specs.Composing.{PlansAlike}

-- THE LAW, where all builds can be written
abbrev pub LoadsAlike : Type 0
LoadsAlike = BuildsAreWritten → BuildsAreLinked → PlansAlike
