-- A compile over files that keep a library is a compile over the library.
use Rattle.ob_builds.specs.Written.{BuildsAreWritten}
use Rattle.law_session.specs.Composing.{CompilesAlike}

-- THE LAW, where all builds can be written
abbrev pub KeptCompilesAlike : Type 0
KeptCompilesAlike = BuildsAreWritten → CompilesAlike
