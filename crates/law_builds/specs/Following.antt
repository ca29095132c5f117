-- What follows of builds, one law from others.
use Rattle.ob_builds.specs.Afresh.{Afresh}
use Rattle.ob_builds.specs.Local.{Locality}
use Rattle.ob_builds.specs.Written.{BuildsAreWritten}

-- Sources that are loaded are a well formed program, taken afresh together, where each is what it was against other interfaces.
abbrev pub AfreshFollows : Type 0
AfreshFollows = BuildsAreWritten → Locality → Afresh
