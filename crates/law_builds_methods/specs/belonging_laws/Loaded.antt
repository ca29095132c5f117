-- The bound procedures of builds that are loaded together: the law.
use Rattle.ob_builds.specs.Local.{Locality}
use Rattle.ob_builds.specs.Written.{BuildsAreWritten}
use Rattle.law_builds_ruled.specs.ruled_laws.Ruled.{BuildsAreRuled}
use Rattle.law_builds_loaded.specs.Loaded.{BoundAreThere}

-- The bound procedures that the records of a program introduce are methods of the program.
abbrev pub LoadedBelong : Type 0
LoadedBelong = BuildsAreWritten → BuildsAreRuled → Locality → BoundAreThere
