-- Builds that are loaded together are laid out, each over those before it: the law.
use Rattle.ob_builds.specs.Local.{Locality}
use Rattle.ob_builds.specs.Written.{BuildsAreWritten}
use Rattle.law_builds_ruled.specs.ruled_laws.Ruled.{BuildsAreRuled}
use Rattle.law_builds_loaded.specs.Loaded.{LoadedAreLaid}

-- So they are where valid builds are ruled, and the same against other interfaces that have the texts of their uses.
abbrev pub LoadedLaid : Type 0
LoadedLaid = BuildsAreWritten → BuildsAreRuled → Locality → LoadedAreLaid
