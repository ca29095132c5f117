-- Builds that are loaded together show the bases of the pointers that they show: the law.
use Rattle.std.specs.Prelude.{List, ◌∷◌, ◌++◌, map}
use Rattle.ob_env.specs.Shown.{shown}
use Rattle.law_names_procedures.specs.Procedures.{ShowBases}
use Rattle.ob_builds.specs.Builds.{Build, shows_of, name_of}
use Rattle.ob_builds.specs.Written.{BuildsAreWritten}
use Rattle.law_program_runs.specs.Builds.{AreLoaded}
use Rattle.law_builds_ruled.specs.ruled_laws.Ruled.{BuildsAreRuled}

-- those before a build show the bases of the pointers that they show
abbrev pub LoadedShowBases : Type 0
LoadedShowBases = (before : List Build) (b : Build) (after : List Build) → AreLoaded (before ++ b ∷ after) → ShowBases (shown (map shows_of before)) (name_of b)

-- THE LAW
abbrev pub LoadedBases : Type 0
LoadedBases = BuildsAreWritten → BuildsAreRuled → LoadedShowBases
