-- Builds that are loaded together are judged modules of their program: the law.
use Rattle.std.specs.Prelude.{List}
use Rattle.law_program_context.specs.Judged.{AreJudgedModules}
use Rattle.ob_builds.specs.Builds.{Build}
use Rattle.ob_builds.specs.Local.{Locality}
use Rattle.ob_builds.specs.Written.{BuildsAreWritten}
use Rattle.law_program_runs.specs.Builds.{program_of, AreLoaded}
use Rattle.law_builds_types.specs.pointed_laws.Pointed.{LoadedShowBases}

-- Each module of builds that are loaded together is judged over the interfaces of those before it, whatever interfaces it was compiled
-- against.
abbrev pub LoadedAreJudged : Type 0
LoadedAreJudged = BuildsAreWritten → Locality → LoadedShowBases → (bs : List Build) → AreLoaded bs → AreJudgedModules (program_of bs)
