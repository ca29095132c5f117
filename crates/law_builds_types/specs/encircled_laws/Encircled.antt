-- The maps of types around the bodies of builds that are loaded together are steady: the law.
use Rattle.std.specs.Prelude.{List}
use Rattle.ob_meaning.specs.Values.{Program}
use Rattle.law_program_context.specs.Judged.{AreJudgedModules}
use Rattle.law_program_typing.specs.Steady.{AreSteadyModules}
use Rattle.ob_builds.specs.Builds.{Build}
use Rattle.ob_builds.specs.Local.{Locality}
use Rattle.ob_builds.specs.Written.{BuildsAreWritten}
use Rattle.law_program_runs.specs.Builds.{program_of, AreLoaded}
use Rattle.law_program_image.specs.Premises.{LoadedAreSound}
use Rattle.law_builds_ruled.specs.ruled_laws.Ruled.{BuildsAreRuled}
use Rattle.law_builds_loaded.specs.Loaded.{LoadedAreWhole}

-- modules that are judged where the maps of types are steady
pub record AreEncircled (program : Program) : Type 0 where
  pub judged : AreJudgedModules program
  pub steady : AreSteadyModules program program judged

-- Builds that are loaded together are, whatever their ages.
abbrev pub LoadedAreSteady : Type 0
LoadedAreSteady = BuildsAreWritten → BuildsAreRuled → Locality → LoadedAreSound → LoadedAreWhole → (bs : List Build) → AreLoaded bs → AreEncircled (program_of bs)
