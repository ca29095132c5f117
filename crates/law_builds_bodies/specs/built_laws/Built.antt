-- The procedures of builds that are loaded together are built, and redefinitions are alike: the laws.
use Rattle.std.specs.Prelude.{List}
use Rattle.std.specs.List.{AllByRecursion}
use Rattle.ob_types.specs.TypedSyntax.{Module}
use Rattle.ob_meaning.specs.Values.{Program}
use Rattle.law_typing_forms.specs.Said.{IsSound}
use Rattle.law_typing_forms.specs.Whole.{IsWhole}
use Rattle.law_image_code.specs.Fits.{IsNamed}
use Rattle.law_typing.specs.Redefined.{AreRedefined}
use Rattle.law_program_typing.specs.Accepted.{AreBuilt}
use Rattle.ob_builds.specs.Builds.{Build}
use Rattle.ob_builds.specs.Local.{Locality}
use Rattle.ob_builds.specs.Written.{BuildsAreWritten}
use Rattle.law_program_runs.specs.Builds.{program_of, AreLoaded}
use Rattle.law_builds_ruled.specs.ruled_laws.Ruled.{BuildsAreRuled}
use Rattle.law_builds_loaded.specs.Loaded.{LoadedAreWhole}
use Rattle.law_program_image.specs.Premises.{TypesDiffer, LoadedAreSound}
use Rattle.law_program_image.specs.Families.{HasBindings}
use Rattle.law_program_image.specs.Like.{AreLike}
use Rattle.law_builds_loaded.specs.inherited_laws.Laws.{LoadedAreLike}

-- A module's procedures have names; they and its body have variables of different names that can be built, and results that are no arrays
-- and no records; and its variables can be built.
pub record IsBuiltModule (program : Program) (m : Module) : Type 0 where
  pub named : AllByRecursion (λ p. IsNamed p.name) m.procedures
  pub built : AreBuilt program m

-- THE LAWS

abbrev pub LoadedAreBuilt : Type 0
LoadedAreBuilt = BuildsAreWritten → BuildsAreRuled → LoadedAreSound → (bs : List Build) → AreLoaded bs → AllByRecursion (IsBuiltModule (program_of bs)) (program_of bs)

-- Procedures that redefine others are alike, and receive records of their kind, where all are like the methods of their families.
abbrev pub LikeAreNearest : Type 0
LikeAreNearest = (program : Program) → IsSound program → IsWhole program → AllByRecursion (HasBindings program) program → AllByRecursion (AreLike program) program → AreRedefined program

-- So it is in the program of builds that are loaded together.
abbrev pub LoadedAreRedefined : Type 0
LoadedAreRedefined = BuildsAreWritten → Locality → TypesDiffer → LoadedAreSound → LoadedAreWhole → LoadedAreLike → (bs : List Build) → AreLoaded bs → AreRedefined (program_of bs)
