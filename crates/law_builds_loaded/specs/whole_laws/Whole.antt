-- Programs of builds that are loaded together are whole: the law.
use Rattle.std.specs.Prelude.{List}
use Rattle.std.specs.List.{AllByRecursion}
use Rattle.ob_types.specs.TypedSyntax.{Procedure}
use Rattle.ob_meaning.specs.Values.{Program, form_in}
use Rattle.law_simulation_relation.specs.Passed.{IsOpen}
use Rattle.law_typing_forms.specs.Whole.{HeadingOk}
use Rattle.law_typing.specs.Forms.{ResultIs}
use Rattle.ob_builds.specs.Builds.{Build}
use Rattle.ob_builds.specs.Written.{BuildsAreWritten}
use Rattle.law_program_runs.specs.Builds.{program_of, AreLoaded}
use Rattle.law_builds_ruled.specs.ruled_laws.Ruled.{BuildsAreRuled}
use Rattle.law_builds_loaded.specs.Loaded.{LoadedAreWhole}

-- parameters of procedures are passed as their types ask for
abbrev pub LoadedArePassed : Type 0
LoadedArePassed = (bs : List Build) → AreLoaded bs → AllByRecursion (λ m. AllByRecursion (HeadingOk (program_of bs)) m.procedures) (program_of bs)

-- Names of modules, and in each module those of types, procedures and variables, differ, and no variable is of the type of Out.
abbrev pub LoadedWhole : Type 0
LoadedWhole = BuildsAreRuled → LoadedArePassed → LoadedAreWhole

-- So they are.
abbrev pub LoadedPassed : Type 0
LoadedPassed = BuildsAreWritten → BuildsAreRuled → LoadedArePassed

-- local variables are no open arrays, and a result is no array and no record
pub record IsPlain (program : Program) (p : Procedure) : Type 0 where
  pub locals : AllByRecursion (λ v. IsOpen (form_in program v.of) → ⊥) p.locals
  pub result : ResultIs program p.result

-- So it is of all procedures.
abbrev pub LoadedPlain : Type 0
LoadedPlain = BuildsAreWritten → BuildsAreRuled → (bs : List Build) → AreLoaded bs → AllByRecursion (λ m. AllByRecursion (IsPlain (program_of bs)) m.procedures) (program_of bs)
