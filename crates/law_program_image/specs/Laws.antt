-- What the rules owe of the types and the values of builds that are loaded together: the laws.
use Rattle.std.specs.Prelude.{List, ◌++◌}
use Rattle.ob_meaning.specs.Values.{Program}
use Rattle.law_simulation_relation.specs.Setting.{Setting}
use Rattle.law_typing_forms.specs.Said.{IsSound}
use Rattle.law_image_links.specs.Files.{AllKeepRules}
use Rattle.law_image_tables.specs.Settled.{TypesSettled, AllDeclared, TypesFit}
use Rattle.law_typing_values.specs.Valued.{values}
use Rattle.law_typing_values.specs.Laws.{ValuesAre}
use Rattle.ob_builds.specs.Builds.{Build}
use Rattle.ob_builds.specs.Written.{BuildsAreWritten}
use Rattle.law_program_runs.specs.Builds.{program_of, AreLoaded, IsOf}
use Rattle.law_program_image.specs.Premises.{builds_of, TypesDiffer, LoadedAreSound, LoadedDescribe, LoadedAreSame}

-- VALUES: what may be a value is a procedure of the program, which matches the procedure type.
abbrev pub LoadedValuesAre : Type 0
LoadedValuesAre = (bs more : List Build) (c : Setting) → IsOf c values bs more → ValuesAre c

-- TYPES: each type of a sound program is what its declaration says.
abbrev pub SoundAreSettled : Type 0
SoundAreSettled = (program : Program) → IsSound program → TypesSettled program

-- The types of each module differ in name, and each stands behind the types of the module that it extends, since its object file could
-- be written.
abbrev pub LoadedAreDeclared : Type 0
LoadedAreDeclared =
    BuildsAreWritten → TypesDiffer → LoadedAreSound → LoadedDescribe → LoadedAreSame →
    (bs more : List Build) → AreLoaded (bs ++ more) → (c : Setting) → IsOf c values bs more → AllDeclared (program_of bs) (builds_of bs)

-- So record types are well built, of their bases, and descriptions have their words and their bases.
abbrev pub LoadedTypesFit : Type 0
LoadedTypesFit =
    BuildsAreWritten → TypesDiffer → LoadedAreSound → LoadedDescribe → LoadedAreSame →
    (bs more : List Build) → AreLoaded (bs ++ more) → (c : Setting) → IsOf c values bs more → AllKeepRules c (builds_of bs) → TypesFit c (builds_of bs)
