-- The families of bound procedures of builds that are loaded together: the laws.
use Rattle.std.specs.Prelude.{List, ◌++◌}
use Rattle.std.specs.List.{AllByRecursion}
use Rattle.law_simulation_relation.specs.Setting.{Setting}
use Rattle.law_image_links.specs.Files as linking
use Rattle.law_image_links.specs.Files.{AllKeepRules}
use Rattle.law_image_tables.specs.Families.{NumbersDiffer, AllFamiliesDeclared}
use Rattle.law_image_tables.specs.Counted.{number}
use Rattle.law_image_tables.specs.Image.{AllBodiesChecked, RulesKept}
use Rattle.law_typing_values.specs.Valued.{values}
use Rattle.ob_builds.specs.Builds.{Build}
use Rattle.ob_builds.specs.Local.{Locality}
use Rattle.ob_builds.specs.Written.{BuildsAreWritten}
use Rattle.law_program_runs.specs.Builds.{program_of, AreLoaded, IsOf}
use Rattle.law_builds_loaded.specs.Loaded.{LoadedAreWhole, LoadedAreLaid}
use Rattle.law_program_image.specs.Premises.{builds_of, TypesDiffer, LoadedAreSound, LoadedDescribe, LoadedAreSame}
use Rattle.law_program_image.specs.Families.{HasBindings}
use Rattle.law_program_image.specs.Like.{AreLike}

-- What is bound in each module is bound to a record of the module, one of whose bases introduces it, by what the modules before it show;
-- whatever interfaces the module was compiled against.
abbrev pub LoadedHaveBindings : Type 0
LoadedHaveBindings = BuildsAreWritten → Locality → TypesDiffer → (bs : List Build) → AreLoaded bs → AllByRecursion (HasBindings (program_of bs)) (program_of bs)

-- the premises on the numbers of families of what keeps the rules
pub record FamiliesFit (c : Setting) (builds : List linking.Build) : Type 0 where
  pub differ : NumbersDiffer c.program (number c.program)
  pub families : AllFamiliesDeclared c.program (number c.program) builds

-- So the families of a type have different numbers, descriptions have these numbers and count them, and each is bound to a type once.
abbrev pub LoadedFamiliesFit : Type 0
LoadedFamiliesFit =
    BuildsAreWritten → Locality → TypesDiffer → LoadedAreSound → LoadedAreWhole → LoadedAreLaid → LoadedDescribe → LoadedAreSame →
    (bs more : List Build) → AreLoaded (bs ++ more) → (c : Setting) → IsOf c values bs more → AllKeepRules c (builds_of bs) → FamiliesFit c (builds_of bs)

-- bound procedures are like the methods of their families
abbrev pub LoadedAreLike : Type 0
LoadedAreLike = (bs : List Build) → AreLoaded bs → AllByRecursion (AreLike (program_of bs)) (program_of bs)

-- ALL THAT THE RULES OWE, where procedures and bodies are checked.
abbrev pub LoadedKeepRules : Type 0
LoadedKeepRules =
    BuildsAreWritten → Locality → TypesDiffer → LoadedAreSound → LoadedAreWhole → LoadedAreLaid → LoadedDescribe → LoadedAreSame → LoadedAreLike →
    (bs more : List Build) → AreLoaded (bs ++ more) → (c : Setting) → IsOf c values bs more → AllKeepRules c (builds_of bs) → AllBodiesChecked c (builds_of bs) → RulesKept c (builds_of bs)
