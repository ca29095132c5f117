-- The procedures and the bodies of builds that are loaded together are checked: the law.
use Rattle.std.specs.Prelude.{List, ◌++◌}
use Rattle.std.specs.List.{AllByRecursion}
use Rattle.law_simulation_relation.specs.Setting.{Setting}
use Rattle.law_typing.specs.Redefined.{AreRedefined}
use Rattle.law_image_links.specs.Files.{AllKeepRules}
use Rattle.law_image_tables.specs.Image.{AllBodiesChecked}
use Rattle.law_typing_values.specs.Valued.{values}
use Rattle.law_program_context.specs.Judged.{AreJudgedModules}
use Rattle.law_program_typing.specs.Steady.{AreSteadyModules}
use Rattle.law_program_typing.specs.Accepted.{AreBuilt}
use Rattle.law_program_typing.specs.Kept.{AreLeft}
use Rattle.ob_builds.specs.Builds.{Build}
use Rattle.law_program_runs.specs.Builds.{program_of, AreLoaded, IsOf}
use Rattle.law_program_image.specs.Premises.{builds_of, LoadedAreSound}
use Rattle.law_builds_loaded.specs.Loaded.{LoadedAreWhole}

-- What is left: the modules are judged ones, and the maps of types around their bodies are steady; redefinitions are alike; variables can
-- be built and differ in name; descriptions say what types are, and procedures keep the limits.
pub record IsLeft (c : Setting) (bs : List Build) : Type 0 where
  pub judged : AreJudgedModules (program_of bs)
  pub steady : AreSteadyModules (program_of bs) (program_of bs) judged
  pub redefined : AreRedefined (program_of bs)
  pub built : AllByRecursion (AreBuilt (program_of bs)) (program_of bs)
  pub limits : AllByRecursion (AreLeft c) (builds_of bs)

-- `modules` and `bodies` of what the rules owe
abbrev pub LoadedAreChecked : Type 0
LoadedAreChecked = LoadedAreSound → LoadedAreWhole → (bs more : List Build) → AreLoaded (bs ++ more) → (c : Setting) → IsOf c values bs more → IsLeft c bs → AllKeepRules c (builds_of bs) × AllBodiesChecked c (builds_of bs)
