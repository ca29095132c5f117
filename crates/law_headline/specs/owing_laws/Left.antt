-- What is left to be seen of builds, so that all that is owed of those that are loaded together is there.
use Rattle.std.specs.Prelude.{List, ◌++◌, map, Contains}
use Rattle.ob_meaning.specs.Values.{description}
use Rattle.ob_layout.specs.LaidOut.{viewed}
use Rattle.ob_env.specs.Faces.{described}
use Rattle.law_simulation_relation.specs.Setting.{Setting}
use Rattle.law_image_links.specs.Same.{ModuleSame}
use Rattle.law_image_tables.specs.Image.{RulesKept}
use Rattle.law_typing_values.specs.Valued.{values}
use Rattle.ob_builds.specs.Builds.{Build, of, tree_of}
use Rattle.ob_builds.specs.Written.{BuildsAreWritten}
use Rattle.law_builds.specs.Linked.{BuildsAreLinked}
use Rattle.law_program_runs.specs.Builds.{program_of, AreLoaded, IsOf, BuildsStand}
use Rattle.law_program_image.specs.Owed.{in_program, Owed}

pub record Left : Type 0 where
  -- of each build alone
  pub written : BuildsAreWritten
  pub linked : BuildsAreLinked
  -- of builds that are loaded together: the descriptions that a module was compiled with say of what it names what its declarations in the program say
  pub same : (bs more : List Build) → AreLoaded (bs ++ more) → (b : Build) → Contains bs b → ModuleSame (viewed (described (of b).against) (tree_of b)) (description (program_of bs)) (tree_of b)
  -- the modules keep the rules
  pub rules : (bs more : List Build) → AreLoaded (bs ++ more) → (c : Setting) → IsOf c values bs more → RulesKept c (map (in_program (program_of bs)) bs)

-- THE LAWS
abbrev pub LeftGives : Type 0
LeftGives = Left → Owed

abbrev pub LeftStands : Type 0
LeftStands = Left → BuildsStand
