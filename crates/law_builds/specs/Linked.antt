-- The links of a build name what it uses.
use Rattle.ob_compile_model.specs.Compiling.{Compiled}
use Rattle.law_load_plan.specs.Compiled.{Text, AreLinksUsed}
use Rattle.ob_builds.specs.Builds.{Build, IsValid}

-- The links of a module that compiles name what it uses.
abbrev pub BuildsAreLinked : Type 0
BuildsAreLinked = (b : Build) (c : Compiled Text) → IsValid b c → AreLinksUsed c
