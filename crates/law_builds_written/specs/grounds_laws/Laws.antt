-- The law: the map that a valid build was compiled with is grounded.
use Rattle.ob_types.specs.Relations.{IsGrounded}
use Rattle.ob_layout.specs.LaidOut.{viewed}
use Rattle.ob_env.specs.Faces.{described}
use Rattle.ob_compile_model.specs.Compiling.{Compiled}
use Rattle.law_names_distinct.specs.Distinct.{AreDistinct}
use Rattle.law_builds_written.specs.Laws.{Text, AreShort}
use Rattle.ob_builds.specs.Builds.{Build, IsValid}

-- the map is grounded, and chains of the module's own types are short
pub record IsGroundedBuild (c : Compiled Text) : Type 0 where
  pub grounded : IsGrounded (viewed (described c.against) c.tree)
  pub short : AreShort c.against c.tree

-- So it is where its types differ in name.
abbrev pub BuildsAreGrounded : Type 0
BuildsAreGrounded = (b : Build) (c : Compiled Text) → IsValid b c → AreDistinct (λ t. t.name) c.tree.types → IsGroundedBuild c
