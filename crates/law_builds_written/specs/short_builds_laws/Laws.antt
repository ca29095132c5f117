-- The law of the names of types of a valid build.
use Rattle.std.specs.Prelude.{◌<◌, ◌^◌, length}
use Rattle.std.specs.List.{AllByRecursion}
use Rattle.ob_compile_model.specs.Compiling.{Compiled}
use Rattle.law_names_distinct.specs.Distinct.{AreDistinct}
use Rattle.ob_builds.specs.Builds.{Text, Build, IsValid}

-- THE NAMES OF TYPES of a valid build are shorter than 2^16, where they differ.
abbrev pub BuildsHaveShortNames : Type 0
BuildsHaveShortNames = (b : Build) (c : Compiled Text) → IsValid b c → AreDistinct (λ t. t.name) c.tree.types → AllByRecursion (λ t. length t.name < 2 ^ 16) c.tree.types
