-- The descriptions that modules were compiled with, and the declarations of their program: the law.
use Rattle.std.specs.Prelude.{List, ◌++◌, Contains}
use Rattle.ob_meaning.specs.Values.{description}
use Rattle.ob_layout.specs.LaidOut.{viewed}
use Rattle.ob_env.specs.Faces.{described}
use Rattle.law_typing_forms.specs.Said.{IsSound}
use Rattle.law_image_links.specs.Same.{ModuleSame}
use Rattle.law_builds_ruled.specs.ruled_laws.Ruled.{BuildsAreRuled}
use Rattle.ob_compile_model.specs.Compiling.{Compiled}
use Rattle.ob_builds.specs.Builds.{Text, Build, IsValid, of, tree_of}
use Rattle.ob_builds.specs.Written.{BuildsAreWritten}
use Rattle.law_program_runs.specs.Builds.{program_of, AreLoaded}
use Rattle.law_builds_joint.specs.Named.{AreNamedApart}

-- What a build shows that is no type has not the name of one of its types, and the bound procedures that a record introduces have
-- different names.
abbrev pub BuildsAreNamedApart : Type 0
BuildsAreNamedApart = BuildsAreRuled → (b : Build) (c : Compiled Text) → IsValid b c → AreNamedApart c.tree

-- THE LAW: the descriptions that a module was compiled with say of what it names what its declarations in the program say.
abbrev pub LoadedAreSame : Type 0
LoadedAreSame =
    BuildsAreWritten → BuildsAreRuled → ((bs : List Build) → AreLoaded bs → IsSound (program_of bs)) →
    (bs more : List Build) → AreLoaded (bs ++ more) → (b : Build) → Contains bs b → ModuleSame (viewed (described (of b).against) (tree_of b)) (description (program_of bs)) (tree_of b)
