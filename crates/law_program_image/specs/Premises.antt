-- What is taken of builds that are loaded together, each in one sentence.
use Rattle.std.specs.Prelude.{List, ◌++◌, map, bytes_eq, Contains}
use Rattle.std.specs.List.{IsDistinct}
use Rattle.ob_meaning.specs.Values.{description}
use Rattle.ob_layout.specs.LaidOut.{viewed}
use Rattle.ob_env.specs.Faces.{described}
use Rattle.law_typing_forms.specs.Said.{IsSound}
use Rattle.law_image_code.specs.Described.{IsDescribed}
use Rattle.law_image_links.specs.Files as linking
use Rattle.law_image_links.specs.Same.{ModuleSame}
use Rattle.ob_compile_model.specs.Compiling.{Compiled}
use Rattle.ob_builds.specs.Builds.{Text, Build, IsValid, of, tree_of}
use Rattle.law_program_runs.specs.Builds.{program_of, AreLoaded}
use Rattle.law_program_image.specs.Owed.{in_program}

-- builds as the laws of files take them: by the descriptions of their program
abbrev pub builds_of : List Build → List linking.Build
builds_of bs = map (in_program (program_of bs)) bs

-- the types of a module differ in name
abbrev pub TypesDiffer : Type 0
TypesDiffer = (b : Build) (c : Compiled Text) → IsValid b c → IsDistinct bytes_eq (map (λ t. t.name) c.tree.types)

-- the types of a program are sound
abbrev pub LoadedAreSound : Type 0
LoadedAreSound = (bs : List Build) → AreLoaded bs → IsSound (program_of bs)

-- the declarations of a program say the words, places and elements that its types have
abbrev pub LoadedDescribe : Type 0
LoadedDescribe = (bs : List Build) → AreLoaded bs → IsDescribed (description (program_of bs)) (program_of bs)

-- the descriptions that a module was compiled with say of what it names what its declarations in the program say
abbrev pub LoadedAreSame : Type 0
LoadedAreSame = (bs more : List Build) → AreLoaded (bs ++ more) → (b : Build) → Contains bs b → ModuleSame (viewed (described (of b).against) (tree_of b)) (description (program_of bs)) (tree_of b)
