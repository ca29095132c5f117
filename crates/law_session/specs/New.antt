-- What compiles against a library is a valid build.
use Rattle.std.specs.Prelude.{◌≡◌, ℕ, List, Some, Ok}
use Rattle.ob_compile_model.specs.Compiling.{Compiled, texts, compiled}
use Rattle.ob_builds.specs.Builds.{Text, IsValid}
use Rattle.ob_shell_model.specs.Library.{Library, IsLibrary}
use Rattle.ob_shell_model.specs.Model.{interface_in, new_build}

-- What compiles against a library is a valid build of its walk.
abbrev pub NewIsValid : Type 0
NewIsValid = (l : Library) (source : List ℕ) (c : Compiled Text) → IsLibrary l → compiled texts (interface_in l) (Some source) ≡ Ok c → IsValid (new_build source c) c
