-- What is written of a build has a spelling.
use Rattle.ob_sym.specs.Grammar.{face}
use Rattle.ob_obj.specs.Grammar.{file}
use Rattle.ob_compile_model.specs.Compiling.{Compiled, texts, object_by, interface_by}
use Rattle.ob_builds.specs.Builds.{Text, Build, IsValid}

-- What is written of a module has a spelling.
pub record IsWritten (c : Compiled Text) : Type 0 where
  pub object : file.fits (object_by texts c)
  pub symbols : face.fits (interface_by texts c)

abbrev pub BuildsAreWritten : Type 0
BuildsAreWritten = (b : Build) (c : Compiled Text) → IsValid b c → IsWritten c
