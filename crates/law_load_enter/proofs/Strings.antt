-- The strings of a build's object file.
use Rattle.std.proofs.Common.{sym, subst}
use Rattle.ob_obj.specs.Grammar.{file}
use Rattle.ob_compile_model.specs.Compiling.{Compiled, texts, object_by}
use Rattle.law_load_plan.proofs.Fitting.{long_strings}
use Rattle.ob_builds.specs.Builds.{Text, file_of}
use Rattle.law_builds.proofs.Faces.{of_is}
use Rattle.law_load_enter.specs.Strings.{StringsFit}

pub strings_fit : StringsFit
strings_fit written b c v = long_strings (file_of b) (subst (λ (x : Compiled Text). file.fits (object_by texts x)) (sym (of_is b c v)) (written b c v).object)
