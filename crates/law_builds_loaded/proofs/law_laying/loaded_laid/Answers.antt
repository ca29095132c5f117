-- Layout.
use Rattle.law_builds_loaded.proofs.laying_laws.Loaded.{loaded_laid}
use Rattle.law_builds_loaded.proofs.law_laying.loaded_laid.Goals as goal

pub returns : goal.returns
returns c = loaded_laid
