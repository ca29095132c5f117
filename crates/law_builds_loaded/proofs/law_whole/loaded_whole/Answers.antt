-- Whole programs.
use Rattle.law_builds_loaded.proofs.whole_laws.Whole.{loaded_whole}
use Rattle.law_builds_loaded.proofs.law_whole.loaded_whole.Goals as goal

pub returns : goal.returns
returns c = loaded_whole
