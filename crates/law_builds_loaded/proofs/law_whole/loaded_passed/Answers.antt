-- Parameters.
use Rattle.law_builds_loaded.proofs.whole_laws.Passing.{loaded_passed}
use Rattle.law_builds_loaded.proofs.law_whole.loaded_passed.Goals as goal

pub returns : goal.returns
returns c = loaded_passed
