-- Local variables and results.
use Rattle.law_builds_loaded.proofs.whole_laws.Passing.{loaded_plain}
use Rattle.law_builds_loaded.proofs.law_whole.loaded_plain.Goals as goal

pub returns : goal.returns
returns c = loaded_plain
