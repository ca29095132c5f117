-- What object files have.
use Rattle.law_load_enter.proofs.Law.{files_have}
use Rattle.law_load_enter.proofs.files_have.Goals as goal

pub returns : goal.returns
returns c = files_have
