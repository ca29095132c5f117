-- No checked module is named Out.
use Rattle.law_names_distinct.proofs.Blocks.{not_out}
use Rattle.law_names_distinct.proofs.modules_are_not_out.Goals as goal

pub returns : goal.returns
returns c = not_out
