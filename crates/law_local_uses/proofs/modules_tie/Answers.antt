-- Modules.
use Rattle.law_local_uses.proofs.Over.{modules_tie}
use Rattle.law_local_uses.proofs.modules_tie.Goals as goal

pub returns : goal.returns
returns c = modules_tie
