-- Modules.
use Rattle.law_local_uses.proofs.Modules.{modules_are_tied}
use Rattle.law_local_uses.proofs.modules_are_tied.Goals as goal

pub returns : goal.returns
returns c = modules_are_tied
