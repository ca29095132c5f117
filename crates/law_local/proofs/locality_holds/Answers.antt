use Rattle.law_local.proofs.Following.{locality_holds}
use Rattle.law_local.proofs.locality_holds.Goals as goal

pub returns : goal.returns
returns c = locality_holds
