-- Constants.
use Rattle.law_local_uses.proofs.Whole.{constants_are_held}
use Rattle.law_local_uses.proofs.constants_are_held.Goals as goal

pub returns : goal.returns
returns c = constants_are_held
