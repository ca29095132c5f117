use Rattle.law_session.proofs.Whole.{holds}
use Rattle.law_session.proofs.headline_holds.Goals as goal

pub returns : goal.returns
returns c = holds
