use Rattle.law_session.proofs.Composed.{follows}
use Rattle.law_session.proofs.headline_follows.Goals as goal

pub returns : goal.returns
returns c = follows
