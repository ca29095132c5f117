use Rattle.law_session.proofs.Keeping.{stays}
use Rattle.law_session.proofs.kept_stays.Goals as goal

pub returns : goal.returns
returns c = stays
