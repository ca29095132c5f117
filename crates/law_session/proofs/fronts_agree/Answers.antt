use Rattle.law_session.proofs.Whole.{fronts_so}
use Rattle.law_session.proofs.fronts_agree.Goals as goal

pub returns : goal.returns
returns c = fronts_so
