use Rattle.law_session.proofs.Agreed.{agreed}
use Rattle.law_session.proofs.lines_agree.Goals as goal

pub returns : goal.returns
returns c = agreed
