use Rattle.law_session.proofs.Checked.{checks_so}
use Rattle.law_session.proofs.checks_alike.Goals as goal

pub returns : goal.returns
returns c = checks_so
