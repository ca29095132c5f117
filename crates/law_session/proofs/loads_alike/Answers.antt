use Rattle.law_session.proofs.LoadLaw.{loads_so}
use Rattle.law_session.proofs.loads_alike.Goals as goal

pub returns : goal.returns
returns c = loads_so
