use Rattle.law_session.proofs.Held.{whole_so, lines_so}
use Rattle.law_session.proofs.headline.Goals as goal

pub returns : goal.returns
returns c = record { whole = whole_so; lines = lines_so }
