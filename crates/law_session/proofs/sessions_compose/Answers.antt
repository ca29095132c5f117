use Rattle.law_session.proofs.Composed.{composes}
use Rattle.law_session.proofs.sessions_compose.Goals as goal

pub returns : goal.returns
returns c = composes
