use Rattle.law_session.proofs.Chain.{chain}
use Rattle.law_session.proofs.sessions_chain.Goals as goal

pub returns : goal.returns
returns c = chain
