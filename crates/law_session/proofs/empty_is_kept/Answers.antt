use Rattle.law_session.proofs.Keeping.{empty_kept}
use Rattle.law_session.proofs.empty_is_kept.Goals as goal

pub returns : goal.returns
returns c = empty_kept
