use Rattle.law_session.proofs.New.{new_is_valid}
use Rattle.law_session.proofs.new_builds_are_valid.Goals as goal

pub returns : goal.returns
returns c = new_is_valid
