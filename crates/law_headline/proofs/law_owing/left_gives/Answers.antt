-- What is left.
use Rattle.law_headline.proofs.owing_laws.Whole.{left_gives as gives, left_stands}
use Rattle.law_headline.proofs.law_owing.left_gives.Goals as goal

pub returns-clause-owed : goal.returns-clause-owed
returns-clause-owed c = gives

pub returns-clause-stand : goal.returns-clause-stand
returns-clause-stand c = left_stands
