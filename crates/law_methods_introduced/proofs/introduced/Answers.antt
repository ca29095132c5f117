use Rattle.law_methods_introduced.proofs.introduced.Goals as goal
use Rattle.law_methods_introduced.proofs.Families.{families_there}

pub returns : goal.returns
returns c = families_there
