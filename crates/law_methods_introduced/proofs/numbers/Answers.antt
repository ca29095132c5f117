use Rattle.law_methods_introduced.proofs.numbers.Goals as goal
use Rattle.law_methods_introduced.proofs.Below.{numbers_below_all}

pub returns : goal.returns
returns c = numbers_below_all
