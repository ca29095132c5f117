-- What redefines others.
use Rattle.law_typing_values.proofs.Redefined.{families_redefined}
use Rattle.law_typing_values.proofs.families_are_redefined.Goals as goal

pub returns : goal.returns
returns c = families_redefined
