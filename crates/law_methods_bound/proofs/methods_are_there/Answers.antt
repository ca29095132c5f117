-- Bound procedures.
use Rattle.law_methods_bound.proofs.Modules.{methods_there}
use Rattle.law_methods_bound.proofs.methods_are_there.Goals as goal

pub returns : goal.returns
returns c = methods_there
