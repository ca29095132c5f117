-- Methods of a program.
use Rattle.law_methods_bound.proofs.Methods.{introduced_are_methods as are_methods}
use Rattle.law_methods_bound.proofs.introduced_are_methods.Goals as goal

pub returns : goal.returns
returns c = are_methods
