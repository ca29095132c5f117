-- Bound procedures of a module.
use Rattle.law_methods_bound.proofs.IntroducedModules.{methods_introduced}
use Rattle.law_methods_bound.proofs.methods_are_introduced.Goals as goal

pub returns : goal.returns
returns c = methods_introduced
