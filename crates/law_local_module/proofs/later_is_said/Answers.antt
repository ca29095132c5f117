-- What is left for later is among the names.
use Rattle.law_local_module.proofs.Orders.{later_is_said, modules_stay}
use Rattle.law_local_module.proofs.later_is_said.Goals as goal

pub returns-clause-later : goal.returns-clause-later
returns-clause-later c = later_is_said

pub returns-clause-modules : goal.returns-clause-modules
returns-clause-modules c = modules_stay
