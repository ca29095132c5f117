-- What stands around the bodies of a checked module is so in a program.
use Rattle.law_program_context.proofs.Names.{procedures_surrounded, modules_surrounded}
use Rattle.law_program_context.proofs.Fitting.{bodies_fit}
use Rattle.law_program_context.proofs.bodies_are_surrounded.Goals as goal

pub returns-clause-procedures : goal.returns-clause-procedures
returns-clause-procedures c = procedures_surrounded

pub returns-clause-modules : goal.returns-clause-modules
returns-clause-modules c = modules_surrounded

pub returns-clause-bodies : goal.returns-clause-bodies
returns-clause-bodies c = bodies_fit
