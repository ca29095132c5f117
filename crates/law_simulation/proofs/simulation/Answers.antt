use Rattle.law_simulation.proofs.Whole.{command_simulates, body_simulates}
use Rattle.law_simulation.proofs.simulation.Goals as goal

pub returns-clause-commands : goal.returns-clause-commands
returns-clause-commands c = command_simulates

pub returns-clause-bodies : goal.returns-clause-bodies
returns-clause-bodies c = body_simulates
