use Rattle.law_simulation.proofs.TypedIsIn.{statements_are_in, procedures_are_in, bodies_are_in}
use Rattle.law_simulation.proofs.well_typed_is_in.Goals as goal

pub returns-clause-statements : goal.returns-clause-statements
returns-clause-statements c = statements_are_in

pub returns-clause-procedures : goal.returns-clause-procedures
returns-clause-procedures c = procedures_are_in

pub returns-clause-bodies : goal.returns-clause-bodies
returns-clause-bodies c = bodies_are_in
