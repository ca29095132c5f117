-- Each body is judged where what is known is as the module has it.
use Rattle.law_body_context.proofs.Whole.{bodies_known, imports_are_others}
use Rattle.law_body_context.proofs.bodies_are_known.Goals as goal

pub returns-clause-bodies : goal.returns-clause-bodies
returns-clause-bodies c = bodies_known

pub returns-clause-imports : goal.returns-clause-imports
returns-clause-imports c = imports_are_others
