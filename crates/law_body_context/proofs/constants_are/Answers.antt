-- Constant expressions come to constants, and bodies are judged where they are.
use Rattle.law_body_context.proofs.Expressions.{constants_stand, bodies_stand}
use Rattle.law_body_context.proofs.constants_are.Goals as goal

pub returns-clause-constants : goal.returns-clause-constants
returns-clause-constants c = constants_stand

pub returns-clause-bodies : goal.returns-clause-bodies
returns-clause-bodies c = bodies_stand
