-- Bodies.
use Rattle.law_acyclic.proofs.Bodies.{bodies_are_grounded}
use Rattle.law_acyclic.proofs.bodies_are_grounded.Goals as goal

pub returns : goal.returns
returns c = bodies_are_grounded
