-- Bodies.
use Rattle.law_acyclic.proofs.Bodies.{bodies_are_steady}
use Rattle.law_acyclic.proofs.bodies_are_steady.Goals as goal

pub returns : goal.returns
returns c = bodies_are_steady
