-- Types.
use Rattle.law_acyclic.proofs.Grounded.{types_are_held}
use Rattle.law_acyclic.proofs.types_are_held.Goals as goal

pub returns : goal.returns
returns c = types_are_held
