-- Modules.
use Rattle.law_acyclic.proofs.Grounded.{modules_are_grounded}
use Rattle.law_acyclic.proofs.modules_are_grounded.Goals as goal

pub returns : goal.returns
returns c = modules_are_grounded
