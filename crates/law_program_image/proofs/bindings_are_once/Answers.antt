-- The law.
use Rattle.law_program_image.proofs.Once.{bindings_are_once}
use Rattle.law_program_image.proofs.bindings_are_once.Goals as goal

pub returns : goal.returns
returns c = bindings_are_once
