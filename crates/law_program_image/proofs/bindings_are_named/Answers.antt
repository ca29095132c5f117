-- The law.
use Rattle.law_program_image.proofs.Named.{bindings_are_named}
use Rattle.law_program_image.proofs.bindings_are_named.Goals as goal

pub returns : goal.returns
returns c = bindings_are_named
