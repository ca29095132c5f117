-- What the rules accept is well typed.
use Rattle.law_program_typing.proofs.Bodies.{accepted_is_well_typed}
use Rattle.law_program_typing.proofs.accepted_is_well_typed.Goals as goal

pub returns : goal.returns
returns c = accepted_is_well_typed
