-- What the rules owe of types.
use Rattle.law_program_image.proofs.Settled.{sound_are_settled}
use Rattle.law_program_image.proofs.Declared.{loaded_are_declared}
use Rattle.law_program_image.proofs.Fit.{loaded_types_fit}
use Rattle.law_program_image.proofs.loaded_types_fit.Goals as goal

pub returns-clause-settled : goal.returns-clause-settled
returns-clause-settled c = sound_are_settled

pub returns-clause-declared : goal.returns-clause-declared
returns-clause-declared c = loaded_are_declared

pub returns-clause-fit : goal.returns-clause-fit
returns-clause-fit c = loaded_types_fit
