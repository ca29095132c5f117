-- What values are.
use Rattle.law_program_image.proofs.Fit.{loaded_values_are}
use Rattle.law_program_image.proofs.loaded_values_are.Goals as goal

pub returns : goal.returns
returns c = loaded_values_are
