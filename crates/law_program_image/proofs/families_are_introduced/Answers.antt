-- The law.
use Rattle.law_program_image.proofs.Introduced.{families_are_introduced}
use Rattle.law_program_image.proofs.families_are_introduced.Goals as goal

pub returns : goal.returns
returns c = families_are_introduced
