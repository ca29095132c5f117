-- The law is the theorem of Whole.
use Rattle.law_program_image.proofs.Whole as whole
use Rattle.law_program_image.proofs.builds_stand.Goals as goal

pub returns : goal.returns
returns c = whole.builds_stand
