-- The numbers of bound procedures.
use Rattle.law_program_image.proofs.Numbered.{methods_are_numbered}
use Rattle.law_program_image.proofs.methods_are_numbered.Goals as goal

pub returns : goal.returns
returns c = methods_are_numbered
