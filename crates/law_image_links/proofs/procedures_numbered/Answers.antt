-- The law is the theorem of Few.
use Rattle.law_image_links.proofs.Few as few
use Rattle.law_image_links.proofs.procedures_numbered.Goals as goal

pub returns : goal.returns
returns c = few.numbered
