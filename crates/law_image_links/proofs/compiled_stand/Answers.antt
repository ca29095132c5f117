-- The law is the theorem of Whole.
use Rattle.law_image_links.proofs.Whole as whole
use Rattle.law_image_links.proofs.compiled_stand.Goals as goal

pub returns : goal.returns
returns c = whole.compiled_stand
