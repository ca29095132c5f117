-- The law is the theorem of SameFile.
use Rattle.law_image_links.proofs.SameFile as same
use Rattle.law_image_links.proofs.files_same.Goals as goal

pub returns : goal.returns
returns c = same.files_same
