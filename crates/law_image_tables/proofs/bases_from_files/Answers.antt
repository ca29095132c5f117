-- The law is the theorem of Entering.
use Rattle.law_image_tables.proofs.Entering as entering
use Rattle.law_image_tables.proofs.bases_from_files.Goals as goal

pub returns : goal.returns
returns c = entering.bases_from_files
