-- The law is the theorem of Image.
use Rattle.law_image_tables.proofs.Image as image
use Rattle.law_image_tables.proofs.program_from_files.Goals as goal

pub returns : goal.returns
returns c = image.program_from_files
