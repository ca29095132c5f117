-- The law is the theorem of Loaded.
use Rattle.law_image_tables.proofs.Loaded as loaded
use Rattle.law_image_tables.proofs.tables_from_files.Goals as goal

pub returns : goal.returns
returns c = loaded.tables_from_files
