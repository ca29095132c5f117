-- The law is the theorem of Counted.
use Rattle.law_image_tables.proofs.Counted as counted
use Rattle.law_image_tables.proofs.families_from_declarations.Goals as goal

pub returns : goal.returns
returns c = counted.families_from_declarations
