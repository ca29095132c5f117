-- The law is the theorem of Settled.
use Rattle.law_image_tables.proofs.Settled as settled
use Rattle.law_image_tables.proofs.types_from_declarations.Goals as goal

pub returns : goal.returns
returns c = settled.types_from_declarations
