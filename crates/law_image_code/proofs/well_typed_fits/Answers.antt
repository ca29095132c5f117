use Rattle.law_image_code.proofs.FittingStatements.{typed_statements_fit}
use Rattle.law_image_code.proofs.well_typed_fits.Goals as goal

pub returns : goal.returns
returns c = typed_statements_fit
