-- What values are.
use Rattle.law_typing_values.proofs.Values.{values_fit}
use Rattle.law_typing_values.proofs.values_fit.Goals as goal

pub returns : goal.returns
returns c = values_fit
