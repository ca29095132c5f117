-- Values stay values.
use Rattle.law_typing_values.proofs.Stays.{values_stay}
use Rattle.law_typing_values.proofs.values_stay.Goals as goal

pub returns : goal.returns
returns c = values_stay
