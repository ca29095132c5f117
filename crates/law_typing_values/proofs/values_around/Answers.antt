-- Values around a part of a text.
use Rattle.law_typing_values.proofs.Around.{values_around}
use Rattle.law_typing_values.proofs.values_around.Goals as goal

pub returns : goal.returns
returns c = values_around
