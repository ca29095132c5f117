-- The names of types.
use Rattle.law_spelling_names.proofs.Whole.{sound_names_are_short}
use Rattle.law_spelling_names.proofs.names_are_short.Goals as goal

pub returns : goal.returns
returns c = sound_names_are_short
