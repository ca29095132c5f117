-- How deep what is read is nested.
use Rattle.law_spelling_names.proofs.Reading.{readings_within}
use Rattle.law_spelling_names.proofs.readings_are_within.Goals as goal

pub returns : goal.returns
returns c = readings_within
