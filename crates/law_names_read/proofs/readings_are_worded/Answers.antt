-- Readings.
use Rattle.law_names_read.proofs.Reading.{readings_are_worded}
use Rattle.law_names_read.proofs.readings_are_worded.Goals as goal

pub returns : goal.returns
returns c = readings_are_worded
