-- The places and strings of what is read.
use Rattle.law_spelling_read.proofs.PlacedTrees.{readings_placed}
use Rattle.law_spelling_read.proofs.readings_are_placed.Goals as goal

pub returns : goal.returns
returns c = readings_placed
