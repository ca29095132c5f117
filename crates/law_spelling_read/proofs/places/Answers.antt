use Rattle.law_spelling_read.proofs.places.Goals as goal
use Rattle.law_spelling_read.proofs.Modules.{places_rise}

pub returns : goal.returns
returns c = places_rise
