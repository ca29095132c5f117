use Rattle.law_spelling_read.proofs.strings.Goals as goal
use Rattle.law_spelling_read.proofs.Trees.{readings_spelled}

pub returns : goal.returns
returns c = readings_spelled
