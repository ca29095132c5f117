use Rattle.law_spelling_values.proofs.written.Goals as goal
use Rattle.law_spelling_values.proofs.Left.{left_written}

pub returns : goal.returns
returns c = left_written
