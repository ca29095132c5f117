use Rattle.law_spelling.proofs.compiled_are_written.Goals as goal
use Rattle.law_spelling.proofs.Compiled.{compiled_written}

pub returns : goal.returns
returns c = compiled_written
