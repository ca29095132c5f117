use Rattle.law_spelling.proofs.named.Goals as goal
use Rattle.law_spelling.proofs.Reading.{readings_named}
use Rattle.law_spelling.proofs.RuleBlocks.{modules_are_named}

pub returns-clause-readings : goal.returns-clause-readings
returns-clause-readings c = readings_named

pub returns-clause-rules : goal.returns-clause-rules
returns-clause-rules c = modules_are_named
