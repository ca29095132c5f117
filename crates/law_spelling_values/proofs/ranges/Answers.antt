use Rattle.law_spelling_values.proofs.ranges.Goals as goal
use Rattle.law_spelling_values.proofs.Shown.{spelled_shown}
use Rattle.law_spelling_values.proofs.Checked.{modules_in_range}
use Rattle.law_spelling_values.proofs.Compiled.{compiled_in_range}

pub returns-clause-shown : goal.returns-clause-shown
returns-clause-shown c = spelled_shown

pub returns-clause-modules : goal.returns-clause-modules
returns-clause-modules c = modules_in_range

pub returns-clause-compiled : goal.returns-clause-compiled
returns-clause-compiled c = compiled_in_range
