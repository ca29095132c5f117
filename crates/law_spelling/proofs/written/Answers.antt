use Rattle.law_spelling.proofs.written.Goals as goal
use Rattle.law_spelling.proofs.Interface.{interfaces_written}
use Rattle.law_spelling.proofs.File.{modules_written}

pub returns-clause-interfaces : goal.returns-clause-interfaces
returns-clause-interfaces c = interfaces_written

pub returns-clause-modules : goal.returns-clause-modules
returns-clause-modules c = modules_written
