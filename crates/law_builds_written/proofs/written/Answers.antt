use Rattle.law_builds_written.proofs.Upheld.{builds_are_written}
use Rattle.law_builds_written.proofs.written.Goals as goal

pub returns : goal.returns
returns c = builds_are_written
