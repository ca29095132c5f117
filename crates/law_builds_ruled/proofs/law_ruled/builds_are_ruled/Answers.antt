-- Builds.
use Rattle.law_builds_ruled.proofs.ruled_laws.Builds.{builds_keep_rules}
use Rattle.law_builds_ruled.proofs.law_ruled.builds_are_ruled.Goals as goal

pub returns : goal.returns
returns c = builds_keep_rules
