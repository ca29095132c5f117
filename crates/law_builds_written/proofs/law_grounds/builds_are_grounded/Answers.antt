-- Builds.
use Rattle.law_builds_written.proofs.grounds_laws.Builds.{builds_are_grounded}
use Rattle.law_builds_written.proofs.law_grounds.builds_are_grounded.Goals as goal

pub returns : goal.returns
returns c = builds_are_grounded
