-- Builds.
use Rattle.law_builds_seen.proofs.Builds.{modules_see}
use Rattle.law_builds_seen.proofs.modules_see.Goals as goal

pub returns : goal.returns
returns c = modules_see
