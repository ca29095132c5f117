-- The names of types of valid builds.
use Rattle.law_builds_written.proofs.short_builds_laws.Builds.{builds_short}
use Rattle.law_builds_written.proofs.law_short_builds.builds_have_short_names.Goals as goal

pub returns : goal.returns
returns c = builds_short
