use Rattle.law_builds.proofs.Gathered.{afresh_so}
use Rattle.law_builds.proofs.taken_afresh.Goals as goal

pub returns : goal.returns
returns c = afresh_so
