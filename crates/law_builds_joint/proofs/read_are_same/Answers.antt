use Rattle.law_builds_joint.proofs.Walk.{read_are_same}
use Rattle.law_builds_joint.proofs.read_are_same.Goals as goal

pub returns : goal.returns
returns c = read_are_same
