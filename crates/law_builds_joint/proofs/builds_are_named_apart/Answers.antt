use Rattle.law_builds_joint.proofs.Apart.{builds_are_named_apart}
use Rattle.law_builds_joint.proofs.builds_are_named_apart.Goals as goal

pub returns : goal.returns
returns c = builds_are_named_apart
