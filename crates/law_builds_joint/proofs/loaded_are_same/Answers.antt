use Rattle.law_builds_joint.proofs.Loaded.{loaded_are_same}
use Rattle.law_builds_joint.proofs.loaded_are_same.Goals as goal

pub returns : goal.returns
returns c = loaded_are_same
