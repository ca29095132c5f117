-- Bound procedures of builds that are loaded together.
use Rattle.law_builds_methods.proofs.belonging_laws.Loaded.{bound_there}
use Rattle.law_builds_methods.proofs.law_belonging.loaded_belong.Goals as goal

pub returns : goal.returns
returns c = bound_there
