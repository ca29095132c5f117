-- Bound procedures of builds that are loaded together.
use Rattle.law_builds_methods.proofs.likeness_laws.Loaded.{loaded_like}
use Rattle.law_builds_methods.proofs.law_likeness.loaded_are_like.Goals as goal

pub returns : goal.returns
returns c = loaded_like
