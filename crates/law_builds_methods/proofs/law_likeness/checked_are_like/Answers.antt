-- Bound procedures of a checked module.
use Rattle.law_builds_methods.proofs.likeness_laws.Modules.{checked_like}
use Rattle.law_builds_methods.proofs.law_likeness.checked_are_like.Goals as goal

pub returns : goal.returns
returns c = checked_like
