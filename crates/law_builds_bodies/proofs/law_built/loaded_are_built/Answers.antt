-- Builds.
use Rattle.law_builds_bodies.proofs.built_laws.Built.{loaded_are_built}
use Rattle.law_builds_bodies.proofs.law_built.loaded_are_built.Goals as goal

pub returns : goal.returns
returns c = loaded_are_built
