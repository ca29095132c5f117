-- Names.
use Rattle.law_builds_bodies.proofs.built_laws.Reading.{readings_are_lettered}
use Rattle.law_builds_bodies.proofs.law_built.readings_are_lettered.Goals as goal

pub returns : goal.returns
returns c = readings_are_lettered
