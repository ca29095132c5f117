-- Builds that are loaded together.
use Rattle.law_builds_types.proofs.encircled_laws.Encircled as encircled
use Rattle.law_builds_types.proofs.law_encircled.loaded_are_steady.Goals as goal

pub returns : goal.returns
returns c = encircled.loaded_are_steady
