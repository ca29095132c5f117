-- The example is worked out in Matching.
use Rattle.law_simulation.proofs.Matching as matching
use Rattle.law_simulation.proofs.types_match.Goals as goal

pub returns : goal.returns
returns c = matching.matching
