-- The example is worked out in Sum.
use Rattle.law_simulation.proofs.Sum as sum
use Rattle.law_simulation.proofs.example.Goals as goal

pub returns : goal.returns
returns c = sum.example
