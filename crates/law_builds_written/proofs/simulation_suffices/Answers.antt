use Rattle.law_builds_written.proofs.Upheld.{simulation_suffices}
use Rattle.law_builds_written.proofs.simulation_suffices.Goals as goal

pub returns : goal.returns
returns c = simulation_suffices
