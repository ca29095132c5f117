-- What of the headline's premises is left.
use Rattle.ob_builds.specs.Simulated.{Simulation}
use Rattle.ob_builds.specs.Promises.{Promises}

-- that commands by the machine's table are those of the meaning
abbrev pub SimulationSuffices : Type 0
SimulationSuffices = Simulation → Promises
