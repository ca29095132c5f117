-- That all commands of a session run by the table as they are meant.
use Rattle.ob_builds.specs.Simulated.{Simulation}
use Rattle.law_program_runs.specs.Builds.{BuildsStand}

-- The law of simulation for all commands, from what is asked of builds.
abbrev pub CommandsFollow : Type 0
CommandsFollow = BuildsStand → Simulation
