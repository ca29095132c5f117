-- All commands of a session run by the table as they are meant.
use Rattle.law_simulation.proofs.Whole.{command_simulates, body_simulates}
use Rattle.law_program_runs.specs.Laws.{CommandsFollow}
use Rattle.law_program_runs.proofs.Commands.{commands_stand}

pub commands_follow : CommandsFollow
commands_follow b commands s settings = commands_stand command_simulates body_simulates b s settings.most_heap commands
