-- The numbers of commands.
use Rattle.law_load_plan.proofs.Numbered.{commands_numbered}
use Rattle.law_load_plan.proofs.commands_are_numbered.Goals as goal

pub returns : goal.returns
returns c = commands_numbered
