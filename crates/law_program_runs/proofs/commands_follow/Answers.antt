use Rattle.law_program_runs.proofs.Whole as whole
use Rattle.law_program_runs.proofs.commands_follow.Goals as goal

pub returns : goal.returns
returns c = whole.commands_follow
