-- Bound procedures are introduced once.
use Rattle.law_program_typing.proofs.Whole.{introduced_once}
use Rattle.law_program_typing.proofs.introduced_once.Goals as goal

pub returns : goal.returns
returns c = introduced_once
