-- Written types.
use Rattle.law_names_types.proofs.Written.{written_are_nested}
use Rattle.law_names_types.proofs.written_are_nested.Goals as goal

pub returns : goal.returns
returns c = written_are_nested
