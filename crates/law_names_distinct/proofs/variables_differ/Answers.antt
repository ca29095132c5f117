-- The variables of a checked module have different names.
use Rattle.law_names_distinct.proofs.Blocks.{variables_differ}
use Rattle.law_names_distinct.proofs.variables_differ.Goals as goal

pub returns : goal.returns
returns c = variables_differ
