-- The names in each procedure of a checked module differ.
use Rattle.law_names_distinct.proofs.Procedures.{procedures_have_names}
use Rattle.law_names_distinct.proofs.procedures_have_names.Goals as goal

pub returns : goal.returns
returns c = procedures_have_names
