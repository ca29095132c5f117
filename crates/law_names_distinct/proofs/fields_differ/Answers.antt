-- The fields of each record of a checked module have different names.
use Rattle.law_names_distinct.proofs.FieldBlocks.{fields_differ}
use Rattle.law_names_distinct.proofs.fields_differ.Goals as goal

pub returns : goal.returns
returns c = fields_differ
