-- Headings.
use Rattle.law_names_types.proofs.Heads.{headings_differ}
use Rattle.law_names_types.proofs.headings_differ.Goals as goal

pub returns : goal.returns
returns c = headings_differ
