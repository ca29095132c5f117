-- Headings.
use Rattle.law_names_types.proofs.Plain.{headings_are_once}
use Rattle.law_names_types.proofs.headings_are_once.Goals as goal

pub returns : goal.returns
returns c = headings_are_once
