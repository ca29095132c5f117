-- Sequences of declarations.
use Rattle.law_names_types.proofs.Sequences.{sequences_are_nested}
use Rattle.law_names_types.proofs.sequences_are_nested.Goals as goal

pub returns : goal.returns
returns c = sequences_are_nested
