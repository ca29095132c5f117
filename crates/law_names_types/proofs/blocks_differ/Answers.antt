-- Sequences of declarations.
use Rattle.law_names_types.proofs.Blocks.{blocks_differ}
use Rattle.law_names_types.proofs.blocks_differ.Goals as goal

pub returns : goal.returns
returns c = blocks_differ
