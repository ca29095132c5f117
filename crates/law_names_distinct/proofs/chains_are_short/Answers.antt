-- Chains of types are short where the limit of depth is kept.
use Rattle.law_names_distinct.proofs.Short.{chains_are_short}
use Rattle.law_names_distinct.proofs.chains_are_short.Goals as goal

pub returns : goal.returns
returns c = chains_are_short
