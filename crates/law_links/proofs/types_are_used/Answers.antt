-- Links to record types.
use Rattle.law_links.proofs.Types.{compiled_types}
use Rattle.law_links.proofs.types_are_used.Goals as goal

pub returns : goal.returns
returns c = compiled_types
