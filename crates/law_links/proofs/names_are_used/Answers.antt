-- Links to variables and procedures.
use Rattle.law_links.proofs.Names.{compiled_used}
use Rattle.law_links.proofs.names_are_used.Goals as goal

pub returns : goal.returns
returns c = compiled_used
