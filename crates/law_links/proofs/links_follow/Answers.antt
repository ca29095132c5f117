-- Links and uses.
use Rattle.law_links.proofs.Links.{links_are_used}
use Rattle.law_links.proofs.Bodies.{trees_are_used}
use Rattle.law_links.proofs.links_follow.Goals as goal

pub returns-clause-code : goal.returns-clause-code
returns-clause-code c = links_are_used

pub returns-clause-trees : goal.returns-clause-trees
returns-clause-trees c = trees_are_used
