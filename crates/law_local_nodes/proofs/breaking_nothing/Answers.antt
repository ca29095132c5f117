-- What breaks no rule has a node.
use Rattle.law_local_nodes.proofs.Statements.{statements_there}
use Rattle.law_local_nodes.proofs.breaking_nothing.Goals as goal

pub returns : goal.returns
returns c = statements_there
