-- Statements.
use Rattle.law_builds_seen.proofs.Whole.{statements_are_seen}
use Rattle.law_builds_seen.proofs.statements_are_seen.Goals as goal

pub returns : goal.returns
returns c = statements_are_seen
