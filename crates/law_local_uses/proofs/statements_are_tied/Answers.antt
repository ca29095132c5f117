-- Statements.
use Rattle.law_local_uses.proofs.Whole.{statements_are_tied}
use Rattle.law_local_uses.proofs.statements_are_tied.Goals as goal

pub returns : goal.returns
returns c = statements_are_tied
