-- The statements of what is read fit.
use Rattle.law_spelling_stmts.proofs.Whole.{modules_fit}
use Rattle.law_spelling_stmts.proofs.statements_fit.Goals as goal

pub returns : goal.returns
returns c = modules_fit
