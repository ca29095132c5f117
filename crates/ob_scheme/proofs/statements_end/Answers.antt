use Rattle.ob_scheme.proofs.Ends.{stmts_end}
use Rattle.ob_scheme.proofs.statements_end.Goals as goal

pub returns : goal.returns
returns c x s pc t y = stmts_end x s pc t y
