use Rattle.ob_scheme.proofs.Ends.{expr_ends}
use Rattle.ob_scheme.proofs.expressions_end.Goals as goal

pub returns : goal.returns
returns c x w e pc = expr_ends x w e pc
