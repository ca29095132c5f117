use Rattle.ob_uses.proofs.Holding.{view_held}
use Rattle.ob_uses.proofs.laws.view_is_held.Goals as goal

pub returns : goal.returns
returns c = λ faces m. view_held faces m
