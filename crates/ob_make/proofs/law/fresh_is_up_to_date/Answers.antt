use Rattle.ob_make.proofs.Fresh.{fresh_is_up_to_date}
use Rattle.ob_make.proofs.law.fresh_is_up_to_date.Goals as goal

pub returns : goal.returns
returns c = λ files x e. fresh_is_up_to_date files x e
