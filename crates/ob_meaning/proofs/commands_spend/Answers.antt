use Rattle.ob_meaning.proofs.Spending.{spends}
use Rattle.ob_meaning.proofs.commands_spend.Goals as goal

pub returns : goal.returns
returns c system plan heap turns q = spends system plan heap turns q
