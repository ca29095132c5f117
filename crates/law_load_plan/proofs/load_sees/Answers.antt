-- What a load has seen to.
use Rattle.law_load_plan.proofs.FilesSeen.{load_sees}
use Rattle.law_load_plan.proofs.load_sees.Goals as goal

pub returns : goal.returns
returns c = load_sees
