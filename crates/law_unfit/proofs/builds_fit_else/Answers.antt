-- The law.
use Rattle.law_unfit.proofs.Whole as whole
use Rattle.law_unfit.proofs.builds_fit_else.Goals as goal

pub returns : goal.returns
returns c = whole.builds_fit_else
