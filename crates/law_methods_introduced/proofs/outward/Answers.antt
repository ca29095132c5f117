use Rattle.law_methods_introduced.proofs.outward.Goals as goal
use Rattle.law_methods_introduced.proofs.Exported.{outward_named}

pub returns : goal.returns
returns c = outward_named
