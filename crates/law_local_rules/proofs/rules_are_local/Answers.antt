-- The rules look at nothing of other modules but what counts.
use Rattle.law_local_rules.proofs.Whole.{rules_are_local}
use Rattle.law_local_rules.proofs.rules_are_local.Goals as goal

pub returns : goal.returns
returns c = rules_are_local
