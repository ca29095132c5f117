-- A procedure has the variables that FOR and CASE keep.
use Rattle.law_body_context.proofs.Held.{hidden_stand}
use Rattle.law_body_context.proofs.hidden_are_kept.Goals as goal

pub returns : goal.returns
returns c = hidden_stand
