-- The heads of procedures.
use Rattle.law_builds_types.proofs.closed_laws.Heads.{heads_ruled}
use Rattle.law_builds_types.proofs.law_closed.heads_ruled.Goals as goal

pub returns : goal.returns
returns c = heads_ruled
