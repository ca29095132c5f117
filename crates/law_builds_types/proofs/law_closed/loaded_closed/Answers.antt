-- What builds show is closed.
use Rattle.law_builds_types.proofs.closed_laws.Loaded.{loaded_closed}
use Rattle.law_builds_types.proofs.law_closed.loaded_closed.Goals as goal

pub returns : goal.returns
returns c = loaded_closed
