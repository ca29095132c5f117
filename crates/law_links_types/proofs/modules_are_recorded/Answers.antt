-- Record types.
use Rattle.law_links_types.proofs.Modules.{modules_recorded}
use Rattle.law_links_types.proofs.modules_are_recorded.Goals as goal

pub returns : goal.returns
returns c = modules_recorded
