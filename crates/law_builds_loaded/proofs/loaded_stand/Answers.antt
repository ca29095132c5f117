-- Each module stands over those before it.
use Rattle.law_builds_loaded.proofs.Loaded.{loaded_stand}
use Rattle.law_builds_loaded.proofs.loaded_stand.Goals as goal

pub returns : goal.returns
returns c = loaded_stand
