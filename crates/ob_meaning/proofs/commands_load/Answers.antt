use Rattle.ob_meaning.proofs.Loading.{loads}
use Rattle.ob_meaning.proofs.commands_load.Goals as goal

pub returns : goal.returns
returns c system plan heap turns q = loads system plan heap turns q
