-- What commands object files have.
use Rattle.law_load_enter.proofs.Law.{files_have_commands}
use Rattle.law_load_enter.proofs.files_have_commands.Goals as goal

pub returns : goal.returns
returns c = files_have_commands
