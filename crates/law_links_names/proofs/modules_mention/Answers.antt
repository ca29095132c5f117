-- What modules mention.
use Rattle.law_links_names.proofs.Modules.{modules_mention}
use Rattle.law_links_names.proofs.modules_mention.Goals as goal

pub returns : goal.returns
returns c = modules_mention
