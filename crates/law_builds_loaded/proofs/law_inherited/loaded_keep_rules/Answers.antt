-- What the rules owe.
use Rattle.law_builds_loaded.proofs.inherited_laws.Loaded.{loaded_keep_rules}
use Rattle.law_builds_loaded.proofs.law_inherited.loaded_keep_rules.Goals as goal

pub returns : goal.returns
returns c = loaded_keep_rules
