-- The law of extension.
use Rattle.law_extension.proofs.Gained as gained
use Rattle.law_extension.proofs.Compared.{only_added}
use Rattle.law_extension.proofs.extension.Goals as goal

pub returns-clause-extension : goal.returns-clause-extension
returns-clause-extension c = gained.extension

pub returns-clause-compared : goal.returns-clause-compared
returns-clause-compared c = only_added
