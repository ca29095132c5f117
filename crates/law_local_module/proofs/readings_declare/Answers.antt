-- Each declaration of variables declares one at least.
use Rattle.law_local_module.proofs.Texts.{readings_declare}
use Rattle.law_local_module.proofs.readings_declare.Goals as goal

pub returns : goal.returns
returns c = readings_declare
