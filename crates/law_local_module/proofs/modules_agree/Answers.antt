-- Modules are judged the same with other interfaces around.
use Rattle.law_local_module.proofs.Modules.{modules_agree}
use Rattle.law_local_module.proofs.modules_agree.Goals as goal

pub returns : goal.returns
returns c = modules_agree
