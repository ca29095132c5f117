-- The words of globals.
use Rattle.law_load_plan.proofs.Globals.{globals_are}
use Rattle.law_load_plan.proofs.words_agree.Goals as goal

pub returns : goal.returns
returns c = globals_are
