-- The object files of builds that go together can be entered.
use Rattle.law_load_enter.proofs.Entering.{files_enter}
use Rattle.law_load_enter.proofs.files_enter.Goals as goal

pub returns : goal.returns
returns c = files_enter
