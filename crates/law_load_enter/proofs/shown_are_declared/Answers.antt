-- Types that builds show.
use Rattle.law_load_enter.proofs.Shown.{shown_are_declared}
use Rattle.law_load_enter.proofs.shown_are_declared.Goals as goal

pub returns : goal.returns
returns c = shown_are_declared
