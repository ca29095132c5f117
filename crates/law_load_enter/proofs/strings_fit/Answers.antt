-- The strings of object files.
use Rattle.law_load_enter.proofs.Strings.{strings_fit}
use Rattle.law_load_enter.proofs.strings_fit.Goals as goal

pub returns : goal.returns
returns c = strings_fit
