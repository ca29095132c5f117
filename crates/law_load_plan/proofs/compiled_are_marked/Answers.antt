-- What the rules say of a module that compiles.
use Rattle.law_load_plan.proofs.Checked.{compiled_marked}
use Rattle.law_load_plan.proofs.compiled_are_marked.Goals as goal

pub returns : goal.returns
returns c = compiled_marked
