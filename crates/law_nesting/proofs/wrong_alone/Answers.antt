use Rattle.law_nesting.proofs.Modules.{wrong_inside}
use Rattle.law_nesting.proofs.wrong_alone.Goals as goal

pub returns : goal.returns
returns c = λ d ts r h. wrong_inside d ts r h
