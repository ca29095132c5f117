use Rattle.ob_meaning.proofs.Onward.{calls_keep, keep_value}
use Rattle.ob_meaning.specs.Laws.{in_program}
use Rattle.ob_meaning.proofs.expressions_go_on.Goals as goal

pub returns : goal.returns
returns c program heap n unit e s = (keep_value (in_program program heap n unit) (calls_keep program heap n unit) e).at s
