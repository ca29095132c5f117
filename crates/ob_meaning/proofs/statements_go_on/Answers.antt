use Rattle.ob_meaning.proofs.Onward.{calls_keep, keep_execs}
use Rattle.ob_meaning.specs.Laws.{in_program}
use Rattle.ob_meaning.proofs.statements_go_on.Goals as goal

pub returns : goal.returns
returns c program heap n unit body s = (keep_execs (in_program program heap n unit) (calls_keep program heap n unit) body).at s
