use Rattle.ob_compile.proofs.Sized.{many_operands, few_operands}
use Rattle.ob_compile.proofs.limits.sized.Goals as goal

pub returns-in-Some : goal.returns-in-Some
returns-in-Some c = many_operands c.args.view.now.env.now c.args.view.now.«module».now c.module.result.now c.in-Some.which c.over_limit.result c.module.ensures c.in-Some.ensures c.over_limit.ensures

pub returns-in-None : goal.returns-in-None
returns-in-None c = few_operands c.args.view.now.env.now c.args.view.now.«module».now c.module.result.now c.coded.result c.module.ensures c.in-None.ensures c.coded.ensures
