use Rattle.ob_env.proofs.Prints.{print_none, print_some}
use Rattle.ob_env.proofs.env.Env.print_of.Goals as goal

pub returns-in-None : goal.returns-in-None
returns-in-None c = print_none c.args.self.now c.args.name.now c.args.aspect c.faces.ensures.prints c.in-None.ensures

pub returns-in-Some : goal.returns-in-Some
returns-in-Some c = print_some c.args.self.now c.args.name.now c.args.aspect c.in-Some.object.now c.carried.result c.faces.ensures.prints c.in-Some.ensures c.carried.ensures
