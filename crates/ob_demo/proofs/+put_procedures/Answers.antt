use Rattle.std.proofs.Common.{rules}
use Rattle.ob_demo.proofs.+put_procedures.Goals as goal
use Rattle.ob_demo.proofs.More.{one_more}

pub returns : goal.returns
returns t c = one_more {b = c.put_procedure.new.out.items} c.args.from c.args.count c.if-count-eq0.false (search rules) (search rules)
