use Rattle.std.proofs.Common.{None}
use Rattle.ob_cexpr_operand.proofs.TestLaws.{record_named}
use Rattle.ob_cexpr_operand.proofs.tests.pointed_by.Goals as goal

pub returns-in-None : goal.returns-in-None
returns-in-None g c = record_named (g.T.Types.types c.args.types.now) c.args.x.now None c.in-None.ensures
