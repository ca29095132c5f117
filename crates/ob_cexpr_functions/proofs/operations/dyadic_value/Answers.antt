use Rattle.std.proofs.Common.{◌∙◌}
use Rattle.ob_rules.specs.Operators.{dyadic}
use Rattle.ob_cexpr_functions.proofs.CalledLaws.{as_call}
use Rattle.ob_cexpr_functions.proofs.operations.dyadic_value.Goals as goal

pub returns-in-Some-clause-noted : goal.returns-in-Some-clause-noted
returns-in-Some-clause-noted c = c.in_ok-dyadic.ensures.noted ∙ as_call c.args.book.now (dyadic c.args.op c.args.at c.args.x c.args.n)
