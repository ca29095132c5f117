use Rattle.std.proofs.Common.{refl}
use Rattle.ob_types.specs.TypedView.{stmts_view}
use Rattle.ob_gproc_operands.proofs.Few.{few_told}
use Rattle.ob_gproc_operands.proofs.limits.is_few.Goals as goal

pub returns : goal.returns
returns c = λ x. few_told x (stmts_view c.args.body.now) c.operands_of_stmts.result _ c.operands_of_stmts.ensures refl
