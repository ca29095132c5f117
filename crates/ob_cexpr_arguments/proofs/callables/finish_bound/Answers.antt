use Rattle.ob_rules.specs.Judged.{no_notes}
use Rattle.ob_cexpr_arguments.proofs.JudgedLaws.{muted_node, muted_noted}
use Rattle.ob_cexpr_arguments.proofs.callables.finish_bound.Goals as goal
use Rattle.ob_rules.specs.declared.broken.Rule.TheVariants as rule

pub returns-clause-made : goal.returns-clause-made
returns-clause-made c = muted_node c.args.broken rule.NotChangeable c.args.at no_notes _ c.in_ok-call.call _ c.in_ok-call.ensures.made (c.unless_broken.ensures rule.NotChangeable c.args.at no_notes)

pub returns-clause-noted : goal.returns-clause-noted
returns-clause-noted c = muted_noted c.args.broken _ _ _ c.in_ok-call.ensures.noted
