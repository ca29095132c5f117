use Rattle.std.proofs.Common.{sym, ◌∙◌}
use Rattle.ob_link.proofs.Planned.{out_planned, walk_planned, fault_planned}
use Rattle.ob_link.proofs.planning.plan.Goals as goal

pub returns-then-is_out-clause-plans : goal.returns-then-is_out-clause-plans
returns-then-is_out-clause-plans g c = λ told fs l. out_planned (g.F.Shelf.files c.args.folder.now) fs c.args.«module».now c.args.command.now (sym c.is_out.ensures ∙ c.if-is_out.true)

pub returns-in-Ok-clause-plans : goal.returns-in-Ok-clause-plans
returns-in-Ok-clause-plans g c = λ told fs l. walk_planned (g.F.Shelf.files c.args.folder.now) fs c.in-Ok.walk.files c.args.«module».now c.args.command.now c.finish.result (sym c.is_out.ensures ∙ c.if-is_out.false) (c.in-Ok.ensures.walked told fs l) (c.finish.ensures.plans fs l)

pub returns-in-Err-clause-plans : goal.returns-in-Err-clause-plans
returns-in-Err-clause-plans g c = λ told fs l. fault_planned (g.F.Shelf.files c.args.folder.now) fs c.args.«module».now c.args.command.now c.in-Err.fault (sym c.is_out.ensures ∙ c.if-is_out.false) (c.in-Err.ensures.walked told fs l)
