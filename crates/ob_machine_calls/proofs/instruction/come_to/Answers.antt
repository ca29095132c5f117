use Rattle.std.proofs.Common.{ap, ◌∙◌}
use Rattle.ob_instr.specs.Table.{come_to, row}
use Rattle.ob_machine_operands.specs.Effects.{ops_of, world_of}
use Rattle.ob_machine_calls.proofs.instruction.come_to.Goals as goal

pub returns-in-RetV-clause-comes : goal.returns-in-RetV-clause-comes
returns-in-RetV-clause-comes c =
    let here = c.args.here.now in
    let i = c.args.instr in
    let s = c.args.state.now in
    λ u out. ap (λ o. come_to c.args.image.now u here.unit here.procedure here.first c.args.calls.now here.next (world_of s out) (row c.args.image.now c.args.unit.now here.unit here.procedure here.first here.next o i.a i.b (ops_of s) (world_of s out))) c.in-RetV.is ∙ c.return_with.ensures.comes c.args.image.now u out
