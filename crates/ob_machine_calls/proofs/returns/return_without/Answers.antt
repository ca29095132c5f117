use Rattle.std.proofs.Common.{◌≡◌, Some, false, [], slice_get, ap, ◌∙◌}
use Rattle.std.specs.Prelude.{option_map}
use Rattle.ob_instr.specs.Rows.{Leave, Unable}
use Rattle.ob_instr.specs.Table.{come_to}
use Rattle.ob_machine_operands.specs.Effects.{world_of}
use Rattle.ob_machine_calls.proofs.Results.{tested}
use Rattle.ob_machine_calls.proofs.returns.return_without.Goals as goal

pub returns-clause-comes : goal.returns-clause-comes
returns-clause-comes c =
    let here = c.args.here.now in
    let procedures = c.args.unit.now.procedures in
    let has : Some false ≡ option_map (λ q. q.has_result) (slice_get procedures here.procedure) = rw c.if-has.false at c.in-Some.ensures in
    λ img u out.
    let w = world_of c.args.state.now out in
    ap (come_to img u here.unit here.procedure here.first c.args.waiting.now here.next w) (tested (slice_get procedures here.procedure) false Unable (Leave [] w) has) ∙ c.leave.ensures.comes img u out
