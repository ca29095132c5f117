use Rattle.std.proofs.Common.{◌≡◌, ◌+◌, ◌-◌, length, ap, ◌∙◌, arith}
use Rattle.ob_instr.specs.Parts.{slots}
use Rattle.ob_instr.specs.Table.{come_to}
use Rattle.ob_machine_operands.specs.Effects.{world_of}
use Rattle.ob_machine_calls.proofs.Operands.{with_is}
use Rattle.ob_machine_calls.proofs.rows.call_with.Goals as goal

pub returns-clause-comes : goal.returns-clause-comes
returns-clause-comes c =
    let s = c.args.state.now in
    let here = c.args.here.now in
    let q = c.args.q.now in
    let n = c.slots-slots.result in
    let en : n ≡ slots q.params = c.slots-slots.ensures in
    let e : c.len-len.result - n + n ≡ length s.operands.items = omega (arith, c.len-len.ensures, s.operands.ok.0) in
    λ u out. ap (come_to c.args.image.now u here.unit here.procedure here.first c.args.waiting.now here.next (world_of s out)) (with_is c.args.image.now c.args.r q s.operands.items n (c.len-len.result - n) (world_of s out) c.requires.found en e) ∙ c.call.ensures.comes u out
