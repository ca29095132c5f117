use Rattle.std.proofs.Common.{arith}
use Rattle.ob_instr.specs.declared.procedure.Param.TheVariants as param
use Rattle.ob_machine_calls.proofs.Copied.{copies_step, left_step, slots_step}
use Rattle.ob_machine_calls.proofs.entering.make_copies.Goals as goal

pub loop-kinds-preserved : goal.loop-kinds-preserved
loop-kinds-preserved c =
    let i = c.loop-kinds.invariant in
    let s = slots_step c.loop-kinds.kinds.now param.Scalar c.in-len1-up.len_at_least in
    let l = left_step _ c.in-Some.count c.loop-kinds.left c.slots-slots.result c.loop-kinds.kinds.now param.Scalar c.loop-kinds.rest.now c.in-len1-up.len_at_least c.in-Some.ensures.size c.slots-slots.ensures i.copies in
    record {
      makes = rw c.behind-rest.ensures (copies_step _ c.in-Some.count c.slots-slots.result c.loop-kinds.place c.loop-kinds.free c.loop-kinds.words c.make_copy.new.words _ c.loop-kinds.kinds.now param.Scalar c.loop-kinds.rest.now c.in-len1-up.len_at_least c.in-Some.ensures.size c.slots-slots.ensures c.make_copy.ensures.after i.makes);
      some = omega (arith, i.some);
      slots = omega (arith, i.slots, c.slots-slots.ensures, s.0);
      copies = rw (c.make_copy.ensures.same, c.behind-rest.ensures) l.1;
      room = omega (arith, i.room, l.0);
    }
