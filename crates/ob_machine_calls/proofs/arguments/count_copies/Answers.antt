use Rattle.std.proofs.Common.{◌≡◌, ◌-◌, length, ap, ◌∙◌, arith}
use Rattle.std.proofs.lemmas.List.{length-drop}
use Rattle.ob_instr.specs.declared.procedure.Param.TheVariants as param
use Rattle.ob_machine_calls.proofs.Copied.{counted_step, slots_step}
use Rattle.ob_machine_calls.proofs.arguments.count_copies.Goals as goal

pub loop-kinds-preserved : goal.loop-kinds-preserved
loop-kinds-preserved c =
    let i = c.loop-kinds.invariant in
    let s = slots_step c.loop-kinds.kinds.now param.Scalar c.in-len1-up.len_at_least in
    let n : length c.behind-rest.result.now ≡ length c.loop-kinds.rest.now - c.slots.result = ap length c.behind-rest.ensures ∙ length-drop c.slots.result c.loop-kinds.rest.now in
    record {
      counts = rw c.behind-rest.ensures (counted_step _ c.loop-kinds.total c.in-Some.count c.slots.result c.loop-kinds.kinds.now param.Scalar c.loop-kinds.rest.now _ c.in-len1-up.len_at_least c.in-Some.ensures.size c.slots.ensures i.counts);
      few = omega (arith, i.few, c.in-Some.ensures.few, c.in-Some.ensures.there, c.slots.ensures, n, s.1);
      short = i.short;
      slots = omega (arith, i.slots, c.in-Some.ensures.there, c.slots.ensures, n, s.0);
    }
