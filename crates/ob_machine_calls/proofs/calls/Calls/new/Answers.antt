use Rattle.std.proofs.Common.{refl, arith}
use Rattle.ob_machine_calls.proofs.calls.Calls.new.Goals as goal

pub invariant_of-result : goal.invariant_of-result
invariant_of-result c = record {
  counted = rw (c.in_ok-waiting.ensures.items, c.in_ok-operands.ensures.items) refl;
  few = rw c.in_ok-waiting.ensures.items (omega arith);
  room = c.in_ok-waiting.ensures.capacity;
  operands = c.in_ok-operands.ensures.capacity;
}

pub returns : goal.returns
returns c = rw c.in_ok-waiting.ensures.items refl
