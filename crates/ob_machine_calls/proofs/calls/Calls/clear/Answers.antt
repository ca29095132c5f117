use Rattle.std.proofs.Common.{refl, arith}
use Rattle.ob_machine_calls.proofs.calls.Calls.clear.Goals as goal

pub invariant_of-self : goal.invariant_of-self
invariant_of-self c = record {
  counted = rw (c.clear.ensures.items, c.clear-2.ensures.items) refl;
  few = rw c.clear.ensures.items (omega arith);
  room = omega (arith, c.clear.ensures.capacity, c.self.invariant.room);
  operands = omega (arith, c.clear-2.ensures.capacity, c.self.invariant.operands);
}

pub returns : goal.returns
returns c = rw c.clear.ensures.items refl
