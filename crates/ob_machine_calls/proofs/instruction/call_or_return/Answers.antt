use Rattle.ob_machine_calls.proofs.Less.{less}
use Rattle.ob_machine_calls.proofs.instruction.call_or_return.Goals as goal

pub returns-clause-less : goal.returns-clause-less
returns-clause-less c = λ e.
    let h = less c.args.image.now c.args.unit.now c.args.here.now c.come_to.new.here c.args.calls.now c.come_to.new.calls c.args.state.now c.come_to.new.state c.args.instr.op c.args.instr.a c.args.instr.b c.requires.call (rw e at c.come_to.ensures.comes) in
    h.0

pub returns-clause-units : goal.returns-clause-units
returns-clause-units c = λ e.
    let h = less c.args.image.now c.args.unit.now c.args.here.now c.come_to.new.here c.args.calls.now c.come_to.new.calls c.args.state.now c.come_to.new.state c.args.instr.op c.args.instr.a c.args.instr.b c.requires.call (rw e at c.come_to.ensures.comes) in
    h.1
