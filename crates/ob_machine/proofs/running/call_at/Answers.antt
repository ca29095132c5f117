use Rattle.std.proofs.Common.{◌<◌, ◌≤◌, length, arith}
use Rattle.ob_machine.proofs.Legs.{goes_on, has_many, traps, is_spent, is_unable}
use Rattle.ob_machine.proofs.running.call_at.Goals as goal

pub returns-then-len-gt256-clause-does : goal.returns-then-len-gt256-clause-does
returns-then-len-gt256-clause-does c =
    let s = c.call_or_return.new.state in
    let many : 256 < length s.operands.items = omega (arith, c.if-len-gt256.true, c.len-in-Goes.ensures, s.operands.ok.0) in
    has_many c.args.image.now c.args.unit.now c.args.here.now c.call_or_return.new.here c.args.calls.now c.call_or_return.new.calls c.args.state.now s c.args.instr c.requires.at c.requires.room c.requires.instr c.in-Goes.ensures.comes many

pub returns-else-len-gt256-clause-does : goal.returns-else-len-gt256-clause-does
returns-else-len-gt256-clause-does c =
    let s = c.call_or_return.new.state in
    let few : length s.operands.items ≤ 256 = omega (arith, c.if-len-gt256.false, c.len-in-Goes.ensures, s.operands.ok.0) in
    goes_on c.args.image.now c.args.unit.now c.args.here.now c.call_or_return.new.here c.args.calls.now c.call_or_return.new.calls c.args.state.now s c.args.instr c.requires.at c.requires.room c.requires.instr c.in-Goes.ensures.comes few

pub returns-in-Traps-clause-does : goal.returns-in-Traps-clause-does
returns-in-Traps-clause-does c =
    let s = c.call_or_return.new.state in
    traps c.args.image.now c.args.unit.now c.args.here.now c.call_or_return.new.here c.args.calls.now c.call_or_return.new.calls c.args.state.now s c.args.instr c.in-Traps.kind c.requires.at c.requires.room c.requires.instr c.in-Traps.ensures.comes

pub returns-in-Spends-clause-does : goal.returns-in-Spends-clause-does
returns-in-Spends-clause-does c =
    let s = c.call_or_return.new.state in
    is_spent c.args.image.now c.args.unit.now c.args.here.now c.call_or_return.new.here c.args.calls.now c.call_or_return.new.calls c.args.state.now s c.args.instr c.requires.at c.requires.room c.requires.instr c.in-Spends.ensures.comes

pub returns-in-Unable-clause-does : goal.returns-in-Unable-clause-does
returns-in-Unable-clause-does c =
    let s = c.call_or_return.new.state in
    is_unable c.args.image.now c.args.unit.now c.args.here.now c.call_or_return.new.here c.args.calls.now c.call_or_return.new.calls c.args.state.now s c.args.instr c.requires.at c.requires.room c.requires.instr c.in-Unable.ensures.comes
