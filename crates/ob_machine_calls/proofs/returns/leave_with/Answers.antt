use Rattle.std.proofs.Common.{rules, refl, ap, ◌∙◌, ◌∷◌, arith}
use Rattle.std.specs.Prelude.{reverse}
use Rattle.std.proofs.lemmas.Int.{to_z-of_z}
use mir.Syntax.{w32}
use mir.Val.{SFits}
use Rattle.ob_machine_calls.proofs.Results.{returned, kept}
use Rattle.ob_machine_calls.proofs.returns.leave_with.Goals as goal

pub returns-in-Goes-clause-comes : goal.returns-in-Goes-clause-comes
returns-in-Goes-clause-comes c =
    let g : SFits w32 c.args.given = search rules in
    λ img. returned img c.args.here.now c.leave.new.here c.args.waiting.now c.leave.new.waiting c.args.state.now c.leave.new.state (record c.leave.new.state { operands = c.put.new.operands }) c.args.given (c.in-Goes.ensures.comes img) (c.put.ensures.items ∙ ap (λ v. v ∷ reverse c.leave.new.state.operands.items) (to_z-of_z w32 c.args.given g)) refl refl refl

pub returns-in_default : goal.returns-in_default
returns-in_default c = record {
  comes = λ img. kept img c.args.here.now c.leave.new.here c.args.waiting.now c.leave.new.waiting c.args.state.now c.leave.new.state c.args.given c.leave.result c.in_default.not-Goes (c.leave.ensures.comes img);
  few = omega (arith, c.leave.ensures.few);
  capacity = c.leave.ensures.capacity;
  first = c.leave.ensures.first;
  stack = c.leave.ensures.stack;
}
