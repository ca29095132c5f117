use Rattle.std.proofs.Common.{◌-◌, length, rules, sym, ap, ◌∙◌, arith}
use Rattle.std.proofs.lemmas.Int.{to_z-of_z}
use mir.Syntax.{w32}
use mir.Val.{SFits}
use Rattle.ob_machine_calls.proofs.Starts.{last_is, none_is}
use Rattle.ob_machine_calls.proofs.returns.last.Goals as goal

pub returns : goal.returns
returns c =
    let v : SFits w32 c.operand.result = search rules in
    λ k. last_is c.args.operands.now (length c.args.operands.now - 1) c.operand.result k (omega (arith, c.if-len-eq0.false)) c.operand.ensures ∙ ap k (sym (to_z-of_z w32 c.operand.result v))

pub returns-then-len-eq0 : goal.returns-then-len-eq0
returns-then-len-eq0 c = λ k. none_is c.args.operands.now k (omega (arith, c.if-len-eq0.true))
