use Rattle.std.proofs.Common.{rules, ◌≡◌, ◌+◌, ◌-◌, Some, None, ap, ◌∙◌, arith, refl, length, pos, sym, to_z, of_z}
use Rattle.std.proofs.lemmas.Int.{to_z-of_z}
use mir.Syntax.{w32}
use mir.Val.{SFits}
use Rattle.ob_instr.specs.Rows.{proc_of_value}
use Rattle.ob_machine_calls.specs.Starts.{start_of}
use Rattle.ob_machine_calls.proofs.Starts.{value_found, value_called}
use Rattle.ob_machine_calls.proofs.methods.of_value.Goals as goal

pub returns-then-value-eq0-clause-effect : goal.returns-then-value-eq0-clause-effect
returns-then-value-eq0-clause-effect c = λ img w.
    let a : SFits w32 c.args.instr.a = search rules in
    let from = c.in-Some.from in
    let one : from ≡ (from - 1) + 1 = omega (arith, c.if-from-eq0.false) in
    let f : SFits w32 c.operand-value.result = search rules in
    let zero : c.operand-value.result ≡ pos 0 = sym (to_z-of_z w32 c.operand-value.result f) ∙ ap (to_z w32) c.if-value-eq0.true in
    value_found img c.args.operands.now w c.args.instr.a from (from - 1) c.operand-value.result (c.in-Some.ensures.start ∙ ap (λ z. start_of (length c.args.operands.now) z 0) (to_z-of_z w32 c.args.instr.a a)) one c.operand-value.ensures ∙ rw zero refl

pub returns-in_default-procedure_of_value-clause-effect : goal.returns-in_default-procedure_of_value-clause-effect
returns-in_default-procedure_of_value-clause-effect c = λ img w.
    let a : SFits w32 c.args.instr.a = search rules in
    let from = c.in-Some.from in
    let one : from ≡ (from - 1) + 1 = omega (arith, c.if-from-eq0.false) in
    let v : SFits w32 c.operand-value.result = search rules in
    value_called img c.args.operands.now w c.args.instr.a from (from - 1) c.operand-value.result None (c.in-Some.ensures.start ∙ ap (λ z. start_of (length c.args.operands.now) z 0) (to_z-of_z w32 c.args.instr.a a)) one c.operand-value.ensures (λ z. c.if-value-eq0.false (ap (of_z w32) z)) (c.in_default-procedure_of_value.ensures ∙ ap proc_of_value (to_z-of_z w32 c.operand-value.result v))

pub returns-clause-effect : goal.returns-clause-effect
returns-clause-effect c = λ img w.
    let a : SFits w32 c.args.instr.a = search rules in
    let from = c.in-Some.from in
    let one : from ≡ (from - 1) + 1 = omega (arith, c.if-from-eq0.false) in
    let v : SFits w32 c.operand-value.result = search rules in
    value_called img c.args.operands.now w c.args.instr.a from (from - 1) c.operand-value.result (Some c.in-Some-procedure_of_value.procedure) (c.in-Some.ensures.start ∙ ap (λ z. start_of (length c.args.operands.now) z 0) (to_z-of_z w32 c.args.instr.a a)) one c.operand-value.ensures (λ z. c.if-value-eq0.false (ap (of_z w32) z)) (c.in-Some-procedure_of_value.ensures ∙ ap proc_of_value (to_z-of_z w32 c.operand-value.result v))
