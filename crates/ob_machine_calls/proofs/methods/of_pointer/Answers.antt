use Rattle.std.proofs.Common.{rules, Some, None, ◌∙◌, refl, ap, sym, length, to_z, of_z, ◌≡◌, pos}
use Rattle.std.proofs.lemmas.Int.{to_z-of_z}
use mir.Syntax.{w32}
use mir.Val.{SFits}
use Rattle.ob_instr.specs.Rows.{pointer_method}
use Rattle.ob_machine_calls.specs.Starts.{start_of}
use Rattle.ob_machine_calls.proofs.Starts.{pointer_found, pointer_called}
use Rattle.ob_machine_calls.proofs.methods.of_pointer.Goals as goal

pub returns-then-pointer-eq0-clause-effect : goal.returns-then-pointer-eq0-clause-effect
returns-then-pointer-eq0-clause-effect c = λ w e.
    let a : SFits w32 c.args.instr.b = search rules in
    let f : SFits w32 c.operand-pointer.result = search rules in
    let zero : c.operand-pointer.result ≡ pos 0 = sym (to_z-of_z w32 c.operand-pointer.result f) ∙ ap (to_z w32) c.if-pointer-eq0.true in
    pointer_found c.args.image.now c.args.operands.now w c.args.instr.b c.args.instr.a c.in-Some.from c.operand-pointer.result (c.in-Some.ensures.start ∙ ap (λ z. start_of (length c.args.operands.now) z 1) (to_z-of_z w32 c.args.instr.b a)) c.operand-pointer.ensures ∙ rw zero refl

pub returns-in_default-pointer_method-clause-effect : goal.returns-in_default-pointer_method-clause-effect
returns-in_default-pointer_method-clause-effect c = λ w e.
    let a : SFits w32 c.args.instr.b = search rules in
    let x : SFits w32 c.operand-pointer.result = search rules in
    let n : SFits w32 c.args.instr.a = search rules in
    pointer_called c.args.image.now c.args.operands.now w c.args.instr.b c.args.instr.a c.in-Some.from c.operand-pointer.result None (c.in-Some.ensures.start ∙ ap (λ z. start_of (length c.args.operands.now) z 1) (to_z-of_z w32 c.args.instr.b a)) c.operand-pointer.ensures (λ z. c.if-pointer-eq0.false (ap (of_z w32) z)) (λ k. ap (λ z. pointer_method c.args.image.now w z c.args.instr.a k) (sym (to_z-of_z w32 c.operand-pointer.result x)) ∙ ap (λ z. pointer_method c.args.image.now w (to_z w32 (of_z w32 c.operand-pointer.result)) z k) (sym (to_z-of_z w32 c.args.instr.a n)) ∙ c.in_default-pointer_method.ensures w e k)

pub returns-clause-effect : goal.returns-clause-effect
returns-clause-effect c = λ w e.
    let a : SFits w32 c.args.instr.b = search rules in
    let x : SFits w32 c.operand-pointer.result = search rules in
    let n : SFits w32 c.args.instr.a = search rules in
    pointer_called c.args.image.now c.args.operands.now w c.args.instr.b c.args.instr.a c.in-Some.from c.operand-pointer.result (Some c.in-Some-pointer_method.procedure) (c.in-Some.ensures.start ∙ ap (λ z. start_of (length c.args.operands.now) z 1) (to_z-of_z w32 c.args.instr.b a)) c.operand-pointer.ensures (λ z. c.if-pointer-eq0.false (ap (of_z w32) z)) (λ k. ap (λ z. pointer_method c.args.image.now w z c.args.instr.a k) (sym (to_z-of_z w32 c.operand-pointer.result x)) ∙ ap (λ z. pointer_method c.args.image.now w (to_z w32 (of_z w32 c.operand-pointer.result)) z k) (sym (to_z-of_z w32 c.args.instr.a n)) ∙ c.in-Some-pointer_method.ensures w e k)
