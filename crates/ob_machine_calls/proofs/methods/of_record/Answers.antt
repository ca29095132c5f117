use Rattle.std.proofs.Common.{rules, sym, ap, ◌∙◌, take, drop, length, to_z, of_z}
use Rattle.std.proofs.lemmas.Int.{to_z-of_z}
use mir.Syntax.{w32}
use mir.Val.{SFits}
use Rattle.std.specs.Prelude.{reverse}
use Rattle.ob_instr.specs.Rows.{on_found, calls, tag_method}
use Rattle.ob_machine_calls.specs.Starts.{start_of}
use Rattle.ob_machine_calls.proofs.Starts.{record_found}
use Rattle.ob_machine_calls.proofs.methods.of_record.Goals as goal

pub returns-in_default-tag_method-clause-effect : goal.returns-in_default-tag_method-clause-effect
returns-in_default-tag_method-clause-effect c = λ w.
    let a : SFits w32 c.args.instr.b = search rules in
    let g : SFits w32 c.operand-tag.result = search rules in
    let n : SFits w32 c.args.instr.a = search rules in
    let xs = c.args.operands.now in
    let from = c.in-Some.from in
    record_found c.args.image.now xs w c.args.instr.b c.args.instr.a from c.operand-tag.result (c.in-Some.ensures.start ∙ ap (λ z. start_of (length c.args.operands.now) z 2) (to_z-of_z w32 c.args.instr.b a)) c.operand-tag.ensures ∙ ap (λ o. on_found o (λ r. calls c.args.image.now r (drop from xs) (reverse (take from xs)) w)) (ap (λ z. tag_method c.args.image.now z c.args.instr.a) (sym (to_z-of_z w32 c.operand-tag.result g)) ∙ ap (λ z. tag_method c.args.image.now (to_z w32 (of_z w32 c.operand-tag.result)) z) (sym (to_z-of_z w32 c.args.instr.a n)) ∙ sym c.in_default-tag_method.ensures)

pub returns-clause-effect : goal.returns-clause-effect
returns-clause-effect c = λ w.
    let a : SFits w32 c.args.instr.b = search rules in
    let g : SFits w32 c.operand-tag.result = search rules in
    let n : SFits w32 c.args.instr.a = search rules in
    let xs = c.args.operands.now in
    let from = c.in-Some.from in
    record_found c.args.image.now xs w c.args.instr.b c.args.instr.a from c.operand-tag.result (c.in-Some.ensures.start ∙ ap (λ z. start_of (length c.args.operands.now) z 2) (to_z-of_z w32 c.args.instr.b a)) c.operand-tag.ensures ∙ ap (λ o. on_found o (λ r. calls c.args.image.now r (drop from xs) (reverse (take from xs)) w)) (ap (λ z. tag_method c.args.image.now z c.args.instr.a) (sym (to_z-of_z w32 c.operand-tag.result g)) ∙ ap (λ z. tag_method c.args.image.now (to_z w32 (of_z w32 c.operand-tag.result)) z) (sym (to_z-of_z w32 c.args.instr.a n)) ∙ sym c.in-Some-tag_method.ensures)
