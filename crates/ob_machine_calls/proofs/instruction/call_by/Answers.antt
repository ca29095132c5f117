use Rattle.std.proofs.Common.{rules, sym, ap, ◌∙◌, refl, to_z, of_z}
use Rattle.std.proofs.lemmas.Int.{to_z-of_z}
use mir.Syntax.{w32}
use mir.Val.{SFits}
use Rattle.std.specs.Prelude.{reverse}
use Rattle.ob_instr.specs.Table.{come_to, row}
use Rattle.ob_machine_operands.specs.Effects.{ops_of, world_of}
use Rattle.ob_machine_calls.specs.Callees.{callee_effect}
use Rattle.ob_machine_calls.proofs.instruction.call_by.Goals as goal

pub returns-clause-comes : goal.returns-clause-comes
returns-clause-comes c =
    let here = c.args.here.now in
    let s = c.args.state.now in
    let img = c.args.image.now in
    let unit = c.args.unit.now in
    let callee = c.callee_of-callee in
    let a : SFits w32 c.args.a = search rules in
    let b : SFits w32 c.args.b = search rules in
    λ e u out.
    let w = world_of s out in
    ap (come_to img u here.unit here.procedure here.first c.args.calls.now here.next w) (ap (λ z. row img unit here.unit here.procedure here.first here.next c.args.op z c.args.b (ops_of s) w) (sym (to_z-of_z w32 c.args.a a)) ∙ ap (λ z. row img unit here.unit here.procedure here.first here.next c.args.op (to_z w32 (of_z w32 c.args.a)) z (ops_of s) w) (sym (to_z-of_z w32 c.args.b b)) ∙ ap (λ l. row img unit here.unit here.procedure here.first here.next c.args.op (to_z w32 (of_z w32 c.args.a)) (to_z w32 (of_z w32 c.args.b)) (reverse l) w) (sym c.deref.ensures.value) ∙ callee.ensures.effect e here.unit here.procedure here.first here.next w refl ∙ ap (λ l. callee_effect img l callee.result w) c.deref.ensures.value) ∙ c.call_it.ensures.comes u out
