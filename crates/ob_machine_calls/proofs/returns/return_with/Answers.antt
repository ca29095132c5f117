use Rattle.std.proofs.Common.{rules, ◌≡◌, Some, true, [], ◌∷◌, slice_get, sym, ap, ◌∙◌}
use Rattle.std.proofs.lemmas.Int.{to_z-of_z}
use mir.Syntax.{w32}
use mir.Val.{SFits}
use Rattle.std.specs.Prelude.{option_map, reverse, if◌then◌else◌}
use Rattle.ob_instr.specs.Rows.{Leave, Unable, on_one}
use Rattle.ob_instr.specs.Table.{come_to}
use Rattle.ob_machine_operands.specs.Effects.{ops_of, world_of}
use Rattle.ob_machine_calls.proofs.Results.{tested_one}
use Rattle.ob_machine_calls.proofs.returns.return_with.Goals as goal

pub returns-clause-comes : goal.returns-clause-comes
returns-clause-comes c =
    let here = c.args.here.now in
    let procedures = c.args.unit.now.procedures in
    let has : Some true ≡ option_map (λ q. q.has_result) (slice_get procedures here.procedure) = rw c.if-not-has.false at c.in-Some.ensures in
    let g : SFits w32 c.in-Some-last.given = search rules in
    λ img u out.
    let w = world_of c.args.state.now out in
    let ops = ops_of c.args.state.now in
    ap (come_to img u here.unit here.procedure here.first c.args.waiting.now here.next w) (tested_one (slice_get procedures here.procedure) true ops (λ b v. if b then Leave (v ∷ []) w else Unable) has ∙ ap (λ l. on_one (reverse l) (λ v rest. Leave (v ∷ []) w)) (sym c.deref.ensures.value) ∙ c.in-Some-last.ensures (λ v. Leave (v ∷ []) w)) ∙ ap (λ v. come_to img u here.unit here.procedure here.first c.args.waiting.now here.next w (Leave (v ∷ []) w)) (sym (to_z-of_z w32 c.in-Some-last.given g)) ∙ c.leave_with.ensures.comes img u out

pub returns-in_default-last-clause-comes : goal.returns-in_default-last-clause-comes
returns-in_default-last-clause-comes c =
    let here = c.args.here.now in
    let procedures = c.args.unit.now.procedures in
    let has = c.in-Some.has in
    λ img u out.
    let w = world_of c.args.state.now out in
    let ops = ops_of c.args.state.now in
    ap (come_to img u here.unit here.procedure here.first c.args.waiting.now here.next w) (tested_one (slice_get procedures here.procedure) has ops (λ b v. if b then Leave (v ∷ []) w else Unable) c.in-Some.ensures ∙ ap (λ l. on_one (reverse l) (λ v rest. if has then Leave (v ∷ []) w else Unable)) (sym c.deref.ensures.value) ∙ c.in_default-last.ensures (λ v. if has then Leave (v ∷ []) w else Unable))
