use Rattle.std.proofs.Common.{◌≡◌, ℕ, List, [], ◌∷◌, arith, ap, ◌∙◌}
use Rattle.std.proofs.lemmas.Result.{on_ok_weaker}
use Rattle.ob_instr.specs.declared.opcode.Opcode.TheVariants as op
use Rattle.ob_scheme.specs.Lines.{Line, Number, plain, bare, count, jump, jump_if_false}
use Rattle.ob_scheme.specs.Coded.{appended, place_in}
use Rattle.ob_scheme.specs.Statements.{end_label}
use Rattle.ob_scheme.proofs.Appends.{put_three}
use Rattle.ob_gstmt.proofs.choices.put_label.Goals as goal

pub returns : goal.returns
returns g c =
    let pc = place_in c.args.code.now in
    let end = end_label (g.S.Scope.context c.args.scope.now) pc in
    let e : c.in_ok-next.next ≡ end = omega (arith, c.in_ok-next.ensures, c.place.ensures) in
    let first : ℕ → List Line = λ n. plain op.Local (count c.args.word) ∷ bare op.Load ∷ plain op.Int (Number c.args.label.now.low) ∷ bare op.Ge ∷ jump_if_false n ∷ [] in
    let second : ℕ → List Line = λ n. plain op.Local (count c.args.word) ∷ bare op.Load ∷ plain op.Int (Number c.args.label.now.high) ∷ bare op.Le ∷ jump_if_false n ∷ [] in
    on_ok_weaker c.put_jump.result (λ h.
    put_three c.args.code.now c.put_bound.new.code c.put_bound-2.new.code c.put_jump.new.code (first end) (second end) (jump c.args.body ∷ [])
    (c.in_ok-put_bound.ensures ∙ ap (λ n. appended c.args.code.now (first n)) e)
    (c.in_ok-put_bound-2.ensures ∙ ap (λ n. appended c.put_bound.new.code (second n)) e) h) c.put_jump.ensures
