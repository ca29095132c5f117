use Rattle.std.proofs.Common.{rules, ◌≡◌, ◌∷◌, [], ◌++◌, reverse, pos, ap, sym, ◌∙◌, arith, w32, to_z, of_z}
use Rattle.std.specs.Int.RustNames.{FitsSigned}
use Rattle.std.proofs.lemmas.Int.{ints, to_z-of_z}
use Rattle.ob_instr.specs.Rows.{Next, on_found, placed, with_memory, chars_at, Ends}
use Rattle.ob_machine_operands.specs.Effects.{ops_of, world_of}
use Rattle.ob_machine_step.specs.Texts.{text}
use Rattle.ob_machine_step.proofs.Endings.{copy_row, room_of}
use Rattle.ob_machine_step.proofs.texts.copy_text.Goals as goal

pub returns-in-After-clause-does : goal.returns-in-After-clause-does
returns-in-After-clause-does c = λ out.
    let ws = c.args.state.now.words.words in
    let fx : FitsSigned w32 c.in-Some.x = search rules in
    let fl : FitsSigned w32 c.in-Some.l = search rules in
    let fy : FitsSigned w32 c.in-Some.y = search rules in
    let ends : chars_at ws c.in-Some.x c.in-Some.l ≡ Ends (text ws c.in-After.start c.in-After.count) =
    ap (λ z. chars_at ws z c.in-Some.l) (sym (to_z-of_z w32 c.in-Some.x fx))
    ∙ ap (λ z. chars_at ws (to_z w32 (of_z w32 c.in-Some.x)) z) (sym (to_z-of_z w32 c.in-Some.l fl))
    ∙ c.in-After.ensures.2 in
    let fn : FitsSigned w32 c.in-Some.n = search rules in
    let p = room_of c.in-Some.n fn c.if-n-lt1.false in
    let some = p.1 in
    copy_row ws (ops_of c.args.state.now) (reverse c.take_four.new.operands.items) c.in-Some.x c.in-Some.l c.in-Some.y c.in-Some.n c.in-After.start c.in-After.count p.0 c.min.result (world_of c.args.state.now out) _ c.in-Some.ensures.some ends some (omega (arith, ints))
    (ap (λ z. on_found (placed ws z (text ws c.in-After.start c.min.result ++ pos 0 ∷ [])) (λ t. Next (reverse c.take_four.new.operands.items) (with_memory (world_of c.args.state.now out) t))) (sym (to_z-of_z w32 c.in-Some.y fy)) ∙ c.place_text.ensures.does out)
