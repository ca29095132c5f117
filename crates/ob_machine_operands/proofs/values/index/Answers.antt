use Rattle.std.proofs.Common.{rules, ◌≡◌, true, pos, ◌+ℤ◌, ◌*ℤ◌, w64, arith}
use Rattle.std.specs.Int.RustNames.{FitsSigned}
use Rattle.std.proofs.lemmas.Int.{to_z-of_z}
use Rattle.ob_trap.specs.declared.trap.Trap.TheVariants as trap
use Rattle.ob_instr.specs.Rows.{Traps, is_within}
use Rattle.ob_machine_operands.specs.Effects.{ops_of, world_of}
use Rattle.ob_machine_operands.proofs.Rows.{word_of_two}
use Rattle.ob_machine_operands.proofs.values.index.Goals as goal

pub returns-clause-does : goal.returns-clause-does
returns-clause-does c = λ out.
    let f : FitsSigned w64 c.element_at.result = search rules in
    let yes : is_within c.in-Some.i c.args.a ≡ true = grind (arith, to_z-of_z) in
    word_of_two (λ x i. is_within i c.args.a) (λ x i. x +ℤ (i *ℤ c.args.b)) (λ w. Traps trap.IndexOutside (pos 0) w) (ops_of c.args.state.now) _ c.in-Some.x c.in-Some.i c.element_at.result (world_of c.args.state.now out) _ f c.in-Some.ensures.some yes (search (rules, to_z-of_z)) (c.push_word.ensures.does out)
