use Rattle.std.proofs.Common.{rules, ◌+ℤ◌, w64, arith}
use Rattle.std.specs.Int.RustNames.{FitsSigned}
use Rattle.std.proofs.lemmas.Int.{ints}
use Rattle.ob_machine_operands.specs.Effects.{ops_of, world_of}
use Rattle.ob_machine_operands.proofs.Rows.{in_type_of_two}
use Rattle.ob_machine_operands.proofs.values.add.Goals as goal

pub returns-clause-does : goal.returns-clause-does
returns-clause-does c = λ out.
    let f : FitsSigned w64 c.sum.result = search rules in
    in_type_of_two (λ x y. x +ℤ y) c.args.bytes (ops_of c.args.state.now) _ c.in-Some.x c.in-Some.y c.sum.result (world_of c.args.state.now out) _ c.ranges.bytes f c.in-Some.ensures.some (omega (arith, ints)) (c.push_in_type.ensures.does out)
