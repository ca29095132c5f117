use Rattle.std.proofs.Common.{rules, ◌*ℤ◌, w64}
use Rattle.std.specs.Int.RustNames.{FitsSigned}
use Rattle.std.proofs.lemmas.Int.{to_z-of_z}
use Rattle.ob_machine_operands.specs.Effects.{ops_of, world_of}
use Rattle.ob_machine_operands.proofs.Rows.{in_type_of_two}
use Rattle.ob_machine_operands.proofs.values.mul.Goals as goal

pub returns-clause-does : goal.returns-clause-does
returns-clause-does c = λ out.
    let f : FitsSigned w64 c.product.result = search rules in
    in_type_of_two (λ x y. x *ℤ y) c.args.bytes (ops_of c.args.state.now) _ c.in-Some.x c.in-Some.y c.product.result (world_of c.args.state.now out) _ c.ranges.bytes f c.in-Some.ensures.some (search (rules, to_z-of_z)) (c.push_in_type.ensures.does out)
