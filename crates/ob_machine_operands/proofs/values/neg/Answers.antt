use Rattle.std.proofs.Common.{rules, neg_ℤ, w64, arith}
use Rattle.std.specs.Int.RustNames.{FitsSigned}
use Rattle.std.proofs.lemmas.Int.{ints}
use Rattle.ob_machine_operands.specs.Effects.{ops_of, world_of}
use Rattle.ob_machine_operands.proofs.Rows.{in_type_of_one}
use Rattle.ob_machine_operands.proofs.values.neg.Goals as goal

pub returns-clause-does : goal.returns-clause-does
returns-clause-does c = λ out.
    let f : FitsSigned w64 c.negated.result = search rules in
    in_type_of_one neg_ℤ c.args.bytes (ops_of c.args.state.now) _ c.in-Some.v c.negated.result (world_of c.args.state.now out) _ c.ranges.bytes f c.in-Some.ensures.some (omega (arith, ints)) (c.push_in_type.ensures.does out)
