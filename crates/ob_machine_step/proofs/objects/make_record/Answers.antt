use Rattle.std.proofs.Common.{rules, subst, sym, ◌≡◌, true, length, arith}
use Rattle.std.specs.Prelude.{slice_get, IfSome}
use Rattle.std.proofs.lemmas.Int.{ints, to_z-of_z}
use Rattle.ob_mem.specs.Words.{are_there}
use Rattle.ob_machine_operands.specs.Effects.{ops_of, world_of}
use Rattle.ob_machine_step.proofs.Made.{record_row}
use Rattle.ob_machine_step.proofs.objects.make_record.Goals as goal

pub returns-clause-does : goal.returns-clause-does
returns-clause-does c = λ out.
    let h : are_there (length c.args.state.now.words.words) c.in-Some-take.x 1 ≡ true = grind (arith, to_z-of_z) in
    record_row c.args.descriptors.now.list c.args.types.now c.args.a c.in-Some.t c.from-2.result (ops_of c.args.state.now) _ c.in-Some-take.x _ _ (world_of c.args.state.now out) _ (search (rules, to_z-of_z)) (omega arith) (subst (λ k. IfSome (slice_get c.args.descriptors.now.list c.in-Some.t) (λ d. k ≡ d.words)) (sym c.from-2.ensures) c.words-words.ensures) c.in-Some-take.ensures.some h (c.make.ensures.does out) (omega (arith, ints)) (omega (arith, ints))
