use Rattle.std.proofs.Common.{rules, ◌∷◌, pos, ap, sym, ◌∙◌, w32}
use Rattle.std.specs.Int.RustNames.{FitsSigned}
use Rattle.std.proofs.lemmas.Int.{to_z-of_z}
use Rattle.ob_trap.specs.declared.trap.Trap.TheVariants as trap
use Rattle.ob_instr.specs.Rows.{Next, Traps}
use Rattle.ob_machine_operands.specs.declared.numbers.Fit.TheVariants as fit
use Rattle.ob_machine_operands.specs.Effects.{ops_of, world_of}
use Rattle.ob_machine_operands.specs.Laws.{by_fit}
use Rattle.ob_machine_operands.proofs.values.push_in_type.Goals as goal

pub returns-in-Without-clause-does : goal.returns-in-Without-clause-does
returns-in-Without-clause-does c = λ out. by_fit c.args.bytes c.args.number fit.Without (λ v. Next (v ∷ ops_of c.args.state.now) (world_of c.args.state.now out)) (Traps trap.Overflow (pos 0) (world_of c.args.state.now out)) c.ranges.bytes c.ranges.number c.in-Without.ensures

pub returns-in-Outside-clause-does : goal.returns-in-Outside-clause-does
returns-in-Outside-clause-does c = λ out. by_fit c.args.bytes c.args.number fit.Outside (λ v. Next (v ∷ ops_of c.args.state.now) (world_of c.args.state.now out)) (Traps trap.Overflow (pos 0) (world_of c.args.state.now out)) c.ranges.bytes c.ranges.number c.in-Outside.ensures

pub returns-in-Inside-clause-does : goal.returns-in-Inside-clause-does
returns-in-Inside-clause-does c = λ out.
    let f : FitsSigned w32 c.in-Inside.value = search rules in
    by_fit c.args.bytes c.args.number (fit.Inside c.in-Inside.value) (λ v. Next (v ∷ ops_of c.args.state.now) (world_of c.args.state.now out)) (Traps trap.Overflow (pos 0) (world_of c.args.state.now out)) c.ranges.bytes c.ranges.number c.in-Inside.ensures
    ∙ ap (λ v. Next (v ∷ ops_of c.args.state.now) (world_of c.args.state.now out)) (sym (to_z-of_z w32 c.in-Inside.value f))
    ∙ c.push.ensures.does out
