use Rattle.std.proofs.Common.{rules, ◌≡◌, w32, to_z, of_z}
use Rattle.std.proofs.lemmas.Int.{to_z-of_z}
use Rattle.ob_machine_step.proofs.TrapRows.{trap_passed}
use Rattle.ob_machine_step.proofs.acting.effect.Goals as goal

pub returns-in-Out-clause-moves : goal.returns-in-Out-clause-moves
returns-in-Out-clause-moves c = λ e. c.write.ensures.moves c.args.pc

pub returns-in-Trap-clause-does : goal.returns-in-Trap-clause-does
returns-in-Trap-clause-does c = λ e img u is p out.
    let a : to_z w32 (of_z w32 c.args.instr.a) ≡ c.args.instr.a = search (rules, to_z-of_z) in
    let b : to_z w32 (of_z w32 c.args.instr.b) ≡ c.args.instr.b = search (rules, to_z-of_z) in
    rw c.in-Trap.is (trap_passed c.args.instr.a c.args.instr.b _ _ a b _ _ (c.trap.ensures.does out))
