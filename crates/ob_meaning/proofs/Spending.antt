-- A command spends of the turns that it was given.
use Rattle.std.proofs.Common.{ℕ, ◌≤◌, List, [], ◌∷◌, ◌++◌, Option, Some, None, arith}
use Rattle.ob_tree.specs.declared.names.QName.{QName}
use Rattle.ob_types.specs.TypedSyntax.{Procedure, Module}
use Rattle.ob_meaning.specs.Values.{Program, procedure_of, State}
use Rattle.ob_meaning.specs.Results.{Res, Gives, Stops}
use Rattle.ob_meaning.specs.Meaning.{Flow}
use Rattle.ob_meaning.specs.Calls.{begun}
use Rattle.ob_meaning.specs.Commands.{System, Ended, end_of, run_found, run_first, and_then, at_rest, run_bodies, body_procedure, with_module, command}
use Rattle.ob_meaning.specs.Laws.{Onward, in_program}
use Rattle.ob_meaning.proofs.Onward.{calls_keep, keep_execs}

-- a first call goes on from the state in which its variables are there
pub first_goes_on : (program : Program) (heap : ℕ) (q : QName) (p : Procedure) (s : State) → Onward (begun program q p [] s) (run_first program heap q p s)
first_goes_on program heap q p s = (keep_execs (in_program program heap s.turns q.module) (calls_keep program heap s.turns q.module) p.body).at (begun program q p [] s)

end_spends : (program : Program) (b : State) (r : Res Flow) → Onward b r → (end_of program r).turns ≤ b.turns
end_spends program b (Gives f t) h = h.0.turns
end_spends program b (Stops why t) h = h.turns

found_spends : (o : Option Procedure) (program : Program) (heap : ℕ) (q : QName) (s : State) → (run_found o program heap q s).turns ≤ s.turns
found_spends None program heap q s = omega arith
found_spends (Some p) program heap q s = end_spends program (begun program q p [] s) (run_first program heap q p s) (first_goes_on program heap q p s)

and_spends : (program : Program) (b : State) (r : Res Flow) → Onward b r → (rest : State → Ended) → ((t : State) → (rest t).turns ≤ t.turns) → (and_then program r rest).turns ≤ b.turns
and_spends program b (Gives f t) h rest g = let e = h.0.turns in let d = g (at_rest t) in omega arith
and_spends program b (Stops why t) h rest g = h.turns

bodies_spend : (program : Program) (plan : List Module) (heap : ℕ) (q : QName) (s : State) → (run_bodies program plan heap q s).turns ≤ s.turns
bodies_spend program [] heap q s = found_spends (procedure_of program q) program heap q s
bodies_spend program (m ∷ ms) heap q s =
    and_spends (program ++ m ∷ []) (begun (program ++ m ∷ []) (record { «module» = m.name; object = [] }) (body_procedure m) [] (with_module (program ++ m ∷ []) m s)) _
    (first_goes_on (program ++ m ∷ []) heap (record { «module» = m.name; object = [] }) (body_procedure m) (with_module (program ++ m ∷ []) m s))
    (run_bodies (program ++ m ∷ []) ms heap q)
    (λ t. bodies_spend (program ++ m ∷ []) ms heap q t)

pub spends : (system : System) (plan : List Module) (heap turns : ℕ) (q : QName) → (command system plan heap turns q).turns ≤ turns
spends system plan heap turns q =
    bodies_spend system.program plan heap q (record { store = system.store; calls = []; made = system.made; turns = turns; out = [] })
