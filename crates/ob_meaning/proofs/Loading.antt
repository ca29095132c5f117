-- Modules join in their order.
use Rattle.std.proofs.Common.{◌≡◌, ℕ, suc, List, [], ◌∷◌, ◌++◌, take, refl, sym, ◌∙◌, append_assoc, append-nil, Option, Some, None}
use Rattle.ob_tree.specs.declared.names.QName.{QName}
use Rattle.ob_types.specs.TypedSyntax.{Procedure, Module}
use Rattle.ob_meaning.specs.Values.{Program, procedure_of, State}
use Rattle.ob_meaning.specs.Results.{Res, Gives, Stops, Why}
use Rattle.ob_meaning.specs.Meaning.{Flow}
use Rattle.ob_meaning.specs.Commands.{System, Ended, end_of, run_found, run_first, and_then, at_rest, run_bodies, body_procedure, with_module, command}
use Rattle.ob_meaning.specs.Laws.{Joined}

-- nothing joins
joined_none : (program : Program) (e : Ended) → e.system.program ≡ program → Joined program [] e
joined_none program e is = record { count = 0; first = is ∙ sym (append-nil program); all = λ n. is ∙ sym (append-nil program) }

end_keeps : (program : Program) (r : Res Flow) → (end_of program r).system.program ≡ program
end_keeps program (Gives f s) = refl
end_keeps program (Stops why s) = refl

found_keeps : (o : Option Procedure) (program : Program) (heap : ℕ) (q : QName) (s : State) → (run_found o program heap q s).system.program ≡ program
found_keeps None program heap q s = refl
found_keeps (Some p) program heap q s = end_keeps program (run_first program heap q p s)

-- a module has joined, and what follows it
joined_more : (program : Program) (m : Module) (ms : List Module) (e : Ended) → Joined (program ++ m ∷ []) ms e → Joined program (m ∷ ms) e
joined_more program m ms e j = record {
  count = suc j.count;
  first = j.first ∙ append_assoc program (m ∷ []) (take j.count ms);
  all = λ n. j.all n ∙ append_assoc program (m ∷ []) ms;
}

no_stop : (why : Why) → Some why ≡ None → ⊥
no_stop why e = cc

and_joined : (program : Program) (m : Module) (ms : List Module) (r : Res Flow) (rest : State → Ended) →
    ((s : State) → Joined (program ++ m ∷ []) ms (rest s)) → Joined program (m ∷ ms) (and_then (program ++ m ∷ []) r rest)
and_joined program m ms (Gives f s) rest h = joined_more program m ms (rest (at_rest s)) (h (at_rest s))
and_joined program m ms (Stops why s) rest h = record { count = 1; first = refl; all = λ e. absurd (no_stop why e) }

bodies_join : (program : Program) (plan : List Module) (heap : ℕ) (q : QName) (s : State) → Joined program plan (run_bodies program plan heap q s)
bodies_join program [] heap q s = joined_none program _ (found_keeps (procedure_of program q) program heap q s)
bodies_join program (m ∷ ms) heap q s =
    and_joined program m ms
    (run_first (program ++ m ∷ []) heap (record { «module» = m.name; object = [] }) (body_procedure m) (with_module (program ++ m ∷ []) m s))
    (run_bodies (program ++ m ∷ []) ms heap q)
    (λ t. bodies_join (program ++ m ∷ []) ms heap q t)

pub loads : (system : System) (plan : List Module) (heap turns : ℕ) (q : QName) → Joined system.program plan (command system plan heap turns q)
loads system plan heap turns q =
    bodies_join system.program plan heap q (record { store = system.store; calls = []; made = system.made; turns = turns; out = [] })
