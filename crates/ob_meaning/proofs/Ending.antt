-- What a command leaves has no active calls.
use Rattle.std.proofs.Common.{◌≡◌, ℕ, List, [], ◌∷◌, ◌++◌, refl, ap, subst, ◌∙◌}
use Rattle.ob_tree.specs.declared.names.QName.{QName}
use Rattle.ob_types.specs.TypedSyntax.{Procedure, Module}
use Rattle.ob_meaning.specs.Values.{Program, Active, State}
use Rattle.ob_meaning.specs.Results.{Res, Gives, Stops}
use Rattle.ob_meaning.specs.Meaning.{Flow}
use Rattle.ob_meaning.specs.Calls.{without_newest, begun, ended}
use Rattle.ob_meaning.specs.Commands.{System, run_first, body_name, body_procedure, with_module, at_rest, command_begins}
use Rattle.ob_meaning.specs.Laws.{Onward, FirstCall, body, behind, last, LeavesNone}
use Rattle.ob_meaning.proofs.Spending.{first_goes_on}

alone : (b : State) (r : Res Flow) → without_newest b.calls ≡ [] → Onward b r → LeavesNone r
alone b (Gives f t) e h = ap (λ (cs : List Active). record t { calls = cs }) (ap without_newest h.1 ∙ e)
alone b (Stops why t) e h = tt

ends_alone : (program : Program) (heap : ℕ) (q : QName) (p : Procedure) (s : State) → s.calls ≡ [] → LeavesNone (run_first program heap q p s)
ends_alone program heap q p s e = alone (begun program q p [] s) (run_first program heap q p s) e (first_goes_on program heap q p s)

none_left : (t : State) (r : Res Flow) (f : Flow) → r ≡ Gives f t → LeavesNone r → (ended t).calls ≡ []
none_left t r f is h =
    let one : ended t ≡ at_rest t = subst LeavesNone is h in
    ap (λ (s : State). s.calls) one

first_calls : (heap : ℕ) (q : QName) (program : Program) (plan : List Module) (s : State) (after : Program) (r : QName) (p : Procedure) (u : State) → s.calls ≡ [] → FirstCall heap q program plan s after r p u → (u.calls ≡ []) × LeavesNone (run_first after heap r p u)
first_calls heap q program (m ∷ ms) s after r p u e body = (e, ends_alone after heap r p u e)
first_calls heap q program (m ∷ ms) s after r p u e (behind {t = t} {f = f} is rest) =
    let left = none_left t (run_first (program ++ m ∷ []) heap (body_name m) (body_procedure m) (with_module (program ++ m ∷ []) m s)) f is (ends_alone (program ++ m ∷ []) heap (body_name m) (body_procedure m) (with_module (program ++ m ∷ []) m s) e) in
    first_calls heap q (program ++ m ∷ []) ms (ended t) after r p u left rest
first_calls heap q program [] s after r p u e (last is) = (e, ends_alone after heap r p u e)

pub leaves_none : (system : System) (plan : List Module) (heap turns : ℕ) (q : QName) (program : Program) (r : QName) (p : Procedure) (s : State) → FirstCall heap q system.program plan (command_begins system turns) program r p s → (s.calls ≡ []) × LeavesNone (run_first program heap r p s)
leaves_none system plan heap turns q program r p s h = first_calls heap q system.program plan (command_begins system turns) program r p s refl h
