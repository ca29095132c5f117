-- Binding step by step, from what is around.
use Rattle.std.specs.Prelude.{ℕ, Bool, true, false, ◌&&◌, List, [], ◌∷◌}
use Rattle.ob_rules.specs.Judged.{no_notes}
use Rattle.ob_rules.specs.Names.{Around}
use Rattle.ob_rules.specs.Headings.{Head, Binding, bind_one, of_record, counts}

abbrev pub Step : Type 0 → Type 0
Step X = Around → Binding → X → Binding

-- a step for each, in turn
abbrev pub run : {X : Type 0} → Step X → Around → Binding → List X → Binding
run f u s [] = s
run f u s (x ∷ xs) = run f u (f u s x) xs

-- what is bound where this is around, and nothing said
abbrev pub start : Around → Binding
start v = record { own = v.own; bound = v.bound; notes = no_notes }

-- what is around where that is bound
abbrev pub put : Around → Binding → Around
put v s = record v { own = s.own; bound = s.bound }

abbrev pub one : Step Head
one u s h = bind_one u s h h.bound

abbrev pub one_if : Bool → Around → Binding → Head → Binding
one_if true u s h = one u s h
one_if false u s h = s

-- a heading of the record of that name, where it counts
abbrev pub chosen : List Head → List ℕ → Step Head
chosen all x u s h = one_if (of_record x h && counts all h) u s h

-- all of the record of that name
abbrev pub record_bound : List Head → Step (List ℕ)
record_bound hs u s x = run (chosen hs x) u s hs
