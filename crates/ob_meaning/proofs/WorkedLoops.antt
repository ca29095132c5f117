-- Loops, and turns that are spent.
use Rattle.std.proofs.Common.{◌≡◌, refl}
use Rattle.std.specs.Prelude.{ℕ, List, [], ◌∷◌, ℤ, pos, negsuc, Option, Some, None, codes}
use Rattle.std.specs.Fmt.{digits}
use Rattle.ob_types.specs.declared.typed.Width.TheVariants as width
use Rattle.ob_types.specs.declared.typed.Variable.TheVariants as variable
use Rattle.ob_types.specs.declared.typed.Comparison.TheVariants as comparison
use Rattle.ob_types.specs.TypedSyntax.{Desig, Expr, ValueOf, NoActual, Stmt, While, Repeat, For, Loop, Exit, Return, Module}
use Rattle.ob_meaning.specs.Results.{Why}
use Rattle.ob_meaning.proofs.Build.{at, nowhere, named, long, global, num, compare, function, block, set_to, call, out_int, when, increase, variable_of, procedure, proper, unit_of, run, outcome, ends, spent}

abbrev m : List ℕ
m = codes "Lp"

abbrev i : Desig
i = global m (codes "i") long

abbrev n : Desig
n = global m (codes "n") long

abbrev shows : Expr → Stmt
shows e = out_int e 0 nowhere

abbrev set_i : ℕ → Stmt
set_i k = set_to i (num k) nowhere

abbrev for_i : Expr → Expr → ℤ → List Stmt → Stmt
for_i start end step body = For (variable.Module m (codes "i")) width.LongInt start end step (block body) (at 3 1)

abbrev lp : Module
lp = unit_of m [] (variable_of (codes "i") long ∷ variable_of (codes "n") long ∷ [])
    (proper (codes "Changed") (for_i (num 1) (num 5) (pos 1) (shows (ValueOf i) ∷ increase i (num 1) nowhere ∷ []) ∷ shows (ValueOf i) ∷ [])
    ∷ proper (codes "Down") (for_i (num 5) (num 1) (negsuc 1) (shows (ValueOf i) ∷ []) ∷ shows (ValueOf i) ∷ [])
    ∷ proper (codes "Kept") (set_to n (num 3) nowhere ∷ for_i (num 1) (ValueOf n) (pos 1) (set_to n (num 10) nowhere ∷ shows (ValueOf i) ∷ []) ∷ [])
    ∷ proper (codes "End") (set_i 3 ∷ for_i (num 5) (ValueOf i) (pos 1) (shows (ValueOf i) ∷ []) ∷ shows (ValueOf i) ∷ [])
    ∷ proper (codes "Exit") (Loop (block (While (compare comparison.Less (ValueOf i) (num 10)) (block (increase i (num 1) nowhere ∷ when (compare comparison.Equal (ValueOf i) (num 4)) (Exit ∷ []) [] ∷ [])) nowhere ∷ [])) nowhere ∷ shows (ValueOf i) ∷ [])
    ∷ proper (codes "Inner") (Loop (block (Loop (block (increase i (num 1) nowhere ∷ Exit ∷ [])) nowhere ∷ when (compare comparison.Equal (ValueOf i) (num 3)) (Exit ∷ []) [] ∷ [])) nowhere ∷ shows (ValueOf i) ∷ [])
    ∷ proper (codes "Repeat") (Repeat (block (increase i (num 1) nowhere ∷ [])) (compare comparison.GreaterEqual (ValueOf i) (num 1)) nowhere ∷ shows (ValueOf i) ∷ [])
    ∷ procedure (codes "Find") None [] (Some long) [] nowhere (for_i (num 1) (num 9) (pos 1) (when (compare comparison.Equal (ValueOf i) (num 6)) (Return (Some (ValueOf i)) ∷ []) [] ∷ []) ∷ [])
    ∷ proper (codes "Return") (shows (function (named m (codes "Find")) NoActual nowhere) ∷ Return None ∷ shows (num 1) ∷ [])
    ∷ proper (codes "Rounds") (for_i (num 1) (num 3) (pos 1) [] ∷ [])
    ∷ proper (codes "Call") (shows (num 1) ∷ call (named m (codes "Rounds")) NoActual (at 7 7) ∷ [])
    ∷ []) []

abbrev go : List ℕ → Option Why × List ℕ
go x = outcome (run lp 100 x)

-- a control variable that the body changes counts as it is
changed_variable : go (codes "Changed") ≡ ends (codes "1357")
unfolding digits
changed_variable = refl

down : go (codes "Down") ≡ ends (codes "531-1")
unfolding digits
down = refl

-- the end value is kept before the first round
kept_end : go (codes "Kept") ≡ ends (codes "123")
unfolding digits
kept_end = refl

-- and before the start is assigned
end_before_start : go (codes "End") ≡ ends (codes "5")
unfolding digits
end_before_start = refl

exit_of_while : go (codes "Exit") ≡ ends (codes "4")
unfolding digits
exit_of_while = refl

exit_of_inner : go (codes "Inner") ≡ ends (codes "3")
unfolding digits
exit_of_inner = refl

one_round : go (codes "Repeat") ≡ ends (codes "1")
unfolding digits
one_round = refl

return_in_loop : go (codes "Return") ≡ ends (codes "6")
unfolding digits
return_in_loop = refl

-- three rounds take three turns
enough : outcome (run lp 3 (codes "Rounds")) ≡ ends []
enough = refl

too_few : outcome (run lp 2 (codes "Rounds")) ≡ spent m (at 3 1) []
too_few = refl

-- a call of Out and one of Rounds; the second finds no turn
spent_at_call : outcome (run lp 1 (codes "Call")) ≡ spent m (at 7 7) (codes "1")
unfolding digits
spent_at_call = refl

-- in the call there is none left
spent_in_call : outcome (run lp 4 (codes "Call")) ≡ spent m (at 3 1) (codes "1")
unfolding digits
spent_in_call = refl

all_spent : outcome (run lp 5 (codes "Call")) ≡ ends (codes "1")
unfolding digits
all_spent = refl
