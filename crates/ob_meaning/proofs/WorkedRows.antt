-- Whole modules with what they write.
use Rattle.std.proofs.Common.{◌≡◌, refl}
use Rattle.std.specs.Prelude.{ℕ, List, [], ◌∷◌, ◌++◌, pos, Some, None, codes}
use Rattle.std.specs.Fmt.{digits}
use Rattle.ob_trap.specs.declared.trap.Trap.TheVariants as trap
use Rattle.ob_types.specs.declared.types.TypeRef.{TypeRef}
use Rattle.ob_types.specs.declared.types.TypeRef.TheVariants as ref
use Rattle.ob_types.specs.declared.typed.Width.TheVariants as width
use Rattle.ob_types.specs.declared.typed.Passing.TheVariants as passing
use Rattle.ob_types.specs.declared.typed.Variable.TheVariants as variable
use Rattle.ob_types.specs.declared.typed.Guarded.TheVariants as guarded
use Rattle.ob_types.specs.declared.typed.Comparison.TheVariants as comparison
use Rattle.ob_types.specs.declared.typed.Assigned.TheVariants as assigned
use Rattle.ob_types.specs.declared.typed.Made.TheVariants as made
use Rattle.ob_types.specs.TypedSyntax.{Desig, Field, Deref, Guard, ValueOf, IsPointer, NoActual, Assign, New, While, For, Loop, With, Branch, NoBranch, NoElse, Nothing, Module}
use Rattle.ob_meaning.proofs.Build.{at, nowhere, named, long, short, type_of, a_field, record_type, pointer_type, global, parameter, num, letter, plus, compare, passed, block, set_to, call, out_int, out_char, out_line, increase, variable_of, parameter_of, procedure, proper, unit_of, run, next, outcome, ends, traps, spent}

-- Hello: Out.Int(6 * 7, 0); Out.Ln
abbrev hello : Module
hello = unit_of (codes "Hello") [] [] (proper (codes "Go") (out_int (num 42) 0 nowhere ∷ out_line nowhere ∷ []) ∷ []) []

hello-says : outcome (run hello 10 (codes "Go")) ≡ ends (codes "42" ++ 10 ∷ [])
unfolding digits
hello-says = refl

-- Sum: i := 0; s := 0; WHILE i < 10 DO i := i + 1; s := s + i END; Out.Int(s, 0); Out.Ln
abbrev sum_i : Desig
sum_i = global (codes "Sum") (codes "i") long

abbrev sum_s : Desig
sum_s = global (codes "Sum") (codes "s") long

abbrev sums : Module
sums = unit_of (codes "Sum") [] (variable_of (codes "i") long ∷ variable_of (codes "s") long ∷ []) (proper (codes "Go") (
    set_to sum_i (num 0) nowhere
    ∷ set_to sum_s (num 0) nowhere
    ∷ While (compare comparison.Less (ValueOf sum_i) (num 10)) (block (
    set_to sum_i (plus (ValueOf sum_i) (num 1) nowhere) nowhere
    ∷ set_to sum_s (plus (ValueOf sum_s) (ValueOf sum_i) nowhere) nowhere
    ∷ [])) nowhere
    ∷ out_int (ValueOf sum_s) 0 nowhere
    ∷ out_line nowhere
    ∷ []) ∷ []) []

sum-says : outcome (run sums 100 (codes "Go")) ≡ ends (codes "55" ++ 10 ∷ [])
unfolding digits
sum-says = refl

-- W: a pointer that is changed behind its guard traps at its next occurrence
abbrev w : List ℕ
w = codes "W"

abbrev w_ref : List ℕ → TypeRef
w_ref x = ref.Named (named w x)

abbrev w_p : Desig
w_p = global w (codes "p") (w_ref (codes "P"))

abbrev w_q : Desig
w_q = global w (codes "q") (w_ref (codes "Q"))

abbrev w_r : Desig
w_r = global w (codes "r") (w_ref (codes "P"))

-- p.x where WITH p: Q has added its guard
abbrev w_x : ℕ → Desig
w_x c = Field (Deref (Guard w_p guarded.Pointer (named w (codes "S")) (at 6 c) (w_ref (codes "Q"))) (at 6 (c)) (w_ref (codes "S"))) (named w (codes "S")) (codes "x") long

abbrev ws : Module
ws = unit_of w
    (type_of (codes "P") (pointer_type (w_ref (codes "R"))) ∷ type_of (codes "R") (record_type None [])
    ∷ type_of (codes "Q") (pointer_type (w_ref (codes "S"))) ∷ type_of (codes "S") (record_type (Some (w_ref (codes "R"))) (a_field (codes "x") long ∷ [])) ∷ [])
    (variable_of (codes "p") (w_ref (codes "P")) ∷ variable_of (codes "q") (w_ref (codes "Q")) ∷ variable_of (codes "r") (w_ref (codes "P")) ∷ [])
    (proper (codes "Spoil") (set_to w_p (ValueOf w_r) nowhere ∷ [])
    ∷ proper (codes "Go") (
    New w_q (made.Record (named w (codes "S"))) nowhere
    ∷ New w_r (made.Record (named w (codes "R"))) nowhere
    ∷ set_to w_p (ValueOf w_q) nowhere
    ∷ With (Branch (IsPointer (ValueOf w_p) (named w (codes "S"))) (block (
    set_to (w_x 16) (num 5) nowhere
    ∷ call (named w (codes "Spoil")) NoActual (at 6 26)
    ∷ set_to (w_x 33) (num 6) nowhere ∷ [])) NoBranch) NoElse (at 6 3)
    ∷ []) ∷ []) []

w-says : outcome (run ws 10 (codes "Go")) ≡ traps trap.GuardFails w (at 6 33) []
w-says = refl

-- Rec: a record assignment copies the target's fields alone; to another dynamic type it traps
abbrev rc : List ℕ
rc = codes "Rec"

abbrev rc_ref : List ℕ → TypeRef
rc_ref x = ref.Named (named rc x)

abbrev rc_x : Desig
rc_x = global rc (codes "x") (rc_ref (codes "T1"))

abbrev rc_z : Desig
rc_z = global rc (codes "z") (rc_ref (codes "T0"))

abbrev rc_a : Desig → Desig
rc_a d = Field d (named rc (codes "T0")) (codes "a") long

abbrev rc_b : Desig → Desig
rc_b d = Field d (named rc (codes "T1")) (codes "b") long

abbrev recs : Module
recs = unit_of rc
    (type_of (codes "T0") (record_type None (a_field (codes "a") long ∷ [])) ∷ type_of (codes "T1") (record_type (Some (rc_ref (codes "T0"))) (a_field (codes "b") long ∷ [])) ∷ [])
    (variable_of (codes "x") (rc_ref (codes "T1")) ∷ variable_of (codes "z") (rc_ref (codes "T0")) ∷ [])
    (procedure (codes "Set") None (parameter_of (codes "t") passing.VariableRecord (rc_ref (codes "T0")) ∷ []) None [] nowhere
    (Assign (parameter passing.VariableRecord (codes "t") (rc_ref (codes "T0"))) (assigned.Record (named rc (codes "T0"))) (ValueOf rc_z) (at 4 35) ∷ [])
    ∷ proper (codes "Go") (
    set_to (rc_a rc_x) (num 1) nowhere
    ∷ set_to (rc_b rc_x) (num 2) nowhere
    ∷ Assign rc_z (assigned.Record (named rc (codes "T0"))) (ValueOf rc_x) nowhere
    ∷ out_int (ValueOf (rc_a rc_z)) 0 nowhere
    ∷ out_line nowhere
    ∷ call (named rc (codes "Set")) (passed passing.VariableRecord (ValueOf rc_z) NoActual) nowhere
    ∷ call (named rc (codes "Set")) (passed passing.VariableRecord (ValueOf rc_x) NoActual) nowhere
    ∷ []) ∷ []) []

rec-says : outcome (run recs 10 (codes "Go")) ≡ traps trap.OtherType rc (at 4 35) (codes "1" ++ 10 ∷ [])
unfolding digits
rec-says = refl

-- L: the last addition of FOR traps; what the body did stays
abbrev lm : List ℕ
lm = codes "L"

abbrev lm_n : Desig
lm_n = global lm (codes "n") long

abbrev last : Module
last = unit_of lm [] (variable_of (codes "i") short ∷ variable_of (codes "n") long ∷ [])
    (proper (codes "Go") (For (variable.Module lm (codes "i")) width.ShortInt (num 0) (num 127) (pos 1) (block (increase lm_n (num 1) nowhere ∷ [])) (at 3 1) ∷ [])
    ∷ proper (codes "Say") (out_int (ValueOf lm_n) 0 nowhere ∷ out_line nowhere ∷ []) ∷ []) []

last-says : outcome (run last 1000 (codes "Go")) ≡ traps trap.Overflow lm (at 3 1) []
last-says = refl

last-says-then : outcome (next (run last 1000 (codes "Go")) (named lm (codes "Say")) 10) ≡ ends (codes "128" ++ 10 ∷ [])
unfolding digits
last-says-then = refl

-- T: turns that are spent in a loop, with what was written before
abbrev tm : List ℕ
tm = codes "T"

abbrev turns : Module
turns = unit_of tm [] []
    (proper (codes "A") (Loop Nothing (at 3 1) ∷ []) ∷ proper (codes "B") (Loop (block (out_char (letter (codes "a")) (at 6 6) ∷ [])) (at 6 1) ∷ []) ∷ []) []

turns-a : outcome (run turns 5 (codes "A")) ≡ spent tm (at 3 1) []
turns-a = refl

turns-b : outcome (run turns 5 (codes "B")) ≡ spent tm (at 6 1) (codes "aaa")
turns-b = refl
