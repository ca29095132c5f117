-- Calls: recursion, room, bound procedures, open arrays and strings.
use Rattle.std.proofs.Common.{◌≡◌, refl}
use Rattle.std.specs.Prelude.{ℕ, List, [], ◌∷◌, ◌++◌, Option, Some, None, true, false, codes, replicate, length}
use Rattle.std.specs.Fmt.{digits}
use Rattle.ob_trap.specs.declared.trap.Trap.TheVariants as trap
use Rattle.ob_tree.specs.declared.names.QName.{QName}
use Rattle.ob_types.specs.declared.types.TypeRef.{TypeRef}
use Rattle.ob_types.specs.declared.types.TypeRef.TheVariants as ref
use Rattle.ob_types.specs.declared.types.Basic.TheVariants as basic
use Rattle.ob_types.specs.declared.desc.Receiver.TheVariants as receiver
use Rattle.ob_types.specs.declared.typed.Width.TheVariants as width
use Rattle.ob_types.specs.declared.typed.Passing.TheVariants as passing
use Rattle.ob_types.specs.declared.typed.Comparison.TheVariants as comparison
use Rattle.ob_types.specs.declared.typed.Compared.TheVariants as compared
use Rattle.ob_types.specs.declared.typed.Binary.TheVariants as binary
use Rattle.ob_types.specs.declared.typed.Callee.TheVariants as callee
use Rattle.ob_types.specs.declared.typed.Assigned.TheVariants as assigned
use Rattle.ob_types.specs.declared.typed.Made.TheVariants as made
use Rattle.ob_types.specs.declared.typed.TypedParameter.{TypedParameter}
use Rattle.ob_types.specs.declared.typed.Binding.{Binding}
use Rattle.ob_types.specs.TypedSyntax.{Desig, Field, Index, Expr, Constant, ValueOf, Dyadic, IsRecord, Length, Call, NoActual, Stmt, Assign, CallProper, New, Return, Module}
use Rattle.ob_meaning.specs.Results.{Why}
use Rattle.ob_meaning.specs.Commands.{Ended, nothing_loaded, command}
use Rattle.ob_meaning.proofs.Build.{at, nowhere, named, long, char, type_of, a_field, record_type, pointer_type, array_type, open_type, global, own, parameter, num, letter, text, compare, scalar, passed, function, set_to, call, family_of, call_bound, out_int, out_char, out_text, out_line, when, increase, variable_of, parameter_of, procedure, proper, bound_to, unit_of, run, run_all, outcome, ends, traps, spent}
use Rattle.ob_types.specs.declared.value.Value.TheVariants as literal
use Rattle.ob_meaning.specs.Values.{Own, BasicForm, ArrayForm, At, OfModule, Active}
use Rattle.ob_meaning.specs.Calls.{has_room}

-- RECURSION AND ROOM

abbrev m : List ℕ
m = codes "Rc"

abbrev ref_to : List ℕ → TypeRef
ref_to x = ref.Named (named m x)

abbrev i : Desig
i = global m (codes "i") long

abbrev shows : Expr → Stmt
shows e = out_int e 0 nowhere

abbrev says : List ℕ → Stmt
says s = out_char (letter s) nowhere

abbrev n : Expr
n = ValueOf (parameter passing.Scalar (codes "n") long)

abbrev s : Desig
s = parameter passing.OpenArray (codes "s") (ref_to (codes "Say(1"))

abbrev w : Desig
w = parameter passing.Structure (codes "w") (ref_to (codes "W"))

abbrev c : Desig
c = global m (codes "c") (ref_to (codes "W"))

abbrev rc : Module
rc = unit_of m
    (type_of (codes "B") (array_type 300000 long) ∷ type_of (codes "W") (array_type 4 char) ∷ type_of (codes "Say(1") (open_type char) ∷ [])
    (variable_of (codes "i") long ∷ variable_of (codes "c") (ref_to (codes "W")) ∷ [])
    (procedure (codes "Fac") None (parameter_of (codes "n") passing.Scalar long ∷ []) (Some long) [] nowhere
    (when (compare comparison.Equal n (num 0)) (Return (Some (num 1)) ∷ []) []
    ∷ Return (Some (Dyadic (binary.Multiply width.LongInt) n (function (named m (codes "Fac")) (scalar (Dyadic (binary.Subtract width.LongInt) n (num 1) nowhere) NoActual) nowhere) (at 2 2))) ∷ [])
    ∷ procedure (codes "Deep") None [] None (variable_of (codes "b") (ref_to (codes "B")) ∷ []) nowhere
    (says (codes "d") ∷ call (named m (codes "Deep")) NoActual (at 4 4) ∷ [])
    ∷ procedure (codes "Out/In") None (parameter_of (codes "n") passing.Scalar long ∷ []) None [] nowhere (when (compare comparison.Greater n (num 0)) (shows n ∷ call (named m (codes "Out/In")) (scalar (Dyadic (binary.Subtract width.LongInt) n (num 1) nowhere) NoActual) nowhere ∷ []) [] ∷ [])
    ∷ procedure (codes "Out") None [] None (variable_of (codes "k") long ∷ []) nowhere
    (set_to (own (codes "k") long) (num 3) nowhere ∷ call (named m (codes "Out/In")) (scalar (ValueOf (own (codes "k") long)) NoActual) nowhere ∷ shows (ValueOf (own (codes "k") long)) ∷ [])
    ∷ procedure (codes "Say") None (parameter_of (codes "s") passing.OpenArray (ref_to (codes "Say(1")) ∷ []) None [] nowhere
    (shows (Length s) ∷ set_to (Index s None (num 0) (at 5 5) char) (letter (codes "*")) nowhere ∷ out_text (ValueOf s) (at 5 6) ∷ [])
    ∷ procedure (codes "Word") None (parameter_of (codes "w") passing.Structure (ref_to (codes "W")) ∷ []) None [] nowhere
    (out_text (ValueOf w) nowhere ∷ when (Dyadic (binary.Compare comparison.Equal compared.Char) (ValueOf (Index w (Some 4) (num 3) nowhere char)) (Constant (literal.Char 0)) nowhere) (says (codes "0") ∷ []) [] ∷ [])
    ∷ proper (codes "Fac5") (shows (function (named m (codes "Fac")) (scalar (num 5) NoActual) nowhere) ∷ [])
    ∷ proper (codes "Fac13") (shows (function (named m (codes "Fac")) (scalar (num 13) NoActual) nowhere) ∷ [])
    ∷ proper (codes "Strings") (call (named m (codes "Say")) (passed passing.OpenArray (text (codes "abc")) NoActual) nowhere
    ∷ call (named m (codes "Say")) (passed passing.OpenArray (text (codes "x")) NoActual) nowhere
    ∷ call (named m (codes "Word")) (passed passing.Structure (text (codes "ab")) NoActual) nowhere ∷ [])
    ∷ proper (codes "Arrays") (Assign c assigned.Text (text (codes "uvw")) nowhere ∷ call (named m (codes "Say")) (passed passing.OpenArray (ValueOf c) NoActual) nowhere
    ∷ Assign c assigned.Text (text (codes "q")) nowhere ∷ out_text (ValueOf c) nowhere ∷ out_char (ValueOf (Index c (Some 4) (num 2) nowhere char)) nowhere ∷ [])
    ∷ []) []

abbrev go : List ℕ → Option Why × List ℕ
go x = outcome (run rc 100 x)

factorial : go (codes "Fac5") ≡ ends (codes "120")
unfolding digits
factorial = refl

-- 13! is no LONGINT
large_factorial : go (codes "Fac13") ≡ traps trap.Overflow m (at 2 2) []
large_factorial = refl

-- three activations of 300,000 words fit, a fourth does not
too_deep : go (codes "Deep") ≡ traps trap.StackFull m (at 4 4) (codes "ddd")
too_deep = refl

-- 4,096 calls are active at most
abbrev small : Active
small = record { procedure = named m (codes "P"); held = Own (codes "x") (BasicForm basic.LongInt) ∷ []; places = λ x. At (OfModule [] x) [] }

all_calls : has_room (replicate 4096 small) ≡ true
all_calls = refl

one_call_more : has_room (replicate 4097 small) ≡ false
one_call_more = refl

abbrev large : Active
large = record { procedure = named m (codes "P"); held = Own (codes "x") (ArrayForm 1048576 (BasicForm basic.LongInt)) ∷ []; places = λ x. At (OfModule [] x) [] }

all_words : has_room (large ∷ []) ≡ true
all_words = refl

one_word_more : has_room (small ∷ large ∷ []) ≡ false
one_word_more = refl

inner : go (codes "Out") ≡ ends (codes "3213")
unfolding digits
inner = refl

-- a string has its 0X as an element; one of a single character has two elements; a shorter string leaves 0X behind it
strings : go (codes "Strings") ≡ ends (codes "4*bc2*ab0")
unfolding digits
strings = refl

-- an open array by value is the call's own; a string's assignment leaves the elements behind its 0X
arrays : go (codes "Arrays") ≡ ends (codes "4*vwqw")
unfolding digits
arrays = refl

-- THE HEAP: records of two words cost three, so three of them fill nine words

abbrev h : List ℕ
h = codes "H"

abbrev heap : Module
heap = unit_of h
    (type_of (codes "p:") (pointer_type (ref.Named (named h (codes "p:^")))) ∷ type_of (codes "p:^") (record_type None (a_field (codes "a") long ∷ a_field (codes "b") long ∷ [])) ∷ [])
    (variable_of (codes "p") (ref.Named (named h (codes "p:"))) ∷ [])
    (proper (codes "Go") (New (global h (codes "p") (ref.Named (named h (codes "p:")))) (made.Record (named h (codes "p:^"))) (at 3 22) ∷ []) ∷ []) []

abbrev again : Ended → Ended
again e = command e.system [] 9 10 (named h (codes "Go"))

abbrev once : Ended
once = command nothing_loaded (heap ∷ []) 9 10 (named h (codes "Go"))

last_words : outcome (again (again once)) ≡ ends []
last_words = refl

heap_full : outcome (again (again (again once))) ≡ traps trap.HeapFull h (at 3 22) []
heap_full = refl

-- BOUND PROCEDURES: Base has Draw and a hidden hid; N extends Base.R, redefines Draw, and has a hid of its own

abbrev b_r : QName
b_r = named (codes "Base") (codes "R")

abbrev b_f : TypeRef
b_f = ref.Named (named (codes "Base") (codes "F"))

abbrev n_r : QName
n_r = named (codes "N") (codes "R")

abbrev f : Expr
f = ValueOf (parameter passing.Scalar (codes "f") b_f)

abbrev receiver_of : TypeRef → List TypedParameter
receiver_of t = parameter_of (codes "f") passing.Scalar t ∷ []

abbrev send : QName → List ℕ → Stmt
send q x = call_bound q x receiver.Pointer (scalar f NoActual) (at 8 8)

abbrev base : Module
base = unit_of (codes "Base")
    (type_of (codes "F") (pointer_type (ref.Named b_r)) ∷ type_of (codes "R") (record_type None []) ∷ []) []
    (procedure (codes "R.Draw") (bound_to b_r receiver.Pointer (family_of b_r (codes "Draw"))) (receiver_of b_f) None [] nowhere (says (codes "b") ∷ [])
    ∷ procedure (codes "R.hid") (bound_to b_r receiver.Pointer (family_of b_r (codes "hid"))) (receiver_of b_f) None [] nowhere (send b_r (codes "Draw") ∷ out_line nowhere ∷ [])
    ∷ procedure (codes "Show") None (receiver_of b_f) None [] nowhere (send b_r (codes "hid") ∷ []) ∷ []) []

abbrev v_f : Desig
v_f = own (codes "f") b_f

abbrev viewer : Module
viewer = unit_of (codes "V") [] []
    (procedure (codes "See") None (receiver_of b_f) None [] nowhere (send b_r (codes "Draw") ∷ out_line nowhere ∷ [])
    ∷ procedure (codes "Go") None [] None (variable_of (codes "f") b_f ∷ []) nowhere (New v_f (made.Record b_r) nowhere ∷ call (named (codes "V") (codes "See")) (scalar (ValueOf v_f) NoActual) nowhere ∷ [])
    ∷ procedure (codes "Nil") None [] None (variable_of (codes "f") b_f ∷ []) nowhere (call (named (codes "V") (codes "See")) (scalar (ValueOf v_f) NoActual) nowhere ∷ []) ∷ []) []

abbrev n_f : Desig
n_f = own (codes "f") (ref.Named (named (codes "N") (codes "F")))

abbrev newer : Module
newer = unit_of (codes "N")
    (type_of (codes "F") (pointer_type (ref.Named n_r)) ∷ type_of (codes "R") (record_type (Some (ref.Named b_r)) []) ∷ []) []
    (procedure (codes "R.Draw") (bound_to n_r receiver.Pointer (family_of b_r (codes "Draw"))) (receiver_of b_f) None [] nowhere (says (codes "n") ∷ [])
    ∷ procedure (codes "R.hid") (bound_to n_r receiver.Pointer (family_of n_r (codes "hid"))) (receiver_of b_f) None [] nowhere (says (codes "x") ∷ [])
    ∷ procedure (codes "Go") None [] None (variable_of (codes "f") (ref.Named (named (codes "N") (codes "F"))) ∷ []) nowhere
    (New n_f (made.Record n_r) nowhere ∷ call (named (codes "V") (codes "See")) (scalar (ValueOf n_f) NoActual) nowhere ∷ call (named (codes "Base") (codes "Show")) (scalar (ValueOf n_f) NoActual) nowhere ∷ []) ∷ []) []

base_draws : outcome (run_all (base ∷ viewer ∷ []) (named (codes "V") (codes "Go")) 100) ≡ ends (codes "b" ++ 10 ∷ [])
base_draws = refl

-- a hidden procedure of one module and one of the same name in another are two families
newer_draws : outcome (run_all (base ∷ viewer ∷ newer ∷ []) (named (codes "N") (codes "Go")) 100) ≡ ends (codes "n" ++ 10 ∷ codes "n" ++ 10 ∷ [])
newer_draws = refl

-- a receiver that is NIL
nil_receiver : outcome (run_all (base ∷ viewer ∷ []) (named (codes "V") (codes "Nil")) 100) ≡ traps trap.Nil (codes "V") (at 8 8) []
nil_receiver = refl

-- THREE LEVELS of records by VAR; the middle one has no declaration of its own; the last one's calls the base's

abbrev k : List ℕ
k = codes "K"

abbrev level : List ℕ → QName
level x = named k x

abbrev t : Desig
t = parameter passing.VariableRecord (codes "t") (ref.Named (level (codes "A")))

abbrev t_of : List TypedParameter
t_of = parameter_of (codes "t") passing.VariableRecord (ref.Named (level (codes "A"))) ∷ []

abbrev me : List ℕ → Option Binding
me x = bound_to (level x) receiver.Record (family_of (level (codes "A")) (codes "Me"))

abbrev uses : List ℕ → Stmt
uses x = call (level (codes "Use")) (passed passing.VariableRecord (ValueOf (global k x (ref.Named (level (codes "A"))))) NoActual) nowhere

abbrev levels : Module
levels = unit_of k
    (type_of (codes "A") (record_type None (a_field (codes "x") long ∷ [])) ∷ type_of (codes "B") (record_type (Some (ref.Named (level (codes "A")))) [])
    ∷ type_of (codes "C") (record_type (Some (ref.Named (level (codes "B")))) (a_field (codes "y") long ∷ [])) ∷ [])
    (variable_of (codes "a") (ref.Named (level (codes "A"))) ∷ variable_of (codes "b") (ref.Named (level (codes "B"))) ∷ variable_of (codes "c") (ref.Named (level (codes "C"))) ∷ [])
    (procedure (codes "A.Me") (me (codes "A")) t_of None [] nowhere (says (codes "a") ∷ increase (Field t (level (codes "A")) (codes "x") long) (num 1) nowhere ∷ [])
    ∷ procedure (codes "C.Me") (me (codes "C")) t_of None [] nowhere (says (codes "c") ∷ CallProper (Call (callee.Super (level (codes "B")) (family_of (level (codes "A")) (codes "Me")) receiver.Record) (passed passing.VariableRecord (ValueOf t) NoActual) nowhere None) ∷ [])
    ∷ procedure (codes "Use") None t_of None [] nowhere
    (call_bound (level (codes "A")) (codes "Me") receiver.Record (passed passing.VariableRecord (ValueOf t) NoActual) nowhere
    ∷ when (IsRecord t (level (codes "B"))) (says (codes "+") ∷ []) [] ∷ shows (ValueOf (Field t (level (codes "A")) (codes "x") long)) ∷ [])
    ∷ proper (codes "Go") (uses (codes "a") ∷ uses (codes "b") ∷ uses (codes "c") ∷ uses (codes "c") ∷ []) ∷ []) []

three_levels : outcome (run levels 100 (codes "Go")) ≡ ends (codes "a1a+1ca+1ca+2")
unfolding digits
three_levels = refl

-- BODIES: they run as their modules come in, and share the turns; after a stop the later modules have not joined

abbrev first_unit : Module
first_unit = unit_of (codes "X") [] (variable_of (codes "n") long ∷ []) [] (says (codes "x") ∷ increase (global (codes "X") (codes "n") long) (num 7) nowhere ∷ [])

abbrev second_unit : Module
second_unit = unit_of (codes "Y") [] [] (proper (codes "Go") (shows (ValueOf (global (codes "X") (codes "n") long)) ∷ []) ∷ []) (says (codes "y") ∷ [])

bodies : outcome (run_all (first_unit ∷ second_unit ∷ []) (named (codes "Y") (codes "Go")) 3) ≡ ends (codes "xy7")
unfolding digits
bodies = refl

-- one module stays loaded, since its body began
abbrev cut_short : Ended
cut_short = run_all (first_unit ∷ second_unit ∷ []) (named (codes "Y") (codes "Go")) 0

stopped_body : outcome cut_short ≡ spent (codes "X") nowhere []
stopped_body = refl

stays : length cut_short.system.program ≡ 1
stays = refl

-- THREE MODULES, each of whose records extends that of the one before: the first introduces P, the second a hidden hid, and the
-- third redefines P, which calls the one above, and has a hid of its own

abbrev low_r : QName
low_r = named (codes "Low") (codes "R")

abbrev mid_s : QName
mid_s = named (codes "Mid") (codes "S")

abbrev high_t : QName
high_t = named (codes "High") (codes "T")

abbrev by_var : List ℕ → QName → Desig
by_var x q = parameter passing.VariableRecord x (ref.Named q)

abbrev takes_var : QName → List TypedParameter
takes_var q = parameter_of (codes "t") passing.VariableRecord (ref.Named q) ∷ []

abbrev send_var : QName → List ℕ → QName → Stmt
send_var q x t = call_bound q x receiver.Record (passed passing.VariableRecord (ValueOf (by_var (codes "t") t)) NoActual) nowhere

abbrev give_t : QName → Stmt
give_t q = call q (passed passing.VariableRecord (ValueOf (global (codes "High") (codes "t") (ref.Named high_t))) NoActual) nowhere

abbrev low : Module
low = unit_of (codes "Low") (type_of (codes "R") (record_type None []) ∷ []) []
    (procedure (codes "R.P") (bound_to low_r receiver.Record (family_of low_r (codes "P"))) (takes_var low_r) None [] nowhere (says (codes "1") ∷ [])
    ∷ procedure (codes "Use") None (takes_var low_r) None [] nowhere (send_var low_r (codes "P") low_r ∷ []) ∷ []) []

abbrev mid : Module
mid = unit_of (codes "Mid") (type_of (codes "S") (record_type (Some (ref.Named low_r)) []) ∷ []) []
    (procedure (codes "S.hid") (bound_to mid_s receiver.Record (family_of mid_s (codes "hid"))) (takes_var mid_s) None [] nowhere (says (codes "2") ∷ [])
    ∷ procedure (codes "Hide") None (takes_var mid_s) None [] nowhere (send_var mid_s (codes "hid") mid_s ∷ []) ∷ []) []

abbrev high : Module
high = unit_of (codes "High") (type_of (codes "T") (record_type (Some (ref.Named mid_s)) []) ∷ []) (variable_of (codes "t") (ref.Named high_t) ∷ [])
    (procedure (codes "T.P") (bound_to high_t receiver.Record (family_of low_r (codes "P"))) (takes_var high_t) None [] nowhere
    (says (codes "3") ∷ CallProper (Call (callee.Super mid_s (family_of low_r (codes "P")) receiver.Record) (passed passing.VariableRecord (ValueOf (by_var (codes "t") high_t)) NoActual) nowhere None) ∷ [])
    ∷ procedure (codes "T.hid") (bound_to high_t receiver.Record (family_of high_t (codes "hid"))) (takes_var high_t) None [] nowhere (says (codes "x") ∷ [])
    ∷ proper (codes "Go") (give_t (named (codes "Low") (codes "Use")) ∷ give_t (named (codes "Mid") (codes "Hide")) ∷ []) ∷ []) []

hidden_between : outcome (run_all (low ∷ mid ∷ high ∷ []) (named (codes "High") (codes "Go")) 100) ≡ ends (codes "312")
hidden_between = refl
