-- The order in which things are done.
use Rattle.std.proofs.Common.{◌≡◌, refl}
use Rattle.std.specs.Prelude.{ℕ, List, [], ◌∷◌, Option, Some, None, true, codes}
use Rattle.std.specs.Fmt.{digits}
use Rattle.ob_trap.specs.declared.trap.Trap.TheVariants as trap
use Rattle.ob_types.specs.declared.types.TypeRef.{TypeRef}
use Rattle.ob_types.specs.declared.types.TypeRef.TheVariants as ref
use Rattle.ob_types.specs.declared.value.Value.TheVariants as literal
use Rattle.ob_types.specs.declared.typed.Passing.TheVariants as passing
use Rattle.ob_types.specs.declared.typed.Connective.TheVariants as connective
use Rattle.ob_types.specs.declared.typed.Unary.TheVariants as unary
use Rattle.ob_types.specs.TypedSyntax.{Desig, Field, Index, Deref, Expr, Constant, ValueOf, ProcedureValue, Monadic, Logical, CallVariable, NoActual, Stmt, CallProper, Return, Module}
use Rattle.ob_meaning.specs.Results.{Why}
use Rattle.ob_meaning.proofs.Build.{at, nowhere, named, long, truth, type_of, a_field, record_type, pointer_type, array_type, procedure_type, global, parameter, num, letter, nil, plus, scalar, passed, function, set_to, call, out_int, out_char, when, increase, variable_of, parameter_of, procedure, proper, unit_of, run, outcome, ends, traps}

abbrev m : List ℕ
m = codes "Od"

abbrev ref_to : List ℕ → TypeRef
ref_to x = ref.Named (named m x)

abbrev i : Desig
i = global m (codes "i") long

abbrev a : Desig
a = global m (codes "a") (ref_to (codes "A"))

abbrev v : Desig
v = global m (codes "v") (ref_to (codes "V"))

abbrev p : Desig
p = global m (codes "p") (ref_to (codes "P"))

abbrev element : ℕ → Desig
element k = Index a (Some 4) (num k) nowhere long

abbrev shows : Expr → Stmt
shows e = out_int e 0 nowhere

abbrev says : List ℕ → Stmt
says s = out_char (letter s) nowhere

abbrev of : List ℕ → Expr
of x = function (named m x) NoActual nowhere

abbrev returns : ℕ → Stmt
returns n = Return (Some (num n))

abbrev od : Module
od = unit_of m
    (type_of (codes "A") (array_type 4 long) ∷ type_of (codes "V") procedure_type ∷ type_of (codes "R") (record_type None (a_field (codes "x") long ∷ []))
    ∷ type_of (codes "P") (pointer_type (ref_to (codes "R"))) ∷ [])
    (variable_of (codes "i") long ∷ variable_of (codes "a") (ref_to (codes "A")) ∷ variable_of (codes "v") (ref_to (codes "V")) ∷ variable_of (codes "p") (ref_to (codes "P")) ∷ [])
    (procedure (codes "F") None [] (Some long) [] nowhere (set_to i (num 10) nowhere ∷ returns 5 ∷ [])
    ∷ procedure (codes "G") None [] (Some long) [] nowhere (says (codes "g") ∷ returns 1 ∷ [])
    ∷ procedure (codes "H") None [] (Some long) [] nowhere (says (codes "h") ∷ returns 7 ∷ [])
    ∷ procedure (codes "P") None (parameter_of (codes "x") passing.Scalar long ∷ []) None [] nowhere (says (codes "p") ∷ [])
    ∷ procedure (codes "Q") None (parameter_of (codes "x") passing.Scalar long ∷ []) None [] nowhere (says (codes "q") ∷ [])
    ∷ procedure (codes "ToQ") None [] (Some long) [] nowhere (set_to v (ProcedureValue (named m (codes "Q")) (record { params = []; result = None })) nowhere ∷ returns 1 ∷ [])
    ∷ procedure (codes "ToNil") None [] (Some long) [] nowhere (set_to v nil nowhere ∷ says (codes "n") ∷ returns 1 ∷ [])
    ∷ procedure (codes "Two") None (parameter_of (codes "x") passing.Variable long ∷ parameter_of (codes "y") passing.Variable long ∷ []) None [] nowhere
    (set_to (parameter passing.Variable (codes "x") long) (num 1) nowhere ∷ set_to (parameter passing.Variable (codes "y") long) (num 2) nowhere
    ∷ shows (ValueOf (parameter passing.Variable (codes "x") long)) ∷ [])
    ∷ procedure (codes "ToNine") None [] (Some long) [] nowhere (set_to (element 0) (num 9) nowhere ∷ returns 0 ∷ [])
    ∷ procedure (codes "First") None (parameter_of (codes "x") passing.Structure (ref_to (codes "A")) ∷ parameter_of (codes "n") passing.Scalar long ∷ []) None [] nowhere
    (shows (ValueOf (Index (parameter passing.Structure (codes "x") (ref_to (codes "A"))) (Some 4) (num 0) nowhere long))
    ∷ set_to (Index (parameter passing.Structure (codes "x") (ref_to (codes "A"))) (Some 4) (num 0) nowhere long) (num 8) nowhere ∷ [])
    ∷ procedure (codes "True") None [] (Some truth) [] nowhere (says (codes "t") ∷ Return (Some (Constant (literal.Bool true))) ∷ [])
    ∷ proper (codes "Left") (set_to i (num 1) nowhere ∷ shows (plus (ValueOf i) (of (codes "F")) nowhere) ∷ [])
    ∷ proper (codes "Right") (set_to i (num 1) nowhere ∷ shows (plus (of (codes "F")) (ValueOf i) nowhere) ∷ [])
    ∷ proper (codes "Assign") (set_to (Index a (Some 4) (of (codes "G")) nowhere long) (of (codes "H")) nowhere ∷ shows (ValueOf (element 1)) ∷ [])
    ∷ proper (codes "Before") (set_to i (num 9) nowhere ∷ set_to (Index a (Some 4) (ValueOf i) (at 1 1) long) (of (codes "H")) nowhere ∷ [])
    ∷ proper (codes "Nil") (set_to (Field (Deref p (at 1 2) (ref_to (codes "R"))) (named m (codes "R")) (codes "x") long) (of (codes "H")) nowhere ∷ [])
    ∷ proper (codes "Taken") (set_to v (ProcedureValue (named m (codes "P")) (record { params = []; result = None })) nowhere
    ∷ CallProper (CallVariable v (scalar (of (codes "ToQ")) NoActual) nowhere None) ∷ CallProper (CallVariable v (scalar (num 1) NoActual) nowhere None) ∷ [])
    ∷ proper (codes "NilLate") (CallProper (CallVariable v (scalar (of (codes "ToNil")) NoActual) (at 1 3) None) ∷ [])
    ∷ proper (codes "Inc") (set_to i (num 1) nowhere ∷ increase i (of (codes "F")) nowhere ∷ shows (ValueOf i) ∷ [])
    ∷ proper (codes "Alias") (call (named m (codes "Two")) (passed passing.Variable (ValueOf i) (passed passing.Variable (ValueOf i) NoActual)) nowhere ∷ [])
    ∷ proper (codes "Late") (set_to (element 0) (num 3) nowhere ∷ call (named m (codes "First")) (passed passing.Structure (ValueOf a) (scalar (of (codes "ToNine")) NoActual)) nowhere ∷ shows (ValueOf (element 0)) ∷ [])
    ∷ proper (codes "Or") (when (Logical connective.Or (of (codes "True")) (of (codes "True"))) (says (codes "y") ∷ []) [] ∷ [])
    ∷ proper (codes "And") (when (Logical connective.And (of (codes "True")) (Monadic unary.Not (of (codes "True")) nowhere)) [] (says (codes "n") ∷ []) ∷ [])
    ∷ []) []

abbrev go : List ℕ → Option Why × List ℕ
go x = outcome (run od 100 x)

-- i + F(), where F changes i: the left operand was read before
left : go (codes "Left") ≡ ends (codes "6")
unfolding digits
left = refl

right : go (codes "Right") ≡ ends (codes "15")
unfolding digits
right = refl

-- a[G()] := H()
assign : go (codes "Assign") ≡ ends (codes "gh7")
unfolding digits
assign = refl

-- an index and a NIL before := trap before the value is computed
before : go (codes "Before") ≡ traps trap.IndexOutside m (at 1 1) []
before = refl

nil_before : go (codes "Nil") ≡ traps trap.Nil m (at 1 2) []
nil_before = refl

-- the value of a procedure variable is taken before the actual parameters change it
taken : go (codes "Taken") ≡ ends (codes "pq")
taken = refl

-- and its NIL is found behind the actual parameters
nil_late : go (codes "NilLate") ≡ traps trap.Nil m (at 1 3) (codes "n")
nil_late = refl

-- INC(i, F()), where F sets i to 10 and gives 5
inc : go (codes "Inc") ≡ ends (codes "15")
unfolding digits
inc = refl

-- two parameters by VAR that are one variable
two_names : go (codes "Alias") ≡ ends (codes "2")
unfolding digits
two_names = refl

-- a structured parameter by value is copied as the call begins, behind a later parameter that changes it; the copy is the call's own
late : go (codes "Late") ≡ ends (codes "99")
unfolding digits
late = refl

short_or : go (codes "Or") ≡ ends (codes "ty")
short_or = refl

both_and : go (codes "And") ≡ ends (codes "ttn")
both_and = refl
