-- Values of each kind, records, pointers and guards.
use Rattle.std.proofs.Common.{◌≡◌, refl}
use Rattle.std.specs.Prelude.{ℕ, List, [], ◌∷◌, negsuc, Option, Some, None, codes}
use Rattle.std.specs.Fmt.{digits}
use Rattle.ob_trap.specs.declared.trap.Trap.TheVariants as trap
use Rattle.ob_types.specs.declared.types.TypeRef.{TypeRef}
use Rattle.ob_types.specs.declared.types.TypeRef.TheVariants as ref
use Rattle.ob_types.specs.declared.typed.Width.TheVariants as width
use Rattle.ob_types.specs.declared.typed.Passing.TheVariants as passing
use Rattle.ob_types.specs.declared.typed.Guarded.TheVariants as guarded
use Rattle.ob_types.specs.declared.typed.Comparison.TheVariants as comparison
use Rattle.ob_types.specs.declared.typed.Compared.TheVariants as compared
use Rattle.ob_types.specs.declared.typed.Unary.TheVariants as unary
use Rattle.ob_types.specs.declared.typed.Binary.TheVariants as binary
use Rattle.ob_types.specs.declared.typed.OutProcedure.TheVariants as out
use Rattle.ob_types.specs.declared.typed.Callee.TheVariants as callee
use Rattle.ob_types.specs.declared.typed.Assigned.TheVariants as assigned
use Rattle.ob_types.specs.declared.typed.Made.TheVariants as made
use Rattle.ob_types.specs.TypedSyntax.{Desig, Field, Deref, Guard, Expr, Constant, ValueOf, Monadic, Dyadic, CompareTexts, IsPointer, IsRecord, Call, NoActual, Stmt, Assign, CallProper, New, With, Branch, NoBranch, Else, Module}
use Rattle.ob_meaning.specs.Results.{Why}
use Rattle.ob_meaning.proofs.Build.{at, nowhere, named, long, char, sets, type_of, a_field, record_type, pointer_type, array_type, global, parameter, num, int, letter, text, nil, scalar, passed, block, set_to, call, out_int, out_char, when, increase, variable_of, parameter_of, procedure, proper, unit_of, run, outcome, ends, traps}
use Rattle.ob_types.specs.declared.value.Value.TheVariants as literal
use Rattle.ob_types.specs.declared.typed.Unary.{Unary}
use Rattle.ob_types.specs.declared.typed.Binary.{Binary}
use Rattle.ob_meaning.specs.Globals.{globals_words}

abbrev m : List ℕ
m = codes "Va"

abbrev ref_to : List ℕ → TypeRef
ref_to x = ref.Named (named m x)

abbrev i : Desig
i = global m (codes "i") long

abbrev s : Desig
s = global m (codes "s") sets

abbrev c : Desig
c = global m (codes "c") (ref_to (codes "C"))

abbrev r : Desig
r = global m (codes "r") (ref_to (codes "R"))

abbrev x : Desig
x = global m (codes "x") (ref_to (codes "S"))

abbrev p : Desig
p = global m (codes "p") (ref_to (codes "P"))

abbrev q : Desig
q = global m (codes "q") (ref_to (codes "Q"))

abbrev shows : Expr → Stmt
shows e = out_int e 0 nowhere

abbrev says : List ℕ → Stmt
says t = out_char (letter t) nowhere

abbrev asks : Expr → Stmt
asks e = when e (says (codes "y") ∷ []) (says (codes "n") ∷ [])

abbrev one : Unary → Expr → Expr
one op e = Monadic op e nowhere

abbrev two : Binary → Expr → Expr → Expr
two op a b = Dyadic op a b nowhere

abbrev is_in : ℕ → Expr → Stmt
is_in n e = asks (two binary.In (num n) e)

abbrev set_of : ℕ → ℕ → Expr
set_of a b = two binary.Union (two binary.Union (Constant (literal.Set 0)) (one unary.Element (num a))) (one unary.Element (num b))

abbrev field_a : Desig → Desig
field_a d = Field d (named m (codes "R")) (codes "a") long

abbrev field_b : Desig → Desig
field_b d = Field d (named m (codes "S")) (codes "b") long

abbrev pointee : Desig → List ℕ → Desig
pointee d t = Deref d nowhere (ref_to t)

abbrev values : Module
values = unit_of m
    (type_of (codes "C") (array_type 6 char) ∷ type_of (codes "R") (record_type None (a_field (codes "a") long ∷ []))
    ∷ type_of (codes "S") (record_type (Some (ref_to (codes "R"))) (a_field (codes "b") long ∷ []))
    ∷ type_of (codes "P") (pointer_type (ref_to (codes "R"))) ∷ type_of (codes "Q") (pointer_type (ref_to (codes "S"))) ∷ [])
    (variable_of (codes "i") long ∷ variable_of (codes "s") sets ∷ variable_of (codes "c") (ref_to (codes "C")) ∷ variable_of (codes "r") (ref_to (codes "R"))
    ∷ variable_of (codes "x") (ref_to (codes "S")) ∷ variable_of (codes "p") (ref_to (codes "P")) ∷ variable_of (codes "q") (ref_to (codes "Q")) ∷ [])
    (proper (codes "Sets") (set_to s (set_of 3 5) nowhere ∷ is_in 3 (ValueOf s) ∷ is_in 4 (ValueOf s) ∷ is_in 4 (two binary.Range (num 3) (num 5)) ∷ is_in 4 (two binary.Range (num 5) (num 3))
    ∷ is_in 3 (one unary.Complement (ValueOf s)) ∷ is_in 31 (one unary.Complement (ValueOf s)) ∷ is_in 5 (two binary.Difference (ValueOf s) (Constant (literal.Set 32)))
    ∷ is_in 5 (two binary.Intersection (ValueOf s) (Constant (literal.Set 32))) ∷ is_in 3 (two binary.SymmetricDifference (ValueOf s) (Constant (literal.Set 40)))
    ∷ asks (two (binary.Compare comparison.Equal compared.Set) (ValueOf s) (Constant (literal.Set 40)))
    ∷ asks (two (binary.Compare comparison.Equal compared.Set) (one unary.Complement (Constant (literal.Set 0))) (Constant (literal.Set 4294967295))) ∷ [])
    ∷ proper (codes "Functions") (set_to i (int (negsuc 8)) nowhere ∷ shows (one (unary.Abs width.LongInt) (ValueOf i)) ∷ asks (one unary.Odd (ValueOf i)) ∷ out_char (one unary.Cap (letter (codes "z"))) nowhere
    ∷ out_char (one unary.Cap (letter (codes "@"))) nowhere ∷ shows (one unary.Ord (letter (codes "A"))) ∷ out_char (one unary.Chr (num 66)) nowhere ∷ [])
    ∷ proper (codes "Wide") (out_int (num 42) 5 nowhere ∷ out_int (int (negsuc 6)) 1 nowhere ∷ CallProper (Call (callee.Out out.Int) (scalar (num 7) (scalar (int (negsuc 2)) NoActual)) nowhere None) ∷ [])
    ∷ proper (codes "Texts") (Assign c assigned.Text (text (codes "ab")) nowhere ∷ asks (CompareTexts comparison.Equal (ValueOf c) (text (codes "ab")) nowhere)
    ∷ asks (CompareTexts comparison.Less (ValueOf c) (text (codes "abc")) nowhere) ∷ asks (CompareTexts comparison.Greater (ValueOf c) (text (codes "aa")) nowhere)
    ∷ asks (CompareTexts comparison.GreaterEqual (text []) (ValueOf c) nowhere) ∷ [])
    ∷ proper (codes "Pointers") (asks (two (binary.Compare comparison.Equal compared.Pointer) (ValueOf p) nil) ∷ New q (made.Record (named m (codes "S"))) nowhere ∷ set_to p (ValueOf q) nowhere
    ∷ asks (two (binary.Compare comparison.Equal compared.Pointer) (ValueOf p) (ValueOf q)) ∷ New q (made.Record (named m (codes "S"))) nowhere
    ∷ asks (two (binary.Compare comparison.NotEqual compared.Pointer) (ValueOf p) (ValueOf q)) ∷ shows (ValueOf (field_b (pointee q (codes "S")))) ∷ [])
    ∷ proper (codes "Tests") (asks (IsPointer (ValueOf p) (named m (codes "R"))) ∷ New p (made.Record (named m (codes "R"))) nowhere ∷ asks (IsPointer (ValueOf p) (named m (codes "R")))
    ∷ asks (IsPointer (ValueOf p) (named m (codes "S"))) ∷ New q (made.Record (named m (codes "S"))) nowhere ∷ set_to p (ValueOf q) nowhere ∷ asks (IsPointer (ValueOf p) (named m (codes "S")))
    ∷ set_to (field_b (pointee (Guard p guarded.Pointer (named m (codes "S")) nowhere (ref_to (codes "Q"))) (codes "S"))) (num 6) nowhere ∷ shows (ValueOf (field_b (pointee q (codes "S"))))
    ∷ New p (made.Record (named m (codes "R"))) nowhere ∷ set_to q (ValueOf (Guard p guarded.Pointer (named m (codes "S")) (at 9 9) (ref_to (codes "Q")))) nowhere ∷ [])
    ∷ proper (codes "Whole") (set_to (field_a (pointee p (codes "R"))) (num 1) nowhere ∷ [])
    ∷ procedure (codes "ByValue") None (parameter_of (codes "t") passing.Structure (ref_to (codes "R")) ∷ []) None [] nowhere
    (increase (field_a (parameter passing.Structure (codes "t") (ref_to (codes "R")))) (num 1) nowhere
    ∷ shows (ValueOf (field_a (parameter passing.Structure (codes "t") (ref_to (codes "R"))))) ∷ call (named m (codes "ByVar")) (passed passing.VariableRecord (ValueOf (parameter passing.Structure (codes "t") (ref_to (codes "R")))) NoActual) nowhere ∷ [])
    ∷ procedure (codes "ByVar") None (parameter_of (codes "t") passing.VariableRecord (ref_to (codes "R")) ∷ []) None [] nowhere
    (asks (IsRecord (parameter passing.VariableRecord (codes "t") (ref_to (codes "R"))) (named m (codes "S"))) ∷ increase (field_a (parameter passing.VariableRecord (codes "t") (ref_to (codes "R")))) (num 10) nowhere ∷ [])
    ∷ procedure (codes "Guarded") None (parameter_of (codes "t") passing.VariableRecord (ref_to (codes "R")) ∷ []) None [] nowhere
    (With (Branch (IsRecord (parameter passing.VariableRecord (codes "t") (ref_to (codes "R"))) (named m (codes "S")))
    (block (shows (ValueOf (field_b (Guard (parameter passing.VariableRecord (codes "t") (ref_to (codes "R"))) guarded.Record (named m (codes "S")) nowhere (ref_to (codes "S"))))) ∷ [])) NoBranch)
    (Else (block (says (codes "-") ∷ []))) nowhere
    ∷ set_to (field_b (Guard (parameter passing.VariableRecord (codes "t") (ref_to (codes "R"))) guarded.Record (named m (codes "S")) (at 7 1) (ref_to (codes "S")))) (num 9) nowhere ∷ [])
    ∷ proper (codes "Records") (set_to (field_a x) (num 4) nowhere ∷ call (named m (codes "ByValue")) (passed passing.Structure (ValueOf x) NoActual) nowhere ∷ shows (ValueOf (field_a x))
    ∷ call (named m (codes "ByVar")) (passed passing.VariableRecord (ValueOf x) NoActual) nowhere ∷ shows (ValueOf (field_a x)) ∷ [])
    ∷ proper (codes "Guards") (set_to (field_b x) (num 5) nowhere ∷ call (named m (codes "Guarded")) (passed passing.VariableRecord (ValueOf x) NoActual) nowhere ∷ shows (ValueOf (field_b x))
    ∷ call (named m (codes "Guarded")) (passed passing.VariableRecord (ValueOf r) NoActual) nowhere ∷ [])
    ∷ []) []

abbrev go : List ℕ → Option Why × List ℕ
go t = outcome (run values 100 t)

sets_say : go (codes "Sets") ≡ ends (codes "ynynnynynyy")
sets_say = refl

functions : go (codes "Functions") ≡ ends (codes "9yZ@65B")
unfolding digits
functions = refl

-- right in its columns; a width below the length or below 0 adds nothing
columns : go (codes "Wide") ≡ ends (codes "   42-77")
unfolding digits
columns = refl

texts : go (codes "Texts") ≡ ends (codes "yyyn")
texts = refl

-- NIL at first; the same object under two names; two objects; a new object's field is 0
pointers : go (codes "Pointers") ≡ ends (codes "yyy0")
unfolding digits
pointers = refl

tests : go (codes "Tests") ≡ traps trap.GuardFails m (at 9 9) (codes "nyny6")
unfolding digits
tests = refl

-- a record by value has the parameter's type, not the extension's; by VAR it has its own
records : go (codes "Records") ≡ ends (codes "5n4y14")
unfolding digits
records = refl

guards : go (codes "Guards") ≡ traps trap.GuardFails m (at 7 1) (codes "59-")
unfolding digits
guards = refl

-- seven variables: 1, 1, 6, 1, 2, 1 and 1 words; the strings "ab", "ab", "abc", "aa" and the empty one with a 0X each
globals : globals_words (values ∷ []) values ≡ 27
globals = refl
