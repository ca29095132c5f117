-- Arrays of each kind, and receivers that are NIL.
use Rattle.std.proofs.Common.{◌≡◌, refl}
use Rattle.std.specs.Prelude.{ℕ, List, [], ◌∷◌, Option, Some, None, codes}
use Rattle.std.specs.Fmt.{digits}
use Rattle.ob_trap.specs.declared.trap.Trap.TheVariants as trap
use Rattle.ob_tree.specs.declared.pos.Pos.{Pos}
use Rattle.ob_types.specs.declared.types.TypeRef.{TypeRef}
use Rattle.ob_types.specs.declared.types.TypeRef.TheVariants as ref
use Rattle.ob_types.specs.declared.desc.Receiver.TheVariants as receiver
use Rattle.ob_types.specs.declared.typed.Passing.TheVariants as passing
use Rattle.ob_types.specs.declared.typed.Comparison.TheVariants as comparison
use Rattle.ob_types.specs.declared.typed.Compared.TheVariants as compared
use Rattle.ob_types.specs.declared.typed.Binary.TheVariants as binary
use Rattle.ob_types.specs.declared.typed.Callee.TheVariants as callee
use Rattle.ob_types.specs.declared.typed.Assigned.TheVariants as assigned
use Rattle.ob_types.specs.declared.typed.Made.TheVariants as made
use Rattle.ob_types.specs.TypedSyntax.{Desig, Index, Deref, Expr, ValueOf, Dyadic, Length, Call, NoActual, Stmt, Assign, CallProper, New, Module}
use Rattle.ob_meaning.specs.Results.{Why}
use Rattle.ob_meaning.proofs.Build.{at, nowhere, named, long, type_of, record_type, pointer_type, array_type, open_type, global, own, parameter, num, letter, nil, plus, scalar, passed, set_to, call, family_of, call_bound, out_int, out_char, when, variable_of, parameter_of, procedure, proper, bound_to, unit_of, run, outcome, ends, traps}
use Rattle.ob_types.specs.declared.typed.TypedParameter.{TypedParameter}
use Rattle.ob_types.specs.declared.typed.Binding.{Binding}

abbrev m : List ℕ
m = codes "Ar"

abbrev ref_to : List ℕ → TypeRef
ref_to x = ref.Named (named m x)

abbrev i : Desig
i = global m (codes "i") long

abbrev a : Desig
a = global m (codes "a") (ref_to (codes "A"))

abbrev b : Desig
b = global m (codes "b") (ref_to (codes "A"))

abbrev q : Desig
q = global m (codes "q") (ref_to (codes "Q"))

abbrev p : Desig
p = global m (codes "p") (ref_to (codes "P"))

abbrev shows : Expr → Stmt
shows e = out_int e 0 nowhere

abbrev says : List ℕ → Stmt
says t = out_char (letter t) nowhere

-- d[x, y], whose second index stands at the comma
abbrev both : Desig → Expr → Pos → Expr → Pos → Desig
both d x at1 y at2 = Index (Index d (Some 2) x at1 (ref_to (codes "A["))) (Some 3) y at2 long

abbrev cell : Desig → ℕ → ℕ → Desig
cell d x y = both d (num x) nowhere (num y) nowhere

abbrev v : Desig
v = parameter passing.VariableOpenArray (codes "v") (ref_to (codes "Swap(1"))

abbrev v_at : ℕ → Desig
v_at n = Index v None (num n) (at 4 4) long

abbrev k : Desig
k = own (codes "k") long

abbrev q_at : ℕ → Desig
q_at n = Index (Deref q (at 5 1) (ref_to (codes "A["))) (Some 3) (num n) (at 5 2) long

abbrev x : Expr
x = ValueOf (parameter passing.Scalar (codes "x") (ref_to (codes "P")))

abbrev me : Option Binding
me = bound_to (named m (codes "R")) receiver.Pointer (family_of (named m (codes "R")) (codes "Me"))

abbrev mine : Option Binding
mine = bound_to (named m (codes "S")) receiver.Pointer (family_of (named m (codes "R")) (codes "Me"))

abbrev x_is : List TypedParameter
x_is = parameter_of (codes "x") passing.Scalar (ref_to (codes "P")) ∷ []

abbrev ar : Module
ar = unit_of m
    (type_of (codes "A") (array_type 2 (ref_to (codes "A["))) ∷ type_of (codes "A[") (array_type 3 long) ∷ type_of (codes "Q") (pointer_type (ref_to (codes "A[")))
    ∷ type_of (codes "Swap(1") (open_type long) ∷ type_of (codes "P") (pointer_type (ref_to (codes "R"))) ∷ type_of (codes "R") (record_type None [])
    ∷ type_of (codes "S") (record_type (Some (ref_to (codes "R"))) []) ∷ [])
    (variable_of (codes "i") long ∷ variable_of (codes "a") (ref_to (codes "A")) ∷ variable_of (codes "b") (ref_to (codes "A")) ∷ variable_of (codes "q") (ref_to (codes "Q"))
    ∷ variable_of (codes "p") (ref_to (codes "P")) ∷ [])
    (procedure (codes "Swap") None (parameter_of (codes "v") passing.VariableOpenArray (ref_to (codes "Swap(1")) ∷ []) None (variable_of (codes "k") long ∷ []) nowhere
    (set_to k (ValueOf (v_at 0)) nowhere ∷ set_to (v_at 0) (ValueOf (v_at 2)) nowhere ∷ set_to (v_at 2) (ValueOf k) nowhere ∷ shows (Length v) ∷ [])
    ∷ procedure (codes "Past") None (parameter_of (codes "v") passing.VariableOpenArray (ref_to (codes "Swap(1")) ∷ []) None [] nowhere (set_to (v_at 3) (num 1) nowhere ∷ [])
    ∷ procedure (codes "R.Me") me x_is None [] nowhere (says (codes "r") ∷ when (Dyadic (binary.Compare comparison.Equal compared.Pointer) x nil nowhere) (says (codes "0") ∷ []) [] ∷ [])
    ∷ procedure (codes "S.Me") mine x_is None [] nowhere
    (CallProper (Call (callee.Super (named m (codes "R")) (family_of (named m (codes "R")) (codes "Me")) receiver.Pointer) (scalar nil NoActual) nowhere None) ∷ [])
    ∷ proper (codes "Two") (set_to (cell a 1 2) (num 6) nowhere ∷ shows (ValueOf (cell a 1 2)) ∷ shows (ValueOf (cell a 1 1)) ∷ set_to i (num 2) nowhere
    ∷ set_to (both a (num 1) (at 3 2) (plus (ValueOf i) (num 1) nowhere) (at 3 4)) (num 1) nowhere ∷ [])
    ∷ proper (codes "First") (set_to i (num 2) nowhere ∷ set_to (both a (ValueOf i) (at 3 2) (ValueOf i) (at 3 4)) (num 1) nowhere ∷ [])
    ∷ proper (codes "Copied") (set_to (cell a 0 1) (num 4) nowhere ∷ Assign b assigned.Array (ValueOf a) nowhere ∷ set_to (cell a 0 1) (num 5) nowhere ∷ shows (ValueOf (cell b 0 1)) ∷ shows (ValueOf (cell a 0 1)) ∷ [])
    ∷ proper (codes "ByVar") (set_to (cell a 1 0) (num 7) nowhere ∷ set_to (cell a 1 2) (num 9) nowhere
    ∷ call (named m (codes "Swap")) (passed passing.VariableOpenArray (ValueOf (Index a (Some 2) (num 1) nowhere (ref_to (codes "A[")))) NoActual) nowhere
    ∷ shows (ValueOf (cell a 1 0)) ∷ shows (ValueOf (cell a 1 2))
    ∷ call (named m (codes "Past")) (passed passing.VariableOpenArray (ValueOf (Index a (Some 2) (num 1) nowhere (ref_to (codes "A[")))) NoActual) nowhere ∷ [])
    ∷ proper (codes "Made") (New q (made.Array (ref_to (codes "A["))) nowhere ∷ set_to (q_at 2) (num 8) nowhere ∷ shows (ValueOf (q_at 2)) ∷ shows (ValueOf (q_at 1))
    ∷ call (named m (codes "Swap")) (passed passing.VariableOpenArray (ValueOf (Deref q (at 5 1) (ref_to (codes "A[")))) NoActual) nowhere ∷ shows (ValueOf (q_at 0))
    ∷ set_to q nil nowhere ∷ shows (ValueOf (q_at 0)) ∷ [])
    ∷ proper (codes "Super") (New p (made.Record (named m (codes "S"))) nowhere ∷ call_bound (named m (codes "R")) (codes "Me") receiver.Pointer (scalar (ValueOf p) NoActual) nowhere
    ∷ set_to p nil nowhere ∷ call_bound (named m (codes "R")) (codes "Me") receiver.Pointer (scalar (ValueOf p) NoActual) (at 6 6) ∷ [])
    ∷ []) []

abbrev go : List ℕ → Option Why × List ℕ
go t = outcome (run ar 100 t)

-- the trap of a further index stands at its comma
second_index : go (codes "Two") ≡ traps trap.IndexOutside m (at 3 4) (codes "60")
unfolding digits
second_index = refl

first_index : go (codes "First") ≡ traps trap.IndexOutside m (at 3 2) []
first_index = refl

-- an array's assignment copies it
copied : go (codes "Copied") ≡ ends (codes "45")
unfolding digits
copied = refl

-- an open array by VAR is the variable that is passed, with its length
by_var : go (codes "ByVar") ≡ traps trap.IndexOutside m (at 4 4) (codes "397")
unfolding digits
by_var = refl

made_array : go (codes "Made") ≡ traps trap.Nil m (at 5 1) (codes "8038")
unfolding digits
made_array = refl

-- a super call does not test its receiver; a bound call does
super_of_nil : go (codes "Super") ≡ traps trap.Nil m (at 6 6) (codes "r0")
super_of_nil = refl
