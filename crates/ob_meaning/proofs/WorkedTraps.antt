-- Each kind of trap, where it stands, and what was written before.
use Rattle.std.proofs.Common.{◌≡◌, refl}
use Rattle.std.specs.Prelude.{ℕ, List, [], ◌∷◌, ℤ, pos, negsuc, Option, Some, None, codes}
use Rattle.std.specs.Fmt.{digits}
use Rattle.ob_trap.specs.declared.trap.Trap.TheVariants as trap
use Rattle.ob_tree.specs.declared.pos.Pos.{Pos}
use Rattle.ob_types.specs.declared.types.TypeRef.{TypeRef}
use Rattle.ob_types.specs.declared.types.TypeRef.TheVariants as ref
use Rattle.ob_types.specs.declared.typed.Width.TheVariants as width
use Rattle.ob_types.specs.declared.typed.Comparison.TheVariants as comparison
use Rattle.ob_types.specs.declared.typed.Unary.TheVariants as unary
use Rattle.ob_types.specs.declared.typed.Binary.TheVariants as binary
use Rattle.ob_types.specs.declared.typed.Update.TheVariants as update
use Rattle.ob_types.specs.TypedSyntax.{Desig, Field, Index, Deref, Expr, ValueOf, Monadic, Dyadic, CompareTexts, IsPointer, Length, CallVariable, NoActual, Stmt, CallProper, Updated, Copy, NewOpenArray, Assert, Halt, Case, With, Branch, NoBranch, NoCase, OneCase, NoElse, Else, Nothing, Module}
use Rattle.ob_meaning.specs.Results.{Why}
use Rattle.ob_meaning.proofs.Build.{at, nowhere, named, long, char, sets, type_of, a_field, record_type, pointer_type, array_type, open_type, procedure_type, global, num, int, letter, text, plus, compare, function, block, set_to, out_int, out_char, out_text, when, label, variable_of, procedure, proper, unit_of, run, outcome, ends, traps, traps_with}

abbrev m : List ℕ
m = codes "Tr"

abbrev ref_to : List ℕ → TypeRef
ref_to x = ref.Named (named m x)

abbrev a : Desig
a = global m (codes "a") (ref_to (codes "A"))

abbrev i : Desig
i = global m (codes "i") long

abbrev p : Desig
p = global m (codes "p") (ref_to (codes "P"))

abbrev f : Desig
f = global m (codes "f") (ref_to (codes "F"))

abbrev s : Desig
s = global m (codes "s") sets

abbrev c : Desig
c = global m (codes "c") (ref_to (codes "C"))

abbrev o : Desig
o = global m (codes "o") (ref_to (codes "O"))

abbrev element : Desig → ℕ → Expr → Pos → Desig
element d n e q = Index d (Some n) e q long

abbrev set_i : ℤ → Stmt
set_i z = set_to i (int z) nowhere

abbrev shows : Expr → Stmt
shows e = out_int e 0 nowhere

abbrev tr : Module
tr = unit_of m
    (type_of (codes "A") (array_type 4 long) ∷ type_of (codes "R") (record_type None (a_field (codes "x") long ∷ []))
    ∷ type_of (codes "P") (pointer_type (ref_to (codes "R"))) ∷ type_of (codes "F") procedure_type ∷ type_of (codes "C") (array_type 3 char)
    ∷ type_of (codes "O^") (open_type long) ∷ type_of (codes "O") (pointer_type (ref_to (codes "O^"))) ∷ [])
    (variable_of (codes "a") (ref_to (codes "A")) ∷ variable_of (codes "i") long ∷ variable_of (codes "p") (ref_to (codes "P"))
    ∷ variable_of (codes "f") (ref_to (codes "F")) ∷ variable_of (codes "s") sets ∷ variable_of (codes "c") (ref_to (codes "C"))
    ∷ variable_of (codes "o") (ref_to (codes "O")) ∷ [])
    (proper (codes "Index") (out_char (letter (codes "b")) nowhere ∷ set_i (pos 3) ∷ set_to (element a 4 (ValueOf i) (at 2 5)) (num 1) nowhere ∷ set_i (pos 4) ∷ set_to (element a 4 (ValueOf i) (at 2 7)) (num 1) nowhere ∷ [])
    ∷ proper (codes "Below") (set_i (negsuc 0) ∷ set_to (element a 4 (ValueOf i) (at 2 8)) (num 1) nowhere ∷ [])
    ∷ proper (codes "Nil") (set_to (Field (Deref p (at 3 4) (ref_to (codes "R"))) (named m (codes "R")) (codes "x") long) (num 1) nowhere ∷ [])
    ∷ proper (codes "NilCall") (CallProper (CallVariable f NoActual (at 3 9) None) ∷ [])
    ∷ proper (codes "Case") (Case (ValueOf i) (OneCase (label 1 3 ∷ label 7 7 ∷ []) (block (shows (num 1) ∷ [])) (OneCase (label 4 4 ∷ []) Nothing NoCase)) NoElse (at 4 1) ∷ [])
    ∷ proper (codes "CaseHit") (set_i (pos 7) ∷ Case (ValueOf i) (OneCase (label 1 3 ∷ label 7 7 ∷ []) (block (shows (num 1) ∷ [])) NoCase) NoElse (at 4 1) ∷ set_i (pos 4) ∷ Case (ValueOf i) (OneCase (label 4 4 ∷ []) Nothing NoCase) NoElse (at 4 2) ∷ [])
    ∷ proper (codes "CaseElse") (Case (ValueOf i) (OneCase (label 1 3 ∷ []) Nothing NoCase) (Else (block (shows (num 2) ∷ []))) (at 4 3) ∷ [])
    ∷ proper (codes "With") (With (Branch (IsPointer (ValueOf p) (named m (codes "R"))) Nothing NoBranch) NoElse (at 5 2) ∷ [])
    ∷ procedure (codes "Empty") None [] (Some long) [] (at 6 11) (out_char (letter (codes "e")) nowhere ∷ [])
    ∷ proper (codes "NoReturn") (shows (function (named m (codes "Empty")) NoActual (at 6 40)) ∷ [])
    ∷ proper (codes "Div") (shows (Dyadic (binary.Quotient width.LongInt) (num 1) (ValueOf i) (at 7 3)) ∷ [])
    ∷ proper (codes "Mod") (set_i (negsuc 0) ∷ shows (Dyadic (binary.Remainder width.LongInt) (num 1) (ValueOf i) (at 7 4)) ∷ [])
    ∷ proper (codes "Floor") (set_i (negsuc 6) ∷ shows (Dyadic (binary.Quotient width.LongInt) (ValueOf i) (num 2) nowhere) ∷ shows (Dyadic (binary.Remainder width.LongInt) (ValueOf i) (num 2) nowhere) ∷ [])
    ∷ proper (codes "Sum") (set_i (pos 2147483647) ∷ set_to i (plus (ValueOf i) (num 1) (at 8 1)) nowhere ∷ [])
    ∷ proper (codes "Low") (set_i (negsuc 2147483647) ∷ shows (ValueOf i) ∷ set_to i (Monadic (unary.Negate width.LongInt) (ValueOf i) (at 8 2)) nowhere ∷ [])
    ∷ proper (codes "Short") (set_i (pos 127) ∷ shows (Monadic (unary.Short width.ShortInt) (ValueOf i) (at 8 3)) ∷ set_i (pos 128) ∷ shows (Monadic (unary.Short width.ShortInt) (ValueOf i) (at 8 4)) ∷ [])
    ∷ proper (codes "Chr") (set_i (pos 256) ∷ out_char (Monadic unary.Chr (ValueOf i) (at 8 5)) nowhere ∷ [])
    ∷ proper (codes "Ash") (set_i (negsuc 4) ∷ shows (Dyadic binary.Ash (ValueOf i) (int (negsuc 0)) (at 8 6)) ∷ set_i (pos 1) ∷ shows (Dyadic binary.Ash (ValueOf i) (num 30) (at 8 7)) ∷ shows (Dyadic binary.Ash (ValueOf i) (num 31) (at 8 8)) ∷ [])
    ∷ proper (codes "In") (set_i (pos 32) ∷ when (Dyadic binary.In (ValueOf i) (ValueOf s) (at 9 1)) [] [] ∷ [])
    ∷ proper (codes "Incl") (set_i (pos 31) ∷ Updated update.Incl s (ValueOf i) (at 9 2) ∷ when (Dyadic binary.In (num 31) (ValueOf s) nowhere) (shows (num 31) ∷ []) [] ∷ set_i (negsuc 0) ∷ Updated update.Incl s (ValueOf i) (at 9 3) ∷ [])
    ∷ proper (codes "Range") (set_i (pos 40) ∷ set_to s (Dyadic binary.Range (ValueOf i) (num 5) (at 9 4)) nowhere ∷ [])
    ∷ proper (codes "Assert") (Assert (compare comparison.Equal (ValueOf i) (num 0)) (pos 6) (at 10 1) ∷ Assert (compare comparison.NotEqual (ValueOf i) (num 0)) (pos 7) (at 10 2) ∷ [])
    ∷ proper (codes "Halt") (out_char (letter (codes "h")) nowhere ∷ Halt (pos 3) (at 11 1) ∷ [])
    ∷ proper (codes "Copy") (Copy (text (codes "abcde")) c (at 15 1) ∷ out_text (ValueOf c) (at 15 2) ∷ set_to (Index c (Some 3) (num 2) nowhere char) (letter (codes "x")) nowhere ∷ out_char (letter (codes "+")) nowhere ∷ out_text (ValueOf c) (at 15 3) ∷ [])
    ∷ proper (codes "Relation") (set_to (Index c (Some 3) (num 0) nowhere char) (letter (codes "x")) nowhere ∷ when (CompareTexts comparison.Less (text (codes "a")) (ValueOf c) (at 15 4)) (out_char (letter (codes "<")) nowhere ∷ []) [] ∷ set_to (Index c (Some 3) (num 1) nowhere char) (letter (codes "x")) nowhere ∷ set_to (Index c (Some 3) (num 2) nowhere char) (letter (codes "x")) nowhere ∷ when (CompareTexts comparison.Less (text (codes "a")) (ValueOf c) (at 15 5)) [] [] ∷ [])
    ∷ proper (codes "Length") (NewOpenArray o long (num 2) (at 16 1) ∷ shows (Length (Deref o nowhere (ref_to (codes "O^")))) ∷ NewOpenArray o long (ValueOf i) (at 16 2) ∷ [])
    ∷ proper (codes "Open") (NewOpenArray o long (num 2) (at 16 1) ∷ set_to (Index (Deref o nowhere (ref_to (codes "O^"))) None (num 2) (at 1 9) long) (num 1) nowhere ∷ [])
    ∷ []) []

abbrev go : List ℕ → Option Why × List ℕ
go x = outcome (run tr 100 x)

index : go (codes "Index") ≡ traps trap.IndexOutside m (at 2 7) (codes "b")
index = refl

below : go (codes "Below") ≡ traps trap.IndexOutside m (at 2 8) []
below = refl

open_index : go (codes "Open") ≡ traps trap.IndexOutside m (at 1 9) []
open_index = refl

nil_pointer : go (codes "Nil") ≡ traps trap.Nil m (at 3 4) []
nil_pointer = refl

nil_procedure : go (codes "NilCall") ≡ traps trap.Nil m (at 3 9) []
nil_procedure = refl

no_case : go (codes "Case") ≡ traps trap.NoCase m (at 4 1) []
no_case = refl

a_case : go (codes "CaseHit") ≡ ends (codes "1")
unfolding digits
a_case = refl

else_case : go (codes "CaseElse") ≡ ends (codes "2")
unfolding digits
else_case = refl

no_guard : go (codes "With") ≡ traps trap.NoMatch m (at 5 2) []
no_guard = refl

no_return : go (codes "NoReturn") ≡ traps trap.NoReturn m (at 6 11) (codes "e")
no_return = refl

divisor : go (codes "Div") ≡ traps trap.NoDivisor m (at 7 3) []
divisor = refl

negative_divisor : go (codes "Mod") ≡ traps trap.NoDivisor m (at 7 4) []
negative_divisor = refl

-- (-7) DIV 2 = -4 and (-7) MOD 2 = 1
floor : go (codes "Floor") ≡ ends (codes "-41")
unfolding digits
floor = refl

overflow : go (codes "Sum") ≡ traps trap.Overflow m (at 8 1) []
overflow = refl

lowest : go (codes "Low") ≡ traps trap.Overflow m (at 8 2) (codes "-2147483648")
unfolding digits
lowest = refl

to_short : go (codes "Short") ≡ traps trap.Overflow m (at 8 4) (codes "127")
unfolding digits
to_short = refl

to_character : go (codes "Chr") ≡ traps trap.Overflow m (at 8 5) []
to_character = refl

-- (-5) halved and rounded down is -3
shift : go (codes "Ash") ≡ traps trap.Overflow m (at 8 8) (codes "-31073741824")
unfolding digits
shift = refl

element_of : go (codes "In") ≡ traps trap.NoElement m (at 9 1) []
element_of = refl

include : go (codes "Incl") ≡ traps trap.NoElement m (at 9 3) (codes "31")
unfolding digits
include = refl

-- both bounds are tested before the range is found empty
range : go (codes "Range") ≡ traps trap.NoElement m (at 9 4) []
range = refl

asserts : go (codes "Assert") ≡ traps_with trap.AssertionFails (pos 7) m (at 10 2) []
asserts = refl

halts : go (codes "Halt") ≡ traps_with trap.Halted (pos 3) m (at 11 1) (codes "h")
halts = refl

-- COPY cuts; where no 0X is left, nothing is written
no_end : go (codes "Copy") ≡ traps trap.NoEnd m (at 15 3) (codes "ab+")
no_end = refl

no_end_in_relation : go (codes "Relation") ≡ traps trap.NoEnd m (at 15 5) (codes "<")
no_end_in_relation = refl

no_length : go (codes "Length") ≡ traps trap.NoLength m (at 16 2) (codes "2")
unfolding digits
no_length = refl
