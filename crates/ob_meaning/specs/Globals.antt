-- The room of modules: the words of their variables and of the strings that they use as arrays.
use Rattle.std.specs.Prelude.{ℕ, ◌+◌, List, [], ◌∷◌, length, nat_le, Bool, Option, Some, None}
use Rattle.ob_types.specs.declared.types.TypeRef.{TypeRef}
use Rattle.ob_types.specs.declared.value.Value.{Value as Literal}
use Rattle.ob_types.specs.declared.value.Value.TheVariants as literal
use Rattle.ob_types.specs.declared.typed.Passing.{Passing}
use Rattle.ob_types.specs.declared.typed.Passing.TheVariants as passing
use Rattle.ob_types.specs.declared.typed.TypedVariable.{TypedVariable}
use Rattle.ob_types.specs.TypedSyntax.{Desig, OfVariable, Field, Index, Deref, Guard, Expr, Constant, ValueOf, ProcedureValue, Monadic, Dyadic, Logical, CompareTexts, IsPointer, IsRecord, Length, Call, CallVariable, Actuals, NoActual, AnActual, Stmt, Assign, CallProper, Updated, Copy, New, NewOpenArray, Assert, Halt, If, Case, While, Repeat, For, Loop, Exit, Return, With, Stmts, Nothing, Then, Branches, NoBranch, Branch, Cases, NoCase, OneCase, Otherwise, NoElse, Else, Procedure, Module}
use Rattle.ob_meaning.specs.Values.{Program, Form, form_in, words}

-- a string used as an array has its characters and a 0X
abbrev pub literal_words : Literal → ℕ
literal_words (literal.Str text) = length text + 1
literal_words v = 0

-- a string that is passed by value to an array of a fixed length has the words of that array
abbrev pub passed_words : Passing → Expr → (passed other : ℕ) → ℕ
passed_words passing.Structure (Constant (literal.Str text)) passed other = passed
passed_words how e passed other = other

module _ (form : TypeRef → Form) where
  abbrev mutual
    pub texts_of_designator : Desig → ℕ
    texts_of_designator (OfVariable v t) = 0
    texts_of_designator (Field d owner name t) = texts_of_designator d
    texts_of_designator (Index d n e at t) = texts_of_designator d + texts_of_expr e
    texts_of_designator (Deref d at t) = texts_of_designator d
    texts_of_designator (Guard d g target at t) = texts_of_designator d

    pub texts_of_expr : Expr → ℕ
    texts_of_expr (Constant v) = literal_words v
    texts_of_expr (ValueOf d) = texts_of_designator d
    texts_of_expr (ProcedureValue q signature) = 0
    texts_of_expr (Monadic op e at) = texts_of_expr e
    texts_of_expr (Dyadic op a b at) = texts_of_expr a + texts_of_expr b
    texts_of_expr (Logical op a b) = texts_of_expr a + texts_of_expr b
    texts_of_expr (CompareTexts r a b at) = texts_of_expr a + texts_of_expr b
    texts_of_expr (IsPointer e target) = texts_of_expr e
    texts_of_expr (IsRecord d target) = texts_of_designator d
    texts_of_expr (Length d) = texts_of_designator d
    texts_of_expr (Call callee es at t) = texts_of_actuals es
    texts_of_expr (CallVariable d es at t) = texts_of_designator d + texts_of_actuals es

    pub texts_of_actuals : Actuals → ℕ
    texts_of_actuals NoActual = 0
    texts_of_actuals (AnActual how t e rest) = passed_words how e (words (form t)) (texts_of_expr e) + texts_of_actuals rest

  abbrev pub texts_of_optional : Option Expr → ℕ
  texts_of_optional None = 0
  texts_of_optional (Some e) = texts_of_expr e

  abbrev mutual
    pub texts_of : Stmt → ℕ
    texts_of (Assign d how e at) = texts_of_designator d + texts_of_expr e
    texts_of (CallProper e) = texts_of_expr e
    texts_of (Updated op d e at) = texts_of_designator d + texts_of_expr e
    texts_of (Copy e d at) = texts_of_expr e + texts_of_designator d
    texts_of (New d what at) = texts_of_designator d
    texts_of (NewOpenArray d t n at) = texts_of_designator d + texts_of_expr n
    texts_of (Assert e number at) = texts_of_expr e
    texts_of (Halt number at) = 0
    texts_of (If branches otherwise) = texts_of_branches branches + texts_of_all otherwise
    texts_of (Case e cases otherwise at) = texts_of_expr e + texts_of_cases cases + texts_of_else otherwise
    texts_of (While e body at) = texts_of_expr e + texts_of_all body
    texts_of (Repeat body e at) = texts_of_all body + texts_of_expr e
    texts_of (For v w start end step body at) = texts_of_expr start + texts_of_expr end + texts_of_all body
    texts_of (Loop body at) = texts_of_all body
    texts_of Exit = 0
    texts_of (Return e) = texts_of_optional e
    texts_of (With branches otherwise at) = texts_of_branches branches + texts_of_else otherwise

    pub texts_of_all : Stmts → ℕ
    texts_of_all Nothing = 0
    texts_of_all (Then s rest) = texts_of s + texts_of_all rest

    pub texts_of_branches : Branches → ℕ
    texts_of_branches NoBranch = 0
    texts_of_branches (Branch test body rest) = texts_of_expr test + texts_of_all body + texts_of_branches rest

    pub texts_of_cases : Cases → ℕ
    texts_of_cases NoCase = 0
    texts_of_cases (OneCase labels body rest) = texts_of_all body + texts_of_cases rest

    pub texts_of_else : Otherwise → ℕ
    texts_of_else NoElse = 0
    texts_of_else (Else body) = texts_of_all body

abbrev pub words_of_variables : Program → List TypedVariable → ℕ
words_of_variables program [] = 0
words_of_variables program (v ∷ vs) = words (form_in program v.of) + words_of_variables program vs

abbrev pub texts_of_procedures : Program → List Procedure → ℕ
texts_of_procedures program [] = 0
texts_of_procedures program (p ∷ ps) = texts_of_all (form_in program) p.body + texts_of_procedures program ps

-- the words of a module's globals
abbrev pub globals_words : Program → Module → ℕ
globals_words program m = words_of_variables program m.variables + (texts_of_all (form_in program) m.body + texts_of_procedures program m.procedures)

-- the words of these modules of a program
abbrev pub all_globals : Program → List Module → ℕ
all_globals program [] = 0
all_globals program (m ∷ ms) = globals_words program m + all_globals program ms

-- there is room for the globals of a program's modules in 262,144 words
abbrev pub has_room_for_globals : Program → Bool
has_room_for_globals program = nat_le (all_globals program program) 262144
