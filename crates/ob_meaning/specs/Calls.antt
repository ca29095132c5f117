-- What a call does: its room, its variables, its body and its result.
use Rattle.std.specs.Prelude.{ℕ, zero, suc, ◌+◌, List, [], ◌∷◌, ◌++◌, map, length, pos, nat_le, Option, Some, None, Bool, true, false, ◌&&◌}
use Rattle.ob_tree.specs.declared.pos.Pos.{Pos}
use Rattle.ob_tree.specs.declared.names.QName.{QName}
use Rattle.ob_types.specs.declared.types.Basic.TheVariants as basic
use Rattle.ob_types.specs.declared.types.TypeRef.{TypeRef}
use Rattle.ob_types.specs.declared.typed.Passing.{Passing}
use Rattle.ob_types.specs.declared.typed.Passing.TheVariants as passing
use Rattle.ob_types.specs.declared.typed.TypedParameter.{TypedParameter}
use Rattle.ob_types.specs.declared.typed.TypedVariable.{TypedVariable}
use Rattle.ob_types.specs.TypedSyntax.{Stmt, If, Case, While, Repeat, For, Loop, With, Stmts, Nothing, Then, Branches, NoBranch, Branch, Cases, NoCase, OneCase, Otherwise, NoElse, Else, Procedure}
use Rattle.ob_meaning.specs.Values.{changed, changed_at, Program, procedure_of, Form, BasicForm, ArrayForm, OpenForm, RecordForm, form_in, words, Value, Nil, first, length_of, OfModule, Place, At, value_at, Store, Held, Own, Referred, Copied, Active, State}
use Rattle.ob_meaning.specs.Results.{M, Gives, Trapped, Spent, bind, give, stop, spend, Passed, ByValue, ByPlace, ByText, Caller, Around}
use Rattle.ob_meaning.specs.Operators.{text_value}
use Rattle.ob_meaning.specs.Meaning.{Flow, Done, Leaves, Back, hidden, as_record, execs}
use Rattle.ob_trap.specs.declared.trap.Trap.TheVariants as traps

-- HIDDEN VARIABLES

-- the places of FOR and CASE in statements, in the order of the text
abbrev mutual
  pub hidden_of : Stmt → List Pos
  hidden_of (If branches otherwise) = hidden_of_branches branches ++ hidden_of_all otherwise
  hidden_of (Case e cases otherwise at) = at ∷ (hidden_of_cases cases ++ hidden_of_else otherwise)
  hidden_of (While e body at) = hidden_of_all body
  hidden_of (Repeat body e at) = hidden_of_all body
  hidden_of (For v w start end step body at) = at ∷ hidden_of_all body
  hidden_of (Loop body at) = hidden_of_all body
  hidden_of (With branches otherwise at) = hidden_of_branches branches ++ hidden_of_else otherwise
  hidden_of s = []

  pub hidden_of_all : Stmts → List Pos
  hidden_of_all Nothing = []
  hidden_of_all (Then s rest) = hidden_of s ++ hidden_of_all rest

  pub hidden_of_branches : Branches → List Pos
  hidden_of_branches NoBranch = []
  hidden_of_branches (Branch test body rest) = hidden_of_all body ++ hidden_of_branches rest

  pub hidden_of_cases : Cases → List Pos
  hidden_of_cases NoCase = []
  hidden_of_cases (OneCase labels body rest) = hidden_of_all body ++ hidden_of_cases rest

  pub hidden_of_else : Otherwise → List Pos
  hidden_of_else NoElse = []
  hidden_of_else (Else body) = hidden_of_all body

abbrev pub hidden_held : Pos → Held
hidden_held at = Own (hidden at) (BasicForm basic.LongInt)

-- THE VARIABLES OF A CALL

-- the element type of an open array
abbrev pub element_form : Form → Form
element_form (OpenForm t) = t
element_form t = t

-- how many elements an array has that is passed; a string has its 0X
abbrev pub passed_length : Store → Passed → ℕ
passed_length g (ByValue v) = 0
passed_length g (ByPlace p) = length_of (value_at g p)
passed_length g (ByText text) = suc (length text)

-- a parameter with the type that it has in this call, its open array having the length of what is passed
abbrev pub held_parameter : List ℕ → Passing → Form → Store → Passed → Held
held_parameter x passing.Scalar t g a = Own x t
held_parameter x passing.Structure t g a = Copied x 1 t
held_parameter x passing.OpenArray t g a = Copied x 2 (ArrayForm (passed_length g a) (element_form t))
held_parameter x passing.Variable t g a = Referred x 1 t
held_parameter x passing.VariableRecord t g a = Referred x 2 t
held_parameter x passing.VariableOpenArray t g a = Referred x 2 t

abbrev pub held_parameters : Program → List TypedParameter → Store → List Passed → List Held
held_parameters program [] g xs = []
held_parameters program (p ∷ ps) g [] = []
held_parameters program (p ∷ ps) g (x ∷ xs) = held_parameter p.name p.passing (form_in program p.of) g x ∷ held_parameters program ps g xs

abbrev pub held_variable : Program → TypedVariable → Held
held_variable program v = Own v.name (form_in program v.of)

abbrev pub held_by : Program → Procedure → Store → List Passed → List Held
held_by program p g xs = held_parameters program p.parameters g xs ++ (map (held_variable program) p.locals ++ map hidden_held (hidden_of_all p.body))

-- the contents that are copied for a structured parameter by value: of a record the fields of its type alone; a string fills the
-- rest of an array with 0X
abbrev pub copied_place : Program → Form → Value → Value
copied_place program (RecordForm (q ∷ line) fields) v = as_record program q v
copied_place program t v = v

abbrev pub copied_text : Form → List ℕ → Value
copied_text (ArrayForm n t) text = text_value n text
copied_text t text = text_value (suc (length text)) text

abbrev pub passed_value : Program → Form → Store → Passed → Value
passed_value program t g (ByValue v) = v
passed_value program t g (ByPlace p) = copied_place program t (value_at g p)
passed_value program t g (ByText text) = copied_text t text

abbrev pub passed_place : Passed → Place
passed_place (ByValue v) = At (OfModule [] []) []
passed_place (ByPlace p) = p
passed_place (ByText text) = At (OfModule [] []) []

-- the values with which the variables begin
abbrev pub with_parameters : Program → List TypedParameter → Store → List Passed → (List ℕ → Value) → List ℕ → Value
with_parameters program [] g xs values = values
with_parameters program (p ∷ ps) g [] values = values
with_parameters program (p ∷ ps) g (x ∷ xs) values = changed (with_parameters program ps g xs values) p.name (passed_value program (form_in program p.of) g x)

abbrev pub first_values : List Held → List ℕ → Value
first_values [] = λ x. Nil
first_values (Own x t ∷ hs) = changed (first_values hs) x (first t)
first_values (Referred x n t ∷ hs) = first_values hs
first_values (Copied x n t ∷ hs) = changed (first_values hs) x (first t)

-- the places of the parameters by VAR
abbrev pub places_for : List TypedParameter → List Passed → List ℕ → Place
places_for [] xs = λ x. At (OfModule [] x) []
places_for (p ∷ ps) [] = λ x. At (OfModule [] x) []
places_for (p ∷ ps) (x ∷ xs) = changed (places_for ps xs) p.name (passed_place x)

-- ROOM

abbrev pub cost_of_held : Held → ℕ
cost_of_held (Own x t) = words t
cost_of_held (Referred x n t) = n
cost_of_held (Copied x n t) = n + words t

abbrev pub cost_of_all : List Held → ℕ
cost_of_all [] = 0
cost_of_all (h ∷ hs) = cost_of_held h + cost_of_all hs

abbrev pub cost_of_calls : List Active → ℕ
cost_of_calls [] = 0
cost_of_calls (c ∷ cs) = cost_of_all c.held + cost_of_calls cs

-- the active calls with the new one cost at most 1,048,576 words and are at most 4,096
abbrev pub has_room : List Active → Bool
has_room cs = nat_le (cost_of_calls cs) 1048576 && nat_le (length cs) 4096

-- BEGINNING AND END

abbrev pub begun : Program → QName → Procedure → List Passed → State → State
begun program q p xs s = record s {
  store = record s.store { locals = changed_at s.store.locals (length s.calls) (with_parameters program p.parameters s.store xs (first_values (held_by program p s.store xs))) };
  calls = record { procedure = q; held = held_by program p s.store xs; places = places_for p.parameters xs } ∷ s.calls;
}

abbrev pub without_newest : List Active → List Active
without_newest [] = []
without_newest (c ∷ cs) = cs

abbrev pub ended : State → State
ended s = record s { calls = without_newest s.calls }

-- a function that reaches its end without RETURN traps, at its name in its heading
abbrev pub result_at_end : Option TypeRef → List ℕ → Pos → M (Option Value)
result_at_end None unit at = λ s. Gives None (ended s)
result_at_end (Some t) unit at = stop (Trapped traps.NoReturn (pos 0) unit at)

abbrev pub result_of_flow : Flow → Procedure → QName → M (Option Value)
result_of_flow Done p q = result_at_end p.result q.module p.at
result_of_flow Leaves p q = λ s. Gives None (ended s)
result_of_flow (Back v) p q = λ s. Gives v (ended s)

abbrev pub if_room : {A : Type 0} → Bool → List ℕ → Pos → M A → M A
if_room true unit at m = m
if_room false unit at m = stop (Trapped traps.StackFull (pos 0) unit at)

-- a call of the procedure q, declared as p: the room for it, the copies, its body and its result
abbrev pub invoke : Program → QName → Procedure → M Flow → List Passed → List ℕ → Pos → M (Option Value)
invoke program q p body xs unit at = λ s.
    if_room (has_room (begun program q p xs s).calls) unit at (λ t. bind (body (begun program q p xs t)) (λ f. result_of_flow f p q)) s

-- THE KNOT

abbrev pub around : Program → ℕ → ℕ → Caller → List ℕ → Around
around program heap n call unit = record { program = program; unit = unit; heap = heap; bound = n; call = call }

-- a procedure that is not declared is called in no checked program
abbrev pub called : Option Procedure → Program → ℕ → ℕ → Caller → Caller
called None program heap n call q xs unit at = give None
called (Some p) program heap n call q xs unit at = invoke program q p (execs p.body (around program heap n call q.module)) xs unit at

-- what calls do where at most so many turns are left: a turn is spent, and then the procedure is called
abbrev pub calling : Program → ℕ → ℕ → Caller
calling program heap zero q xs unit at = stop (Spent unit at)
calling program heap (suc n) q xs unit at = spend unit at (called (procedure_of program q) program heap n (calling program heap n) q xs unit at)
