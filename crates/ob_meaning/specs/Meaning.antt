-- What designators, expressions and statements do. Each rests on what calls do, which is defined over them.
use Rattle.std.specs.Prelude.{take, bytes_eq, ℕ, zero, suc, ◌+◌, ◌-◌, ◌*◌, List, [], ◌∷◌, ◌++◌, length, ℤ, pos, negsuc, int_le, nat_lt, nat_le, Option, Some, None, Bool, true, false, ◌&&◌, ◌||◌, if◌then◌else◌, unsigned_abs}
use Rattle.ob_tree.specs.declared.pos.Pos.{Pos}
use Rattle.ob_tree.specs.declared.names.QName.{QName}
use Rattle.ob_types.specs.declared.types.TypeRef.{TypeRef}
use Rattle.ob_types.specs.declared.desc.Receiver.{Receiver}
use Rattle.ob_types.specs.declared.desc.Receiver.TheVariants as receiver
use Rattle.ob_types.specs.declared.value.Value.{Value as Literal}
use Rattle.ob_types.specs.declared.value.Value.TheVariants as literal
use Rattle.ob_types.specs.declared.typed.Passing.{Passing}
use Rattle.ob_types.specs.declared.typed.Passing.TheVariants as passing
use Rattle.ob_types.specs.declared.typed.Variable.{Variable}
use Rattle.ob_types.specs.declared.typed.Variable.TheVariants as variable
use Rattle.ob_types.specs.declared.typed.Guarded.{Guarded}
use Rattle.ob_types.specs.declared.typed.Guarded.TheVariants as guarded
use Rattle.ob_types.specs.declared.typed.Connective.{Connective}
use Rattle.ob_types.specs.declared.typed.Connective.TheVariants as connective
use Rattle.ob_types.specs.declared.typed.OutProcedure.{OutProcedure}
use Rattle.ob_types.specs.declared.typed.OutProcedure.TheVariants as out
use Rattle.ob_types.specs.declared.typed.Family.{Family}
use Rattle.ob_types.specs.declared.typed.Callee.{Callee}
use Rattle.ob_types.specs.declared.typed.Callee.TheVariants as callee
use Rattle.ob_types.specs.declared.typed.Assigned.{Assigned}
use Rattle.ob_types.specs.declared.typed.Assigned.TheVariants as assigned
use Rattle.ob_types.specs.declared.typed.Update.{Update}
use Rattle.ob_types.specs.declared.typed.Update.TheVariants as update
use Rattle.ob_types.specs.declared.typed.Made.{Made}
use Rattle.ob_types.specs.declared.typed.Made.TheVariants as made
use Rattle.ob_types.specs.declared.typed.Label.{Label}
use Rattle.ob_types.specs.declared.typed.Binding.{Binding}
use Rattle.ob_types.specs.TypedSyntax.{Desig, OfVariable, Field, Index, Deref, Guard, Expr, Constant, ValueOf, ProcedureValue, Monadic, Dyadic, Logical, CompareTexts, IsPointer, IsRecord, Length, Call, CallVariable, Actuals, NoActual, AnActual, Stmt, Assign, CallProper, Updated, Copy, New, NewOpenArray, Assert, Halt, If, Case, While, Repeat, For, Loop, Exit, Return, With, Stmts, Nothing, Then, Branches, NoBranch, Branch, Cases, NoCase, OneCase, Otherwise, NoElse, Else, Procedure}
use Rattle.ob_meaning.specs.Values.{same_name, changed_at, Program, Fields, NoField, AField, form_in, record_in, bases_in, is_among, fields_of, words, Value, Truth, Integer, Nil, Object, ProcedureAt, Elements, Record, first, truth_of, character_of, integer_of, length_of, element_of, field_of, type_of, OfModule, OfCall, OfObject, FieldStep, ElementStep, Place, At, inside, value_at, Store, Active, AnObject, Whole, Opened}
use Rattle.ob_meaning.specs.Results.{M, Gives, Trapped, Spent, ◌>>=◌, give, stop, spend, read, assign, write, Passed, ByValue, ByPlace, ByText, Around, trap}
use Rattle.ob_types.specs.Numbers.{holds, text_equal, text_less, is_positive}
use Rattle.ob_meaning.specs.Operators.{Computed, Is, Traps, compute, compute_both, updated, constant_value, up_to_end, characters, with_text, padded}
use Rattle.ob_trap.specs.declared.trap.Trap.TheVariants as traps

-- VARIABLES

-- a structured parameter by value is a variable of the call, with its own copy; one by VAR stands for the place that was passed
abbrev pub places_of : List Active → List ℕ → Place
places_of [] x = At (OfModule [] x) []
places_of (c ∷ cs) x = c.places x

abbrev pub newest : List Active → ℕ
newest [] = 0
newest (c ∷ cs) = length cs

abbrev pub own_place : List Active → List ℕ → Place
own_place cs x = At (OfCall (newest cs) x) []

abbrev pub place_of : Variable → List Active → Place
place_of (variable.Module m x) cs = At (OfModule m x) []
place_of (variable.Local x) cs = own_place cs x
place_of (variable.Parameter passing.Scalar x) cs = own_place cs x
place_of (variable.Parameter passing.Structure x) cs = own_place cs x
place_of (variable.Parameter passing.OpenArray x) cs = own_place cs x
place_of (variable.Parameter passing.Variable x) cs = places_of cs x
place_of (variable.Parameter passing.VariableRecord x) cs = places_of cs x
place_of (variable.Parameter passing.VariableOpenArray x) cs = places_of cs x

abbrev pub find : Variable → M Place
find v = λ s. Gives (place_of v s.calls) s

-- CHOICES

abbrev pub choose : {A : Type 0} → Bool → M A → M A → M A
choose true m other = m
choose false m other = other

abbrev pub give_or : {A : Type 0} → Option A → M A → M A
give_or None other = other
give_or (Some a) other = give a

abbrev pub computed : Computed → Around → Pos → M Value
computed (Is v) u at = give v
computed (Traps kind) u at = trap kind u at

-- TYPE TESTS

-- the dynamic type of what a value points to; none for NIL
abbrev pub pointee_type : Store → Value → Option QName
pointee_type g (Object n) = type_of (g.objects n)
pointee_type g v = None

abbrev pub dynamic_type : Guarded → Store → Place → Option QName
dynamic_type guarded.Record g p = type_of (value_at g p)
dynamic_type guarded.Pointer g p = pointee_type g (value_at g p)

-- a type is the target or an extension of it; NIL has none
abbrev pub is_extension : Program → Option QName → QName → Bool
is_extension program None target = false
is_extension program (Some q) target = is_among (bases_in program q) target

abbrev pub is_exactly : Option QName → QName → Bool
is_exactly None target = false
is_exactly (Some q) target = same_name q target

-- SELECTORS

-- a dereference of NIL traps
abbrev pub pointee : Value → Around → Pos → M Place
pointee (Object n) u at = give (At (OfObject n) [])
pointee v u at = trap traps.Nil u at

-- an index below 0, or not below the length, traps
abbrev pub element_place : ℕ → Place → ℤ → Around → Pos → M Place
element_place n p (pos i) u at = choose (nat_lt i n) (give (inside p (ElementStep i))) (trap traps.IndexOutside u at)
element_place n p (negsuc i) u at = trap traps.IndexOutside u at

-- the length that the type has, or that the open array has
abbrev pub array_length : Option ℕ → Store → Place → ℕ
array_length (Some n) g p = n
array_length None g p = length_of (value_at g p)

abbrev pub indexed : Option ℕ → Place → ℤ → Around → Pos → M Place
indexed n p i u at = λ s. element_place (array_length n s.store p) p i u at s

-- a guard whose test is FALSE traps
abbrev pub guarded_place : Guarded → QName → Place → Around → Pos → M Place
guarded_place g target p u at = λ s. choose (is_extension u.program (dynamic_type g s.store p) target) (give p) (trap traps.GuardFails u at) s

-- STRINGS AND ARRAYS

-- where an array or a record stands, or a string
pub data Source : Type 0 where
  Stands : (p : Place) → Source
  Text : (text : List ℕ) → Source

abbrev pub literal_source : Literal → Source
literal_source (literal.Str text) = Text text
literal_source v = Text []

-- the characters up to the first 0X; a string has one at its end
abbrev pub text_in : Source → Store → Option (List ℕ)
text_in (Stands p) g = up_to_end (characters (length_of (value_at g p)) (element_of (value_at g p)))
text_in (Text text) g = up_to_end (text ++ 0 ∷ [])

-- a character array without 0X traps
abbrev pub text_of : Source → Around → Pos → M (List ℕ)
text_of x u at = λ s. give_or (text_in x s.store) (trap traps.NoEnd u at) s

abbrev pub passed_from : Source → Passed
passed_from (Stands p) = ByPlace p
passed_from (Text text) = ByText text

abbrev pub source_from : Passed → Source
source_from (ByValue v) = Text []
source_from (ByPlace p) = Stands p
source_from (ByText text) = Text text

abbrev pub value_from : Passed → Value
value_from (ByValue v) = v
value_from (ByPlace p) = Nil
value_from (ByText text) = Nil

-- a scalar by value is computed; of all else the place is found, and its contents are copied as the call begins
abbrev pub pass : Passing → M Value → M Source → M Passed
pass passing.Scalar m place = m >>= λ v. give (ByValue v)
pass how m place = place >>= λ x. give (passed_from x)

-- CALLS

abbrev pub same_family : Family → Family → Bool
same_family a b = same_name a.owner b.owner && bytes_eq a.name b.name

abbrev pub is_bound : Option Binding → QName → Family → Bool
is_bound None q family = false
is_bound (Some b) q family = same_name b.owner q && same_family b.family family

-- the procedure of a family that is declared for one type
abbrev pub declared_among : List Procedure → QName → Family → Option QName
declared_among [] q family = None
declared_among (p ∷ ps) q family = if is_bound p.binding q family then Some (record { «module» = q.module; object = p.name }) else declared_among ps q family

abbrev pub declared_for : Program → QName → Family → Option QName
declared_for [] q family = None
declared_for (m ∷ ms) q family = if bytes_eq q.module m.name then declared_among m.procedures q family else declared_for ms q family

-- the nearest declaration of a family: that for the first of these types that has one
abbrev pub first_of_both : Option QName → Option QName → Option QName
first_of_both None other = other
first_of_both (Some q) other = Some q

abbrev pub nearest : Program → List QName → Family → Option QName
nearest program [] family = None
nearest program (t ∷ ts) family = first_of_both (declared_for program t family) (nearest program ts family)

abbrev pub bases_of : Program → Option QName → List QName
bases_of program None = []
bases_of program (Some q) = bases_in program q

abbrev pub call_found : Option QName → List Passed → Around → Pos → M (Option Value)
call_found None xs u at = give None
call_found (Some q) xs u at = u.call q xs u.unit at

-- from the dynamic type of the record that was passed as the receiver; a receiver that is NIL traps
abbrev pub call_bound : Receiver → Family → List Passed → Around → Pos → M (Option Value)
call_bound receiver.Record family (ByPlace p ∷ xs) u at = λ s. call_found (nearest u.program (bases_of u.program (type_of (value_at s.store p))) family) (ByPlace p ∷ xs) u at s
call_bound receiver.Pointer family (ByValue (Object n) ∷ xs) u at = λ s. call_found (nearest u.program (bases_of u.program (type_of (s.store.objects n))) family) (ByValue (Object n) ∷ xs) u at s
call_bound r family xs u at = trap traps.Nil u at

abbrev pub out_text : OutProcedure → List Passed → Around → Pos → M (List ℕ)
out_text out.Char (c ∷ xs) u at = give (character_of (value_from c) ∷ [])
out_text out.Str (x ∷ xs) u at = text_of (source_from x) u at
out_text out.Int (i ∷ n ∷ xs) u at = give (padded (integer_of (value_from i)) (integer_of (value_from n)))
out_text out.Ln xs u at = give (10 ∷ [])
out_text p xs u at = give []

-- a call of Out spends a turn too
abbrev pub call_out : OutProcedure → List Passed → Around → Pos → M (Option Value)
call_out p xs u at = spend u.unit at (out_text p xs u at >>= λ text. write text) >>= λ x. give None

abbrev pub call_named : Callee → List Passed → Around → Pos → M (Option Value)
call_named (callee.Declared q) xs u at = u.call q xs u.unit at
call_named (callee.Bound family r) xs u at = call_bound r family xs u at
call_named (callee.Super base family r) xs u at = call_found (nearest u.program (bases_in u.program base) family) xs u at
call_named (callee.Out p) xs u at = call_out p xs u at

-- what a procedure variable holds; NIL traps
abbrev pub call_held : Value → List Passed → Around → Pos → M (Option Value)
call_held (ProcedureAt q) xs u at = u.call q xs u.unit at
call_held v xs u at = trap traps.Nil u at

-- a proper procedure has no result
abbrev pub result_of : Option Value → Value
result_of None = Nil
result_of (Some v) = v

-- DESIGNATORS AND EXPRESSIONS

-- & and OR leave out their right operand where the left one decides
abbrev pub connect : Connective → Value → M Value → M Value
connect connective.And v m = choose (truth_of v) m (give (Truth false))
connect connective.Or v m = choose (truth_of v) (give (Truth true)) m

abbrev pub is_type : Around → (Store → Option QName) → QName → M Value
is_type u type target = λ s. Gives (Truth (is_extension u.program (type s.store) target)) s

abbrev mutual
  -- the place of a designator
  pub place : Desig → Around → M Place
  place (OfVariable v t) u = find v
  place (Field d owner name t) u = place d u >>= λ p. give (inside p (FieldStep owner name))
  place (Index d n i at t) u = place d u >>= λ p. value i u >>= λ v. indexed n p (integer_of v) u at
  place (Deref d at t) u = place d u >>= λ p. read p >>= λ v. pointee v u at
  place (Guard d g target at t) u = place d u >>= λ p. guarded_place g target p u at

  -- the value of an expression
  pub value : Expr → Around → M Value
  value (Constant c) u = give (constant_value c)
  value (ValueOf d) u = place d u >>= λ p. read p
  value (ProcedureValue q signature) u = give (ProcedureAt q)
  value (Monadic op e at) u = value e u >>= λ v. computed (compute op v) u at
  value (Dyadic op a b at) u = value a u >>= λ v. value b u >>= λ w. computed (compute_both op v w) u at
  value (Logical op a b) u = value a u >>= λ v. connect op v (value b u)
  value (CompareTexts r a b at) u = source a u >>= λ x. source b u >>= λ y. text_of x u at >>= λ v. text_of y u at >>= λ w. give (Truth (holds r (text_equal v w) (text_less v w)))
  value (IsPointer e target) u = value e u >>= λ v. is_type u (λ g. pointee_type g v) target
  value (IsRecord d target) u = place d u >>= λ p. is_type u (λ g. type_of (value_at g p)) target
  value (Length d) u = place d u >>= λ p. read p >>= λ v. give (Integer (pos (length_of v)))
  value (Call c es at t) u = actuals es u >>= λ xs. call_named c xs u at >>= λ v. give (result_of v)
  value (CallVariable d es at t) u = place d u >>= λ p. read p >>= λ v. actuals es u >>= λ xs. call_held v xs u at >>= λ w. give (result_of w)

  -- where an array or a record stands, or a string
  pub source : Expr → Around → M Source
  source (ValueOf d) u = place d u >>= λ p. give (Stands p)
  source (Constant c) u = give (literal_source c)
  source e u = give (Text [])

  pub actuals : Actuals → Around → M (List Passed)
  actuals NoActual u = give []
  actuals (AnActual how t e rest) u = pass how (value e u) (source e u) >>= λ x. actuals rest u >>= λ xs. give (x ∷ xs)

-- ASSIGNMENTS

abbrev pub has_field : Fields → QName → List ℕ → Bool
has_field NoField o x = false
has_field (AField owner name t fs) o x = (bytes_eq x name && same_name o owner) || has_field fs o x

-- the fields of a record type alone, of a value of that type or of an extension
abbrev pub as_record : Program → QName → Value → Value
as_record program q v = Record q (λ o x. if has_field (fields_of (record_in program q)) o x then field_of v o x else Nil)

abbrev pub source_value : Source → Store → Value
source_value (Stands p) g = value_at g p
source_value (Text text) g = Nil

abbrev pub source_text : Source → List ℕ
source_text (Stands p) = []
source_text (Text text) = text

-- a string sets the elements up to its 0X and leaves the others
abbrev pub assign_text : Place → Source → M (Unit {0})
assign_text p x = read p >>= λ v. assign p (with_text (source_text x) (length_of v) (element_of v))

abbrev pub assign_array : Place → Source → M (Unit {0})
assign_array p x = λ s. assign p (source_value x s.store) s

-- a target whose dynamic type is not its static one traps
abbrev pub assign_record : QName → Place → Source → Around → Pos → M (Unit {0})
assign_record q p x u at = λ s. choose (is_exactly (type_of (value_at s.store p)) q) (assign p (as_record u.program q (source_value x s.store))) (trap traps.OtherType u at) s

-- the value or the source is found after the target's place
abbrev pub assigned_by : Assigned → Place → M Value → M Source → Around → Pos → M (Unit {0})
assigned_by assigned.Scalar p m place u at = m >>= λ v. assign p v
assigned_by assigned.Text p m place u at = place >>= λ x. assign_text p x
assigned_by assigned.Array p m place u at = place >>= λ x. assign_array p x
assigned_by (assigned.Record q) p m place u at = place >>= λ x. assign_record q p x u at

-- COPY: up to the 0X or to the length less 1, and a 0X behind
abbrev pub shortened : ℕ → List ℕ → List ℕ
shortened n text = take (n - 1) text

abbrev pub copy_text : Source → Place → Around → Pos → M (Unit {0})
copy_text x p u at = text_of x u at >>= λ text. read p >>= λ v. assign p (with_text (shortened (length_of v) text) (length_of v) (element_of v))

-- OBJECTS

abbrev pub cost_of : AnObject → ℕ
cost_of (Whole t) = words t + 1
cost_of (Opened n t) = n * words t + 2

abbrev pub costs_of : List AnObject → ℕ
costs_of [] = 0
costs_of (x ∷ xs) = cost_of x + costs_of xs

abbrev pub first_object : AnObject → Value
first_object (Whole t) = first t
first_object (Opened n t) = Elements n (λ i. first t)

abbrev pub with_object : AnObject → Place → M (Unit {0})
with_object x p = λ s. assign p (Object (length s.made)) (record s { made = x ∷ s.made; store = record s.store { objects = changed_at s.store.objects (length s.made) (first_object x) } })

-- where the costs of all objects exceed the heap it traps
abbrev pub make : AnObject → Place → Around → Pos → M (Unit {0})
make x p u at = λ s. choose (nat_le (costs_of (x ∷ s.made)) u.heap) (with_object x p) (trap traps.HeapFull u at) s

abbrev pub object_for : Program → Made → AnObject
object_for program (made.Record q) = Whole (record_in program q)
object_for program (made.Array t) = Whole (form_in program t)

-- a length below 1 traps
abbrev pub make_open : ℤ → TypeRef → Place → Around → Pos → M (Unit {0})
make_open n t p u at = choose (is_positive n) (make (Opened (unsigned_abs n) (form_in u.program t)) p u at) (trap traps.NoLength u at)

-- LOOPS

-- what a statement comes to: its end, an EXIT, or a RETURN with or without a value
pub data Flow : Type 0 where
  Done : Flow
  Leaves : Flow
  Back : (v : Option Value) → Flow

abbrev pub go_on : Flow → M Flow → M Flow
go_on Done m = m
go_on Leaves m = give Leaves
go_on (Back v) m = give (Back v)

abbrev pub done : M (Unit {0}) → M Flow
done m = m >>= λ x. give Done

-- what a round of a loop comes to: it goes back for a turn, or leaves
pub data Round : Type 0 where
  Again : Round
  Leave : (f : Flow) → Round

abbrev pub turn : Round → M Flow → M Flow
turn Again m = m
turn (Leave f) m = give f

-- each time a loop goes back a turn is spent; n is at least the turns that are left
abbrev pub loop : ℕ → List ℕ → Pos → M Round → M Flow
loop zero unit at round = round >>= λ r. turn r (stop (Spent unit at))
loop (suc n) unit at round = round >>= λ r. turn r (spend unit at (loop n unit at round))

abbrev pub loops : Around → Pos → M Round → M Flow
loops u at round = loop u.bound u.unit at round

-- a round whose body has ended goes on to something else
abbrev pub after_body : Flow → M Round → M Round
after_body Done m = m
after_body Leaves m = give (Leave Leaves)
after_body (Back v) m = give (Leave (Back v))

-- EXIT leaves a LOOP
abbrev pub after_loop_body : Flow → Round
after_loop_body Done = Again
after_loop_body Leaves = Leave Done
after_loop_body (Back v) = Leave (Back v)

-- HIDDEN VARIABLES

-- FOR and CASE keep a value in a variable of the call, whose name is no identifier: it begins with 0, and has the statement's place
abbrev pub hidden : Pos → List ℕ
hidden at = 0 ∷ at.line ∷ at.col ∷ []

abbrev pub keep : Pos → Value → M (Unit {0})
keep at v = λ s. assign (own_place s.calls (hidden at)) v s

abbrev pub kept : Pos → M Value
kept at = λ s. read (own_place s.calls (hidden at)) s

-- STATEMENTS

abbrev pub is_labelled : List Label → ℤ → Bool
is_labelled [] z = false
is_labelled (l ∷ ls) z = (int_le l.low z && int_le z l.high) || is_labelled ls z

abbrev pub is_within : ℤ → Value → Value → Bool
is_within step i end = if is_positive step then int_le (integer_of i) (integer_of end) else int_le (integer_of end) (integer_of i)

-- the test of FOR, and its addition, which traps at FOR
abbrev pub for_test : Variable → ℤ → Pos → M Bool
for_test v step at = find v >>= λ p. read p >>= λ i. kept at >>= λ end. give (is_within step i end)

-- the variable is read after the operand is computed; where it traps, nothing is stored
abbrev pub update_at : Update → Place → Value → Around → Pos → M (Unit {0})
update_at op p n u at = read p >>= λ v. computed (updated op v n) u at >>= λ w. assign p w

abbrev pub optional : Option Expr → Around → M (Option Value)
optional None u = give None
optional (Some e) u = value e u >>= λ v. give (Some v)

abbrev mutual
  pub exec : Stmt → Around → M Flow
  exec (Assign d how e at) u = place d u >>= λ p. done (assigned_by how p (value e u) (source e u) u at)
  exec (CallProper e) u = value e u >>= λ v. give Done
  exec (Updated op d e at) u = place d u >>= λ p. value e u >>= λ n. done (update_at op p n u at)
  exec (Copy e d at) u = source e u >>= λ x. place d u >>= λ p. done (copy_text x p u at)
  exec (New d what at) u = place d u >>= λ p. done (make (object_for u.program what) p u at)
  exec (NewOpenArray d t n at) u = place d u >>= λ p. value n u >>= λ v. done (make_open (integer_of v) t p u at)
  exec (Assert e number at) u = value e u >>= λ v. choose (truth_of v) (give Done) (stop (Trapped traps.AssertionFails number u.unit at))
  exec (Halt number at) u = stop (Trapped traps.Halted number u.unit at)
  exec (If branches otherwise) u = exec_branches branches u (execs otherwise u)
  exec (Case e cases otherwise at) u = value e u >>= λ v. keep at (Integer (integer_of v)) >>= λ x. exec_cases cases (integer_of v) u (exec_else otherwise u (trap traps.NoCase u at))
  exec (While e body at) u = loops u at (value e u >>= λ v. choose (truth_of v) (execs body u >>= λ f. after_body f (give Again)) (give (Leave Done)))
  exec (Repeat body e at) u = loops u at (execs body u >>= λ f. after_body f (value e u >>= λ v. choose (truth_of v) (give (Leave Done)) (give Again)))
  exec (For v w start end step body at) u =
      value end u >>= λ n. keep at n >>= λ x.
      find v >>= λ p. value start u >>= λ i. assign p i >>= λ x.
      loops u at (for_test v step at >>= λ b. choose b (execs body u >>= λ f. after_body f (find v >>= λ q. update_at (update.Inc w) q (Integer step) u at >>= λ x. give Again)) (give (Leave Done)))
  exec (Loop body at) u = loops u at (execs body u >>= λ f. give (after_loop_body f))
  exec Exit u = give Leaves
  exec (Return e) u = optional e u >>= λ v. give (Back v)
  exec (With branches otherwise at) u = exec_branches branches u (exec_else otherwise u (trap traps.NoMatch u at))

  pub execs : Stmts → Around → M Flow
  execs Nothing u = give Done
  execs (Then s rest) u = exec s u >>= λ f. go_on f (execs rest u)

  -- the first branch whose test holds, else the other
  pub exec_branches : Branches → Around → M Flow → M Flow
  exec_branches NoBranch u other = other
  exec_branches (Branch test body rest) u other = value test u >>= λ v. choose (truth_of v) (execs body u) (exec_branches rest u other)

  pub exec_cases : Cases → ℤ → Around → M Flow → M Flow
  exec_cases NoCase z u other = other
  exec_cases (OneCase labels body rest) z u other = choose (is_labelled labels z) (execs body u) (exec_cases rest z u other)

  -- what stands behind ELSE, or else the trap
  pub exec_else : Otherwise → Around → M Flow → M Flow
  exec_else NoElse u other = other
  exec_else (Else body) u other = execs body u
