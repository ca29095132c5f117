-- What a part of a program comes to: a value and the state after it, or a stop.
use Rattle.std.specs.Prelude.{ℕ, zero, suc, ◌++◌, List, ℤ, pos, Option}
use Rattle.ob_trap.specs.declared.trap.Trap.{Trap}
use Rattle.ob_tree.specs.declared.pos.Pos.{Pos}
use Rattle.ob_tree.specs.declared.names.QName.{QName}
use Rattle.ob_meaning.specs.Values.{Value, Place, State, Program, value_at, with_value_at}

-- why a command ends before its end: a trap with the number that it tells beside its own, or turns that are spent, in a module at a position
pub data Why : Type 0 where
  Trapped : (kind : Trap) → (number : ℤ) → (unit : List ℕ) → (at : Pos) → Why
  Spent : (unit : List ℕ) → (at : Pos) → Why

pub data Res (A : Type 0) : Type 0 where
  Gives : (a : A) → (s : State) → Res A
  Stops : (why : Why) → (s : State) → Res A

abbrev pub M : Type 0 → Type 0
M A = State → Res A

abbrev pub bind : {A B : Type 0} → Res A → (A → M B) → Res B
bind (Gives a s) k = k a s
bind (Stops why s) k = Stops why s

-- first the one, and then with its value and in its state the other
infixl 10 ◌>>=◌
abbrev pub ◌>>=◌ : {A B : Type 0} → M A → (A → M B) → M B
◌>>=◌ m k = λ s. bind (m s) k

abbrev pub give : {A : Type 0} → A → M A
give a = λ s. Gives a s

abbrev pub stop : {A : Type 0} → Why → M A
stop why = λ s. Stops why s

-- a turn is spent, or none is left
abbrev pub spend_of : {A : Type 0} → ℕ → List ℕ → Pos → M A → M A
spend_of zero unit at m = stop (Spent unit at)
spend_of (suc t) unit at m = λ s. m (record s { turns = t })

abbrev pub spend : {A : Type 0} → List ℕ → Pos → M A → M A
spend unit at m = λ s. spend_of s.turns unit at m s

abbrev pub read : Place → M Value
read p = λ s. Gives (value_at s.store p) s

abbrev pub assign : Place → Value → M (Unit {0})
assign p v = λ s. Gives tt (record s { store = with_value_at s.store p v })

abbrev pub write : List ℕ → M (Unit {0})
write text = λ s. Gives tt (record s { out = s.out ++ text })

-- what is passed to a parameter: a value, the place of a variable, or a string
pub data Passed : Type 0 where
  ByValue : (v : Value) → Passed
  ByPlace : (p : Place) → Passed
  ByText : (text : List ℕ) → Passed

-- calls: of a procedure by module and name, with what is passed, standing in a module at a position. The result is none for a
-- proper procedure
abbrev pub Caller : Type 0
Caller = QName → List Passed → List ℕ → Pos → M (Option Value)

-- what the meaning of a part of a procedure or body rests on: the program, the module at hand, the heap's words, a number that is
-- at least the turns left, and what calls do
pub record Around : Type 0 where
  pub program : Program
  pub unit : List ℕ
  pub heap : ℕ
  pub bound : ℕ
  pub call : Caller

abbrev pub trap : {A : Type 0} → Trap → Around → Pos → M A
trap kind u at = stop (Trapped kind (pos 0) u.unit at)
