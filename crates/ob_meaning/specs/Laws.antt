-- What holds of every part of every program.
use Rattle.std.specs.Prelude.{◌≡◌, ℕ, ◌≤◌, List, [], ◌∷◌, ◌++◌, take, Some, None}
use Rattle.ob_tree.specs.declared.names.QName.{QName}
use Rattle.ob_types.specs.TypedSyntax.{Expr, Stmts, Procedure, Module}
use Rattle.ob_meaning.specs.Values.{Program, procedure_of, State}
use Rattle.ob_meaning.specs.Results.{Res, Gives, Stops, Around}
use Rattle.ob_meaning.specs.Meaning.{Flow, value, execs}
use Rattle.ob_meaning.specs.Calls.{ended, around, calling}
use Rattle.ob_meaning.specs.Commands.{System, Ended, with_module, body_name, body_procedure, run_first, at_rest, command_begins, command}

-- a later state: no turn has come back, and what was written stands in front of what is written now
pub record Later (s t : State) : Type 0 where
  pub turns : t.turns ≤ s.turns
  pub added : List ℕ
  pub out : t.out ≡ s.out ++ added

-- a result in a later state; where it is no stop, the active calls are those of before
abbrev pub Onward : {A : Type 0} → State → Res A → Type 0
Onward s (Gives a t) = Later s t × (t.calls ≡ s.calls)
Onward s (Stops why t) = Later s t

-- what stands around a part of a procedure or body of a program, where at most n turns are left
abbrev pub in_program : Program → ℕ → ℕ → List ℕ → Around
in_program program heap n unit = around program heap n (calling program heap n) unit

-- Of expressions and statements: turns never rise, every stop keeps the output so far as a front of what is written, and every
-- call that was begun has ended where there is no stop.
abbrev pub ExpressionsGoOn : Type 0
ExpressionsGoOn = (program : Program) (heap n : ℕ) (unit : List ℕ) (e : Expr) (s : State) → Onward s (value e (in_program program heap n unit) s)

abbrev pub StatementsGoOn : Type 0
StatementsGoOn = (program : Program) (heap n : ℕ) (unit : List ℕ) (body : Stmts) (s : State) → Onward s (execs body (in_program program heap n unit) s)

-- Of commands: what is left of the turns is at most what it was given.
abbrev pub CommandsSpend : Type 0
CommandsSpend = (system : System) (plan : List Module) (heap turns : ℕ) (q : QName) → (command system plan heap turns q).turns ≤ turns

-- what is loaded when a command has ended: what was loaded before, and the first of the modules that it brought in; all of them
-- where no stop came
pub record Joined (before : Program) (plan : List Module) (e : Ended) : Type 0 where
  pub count : ℕ
  pub first : e.system.program ≡ before ++ take count plan
  pub all : e.why ≡ None → e.system.program ≡ before ++ plan

-- Of commands: modules join in their order, each before its body is run, and none is taken away.
abbrev pub CommandsLoad : Type 0
CommandsLoad = (system : System) (plan : List Module) (heap turns : ℕ) (q : QName) → Joined system.program plan (command system plan heap turns q)

-- the first calls of a command, each with its program, its procedure and the state in which it begins: the bodies of the modules
-- that come in, each from where the call of the one before ended, and behind them the command's procedure
pub data FirstCall (heap : ℕ) (q : QName) : Program → List Module → State → Program → QName → Procedure → State → Type 0 where
  body : {program : Program} {m : Module} {ms : List Module} {s : State} → FirstCall heap q program (m ∷ ms) s (program ++ m ∷ []) (body_name m) (body_procedure m) (with_module (program ++ m ∷ []) m s)
  behind : {program : Program} {m : Module} {ms : List Module} {s t : State} {f : Flow} {after : Program} {r : QName} {p : Procedure} {u : State} →
      run_first (program ++ m ∷ []) heap (body_name m) (body_procedure m) (with_module (program ++ m ∷ []) m s) ≡ Gives f t → FirstCall heap q (program ++ m ∷ []) ms (ended t) after r p u →
      FirstCall heap q program (m ∷ ms) s after r p u
  last : {program : Program} {s : State} {p : Procedure} → procedure_of program q ≡ Some p → FirstCall heap q program [] s program q p s

-- where a first call comes to its end, its end leaves no active call
abbrev pub LeavesNone : Res Flow → Type 0
LeavesNone (Gives f t) = ended t ≡ at_rest t
LeavesNone (Stops why t) = Unit {0}

-- Of commands: each of its first calls begins with no active call, and its end leaves none.
abbrev pub CommandsLeaveNoCalls : Type 0
CommandsLeaveNoCalls = (system : System) (plan : List Module) (heap turns : ℕ) (q : QName) (program : Program) (r : QName) (p : Procedure) (s : State) →
    FirstCall heap q system.program plan (command_begins system turns) program r p s → (s.calls ≡ []) × LeavesNone (run_first program heap r p s)
