-- The instructions of a call up to the next call or return, and this one.
use Rattle.std.specs.Prelude.{◌≡◌, ℕ, ◌+◌, ◌*◌, ◌<◌, ◌≤◌, List, [], ◌++◌, length, Bool, true, Option, Some, None, vec_len, vec_capacity}
use Rattle.std.specs.List.{AllByRecursion}
use Rattle.ob_io.specs.Io.{AddsFront, Rose}
use Rattle.ob_instr.specs.declared.procedure.Procedure.{Procedure}
use Rattle.ob_instr.specs.Image.{Image, ModuleImage, World, Act, End, Point, Over}
use Rattle.ob_instr.specs.Parts.{slots}
use Rattle.ob_instr.specs.Rows.{entered}
use Rattle.ob_instr.specs.Table.{run, position_at}
use Rattle.ob_machine_operands.specs.declared.state.State.{State}
use Rattle.ob_machine_operands.specs.Effects.{world_of}
use Rattle.ob_machine_fused.specs.Points.{Comes}
use Rattle.ob_machine_loop.specs.Turns.{Begins}
use Rattle.ob_machine_calls.specs.declared.calls.Place.{Place}
use Rattle.ob_machine_calls.specs.Reached.{at_place}
use Rattle.ob_machine.specs.declared.outcome.Outcome.{Outcome}
use Rattle.ob_machine.specs.declared.outcome.Outcome.TheVariants as outcome
use Rattle.ob_machine.specs.declared.running.Ending.{Ending}
use Rattle.ob_machine.specs.declared.running.Ending.TheVariants as ending
use Rattle.ob_machine.specs.Machine.{outcome_of}

-- the outcome that an end in a module is
abbrev pub outcome_in : ModuleImage → Ending → Outcome
outcome_in u ending.Done = outcome.Done
outcome_in u (ending.Trap kind number at) = outcome.Trap kind number u.name (position_at u.positions at)
outcome_in u (ending.TurnsSpent at) = outcome.TurnsSpent u.name (position_at u.positions at)
outcome_in u (ending.Illegal at) = outcome.Illegal u.name at
outcome_in u ending.SinkFault = outcome.SinkFault

-- from a point the run comes to an end, in a world, and the outcome tells it
pub record EndsAt (img : Image) (from : Point) (last : World) (result : Outcome) : Type 0 where
  pub steps : ℕ
  pub end : End
  pub comes : run img steps from ≡ Over end last
  pub is : result ≡ outcome_of img end

-- After any text the machine writes a piece: it goes on at another place, over other calls that wait, or it
-- ends.
abbrev pub Leg : Image → Place → Place → List Act → List Act → State → State → Option Outcome → List ℕ → Type 0
Leg img here new acts now old s None piece = (out : List ℕ) → Comes img (at_place here acts old out) (at_place new now s (out ++ piece))
Leg img here new acts now old s (Some outcome.SinkFault) piece = (out : List ℕ) → Begins img (at_place here acts old out) (out ++ piece)
Leg img here new acts now old s (Some result) piece = (out : List ℕ) → EndsAt img (at_place here acts old out) (world_of s (out ++ piece)) result

-- what the sink has of a piece
abbrev pub Wrote : List ℕ → List ℕ → Option Outcome → List ℕ → Type 0
Wrote old new (Some outcome.SinkFault) piece = AddsFront old new piece
Wrote old new result piece = new ≡ old ++ piece

-- one or more legs, and what the sink has of their text, where it tells
pub record LegDoes (told : Bool) (before after : List ℕ) (img : Image) (here new : Place) (acts now : List Act) (old s : State) (result : Option Outcome) : Type 0 where
  pub piece : List ℕ
  pub leg : Leg img here new acts now old s result piece
  pub wrote : told ≡ true → Wrote before after result piece

-- the fault is answered only where the count rose
pub record LegHasCause (before now : ℕ) (result : Option Outcome) : Type 0 where
  pub later : before ≤ now
  pub failed : result ≡ Some outcome.SinkFault → Rose before now

-- a call or a return, which writes nothing
abbrev pub CallTurn : Image → Place → Place → List Act → List Act → State → State → Option Outcome → Type 0
CallTurn img here new acts now old s None = (out : List ℕ) → Comes img (at_place here acts old out) (at_place new now s out)
CallTurn img here new acts now old s (Some outcome.SinkFault) = ⊥
CallTurn img here new acts now old s (Some result) = (out : List ℕ) → EndsAt img (at_place here acts old out) (world_of s out) result

pub record CallDoes (img : Image) (here new : Place) (acts now : List Act) (old s : State) (result : Option Outcome) : Type 0 where
  pub turn : CallTurn img here new acts now old s result

-- a place and the calls that wait are in modules of numbers below n, and the state has room
pub record CanRun (n : ℕ) (here : Place) (acts : List Act) (s : State) : Type 0 where
  pub unit : here.unit < n
  pub units : AllByRecursion (λ a. a.m < n) acts
  pub first : 0 < here.first
  pub stack : 0 < s.stack
  pub few : vec_len s.operands ≤ 256
  pub room : 257 ≤ vec_capacity s.operands

-- what is left to do, as a number
abbrev pub left_of : State → List Act → ℕ
left_of s acts = s.turns * 4097 + length acts

-- a state at the begin of a procedure without parameters, with these turns
pub record IsBegun (old new : State) (q : Procedure) (turns : ℕ) : Type 0 where
  pub words : new.words ≡ record old.words { words = entered old.words.words 262145 q [] }
  pub stack : new.stack ≡ 262145 + (slots q.params + q.locals)
  pub empty : new.operands.items ≡ []
  pub full : new.turns ≡ turns
  pub room : vec_capacity new.operands ≡ vec_capacity old.operands
