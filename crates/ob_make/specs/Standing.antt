-- How a module stands before its source is looked at.
use Rattle.std.specs.Prelude.{Bool, true, false, Result, Ok, Err}
use Rattle.ob_cmp.specs.Check.{Present, NotThere, TooLong, Refused, There}
use Rattle.ob_make.specs.Seen.{Has}
use Rattle.ob_make.specs.declared.fault.MakeFault.{MakeFault}
use Rattle.ob_make.specs.declared.fault.MakeFault.TheVariants as fault
use Rattle.ob_make.specs.declared.turns.Turn.{Turn}
use Rattle.ob_make.specs.declared.turns.Turn.TheVariants as turn
use Rattle.ob_make.specs.declared.staleness.State.{State}
use Rattle.ob_make.specs.declared.staleness.State.TheVariants as state

abbrev pub by_stale : Bool → State
by_stale true = state.Stale
by_stale false = state.Fresh

-- by its object file, and whether it is stale
abbrev pub state_in : {K : Type 0} → Present (Has K) → Bool → State
state_in NotThere stale = state.Missing
state_in TooLong stale = state.Stale
state_in Refused stale = state.Stale
state_in (There h) stale = by_stale stale

abbrev pub is_stale_state : State → Bool
is_stale_state state.Missing = true
is_stale_state state.Stale = true
is_stale_state state.Fresh = false

abbrev pub by_source : (sourceless : Bool) → Turn
by_source false = turn.Compiles
by_source true = turn.LacksSource

abbrev pub missing_turn : (made sourceless : Bool) → Turn
missing_turn true sourceless = by_source sourceless
missing_turn false false = turn.Compiles
missing_turn false true = turn.Stays

-- the turn of a module, by whether it is the one that is made, and whether its source counts as missing
abbrev pub turn_by : (made : Bool) → State → (sourceless : Bool) → Turn
turn_by made state.Missing sourceless = missing_turn made sourceless
turn_by made state.Stale sourceless = by_source sourceless
turn_by made state.Fresh sourceless = turn.Stays

-- a symbol file was read; of the faults only a failed folder and want of memory come
abbrev pub Learns : Result (Unit {0}) MakeFault → Type 0
Learns (Ok u) = Unit {0}
Learns (Err (fault.Cycle m)) = ⊥
Learns (Err (fault.TooMany count)) = ⊥
Learns (Err fault.Folder) = Unit {0}
Learns (Err fault.Memory) = Unit {0}
