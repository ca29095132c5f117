-- How a run that the sink cut short is known.
use Rattle.std.specs.Prelude.{Bool, true, false}
use Rattle.ob_machine.specs.declared.outcome.Outcome.{Outcome}
use Rattle.ob_machine.specs.declared.outcome.Outcome.TheVariants as outcome

abbrev pub is_cut : Outcome → Bool
is_cut outcome.Done = false
is_cut (outcome.Trap kind number name at) = false
is_cut (outcome.TurnsSpent name at) = false
is_cut (outcome.Illegal name at) = false
is_cut outcome.SinkFault = true
