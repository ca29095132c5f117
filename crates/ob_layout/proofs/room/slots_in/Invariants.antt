use Rattle.std.proofs.Common.{◌≡◌, ◌+◌, ◌≤◌, drop}
use Rattle.std.specs.Prelude.{min}
use Rattle.ob_layout.specs.Lists.{sum_of}
use Rattle.ob_layout.specs.Room.{slots}
use Rattle.ob_layout.proofs.room.slots_in.Given as goal

abbrev pub invariant-parameters : goal.invariant-parameters
invariant-parameters l = (l.total ≤ 4294967296) × (min (l.total + sum_of (λ x. slots x.passing) (drop l.parameter-index l.parameters)) 4294967296 ≡ min (sum_of (λ x. slots x.passing) l.parameters) 4294967296)
