use Rattle.std.proofs.Common.{◌≡◌, ◌-◌, ◌≤◌, length, take}
use Rattle.ob_machine_image.proofs.types.Types.cut.Given as goal

abbrev pub invariant-loop-count : goal.invariant-loop-count
invariant-loop-count l = (l.count ≡ length l.self) × (take l.types l.self ≡ take l.types l.fn.self) × (l.types ≤ l.count)

abbrev pub decreases-loop-count : goal.decreases-loop-count
decreases-loop-count l = l.count - l.types
