use Rattle.std.proofs.Common.{◌≤◌, ◌-◌}
use Rattle.ob_machine_step.specs.Texts.{text}
use Rattle.ob_machine_step.proofs.Endings.{SameSoFar}
use Rattle.ob_machine_step.proofs.texts.order.Given as goal

abbrev pub invariant-chars : goal.invariant-chars
invariant-chars l = (l.i ≤ l.k) × (l.i ≤ l.m) × SameSoFar (text l.words.words l.a l.k) (text l.words.words l.b l.m) l.i

abbrev pub decreases-chars : goal.decreases-chars
decreases-chars l = l.k - l.i
