use Rattle.std.proofs.Common.{◌≡◌, ◌-◌, ◌≤◌, zero, length, drop}
use Rattle.ob_scan.specs.Scanning.{behind, HasRoom}
use Rattle.ob_scan.proofs.gap.skip.Given as goal

abbrev pub invariant-blanks : goal.invariant-blanks
invariant-blanks l = record { same : behind zero l.fn.pos l.fn.pos l.fn.text ≡ behind zero l.fn.pos l.here (drop l.at l.text); within : l.at ≤ length l.text; room : HasRoom l.here (drop l.at l.text) }

abbrev pub decreases-blanks : goal.decreases-blanks
decreases-blanks l = length l.text - l.at
