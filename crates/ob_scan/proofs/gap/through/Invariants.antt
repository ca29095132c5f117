use Rattle.std.proofs.Common.{◌≡◌, ◌-◌, length}
use Rattle.ob_scan.specs.Gaps.{gap_of, IsRoomy}
use Rattle.ob_scan.proofs.gap.through.Given as goal

abbrev pub invariant-gap : goal.invariant-gap
invariant-gap l = record { same : gap_of l.fn.text l.fn.from ≡ gap_of l.text l.p; roomy : IsRoomy l.text l.p }

abbrev pub decreases-gap : goal.decreases-gap
decreases-gap l = length l.text - l.p.at
