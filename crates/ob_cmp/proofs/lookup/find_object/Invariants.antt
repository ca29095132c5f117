use Rattle.std.proofs.Common.{◌≤◌, ◌-◌, length}
use Rattle.ob_cmp.proofs.Halving.{AllBelow, AllAbove}
use Rattle.ob_cmp.proofs.lookup.find_object.Given as goal

abbrev pub invariant-halves : goal.invariant-halves
invariant-halves l = record { inside : l.high ≤ length l.objects; below : AllBelow l.name l.objects l.low; above : AllAbove l.name l.objects l.high }

abbrev pub decreases-halves : goal.decreases-halves
decreases-halves l = l.high - l.low
