use Rattle.std.proofs.Common.{◌≡◌, length}
use Rattle.ob_format.specs.Format.{skip_at}
use Rattle.ob_format.proofs.wire.skip.Given as goal

abbrev pub invariant-loop-left : goal.invariant-loop-left
invariant-loop-left l = skip_at l.left l.rest ≡ skip_at l.front l.bytes

abbrev pub decreases-loop-left : goal.decreases-loop-left
decreases-loop-left l = length l.left
