use Rattle.std.proofs.Common.{◌≡◌}
use Rattle.ob_real.proofs.folder.RealFolder.create_own.Given as goal

abbrev pub invariant-loop-number : goal.invariant-loop-number
invariant-loop-number g l = l.self.faults ≡ l.fn.self.faults
