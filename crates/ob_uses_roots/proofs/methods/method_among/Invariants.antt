use Rattle.std.proofs.Common.{◌≡◌, length}
use Rattle.ob_layout.specs.Members.{method_named}
use Rattle.ob_uses_roots.proofs.methods.method_among.Given as goal

abbrev pub invariant-loop-rest : goal.invariant-loop-rest
invariant-loop-rest l = method_named l.name l.rest ≡ method_named l.name l.methods

abbrev pub decreases-loop-rest : goal.decreases-loop-rest
decreases-loop-rest l = length l.rest
