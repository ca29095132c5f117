use Rattle.std.proofs.Common.{◌≡◌, ◌<◌, length, Some}
use Rattle.std.specs.Prelude.{IfSome}
use Rattle.ob_tdesc.proofs.Methods.{method_above, places_left}
use Rattle.ob_tdesc.proofs.descriptors.Descriptors.method.Given as goal

abbrev pub invariant-line : goal.invariant-line
invariant-line l = record {
  there : IfSome l.next (λ b. b < length l.self.list);
  same : method_above l.self.list l.next l.number ≡ method_above l.self.list (Some l.a) l.number;
}

abbrev pub decreases-line : goal.decreases-line
decreases-line l = places_left l.next
