use Rattle.std.proofs.Common.{◌≡◌, ◌-◌}
use Rattle.ob_format.specs.Format.{items_at}
use Rattle.ob_format.proofs.Loop.{with_front}
use Rattle.ob_format.proofs.wire.items.Given as goal

abbrev pub invariant-loop : goal.invariant-loop
invariant-loop g l = with_front l.items (items_at g.T.Wire.form.take (l.count - l.counter) l.rest) ≡ items_at g.T.Wire.form.take l.count l.bytes
