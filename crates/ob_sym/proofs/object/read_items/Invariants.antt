use Rattle.std.proofs.Common.{◌≡◌, ◌-◌}
use Rattle.ob_format.specs.Format.{items_at}
use Rattle.ob_format.proofs.Loop.{with_front}
use Rattle.ob_sym.specs.Grammar.{object_in}
use Rattle.ob_sym.proofs.object.read_items.Given as goal

abbrev pub invariant-loop : goal.invariant-loop
invariant-loop l = with_front l.items (items_at (object_in l.«module»).take (l.count - l.counter) l.rest) ≡ items_at (object_in l.«module»).take l.count l.bytes
