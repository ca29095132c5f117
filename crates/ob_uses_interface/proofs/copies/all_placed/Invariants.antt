use Rattle.std.proofs.Common.{◌≡◌, take, map}
use Rattle.ob_uses_interface.specs.Placed.{as_placed}
use Rattle.ob_uses_interface.proofs.copies.all_placed.Given as goal

abbrev pub invariant-fields : goal.invariant-fields
invariant-fields l = l.all.items ≡ map as_placed (take l.field-index l.fields)
