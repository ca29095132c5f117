use Rattle.std.proofs.Common.{◌≡◌, ◌++◌, length, map}
use Rattle.ob_gproc_tables.specs.Ordered.{to_definition}
use Rattle.ob_gproc_tables.proofs.order.definitions_in.Given as goal

-- those so far, and those that are left
abbrev pub invariant-items : goal.invariant-items
invariant-items l = l.items ++ map to_definition l.left.keys ≡ map to_definition l.initial.left.keys

abbrev pub decreases-items : goal.decreases-items
decreases-items l = length l.left.keys
