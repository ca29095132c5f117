use Rattle.std.proofs.Common.{◌≡◌, ◌++◌, length, map}
use Rattle.ob_gproc_tables.specs.Ordered.{to_command}
use Rattle.ob_gproc_tables.proofs.order.commands_in.Given as goal

-- those so far, and those that are left
abbrev pub invariant-items : goal.invariant-items
invariant-items l = l.items ++ map to_command l.left.keys ≡ map to_command l.initial.left.keys

abbrev pub decreases-items : goal.decreases-items
decreases-items l = length l.left.keys
