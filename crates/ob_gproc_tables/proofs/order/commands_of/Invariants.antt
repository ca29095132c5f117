use Rattle.std.proofs.Common.{◌≡◌, ◌++◌, map, drop}
use Rattle.ob_gproc_tables.specs.Ordered.{of_command}
use Rattle.ob_gproc_tables.proofs.order.commands_of.Given as goal

-- those so far, and those of the rest
abbrev pub invariant-items : goal.invariant-items
invariant-items l = l.items.items ++ map of_command (drop l.item-index l.found) ≡ map of_command l.found
