use Rattle.std.proofs.Common.{◌≡◌, ◌++◌, map, drop}
use Rattle.ob_gproc_tables.specs.Ordered.{of_definition}
use Rattle.ob_gproc_tables.proofs.order.definitions_of.Given as goal

-- those so far, and those of the rest
abbrev pub invariant-items : goal.invariant-items
invariant-items l = l.items.items ++ map of_definition (drop l.item-index l.found) ≡ map of_definition l.found
