use Rattle.std.proofs.Common.{◌≡◌, ◌++◌, map, drop}
use Rattle.ob_gproc_tables.specs.Ordered.{of_variable}
use Rattle.ob_gproc_tables.proofs.order.variables_of.Given as goal

-- those so far, and those of the rest
abbrev pub invariant-items : goal.invariant-items
invariant-items l = l.items.items ++ map of_variable (drop l.item-index l.found) ≡ map of_variable l.found
