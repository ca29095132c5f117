use Rattle.std.proofs.Common.{◌≡◌, drop}
use Rattle.ob_uses_roots.specs.Noted.{noted}
use Rattle.std.specs.List.{flat_map}
use Rattle.ob_uses_roots.specs.Counts.{counts_of_variable}
use Rattle.ob_uses_roots.proofs.decls.count_variables.Given as goal

-- what was noted, and the rest after it, is the whole
abbrev pub invariant-variables : goal.invariant-variables
invariant-variables l = noted l.found (flat_map counts_of_variable (drop l.variable-index l.variables)) ≡ noted l.initial.found (flat_map counts_of_variable l.variables)
