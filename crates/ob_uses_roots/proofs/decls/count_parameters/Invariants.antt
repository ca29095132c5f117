use Rattle.std.proofs.Common.{◌≡◌, drop}
use Rattle.ob_uses_roots.specs.Noted.{noted}
use Rattle.std.specs.List.{flat_map}
use Rattle.ob_uses_roots.specs.Counts.{counts_of_parameter}
use Rattle.ob_uses_roots.proofs.decls.count_parameters.Given as goal

-- what was noted, and the rest after it, is the whole
abbrev pub invariant-parameters : goal.invariant-parameters
invariant-parameters l = noted l.found (flat_map counts_of_parameter (drop l.parameter-index l.parameters)) ≡ noted l.initial.found (flat_map counts_of_parameter l.parameters)
