use Rattle.std.proofs.Common.{◌≡◌, drop}
use Rattle.ob_uses_roots.specs.Noted.{noted}
use Rattle.std.specs.List.{flat_map}
use Rattle.ob_uses_roots.specs.Counts.{formal_counts}
use Rattle.ob_uses_roots.proofs.decls.count_formals.Given as goal

-- what was noted, and the rest after it, is the whole
abbrev pub invariant-params : goal.invariant-params
invariant-params l = noted l.found (flat_map formal_counts (drop l.param-index l.params)) ≡ noted l.initial.found (flat_map formal_counts l.params)
