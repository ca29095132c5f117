use Rattle.std.proofs.Common.{◌≡◌, drop}
use Rattle.ob_uses_roots.specs.Noted.{noted}
use Rattle.std.specs.List.{flat_map}
use Rattle.std.proofs.Common.{map}
use Rattle.ob_types.specs.TypedView.{designator_view}
use Rattle.ob_uses_roots.specs.Counts.{counts_of_designator}
use Rattle.ob_uses_roots.proofs.decls.count_lengths.Given as goal

-- what was noted, and the rest after it, is the whole
abbrev pub invariant-lengths : goal.invariant-lengths
invariant-lengths l = noted l.found (flat_map counts_of_designator (map designator_view (drop l.d-index l.lengths))) ≡ noted l.initial.found (flat_map counts_of_designator (map designator_view l.lengths))
