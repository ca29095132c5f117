use Rattle.std.proofs.Common.{◌≡◌, drop}
use Rattle.ob_uses_roots.specs.Noted.{noted}
use Rattle.std.specs.List.{flat_map}
use Rattle.ob_types.specs.TypedView.{module_view}
use Rattle.ob_uses_roots.specs.Counts.{counts_of_type}
use Rattle.ob_uses_roots.proofs.decls.count_types.Given as goal

-- what was noted, and the rest after it, is the whole
abbrev pub invariant-types : goal.invariant-types
invariant-types l = noted l.found (flat_map (counts_of_type (module_view l.«module»)) (drop l.t-index l.types)) ≡ noted l.initial.found (flat_map (counts_of_type (module_view l.«module»)) l.types)
