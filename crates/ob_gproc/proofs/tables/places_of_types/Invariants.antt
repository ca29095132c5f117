use Rattle.std.proofs.Common.{◌≡◌, ◌+◌, drop}
use Rattle.ob_gproc.specs.Scoped.{types_before, types_count}
use Rattle.ob_gproc.proofs.Placing.{ArePlacing}
use Rattle.ob_gproc.proofs.tables.places_of_types.Given as goal

-- what was placed, and the rest behind it, is the whole
abbrev pub invariant-types : goal.invariant-types
invariant-types l = ArePlacing l.places.index.positions l.places.total (types_before (drop l.named-index l.types)) (types_before l.types)
    × (l.places.total + types_count (drop l.named-index l.types) ≡ types_count l.types)
