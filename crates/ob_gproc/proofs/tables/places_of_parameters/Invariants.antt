use Rattle.std.proofs.Common.{◌≡◌, ◌+◌, drop}
use Rattle.ob_gproc.specs.Scoped.{parameters_before, parameters_slots}
use Rattle.ob_gproc.proofs.Placing.{ArePlacing}
use Rattle.ob_gproc.proofs.tables.places_of_parameters.Given as goal

-- what was placed, and the rest behind it, is the whole
abbrev pub invariant-parameters : goal.invariant-parameters
invariant-parameters l = ArePlacing l.places.index.positions l.places.total (parameters_before (drop l.parameter-index l.parameters)) (parameters_before l.parameters)
    × (l.places.total + parameters_slots (drop l.parameter-index l.parameters) ≡ parameters_slots l.parameters)
