use Rattle.std.proofs.Common.{drop}
use Rattle.ob_gproc.specs.Scoped.{procedures_before}
use Rattle.ob_gproc.proofs.Placing.{ArePlacing}
use Rattle.ob_gproc.proofs.tables.places_of_procedures.Given as goal

-- what was placed, and the rest behind it, is the whole
abbrev pub invariant-procedures : goal.invariant-procedures
invariant-procedures l = ArePlacing l.places.index.positions l.places.total (procedures_before (drop l.procedure-index l.procedures)) (procedures_before l.procedures)
