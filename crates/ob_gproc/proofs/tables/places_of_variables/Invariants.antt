use Rattle.std.proofs.Common.{◌≡◌, ◌+◌, drop}
use Rattle.ob_gproc.specs.Scoped.{variables_before, variables_words}
use Rattle.ob_gproc.proofs.Placing.{ArePlacing}
use Rattle.ob_gproc.proofs.tables.places_of_variables.Given as goal

-- what was placed, and the rest behind it, is the whole
abbrev pub invariant-variables : goal.invariant-variables
invariant-variables g l = ArePlacing l.places.index.positions l.places.total (variables_before (g.T.Types.types l.types) (drop l.variable-index l.variables)) (variables_before (g.T.Types.types l.types) l.variables)
    × (l.places.total + variables_words (g.T.Types.types l.types) (drop l.variable-index l.variables) ≡ variables_words (g.T.Types.types l.types) l.variables)
