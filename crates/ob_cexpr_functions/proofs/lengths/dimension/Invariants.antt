use Rattle.std.proofs.Common.{◌≡◌, ◌-◌}
use Rattle.ob_rules.specs.Predeclared.{dimension}
use Rattle.ob_cexpr_functions.proofs.lengths.dimension.Given as goal

abbrev pub invariant-dimensions : goal.invariant-dimensions
invariant-dimensions g l = dimension (g.T.Types.types l.types) (l.left - l.counter) l.of ≡ dimension (g.T.Types.types l.types) l.left l.t
