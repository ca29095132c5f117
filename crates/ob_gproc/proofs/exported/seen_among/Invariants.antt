use Rattle.std.proofs.Common.{◌≡◌, ◌++◌, drop}
use Rattle.ob_types.specs.TypedView.{module_view}
use Rattle.ob_scheme.specs.Object.{seen_variables}
use Rattle.ob_gproc.proofs.exported.seen_among.Given as goal

-- those so far, and those of the rest
abbrev pub invariant-variables : goal.invariant-variables
invariant-variables g l = l.seen ++ seen_variables (g.T.Types.types l.scope.types.now) (module_view l.scope.unit.now) (drop l.variable-index l.variables) ≡ seen_variables (g.T.Types.types l.scope.types.now) (module_view l.scope.unit.now) l.variables
