use Rattle.std.proofs.Common.{◌≡◌, ◌∷◌, [], ◌++◌, subst}
use Rattle.ob_types.specs.TypedView.{module_view}
use Rattle.ob_scheme.specs.Object.{seen_variables}
use Rattle.ob_gproc.proofs.Exporting.{seen_turn}
use Rattle.ob_gproc.proofs.exported.seen_among.Goals as goal

pub variables-preserved : goal.variables-preserved
variables-preserved g c =
    let types = g.T.Types.types c.args.scope.now.types.now in
    let m = module_view c.args.scope.now.unit.now in
    seen_turn types m c.args.variables.now c.variables.variable-index c.variable-item.result c.variables.seen c.add_seen.new.seen _ c.variables-test.true
    (subst (λ y. c.add_seen.new.seen ≡ c.variables.seen ++ seen_variables types m (y ∷ [])) c.variable-item.is c.in_ok-add_seen.ensures)
    c.variables.invariant
