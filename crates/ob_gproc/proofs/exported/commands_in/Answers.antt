use Rattle.std.proofs.Common.{◌≡◌, ◌∷◌, [], ◌++◌, subst}
use Rattle.ob_types.specs.TypedView.{procedure_view, module_view}
use Rattle.ob_scheme.specs.Object.{commands_among}
use Rattle.ob_gproc.proofs.Exporting.{commands_turn, commands_over}
use Rattle.ob_gproc.proofs.exported.commands_in.Goals as goal

pub procedures-preserved : goal.procedures-preserved
procedures-preserved g c =
    let types = g.T.Types.types c.args.scope.now.types.now in
    let m = module_view c.args.scope.now.unit.now in
    commands_turn types m c.args.procedures.now c.procedures.procedure-index c.procedure-item.result c.procedures.index c.in_ok-index.index c.procedures.found c.add_command.new.found _ c.procedures-test.true
    (subst (λ y. c.add_command.new.found ≡ c.procedures.found ++ commands_among types m (procedure_view y ∷ []) c.procedures.index) c.procedure-item.is c.in_ok-add_command.ensures)
    c.in_ok-index.ensures c.procedures.invariant

pub returns : goal.returns
returns g c = commands_over (g.T.Types.types c.args.scope.now.types.now) (module_view c.args.scope.now.unit.now) c.args.procedures.now c.procedures.procedure-index c.procedures.index c.procedures.found _ c.procedures-test.false c.procedures.invariant
