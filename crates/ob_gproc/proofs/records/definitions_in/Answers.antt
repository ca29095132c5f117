use Rattle.std.proofs.Common.{◌≡◌, ◌∷◌, [], ◌++◌, subst}
use Rattle.ob_types.specs.TypedView.{procedure_view, module_view}
use Rattle.ob_scheme.specs.Object.{definitions_among}
use Rattle.ob_gproc.proofs.Exporting.{definitions_turn, definitions_over}
use Rattle.ob_gproc.proofs.records.definitions_in.Goals as goal

pub procedures-preserved : goal.procedures-preserved
procedures-preserved g c =
    let types = g.T.Types.types c.args.scope.now.types.now in
    let m = module_view c.args.scope.now.unit.now in
    definitions_turn types m c.args.owner.now c.args.procedures.now c.procedures.procedure-index c.procedure-item.result c.procedures.index c.in_ok-index.index c.procedures.found c.add_definition.new.found _ c.procedures-test.true
    (subst (λ y. c.add_definition.new.found ≡ c.procedures.found ++ definitions_among types m c.args.owner.now (procedure_view y ∷ []) c.procedures.index) c.procedure-item.is c.in_ok-add_definition.ensures)
    c.in_ok-index.ensures c.procedures.invariant

pub returns : goal.returns
returns g c = definitions_over (g.T.Types.types c.args.scope.now.types.now) (module_view c.args.scope.now.unit.now) c.args.owner.now c.args.procedures.now c.procedures.procedure-index c.procedures.index c.procedures.found _ c.procedures-test.false c.procedures.invariant
