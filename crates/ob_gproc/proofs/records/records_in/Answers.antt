use Rattle.std.proofs.Common.{◌≡◌, ◌++◌, subst}
use Rattle.ob_types.specs.TypedView.{module_view}
use Rattle.ob_scheme.specs.Object.{record_in}
use Rattle.ob_gproc.proofs.Exporting.{records_turn}
use Rattle.ob_gproc.proofs.records.records_in.Goals as goal

pub types-preserved : goal.types-preserved
types-preserved g c =
    let types = g.T.Types.types c.args.scope.now.types.now in
    let m = module_view c.args.scope.now.unit.now in
    records_turn types m c.args.code.now.named.types c.args.list.now c.types.named-index c.named-item.result c.types.records c.add_record.new.records _ c.types-test.true
    (subst (λ y. c.add_record.new.records ≡ c.types.records ++ record_in types m c.args.code.now.named.types y.name y.desc) c.named-item.is c.in_ok-add_record.ensures)
    c.types.invariant
