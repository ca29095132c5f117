use Rattle.std.proofs.Common.{◌≡◌, subst}
use Rattle.ob_types.specs.TypedView.{procedure_view, module_view}
use Rattle.ob_scheme.specs.Coded.{appended, place_in}
use Rattle.ob_scheme.specs.Procedures.{procedure_code, row_of}
use Rattle.ob_gproc.proofs.Counting.{procedures_turn, rows_turn, procedures_over}
use Rattle.ob_gproc.proofs.code.put_procedures.Goals as goal

pub procedures-preserved : goal.procedures-preserved
procedures-preserved g c =
    let types = g.T.Types.types c.args.scope.now.types.now in
    let m = module_view c.args.scope.now.unit.now in
    let h = subst (λ y. c.put_declared.new.code ≡ appended c.procedures.code (procedure_code types m (procedure_view y) (place_in c.procedures.code))) c.procedure-item.is c.in_ok-row.ensures.code in
    let e = subst (λ y. c.in_ok-row.row ≡ row_of types m (procedure_view y) (place_in c.procedures.code)) c.procedure-item.is c.in_ok-row.ensures.row in (
      procedures_turn types m c.args.procedures.now c.procedures.procedure-index c.procedure-item.result c.procedures.code c.put_declared.new.code _ c.procedures-test.true h c.procedures.invariant.0,
      rows_turn types m c.args.procedures.now c.procedures.procedure-index c.procedure-item.result c.procedures.code c.put_declared.new.code c.in_ok-row.row c.procedures.rows c.push.new.self _ c.procedures-test.true h e c.in_ok-push.ensures.ok c.procedures.invariant.1,
    )

pub returns-clause-code : goal.returns-clause-code
returns-clause-code g c =
    procedures_over (g.T.Types.types c.args.scope.now.types.now) (module_view c.args.scope.now.unit.now) c.args.procedures.now c.procedures.procedure-index c.procedures.code _ c.procedures-test.false c.procedures.invariant.0
