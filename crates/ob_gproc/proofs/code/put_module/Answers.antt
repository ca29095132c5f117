use Rattle.std.specs.Prelude.{map}
use Rattle.std.proofs.Common.{◌≡◌, ◌++◌, ◌∙◌, ap}
use Rattle.ob_types.specs.TypedView.{procedure_view, module_view}
use Rattle.ob_scheme.specs.Coded.{appended, place_in}
use Rattle.ob_scheme.specs.Procedures.{procedures_code, rows_of}
use Rattle.ob_gproc.proofs.Counting.{module_put, module_rows_put}
use Rattle.ob_gproc.proofs.code.put_module.Goals as goal

pub returns-clause-code : goal.returns-clause-code
returns-clause-code g c =
    let types = g.T.Types.types c.args.scope.now.types.now in
    let m = module_view c.args.scope.now.unit.now in
    module_put types m c.args.code.now c.put_body.new.code c.put_procedures.new.code c.requires c.in_ok-row.ensures.code
    (c.in_ok-put_procedures.ensures.code ∙ ap (λ l. appended c.put_body.new.code (procedures_code types m (map procedure_view l) (place_in c.put_body.new.code))) c.as_slice.ensures)

pub returns-clause-rows : goal.returns-clause-rows
returns-clause-rows g c =
    let types = g.T.Types.types c.args.scope.now.types.now in
    let m = module_view c.args.scope.now.unit.now in
    module_rows_put types m c.args.code.now c.put_body.new.code c.in_ok-row.row c.new-rows.result c.push.new.self c.put_procedures.new.rows c.requires c.in_ok-row.ensures.code c.in_ok-row.ensures.row c.new-rows.ensures c.in_ok-push.ensures.ok
    (c.in_ok-put_procedures.ensures.rows ∙ ap (λ l. c.push.new.self ++ rows_of types m (map procedure_view l) (place_in c.put_body.new.code)) c.as_slice.ensures)
