use Rattle.std.proofs.Common.{◌≡◌, ◌∙◌, ap}
use Rattle.ob_types.specs.TypedView.{module_view}
use Rattle.ob_scheme.specs.Object.{with_bases}
use Rattle.ob_gproc.specs.Named.{with_types}
use Rattle.ob_gproc.proofs.Filing.{coded_is}
use Rattle.ob_gproc.proofs.made.module_code.Goals as goal

pub returns-clause-code : goal.returns-clause-code
returns-clause-code g c =
    let types = g.T.Types.types c.args.scope.now.types.now in
    let m = module_view c.args.scope.now.unit.now in
    coded_is types m c.args.scope.now.variables.now.total c.new-code.result c.put_module.new.code c.name_bases.new.code c.args.scope.now.variables_counted c.new-code.ensures c.in_ok-rows.ensures.code
    (c.in_ok-name_bases.ensures ∙ ap (λ l. with_types c.put_module.new.code (with_bases types m c.put_module.new.code.named.types l)) c.as_slice.ensures)

pub returns-clause-rows : goal.returns-clause-rows
returns-clause-rows g c = c.in_ok-rows.ensures.rows
