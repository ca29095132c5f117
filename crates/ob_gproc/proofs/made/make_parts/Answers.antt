use Rattle.std.proofs.Common.{◌≡◌, ◌∙◌, ap}
use Rattle.ob_types.specs.TypedView.{module_view}
use Rattle.ob_scheme.specs.Object.{records_in, type_links}
use Rattle.ob_gexpr_code.specs.Parts.{parts_of}
use Rattle.ob_gproc.proofs.Filing.{coded_types}
use Rattle.ob_gproc.specs.declared.made.Made.{Made}
use Rattle.ob_gproc.proofs.made.make_parts.Goals as goal

pub returns-clause-parts : goal.returns-clause-parts
returns-clause-parts g c = ap (λ (x : Made). x.parts) c.in_ok-done.ensures ∙ ap parts_of c.in_ok-coded.ensures.code

pub returns-clause-rows : goal.returns-clause-rows
returns-clause-rows g c = ap (λ (x : Made). x.rows) c.in_ok-done.ensures ∙ c.in_ok-coded.ensures.rows

pub returns-clause-types : goal.returns-clause-types
returns-clause-types g c =
    let types = g.T.Types.types c.args.scope.now.types.now in
    let m = module_view c.args.scope.now.unit.now in
    ap (λ (x : Made). x.types) c.in_ok-done.ensures ∙ c.in_ok-types.ensures
    ∙ ap (records_in types m c.in_ok-coded.coded.code.named.types) c.as_slice.ensures
    ∙ ap (λ x. records_in types m x.named.types c.args.scope.now.unit.now.types) c.in_ok-coded.ensures.code
    ∙ ap (λ l. records_in types m l c.args.scope.now.unit.now.types) (coded_types types m)
