use Rattle.std.specs.Prelude.{map}
use Rattle.std.proofs.Common.{◌+◌, refl, ap, ◌∙◌}
use Rattle.ob_types.specs.TypedView.{stmts_view, procedure_view, module_view}
use Rattle.ob_gproc_length.specs.Lengths.{capped, stmts_lines}
use Rattle.ob_gproc_length.specs.Whole.{procedures_lines}
use Rattle.ob_gproc_length.proofs.Shapes.{parts}
use Rattle.ob_gproc_length.proofs.Short.{told}
use Rattle.ob_gproc_length.proofs.limits.has_short_code.Goals as goal

pub returns : goal.returns
returns g c =
    let types = g.T.Types.types c.args.types.now in
    let unit = c.args.unit.now in
    let first = stmts_lines types (stmts_view unit.body) + 1 in
    let others = procedures_lines types (map procedure_view unit.procedures) in
    told types (module_view unit) first others c.more.result _
    (c.more.ensures
    ∙ parts first others c.lines_of_body-first.result c.lines_of_procedures-others.result
    (c.lines_of_body-first.ensures ∙ ap (λ l. capped (stmts_lines types (stmts_view l) + 1)) c.as_slice.ensures)
    (c.lines_of_procedures-others.ensures ∙ ap (λ l. capped (procedures_lines types (map procedure_view l))) c.as_slice-2.ensures))
    refl refl
