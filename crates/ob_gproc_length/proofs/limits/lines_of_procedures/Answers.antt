use Rattle.std.proofs.Common.{◌+◌, ap, ◌∙◌, arith}
use Rattle.ob_types.specs.TypedView.{stmts_view}
use Rattle.ob_gproc_length.specs.Lengths.{capped, stmts_lines}
use Rattle.ob_gproc_length.proofs.Turns.{procedures_turn, procedures_over}
use Rattle.ob_gproc_length.proofs.limits.lines_of_procedures.Goals as goal

pub procedures-preserved : goal.procedures-preserved
procedures-preserved g c =
    let types = g.T.Types.types c.args.types.now in (
      procedures_turn types c.args.procedures.now c.procedures.procedure-index c.procedure-item.result c.procedures.lines c.lines_of_body.result c.more-lines.result _ c.procedures-test.true
          (c.lines_of_body.ensures ∙ ap (λ l. capped (stmts_lines types (stmts_view l) + 1)) c.as_slice.ensures ∙ ap (λ p. capped (stmts_lines types (stmts_view p.body) + 1)) c.procedure-item.is)
          c.more-lines.ensures c.procedures.invariant.0,
      omega arith,
    )

pub returns : goal.returns
returns g c =
    procedures_over (g.T.Types.types c.args.types.now) c.args.procedures.now c.procedures.procedure-index c.procedures.lines _ c.procedures-test.false c.procedures.invariant.1 c.procedures.invariant.0
