use Rattle.std.proofs.Common.{ap, refl, ◌∙◌, arith}
use Rattle.ob_types.specs.declared.typed.TypedProcedure.{TypedProcedure}
use Rattle.ob_gproc.specs.Scoped.{procedures_before}
use Rattle.ob_gproc.proofs.Placing.{placing_turn, placing_over}
use Rattle.ob_gproc.proofs.tables.places_of_procedures.Goals as goal

pub procedures-preserved : goal.procedures-preserved
procedures-preserved c =
    let ps = c.args.procedures.now in
    placing_turn (λ (p : TypedProcedure). p.name) (λ p. 1) ps c.procedures.procedure-index c.procedure-item.result c.procedures.places.index.positions c.in_ok-places.places.index.positions c.procedures.places.total c.in_ok-places.places.total 1 c.as_bytes.result.now (procedures_before ps) c.procedures-test.true (c.as_bytes.ensures ∙ ap (λ (p : TypedProcedure). p.name) c.procedure-item.is) refl c.in_ok-places.ensures.noted c.in_ok-places.ensures.total c.procedures.invariant

pub returns : goal.returns
returns c =
    let ps = c.args.procedures.now in
    placing_over (λ (p : TypedProcedure). p.name) (λ p. 1) ps c.procedures.procedure-index c.procedures.places.index.positions c.procedures.places.total (procedures_before ps) (omega (arith, c.procedures-test.false)) c.procedures.invariant
