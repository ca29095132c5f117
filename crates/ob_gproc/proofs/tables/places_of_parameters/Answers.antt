use Rattle.std.proofs.Common.{ℕ, ap, ◌∙◌}
use Rattle.ob_types.specs.declared.typed.TypedParameter.{TypedParameter}
use Rattle.ob_layout.specs.Room.{slots}
use Rattle.ob_gproc.specs.Scoped.{parameters_before, parameters_slots}
use Rattle.ob_gproc.proofs.Placing.{placing_turn, sum_turn}
use Rattle.ob_gproc.proofs.tables.places_of_parameters.Goals as goal

pub parameters-preserved : goal.parameters-preserved
parameters-preserved c =
    let size : TypedParameter → ℕ = λ p. slots p.passing in
    let ps = c.args.parameters.now in
    let p = c.parameter-item.result in
    let s = c.slots_of.ensures ∙ ap size c.parameter-item.is in (
      placing_turn (λ p. p.name) size ps c.parameters.parameter-index p c.parameters.places.index.positions c.in_ok-places.places.index.positions c.parameters.places.total c.in_ok-places.places.total c.slots_of.result c.as_bytes.result.now (parameters_before ps) c.parameters-test.true (c.as_bytes.ensures ∙ ap (λ (p : TypedParameter). p.name) c.parameter-item.is) s c.in_ok-places.ensures.noted c.in_ok-places.ensures.total c.parameters.invariant.0,
      sum_turn (λ p. p.name) size ps c.parameters.parameter-index p c.parameters.places.total c.in_ok-places.places.total c.slots_of.result (parameters_slots ps) c.parameters-test.true s c.in_ok-places.ensures.total c.parameters.invariant.1,
    )
