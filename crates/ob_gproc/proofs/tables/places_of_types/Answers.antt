use Rattle.std.proofs.Common.{ap, sym, ◌∙◌}
use Rattle.ob_types.specs.declared.typed.TypedType.{TypedType}
use Rattle.ob_scheme.specs.Context.{is_record}
use Rattle.ob_gproc.proofs.Placing.{types_turn, types_past}
use Rattle.ob_gproc.proofs.tables.places_of_types.Goals as goal
use Rattle.ob_gproc.proofs.tables.places_of_types.Goals.{then-is_record+in_ok-places, else-is_record}

pub types-preserved : goal.types-preserved
types-preserved c =
    let ts = c.args.types.now in
    let t = c.named-item.result in
    let described = ap (λ (t : TypedType). is_record t.desc) c.named-item.is in
    elim c.if-is_record.branch [
      | then-is_record+in_ok-places w ↦ rw w.places-is (types_turn ts c.types.named-index t c.types.places.index.positions w.in_ok-places.places.index.positions c.types.places.total w.in_ok-places.places.total w.as_bytes.result.now c.types-test.true (w.as_bytes.ensures ∙ ap (λ (t : TypedType). t.name) c.named-item.is) (sym w.if-is_record.true ∙ c.is_record.ensures ∙ described) w.in_ok-places.ensures.noted w.in_ok-places.ensures.total c.types.invariant)
      | else-is_record w ↦ rw w.places-is (types_past ts c.types.named-index t c.types.places.index.positions c.types.places.total c.types-test.true (sym w.if-is_record.false ∙ c.is_record.ensures ∙ described) c.types.invariant)
    ]
