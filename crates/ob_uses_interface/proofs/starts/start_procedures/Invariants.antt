use Rattle.std.proofs.Common.{◌≡◌, ◌++◌, true, drop, map}
use Rattle.std.specs.List.{filter, flat_map}
use Rattle.ob_types.specs.TypedView.{procedure_view}
use Rattle.ob_types.specs.Maps.{signature_types}
use Rattle.ob_uses.specs.Objects.{signature_of, is_exported}
use Rattle.ob_uses.specs.Ways.{type_names}
use Rattle.ob_uses_interface.proofs.starts.start_procedures.Given as goal

abbrev pub invariant-procedures : goal.invariant-procedures
invariant-procedures l = l.left.items ++ type_names true l.own (flat_map (λ p. signature_types (signature_of p)) (filter is_exported (map procedure_view (drop l.procedure-index l.procedures)))) ≡ l.initial.left.items ++ type_names true l.own (flat_map (λ p. signature_types (signature_of p)) (filter is_exported (map procedure_view l.procedures)))
