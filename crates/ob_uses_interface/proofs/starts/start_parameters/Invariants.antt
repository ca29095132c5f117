use Rattle.std.proofs.Common.{◌≡◌, ◌++◌, true, drop, map}
use Rattle.std.specs.List.{filter, flat_map}
use Rattle.ob_uses.specs.Objects.{formal_of}
use Rattle.ob_uses.specs.Ways.{type_names}
use Rattle.ob_uses_interface.proofs.starts.start_parameters.Given as goal

abbrev pub invariant-parameters : goal.invariant-parameters
invariant-parameters l = l.left.items ++ type_names true l.own (map (λ p. p.1) (map formal_of (drop l.parameter-index l.parameters))) ≡ l.initial.left.items ++ type_names true l.own (map (λ p. p.1) (map formal_of l.parameters))
