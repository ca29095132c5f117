use Rattle.std.proofs.Common.{◌≡◌, ◌++◌, true, drop, map}
use Rattle.std.specs.List.{filter, flat_map}
use Rattle.ob_desc.specs.Grammar.{is_shown}
use Rattle.ob_uses.specs.Ways.{type_names}
use Rattle.ob_uses_interface.proofs.starts.start_variables.Given as goal

abbrev pub invariant-variables : goal.invariant-variables
invariant-variables l = l.left.items ++ type_names true l.own (map (λ v. v.of) (filter (λ v. is_shown v.mark) (drop l.variable-index l.variables))) ≡ l.initial.left.items ++ type_names true l.own (map (λ v. v.of) (filter (λ v. is_shown v.mark) l.variables))
