use Rattle.std.proofs.Common.{◌≡◌, ◌++◌, drop, map}
use Rattle.std.specs.List.{filter, flat_map}
use Rattle.ob_uses.specs.Ways.{type_names}
use Rattle.ob_uses.proofs.leads.add_params.Given as goal

-- what was added, and the rest after it, is the whole
abbrev pub invariant-params : goal.invariant-params
invariant-params l = l.left.items ++ type_names l.alone l.own (map (λ p. p.1) (drop l.param-index l.params)) ≡ l.initial.left.items ++ type_names l.alone l.own (map (λ p. p.1) l.params)
